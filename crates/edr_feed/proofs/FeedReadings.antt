-- What a reader of a feed has read, and what that feed is.
use Rattle.std.proofs.Common.{◌≡◌, ◌≢◌, ℕ, ◌+◌, ◌-◌, ◌<◌, ◌≤◌, ◌==◌, min, if◌then◌else◌, Bool, true, false, true≢false, List, [], ◌∷◌, ◌++◌, length, take, All, Ok, Err, inl, inr, sym, ap, subst, ◌∙◌, ap₂, refl, append_assoc, append-nil, arith, length-append, length-take, le-leb, eqb-true}
use Rattle.std.proofs.lemmas.Bool.Decides.{leb_tells}
use Rattle.std.proofs.lemmas.List.{take-append-le, take_all, take_min}
use Rattle.std.proofs.lemmas.List.Elements.{All-nil, All-cons, All-append}
use Rattle.std.proofs.lemmas.List.Concat.{flat_map-append}
use Rattle.std.proofs.Math.Seq.{take-append-add}
use Rattle.edr_base.specs.Limits.{feed_limit}
use Rattle.edr_edition.specs.Values.{EditionValue}
use Rattle.edr_feed.specs.declared.faults.FeedFault.{FeedFault}
use Rattle.edr_feed.specs.declared.faults.FeedFault.TheVariants as feed
use Rattle.edr_feed.specs.declared.reading.Reading.{Reading}
use Rattle.edr_feed.specs.declared.refusals.FeedRefusal.{FeedRefusal}
use Rattle.edr_feed.specs.Refusals.{refusal_of}
use Rattle.edr_feed.specs.Lines.{lines_of, ended_lines, read_lines, joined}
use Rattle.edr_feed.specs.Steps.{Progress, at_start, LineRows, EachLineRows}
use Rattle.edr_feed.specs.Feeds.{FeedStands, LeavesBehind, IsReached, InnerStands}
use Rattle.edr_feed.specs.Readings.{progress_of, IsPlain, HasRead, InnerAt, IsAtFault, HasFault, IsFaultOf}
use Rattle.edr_feed.proofs.FeedLines.{plain_none, plain_append, plain_take, plain_line, first_line, first_lines, ended_none, ended_first, ended_firsts}
use Rattle.edr_feed.proofs.StepLemmas.{if_some, rows_front, fault_front, lines_done, lines_refused}

-- ---- lists

-- the front of a text that grows
pub kept_more : (limit : ℕ) (kept line part : List ℕ) → kept ≡ take limit line
    → kept ++ take (min (length part) (limit - length kept)) part ≡ take limit (line ++ part)
kept_more limit kept line part e =
    let n : length kept ≡ min limit (length line) = ap length e ∙ length-take limit line in
    elim (leb_tells (length line) limit) [
      | inl p ↦
          let whole = take_all limit line p.1 in
          let room : limit ≡ length line + (limit - length kept) = omega arith in
          let swap : min (length part) (limit - length kept) ≡ min (limit - length kept) (length part) = omega arith in
          let left : kept ++ take (min (length part) (limit - length kept)) part ≡ line ++ take (limit - length kept) part =
          ap₂ (λ (xs ys : List ℕ). xs ++ ys) (e ∙ whole) (ap (λ k. take k part) swap ∙ take_min (limit - length kept) part) in
          left ∙ (sym (take-append-add line part (limit - length kept)) ∙ ap (λ k. take k (line ++ part)) (sym room))
      | inr p ↦
          let none : min (length part) (limit - length kept) ≡ 0 = omega arith in
          ap (λ k. kept ++ take k part) none ∙ (append-nil kept ∙ (e ∙ sym (take-append-le limit line part (omega arith))))
    ]

-- lines and one more
joined_more : (lines : List (List ℕ)) (line : List ℕ) → joined (lines ++ line ∷ []) ≡ joined lines ++ (line ++ 10 ∷ [])
joined_more lines line = flat_map-append (λ (l : List ℕ). l ++ 10 ∷ []) lines (line ∷ []) ∙ ap (λ w. joined lines ++ w) (append-nil (line ++ 10 ∷ []))

-- there are no more lines than bytes
lines_count : (lines : List (List ℕ)) → length lines ≤ length (joined lines)
lines_count [] = omega arith
lines_count (line ∷ lines) = omega (arith, lines_count lines, length-append (line ++ 10 ∷ []) (joined lines), length-append line (10 ∷ []))

-- a line that goes on beyond the limit hasn't ended
cut_lines : (limit : ℕ) (lines : List (List ℕ)) (line part rest : List ℕ) → All IsPlain lines → IsPlain line → IsPlain part
    → length (joined lines ++ line) ≤ limit → limit ≤ length (joined lines ++ line) + length part
    → ended_lines (take limit (((joined lines ++ line) ++ part) ++ rest)) ≡ lines
cut_lines limit lines line part rest all plain more low high =
    let bytes = joined lines ++ line in
    let room = limit - length bytes in
    let is : limit ≡ length bytes + room = omega arith in
    let front = take-append-le limit (bytes ++ part) rest (omega (arith, length-append bytes part)) in
    let cut = ap (λ k. take k (bytes ++ part)) is ∙ take-append-add bytes part room in
    let ends = ended_firsts lines (line ++ take room part) all in
    let none = ended_none (line ++ take room part) (plain_append line (take room part) plain (plain_take room part more)) in
    ap ended_lines (front ∙ (cut ∙ append_assoc (joined lines) line (take room part)))
    ∙ (ends ∙ (ap (λ w. lines ++ w) none ∙ append-nil lines))

-- a line that ends, and what follows
line_between : (lines : List (List ℕ)) (line rest : List ℕ) → ((joined lines ++ line) ++ 10 ∷ []) ++ rest ≡ joined lines ++ (line ++ 10 ∷ rest)
line_between lines line rest = simp append_assoc

lines_between : (lines : List (List ℕ)) (line rest : List ℕ) → All IsPlain lines → IsPlain line
    → lines_of (((joined lines ++ line) ++ 10 ∷ []) ++ rest) ≡ lines ++ line ∷ lines_of rest
lines_between lines line rest all plain =
    ap lines_of (line_between lines line rest) ∙ (first_lines lines (line ++ 10 ∷ rest) all ∙ ap (λ w. lines ++ w) (first_line line rest plain))

ended_between : (lines : List (List ℕ)) (line rest : List ℕ) → All IsPlain lines → IsPlain line
    → ended_lines (((joined lines ++ line) ++ 10 ∷ []) ++ rest) ≡ lines ++ line ∷ ended_lines rest
ended_between lines line rest all plain =
    ap ended_lines (line_between lines line rest) ∙ (ended_firsts lines (line ++ 10 ∷ rest) all ∙ ap (λ w. lines ++ w) (ended_first line rest plain))

-- ---- which lines are read

-- all lines of a feed within the limit
pub read_within : (bytes : List ℕ) → length bytes ≤ feed_limit → read_lines bytes ≡ lines_of bytes
read_within bytes h = ap (λ (b : Bool). if b then lines_of bytes else ended_lines (take feed_limit bytes)) (le-leb (length bytes) feed_limit h)

-- and of one beyond it those that end within it
read_beyond : (bytes : List ℕ) → feed_limit < length bytes → read_lines bytes ≡ ended_lines (take feed_limit bytes)
read_beyond bytes h = elim (leb_tells (length bytes) feed_limit) [
  | inl p ↦ absurd (omega arith)
  | inr p ↦ ap (λ (b : Bool). if b then lines_of bytes else ended_lines (take feed_limit bytes)) p.0
]

-- the line that goes on, and those behind it, which are what they are
record IsRead (whole : List ℕ) (lines : List (List ℕ)) (line : List ℕ) : Type 0 where
  pub behind : List (List ℕ)
  pub lines_are : read_lines whole ≡ lines ++ line ∷ behind

-- a line that ends within the limit is read
ends_within : (bytes rest : List ℕ) (now : Reading) (h : HasRead bytes now) → length bytes < feed_limit → IsRead ((bytes ++ 10 ∷ []) ++ rest) h.lines h.line
ends_within bytes rest now h below =
    let whole = (bytes ++ 10 ∷ []) ++ rest in
    let room = feed_limit - length (bytes ++ 10 ∷ []) in
    let ends : length (bytes ++ 10 ∷ []) ≡ length bytes + 1 = length-append bytes (10 ∷ []) in
    let all = ap (λ (w : List ℕ). lines_of ((w ++ 10 ∷ []) ++ rest)) h.bytes_are ∙ lines_between h.lines h.line rest h.plain h.plain_line in
    let sum : feed_limit ≡ length (bytes ++ 10 ∷ []) + room = omega arith in
    let cut = ap (λ k. take k whole) sum ∙ take-append-add (bytes ++ 10 ∷ []) rest room in
    let front = ap ended_lines cut ∙ (ap (λ (w : List ℕ). ended_lines ((w ++ 10 ∷ []) ++ take room rest)) h.bytes_are
    ∙ ended_between h.lines h.line (take room rest) h.plain h.plain_line) in
    elim (leb_tells (length whole) feed_limit) [
      | inl p ↦ record { behind = lines_of rest; lines_are = read_within whole p.1 ∙ all }
      | inr p ↦ record { behind = ended_lines (take room rest); lines_are = read_beyond whole p.1 ∙ front }
    ]

-- so is the last line of a feed within it
last_within : (bytes : List ℕ) (now : Reading) (h : HasRead bytes now) → read_lines bytes ≡ h.lines ++ h.line ∷ []
last_within bytes now h =
    read_within bytes h.within
    ∙ (ap lines_of h.bytes_are ∙ (first_lines h.lines h.line h.plain ∙ ap (λ w. h.lines ++ w) (plain_line h.line h.plain_line)))

-- how much was read
pub read_length : (bytes : List ℕ) (now : Reading) → HasRead bytes now → length bytes ≡ now.ended + now.length
read_length bytes now h = omega (arith, ap length h.bytes_are, length-append (joined h.lines) h.line, h.ended, h.counted)

-- a number of a line
pub number_small : (bytes : List ℕ) (now : Reading) → HasRead bytes now → now.number ≤ now.ended + 1
number_small bytes now h = omega (arith, h.number, h.ended, lines_count h.lines)

-- ---- faults

-- the fault inside a line that is read
inner_stands : (whole : List ℕ) (number : ℕ) (line : List ℕ) (now : Progress) (fault : FeedFault) → IsReached whole number line now → InnerAt number line now fault
    → InnerStands whole fault
inner_stands whole number line now feed.ReadFault reached inner = tt
inner_stands whole number line now feed.TooLong reached inner = tt
inner_stands whole number line now (feed.LineTooLong place) reached inner = tt
inner_stands whole number line now (feed.NotJson place) reached inner = tt
inner_stands whole number line now (feed.NotFeedLine place) reached inner = tt
inner_stands whole number line now (feed.Cov place fault) reached inner =
    (line, now, subst (λ (n : ℕ). IsReached whole n line now) (sym inner.0) reached, inner.1)
inner_stands whole number line now (feed.Change place fault) reached inner =
    (line, now, subst (λ (n : ℕ). IsReached whole n line now) (sym inner.0) reached, inner.1)
inner_stands whole number line now feed.NothingPublished reached inner = tt
inner_stands whole number line now feed.OutOfMemory reached inner = tt

-- a line at fault that is read
line_stands : (whole bytes : List ℕ) (behind : List (List ℕ)) (now : Reading) (fault : FeedFault) (h : HasRead bytes now) → read_lines whole ≡ h.lines ++ h.line ∷ behind
    → IsAtFault now.number now.line.items (progress_of now.made) fault → HasFault whole fault
line_stands whole bytes behind now fault h are at =
    let state = progress_of now.made in
    let told = fault_front now.number h.line now.line.items state fault h.kept at in
    let stands : (refusal : FeedRefusal) → LineRows now.number h.line state (Err refusal) → FeedStands whole (Err refusal) = λ refusal rows.
    inr (
      refusal,
      subst (λ (ls : List (List ℕ)). EachLineRows 1 ls at_start (Err refusal)) (sym are)
          (lines_refused h.lines behind h.line now.number state refusal h.number h.made rows),
      refl,
    ) in
    record {
      own = told.own;
      refused = if_some (λ refusal. LineRows now.number h.line state (Err refusal)) (λ refusal. FeedStands whole (Err refusal)) (refusal_of fault) stands told.refused;
      inner = inner_stands whole now.number h.line state fault
          (record { before = h.lines; behind = behind; lines_are = are; number_is = h.number; made = h.made }) told.inner;
    }

-- what goes on beyond the limit in the line that was read last is too long
pub too_long : (bytes part rest : List ℕ) (now : Reading) → HasRead bytes now → IsPlain part → feed_limit ≤ length bytes + length part
    → feed_limit < length ((bytes ++ part) ++ rest) → HasFault ((bytes ++ part) ++ rest) feed.TooLong
too_long bytes part rest now h plain high beyond =
    let is = h.bytes_are in
    let whole = (bytes ++ part) ++ rest in
    let within : length (joined h.lines ++ h.line) ≤ feed_limit = omega (arith, ap length is, h.within) in
    let lines = cut_lines feed_limit h.lines h.line part rest h.plain h.plain_line plain within (omega (arith, ap length is)) in
    let there = read_beyond whole beyond ∙ (ap (λ (w : List ℕ). ended_lines (take feed_limit ((w ++ part) ++ rest))) is ∙ lines) in
    let made = subst (λ (ls : List (List ℕ)). EachLineRows 1 ls at_start (Ok (progress_of now.made))) (sym there) h.made in
    record {
      own = tt;
      refused = inl (progress_of now.made, made, inr (λ short. absurd (omega arith), refl));
      inner = tt;
    }

-- a line feed beyond the limit
pub line_too_long : (bytes rest : List ℕ) (now : Reading) → HasRead bytes now → now.ended + now.length ≡ feed_limit → HasFault ((bytes ++ 10 ∷ []) ++ rest) feed.TooLong
line_too_long bytes rest now h full =
    let n = read_length bytes now h in
    let same : (bytes ++ []) ++ (10 ∷ rest) ≡ (bytes ++ 10 ∷ []) ++ rest = simp (append_assoc, append-nil) in
    subst (λ (w : List ℕ). HasFault w feed.TooLong) same
    (too_long bytes [] (10 ∷ rest) now h plain_none (omega arith) (omega (arith, length-append (bytes ++ []) (10 ∷ rest), length-append bytes [])))

-- a fault where a line feed ends the line
pub line_fault : (bytes : List ℕ) (now : Reading) (fault : FeedFault) → HasRead bytes now → IsAtFault now.number now.line.items (progress_of now.made) fault
    → length bytes < feed_limit → IsFaultOf (bytes ++ 10 ∷ []) fault
line_fault bytes now fault h at below = λ rest.
    let read = ends_within bytes rest now h below in
    line_stands ((bytes ++ 10 ∷ []) ++ rest) bytes read.behind now fault h read.lines_are at

-- a fault where the feed ends
pub last_fault : (bytes : List ℕ) (now : Reading) (fault : FeedFault) → HasRead bytes now → IsAtFault now.number now.line.items (progress_of now.made) fault
    → HasFault bytes fault
last_fault bytes now fault h at = line_stands bytes bytes [] now fault h (last_within bytes now h) at

-- ---- lines that are done

-- a line feed ends the line
pub line_done : (bytes : List ℕ) (now new : Reading) → HasRead bytes now
    → LineRows now.number now.line.items (progress_of now.made) (Ok (progress_of new.made))
    → length bytes < feed_limit → new.line.items ≡ [] → new.length ≡ 0 → new.number ≡ now.number + 1 → new.ended ≡ now.ended + (now.length + 1)
    → HasRead (bytes ++ 10 ∷ []) new
line_done bytes now new h rows below empty none number ended =
    let more = joined_more h.lines h.line in
    let told = rows_front now.number h.line now.line.items (progress_of now.made) (Ok (progress_of new.made)) h.kept rows in
    record {
      lines = h.lines ++ h.line ∷ [];
      line = [];
      bytes_are = ap (λ (w : List ℕ). w ++ 10 ∷ []) h.bytes_are ∙ (append_assoc (joined h.lines) h.line (10 ∷ []) ∙ (sym more ∙ sym (append-nil (joined (h.lines ++ h.line ∷ [])))));
      plain = All-append IsPlain h.lines (h.line ∷ []) h.plain (All-cons IsPlain h.line [] h.plain_line (All-nil IsPlain));
      plain_line = plain_none;
      kept = empty;
      counted = none;
      ended = omega (arith, ended, h.ended, h.counted, ap length more, length-append (joined h.lines) (h.line ++ 10 ∷ []), length-append h.line (10 ∷ []));
      number = omega (arith, number, h.number, length-append h.lines (h.line ∷ []));
      within = omega (arith, length-append bytes (10 ∷ []));
      made = lines_done h.lines h.line now.number (progress_of now.made) (progress_of new.made) h.number h.made told;
    }

-- all lines were done
all_done : (bytes : List ℕ) (now : Reading) (next : Progress) → HasRead bytes now → LineRows now.number now.line.items (progress_of now.made) (Ok next)
    → EachLineRows 1 (read_lines bytes) at_start (Ok next)
all_done bytes now next h rows =
    let told = rows_front now.number h.line now.line.items (progress_of now.made) (Ok next) h.kept rows in
    subst (λ (ls : List (List ℕ)). EachLineRows 1 ls at_start (Ok next)) (sym (last_within bytes now h))
    (lines_done h.lines h.line now.number (progress_of now.made) next h.number h.made told)

some_edition : (count : ℕ) (editions : List EditionValue) → count ≡ length editions → (count == 0) ≡ false → editions ≢ []
some_edition count editions n e none = true≢false (sym (ap (λ (k : ℕ). k == 0) (n ∙ ap length none)) ∙ e)

no_edition : (count : ℕ) (editions : List EditionValue) → count ≡ length editions → (count == 0) ≡ true → editions ≡ []
no_edition count [] n e = refl
no_edition count (edition ∷ editions) n e = absurd (omega (arith, eqb-true count 0 e))

-- the editions where the feed ends
pub last_done : (bytes : List ℕ) (now : Reading) (next : Progress) → HasRead bytes now → LineRows now.number now.line.items (progress_of now.made) (Ok next)
    → (count : ℕ) → count ≡ length next.editions → (count == 0) ≡ false → FeedStands bytes (Ok next.editions) × LeavesBehind bytes next.behind
last_done bytes now next h rows count n e =
    let done = all_done bytes now next h rows in (inl (next, done, inl (h.within, inl (some_edition count next.editions n e, refl))), (next, done, refl))

-- or none
pub last_none : (bytes : List ℕ) (now : Reading) (next : Progress) → HasRead bytes now → LineRows now.number now.line.items (progress_of now.made) (Ok next)
    → (count : ℕ) → count ≡ length next.editions → (count == 0) ≡ true → HasFault bytes feed.NothingPublished
last_none bytes now next h rows count n e = record {
  own = tt;
  refused = inl (next, all_done bytes now next h rows, inl (h.within, inr (λ some. some (no_edition count next.editions n e), refl)));
  inner = tt;
}

-- ---- pieces

-- a fault stays, however the bytes go on
fault_on : (bytes more : List ℕ) (fault : FeedFault) → IsFaultOf bytes fault → IsFaultOf (bytes ++ more) fault
fault_on bytes more fault f = λ rest. subst (λ (w : List ℕ). HasFault w fault) (sym (append_assoc bytes more rest)) (f (more ++ rest))

-- the fault of a beginning
pub fault_of_front : (bytes front more : List ℕ) (fault : FeedFault) → bytes ≡ front ++ more → IsFaultOf front fault → IsFaultOf bytes fault
fault_of_front bytes front more fault e f = subst (λ (w : List ℕ). IsFaultOf w fault) (sym e) (fault_on front more fault f)

-- a part of a line and what follows it
pub piece_part : (bytes front part behind rest piece : List ℕ) → piece ≡ front ++ rest → rest ≡ part ++ 10 ∷ behind
    → bytes ++ piece ≡ ((bytes ++ front) ++ part) ++ 10 ∷ behind
piece_part bytes front part behind rest piece p r = ap (λ w. bytes ++ w) (p ∙ ap (λ w. front ++ w) r) ∙ simp append_assoc

-- the same with its line feed
pub piece_line : (bytes front part behind rest piece : List ℕ) → piece ≡ front ++ rest → rest ≡ part ++ 10 ∷ behind
    → bytes ++ piece ≡ (((bytes ++ front) ++ part) ++ 10 ∷ []) ++ behind
piece_line bytes front part behind rest piece p r = ap (λ w. bytes ++ w) (p ∙ ap (λ w. front ++ w) r) ∙ simp append_assoc

pub front_more : (front part behind rest piece : List ℕ) → piece ≡ front ++ rest → rest ≡ part ++ 10 ∷ behind
    → piece ≡ (front ++ (part ++ 10 ∷ [])) ++ behind
front_more front part behind rest piece p r = p ∙ (ap (λ w. front ++ w) r ∙ simp append_assoc)
