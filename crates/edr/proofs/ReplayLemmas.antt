-- Editions that requests read, and what is written of them.
use Rattle.std.proofs.Common.{◌≡◌, ℕ, suc, ◌+◌, ◌-◌, inl, inr, ◌⊎◌, min, slice_index_or, Bool, true, false, List, [], ◌∷◌, ◌++◌, length, Result, Ok, Err, Some, None, IfSome, sym, ap, subst, ◌∙◌, refl, flat_map, length-append, append-nil, arith}
use Rattle.std.specs.declared.option.Option.{Option}
use Rattle.std.specs.Prelude.{⊤}
use Rattle.std.specs.Io.KnownBytes.{append_known, IsAtEnd}
use mathlib.Core.List.{append_assoc}
use Rattle.edr_base.specs.Limits.{feed_limit}
use Rattle.edr_base.specs.Calls.{Begins, Front, IsFlushed, ReadsAtMost, WrittenWhole, WrittenInPart, buffer_size}
use Rattle.edr_base.specs.KnownBytes.{append_nothing, prepend_nothing, grew_on, front_on, front_whole}
use Rattle.edr_base.specs.declared.refusals.Refusal.{Refusal}
use Rattle.edr_edition.specs.Values.{EditionValue}
use Rattle.edr_edition.specs.Shelves.{BeginsSeen, EndsWith, no_edition}
use Rattle.edr_feed.specs.Feeds.{FeedStandsIn}
use Rattle.edr_feed.specs.declared.refusals.FeedRefusal.{FeedRefusal}
use Rattle.edr_http.specs.Heads.{Told, IsBehind, most_held}
use Rattle.edr_query.specs.declared.pages.Page.{Page}
use Rattle.edr_serve.specs.declared.ends.End.{End}
use Rattle.edr_serve.specs.declared.ends.End.TheVariants.{EndOfInput}
use Rattle.edr_serve.specs.declared.reports.SessionReport.{SessionReport}
use Rattle.edr_serve.specs.Requests.{Request, Requests, Begun, request_limit}
use Rattle.edr_serve.specs.Replies.{bytes_of, replies, first_reply, reply_without, reply_from, readers, count_if_page, output}
use Rattle.edr_serve.specs.Sessions.{State, Uses, Answered, Session, Broken, ReadsAhead, AtMost, most_behind}
use Rattle.edr_serve.specs.Sessions as sessions
use Rattle.edr_serve.specs.SessionLaws.{OutputGoesOn}
use Rattle.edr_serve.specs.AheadLaws.{ahead_more, most_behind_held}
use Rattle.edr_program.specs.FileReads.{IsFileRead}
use Rattle.edr.specs.Replays.{edition_at, if_page, editions_read, replayed, AreReplies, AreBegun, IsServed, IsReadFor, ReplayReads, Waits, ReplayWaits}

-- ---- a shelf that stays as it is

seen_on : (a b c : List EditionValue) → BeginsSeen a b → BeginsSeen b c → BeginsSeen a c
seen_on a b c x y = (x.0 ++ y.0, y.1 ∙ (ap (λ w. w ++ y.0) x.1 ∙ append_assoc a x.0 y.0))

uses_begin : (b es a : List EditionValue) → Uses b es a → BeginsSeen b a
uses_begin b [] a x = x
uses_begin b (e ∷ es) a x = seen_on b x.0 a x.1 (uses_begin x.0 es a x.3)

empty_by : (xs : List EditionValue) (n m : ℕ) → n ≡ (n + length xs) + m → xs ≡ []
empty_by [] n m h = refl
empty_by (x ∷ xs) n m h = absurd (omega (arith, h))

-- what is seen between is as before
same_between : (a between : List EditionValue) → BeginsSeen a between → BeginsSeen between a → between ≡ a
same_between a between x y =
    let all : length a ≡ length (between ++ y.0) = ap length y.1 in
    let some : length between ≡ length (a ++ x.0) = ap length x.1 in
    let sum : length a ≡ (length a + length x.0) + length y.0 = omega (arith, all, some, length-append between y.0, length-append a x.0) in
    x.1 ∙ (ap (λ w. a ++ w) (empty_by x.0 (length a) (length y.0) sum) ∙ append-nil a)

-- each of the editions is that one
abbrev pub AreFirst : EditionValue → List EditionValue → Type 0
AreFirst first [] = ⊤
AreFirst first (e ∷ es) = (e ≡ first) × AreFirst first es

-- those that are used are the last, where that is one
pub uses_same : (a : List EditionValue) (last : EditionValue) → ((e : EditionValue) → EndsWith a e → e ≡ last)
    → (b es : List EditionValue) → b ≡ a → Uses b es a → AreFirst last es
uses_same a last h b [] p x = tt
uses_same a last h b (e ∷ es) p x =
    let same : x.0 ≡ a = same_between a x.0 (subst (λ (z : List EditionValue). BeginsSeen z x.0) p x.1) (uses_begin x.0 es a x.3) in
    (h e (subst (λ (z : List EditionValue). EndsWith z e) same x.2), uses_same a last h x.0 es same x.3)

last_of_one : (front : List EditionValue) (first e : EditionValue) → first ∷ [] ≡ front ++ e ∷ [] → e ≡ first
last_of_one [] first e p = cc
last_of_one (f ∷ []) first e p = absurd (cc p)
last_of_one (f ∷ g ∷ front) first e p = absurd (cc p)

uses_first : (first : EditionValue) (b es : List EditionValue) → b ≡ first ∷ [] → Uses b es (first ∷ []) → AreFirst first es
uses_first first b es p x = uses_same (first ∷ []) first (λ e ends. last_of_one ends.0 first e ends.1) b es p x

-- ---- the editions that requests read

pub read_step : (standing : EditionValue) (first : EditionValue) (asked : Result Page Refusal) (n : ℕ) (es others : List EditionValue) → standing ≡ first
    → ((fs : List EditionValue) → length fs ≡ n → AreFirst first fs → fs ≡ others) → length es ≡ count_if_page asked n → AreFirst first es → es ≡ if_page asked standing others
read_step standing first (Ok page) n [] others h ih p a = absurd (cc p)
read_step standing first (Ok page) n (e ∷ es) others h ih p a =
    ap (λ w. w ∷ es) (a.0 ∙ sym h) ∙ ap (λ w. standing ∷ w) (ih es (omega (arith, p)) a.1)
read_step standing first (Err refusal) n es others h ih p a = ih es p a

-- one for each request that reads one
read_first : (standing : ℕ → EditionValue) (first : EditionValue) → ((n : ℕ) → standing n ≡ first) → (k : ℕ) (rs : List Request) (es : List EditionValue)
    → length es ≡ readers rs → AreFirst first es → es ≡ editions_read standing k rs
read_first standing first h k [] [] p a = refl
read_first standing first h k [] (e ∷ es) p a = absurd (cc p)
read_first standing first h k (r ∷ rs) es p a =
    read_step (standing k) first r.asked (readers rs) es (editions_read standing (k + 1) rs) (h k) (λ fs q b. read_first standing first h (k + 1) rs fs q b) p a

begins_behind : (front a b : List ℕ) → Begins a b → Begins (front ++ a) (front ++ b)
begins_behind front a b x = (x.0, ap (λ w. front ++ w) x.1 ∙ sym (append_assoc front a x.0))

pub begins_step : (standing first : EditionValue) (r : Request) (asked : Result Page Refusal) (rs : List Request) (es others : List EditionValue) → standing ≡ first
    → ((fs : List EditionValue) → AreFirst first fs → Begins (output rs fs) (output rs others)) → AreFirst first es
    → Begins (flat_map bytes_of (first_reply r asked es (replies rs))) (flat_map bytes_of (first_reply r asked (if_page asked standing others) (replies rs)))
begins_step standing first r (Err refusal) rs es others h ih a = begins_behind (bytes_of (reply_without r refusal)) (output rs es) (output rs others) (ih es a)
begins_step standing first r (Ok page) rs [] others h ih a = (flat_map bytes_of (reply_from r page standing ∷ replies rs others), refl)
begins_step standing first r (Ok page) rs (e ∷ es) others h ih a =
    subst (λ (z : EditionValue). Begins (bytes_of (reply_from r page z) ++ output rs es) (bytes_of (reply_from r page standing) ++ output rs others)) (h ∙ sym a.0)
    (begins_behind (bytes_of (reply_from r page standing)) (output rs es) (output rs others) (ih es a.1))

-- or for the first of them
begins_first : (standing : ℕ → EditionValue) (first : EditionValue) → ((n : ℕ) → standing n ≡ first) → (k : ℕ) (rs : List Request) (es : List EditionValue)
    → AreFirst first es → Begins (output rs es) (output rs (editions_read standing k rs))
begins_first standing first h k [] es a = ([], refl)
begins_first standing first h k (r ∷ rs) es a =
    begins_step (standing k) first r r.asked rs es (editions_read standing (k + 1) rs) (h k) (λ fs b. begins_first standing first h (k + 1) rs fs b) a

-- ---- the replies to more requests

full_step : (asked : Result Page Refusal) (e : EditionValue) (es : List EditionValue) (n : ℕ) → length es ≡ n → length (if_page asked e es) ≡ count_if_page asked n
full_step (Ok page) e es n h = omega (arith, h)
full_step (Err refusal) e es n h = h

full_read : (standing : ℕ → EditionValue) (k : ℕ) (rs : List Request) → length (editions_read standing k rs) ≡ readers rs
full_read standing k [] = refl
full_read standing k (r ∷ rs) = full_step r.asked (standing k) (editions_read standing (k + 1) rs) (readers rs) (full_read standing (k + 1) rs)

read_on_step : (asked : Result Page Refusal) (e : EditionValue) (es fs gs : List EditionValue) → es ≡ fs ++ gs → if_page asked e es ≡ if_page asked e fs ++ gs
read_on_step (Ok page) e es fs gs h = ap (λ w. e ∷ w) h
read_on_step (Err refusal) e es fs gs h = h

zero_more : (k : ℕ) → k ≡ 0 + k
zero_more k = omega arith

read_on : (standing : ℕ → EditionValue) (k : ℕ) (rs ss : List Request) → editions_read standing k (rs ++ ss) ≡ editions_read standing k rs ++ editions_read standing (length rs + k) ss
read_on standing k [] ss = ap (λ m. editions_read standing m ss) (zero_more k)
read_on standing k (r ∷ rs) ss =
    let further : length rs + (k + 1) ≡ suc (length rs) + k = omega arith in
    read_on_step r.asked (standing k) (editions_read standing (k + 1) (rs ++ ss)) (editions_read standing (k + 1) rs) (editions_read standing (suc (length rs) + k) ss)
    (read_on standing (k + 1) rs ss ∙ ap (λ m. editions_read standing (k + 1) rs ++ editions_read standing m ss) further)

-- the replies to more requests
pub replayed_on : OutputGoesOn → (advances : Bool) (editions : List EditionValue) (rs ss : List Request)
    → replayed advances editions (rs ++ ss) ≡ replayed advances editions rs ++ output ss (editions_read (edition_at advances editions) (length rs) ss)
replayed_on law advances editions rs ss =
    let at = edition_at advances editions in
    let none : length rs + 0 ≡ length rs = omega arith in
    ap (λ w. output (rs ++ ss) w) (read_on at 0 rs ss ∙ ap (λ m. editions_read at 0 rs ++ editions_read at m ss) none)
    ∙ law rs ss (editions_read at 0 rs) (editions_read at (length rs) ss) (full_read at 0 rs)

pub front_of_more : (a b : List ℕ) (old new : Option (List ℕ)) → Begins a b → Front a old new → Front b old new
front_of_more a b old new x f = record {
  bytes = f.bytes;
  begins = (f.begins.0 ++ x.0, x.1 ∙ (ap (λ w. w ++ x.0) f.begins.1 ∙ append_assoc f.bytes f.begins.0 x.0));
  grew = f.grew;
}

-- ---- requests that were answered were begun

begun_all : (n : ℕ) (bytes : List ℕ) (rs : List Request) → Requests n bytes rs → Begun n bytes rs
begun_all n bytes [] x = tt
begun_all n bytes (r ∷ rs) x = (x.0, x.1, x.2, λ f. begun_all (n - 1) x.0 rs (x.3 f))

told_begun : (input : Option (List ℕ)) (rs : List Request) → IfSome input (λ bytes. Requests request_limit bytes rs) → IfSome input (λ bytes. Begun request_limit bytes rs)
told_begun None rs x = tt
told_begun (Some bytes) rs x = begun_all request_limit bytes rs x

pub are_begun : (advances : Bool) (editions : List EditionValue) (input : Option (List ℕ)) (text : List ℕ) → AreReplies advances editions input text → AreBegun advances editions input text
are_begun advances editions input text x = record { requests = x.requests; begun = told_begun input x.requests x.all; text_is = x.text_is }

-- ---- a session over a shelf of the first edition

none_before : (m : ℕ) → min 0 (suc m - 1) ≡ 0
none_before m = omega arith

standing_first : (first : EditionValue) (others : List EditionValue) (n : ℕ) → edition_at false (first ∷ others) n ≡ first
standing_first first others n = ap (λ k. slice_index_or (first ∷ others) k no_edition) (none_before (length others))

pub same_shelf : (a b : List EditionValue) → Some a ≡ Some b → a ≡ b
same_shelf a b e = cc

-- what is written for requests that were answered while the shelf stood so
answered_first : (first : EditionValue) (others editions : List EditionValue) (x y : State) (rs : List Request) (es : List EditionValue) (ns : List ℕ) (cs : List (List ℕ))
    → editions ≡ first ∷ others → x.seen ≡ first ∷ [] → y.seen ≡ x.seen → Answered rs x y es ns cs → output rs es ≡ replayed false editions rs
answered_first first others editions x y rs es ns cs p q s e =
    let uses : Uses x.seen es (first ∷ []) = subst (λ (z : List EditionValue). Uses x.seen es z) (s ∙ q) e.uses in
    let read : es ≡ editions_read (edition_at false (first ∷ others)) 0 rs =
    read_first (edition_at false (first ∷ others)) first (standing_first first others) 0 rs es e.full (uses_first first x.seen es q uses) in
    ap (λ w. output rs w) read ∙ ap (λ (w : List EditionValue). replayed false w rs) (sym p)

replies_first : (first : EditionValue) (others editions : List EditionValue) (input left : Option (List ℕ)) (x y : State) (report : SessionReport)
    → editions ≡ first ∷ others → x.seen ≡ first ∷ [] → Some y.seen ≡ Some x.seen → Session request_limit input left x y report
    → (text : List ℕ) × AreReplies false editions input text × (y.written ≡ append_known x.written text)
replies_first first others editions input left x y report p q s e =
    (output e.requests e.editions, record { requests = e.requests; all = e.all; text_is = answered_first first others editions x y e.requests e.editions report.editions report.reads p q (same_shelf y.seen x.seen s) e.answered }, e.answered.bytes)

-- in the midst of a session that broke off the shelf stood so too
between_first : (first : EditionValue) (input left : Option (List ℕ)) (x y : State) → Some y.seen ≡ Some x.seen → (e : Broken request_limit input left x y) → e.between.seen ≡ x.seen
between_first first input left x y s e =
    same_between x.seen e.between.seen (uses_begin x.seen e.editions e.between.seen e.answered.uses)
    (subst (λ (z : List EditionValue). BeginsSeen e.between.seen z) (same_shelf y.seen x.seen s) (uses_begin e.between.seen e.broke_off.editions y.seen e.broke_off.uses))

whole_before : (first : EditionValue) (others editions : List EditionValue) (input left : Option (List ℕ)) (x y : State)
    → editions ≡ first ∷ others → x.seen ≡ first ∷ [] → Some y.seen ≡ Some x.seen → (e : Broken request_limit input left x y) → e.between.written ≡ append_known x.written (replayed false editions e.requests)
whole_before first others editions input left x y p q s e =
    e.answered.bytes
    ∙ ap (append_known x.written) (answered_first first others editions x e.between e.requests e.editions _ _ p q (between_first first input left x y s e) e.answered)

pub begun_first : OutputGoesOn → (first : EditionValue) (others editions : List EditionValue) (input left : Option (List ℕ)) (x y : State)
    → editions ≡ first ∷ others → x.seen ≡ first ∷ [] → Some y.seen ≡ Some x.seen → Broken request_limit input left x y
    → WrittenInPart (AreBegun false editions input) x.written y.written
begun_first law first others editions input left x y p q s e =
    let requests = e.requests ++ e.last in
    let at = edition_at false editions in
    let stands : (n : ℕ) → at n ≡ first = λ n. ap (λ (w : List EditionValue). edition_at false w n) p ∙ standing_first first others n in
    let between : e.between.seen ≡ first ∷ [] = between_first first input left x y s e ∙ q in
    let after : y.seen ≡ first ∷ [] = same_shelf y.seen x.seen s ∙ q in
    let used : AreFirst first e.broke_off.editions =
    uses_first first e.between.seen e.broke_off.editions between (subst (λ (z : List EditionValue). Uses e.between.seen e.broke_off.editions z) after e.broke_off.uses) in
    let text = output e.last (editions_read at (length e.requests) e.last) in
    let more : Begins (output e.last e.broke_off.editions) text = begins_first at first stands (length e.requests) e.last e.broke_off.editions used in
    let part : Front text e.between.written y.written = front_of_more (output e.last e.broke_off.editions) text e.between.written y.written more e.broke_off.bytes in
    record {
      text = replayed false editions requests;
      is = record { requests = requests; begun = e.begun; text_is = refl };
      front = subst (λ (t : List ℕ). Front t x.written y.written) (sym (replayed_on law false editions e.requests e.last))
          (front_on x.written e.between.written y.written (replayed false editions e.requests) text (whole_before first others editions input left x y p q s e) part);
    }

-- ---- the same of the ends of a run

pub whole_first : (first : EditionValue) (others editions : List EditionValue) (input left : Option (List ℕ)) (x y : State) (report : SessionReport) (new : Option (List ℕ)) (flushed : Option ℕ)
    → editions ≡ first ∷ others → x.seen ≡ first ∷ [] → Some y.seen ≡ Some x.seen → Session request_limit input left x y report → new ≡ y.written → IsFlushed new flushed
    → WrittenWhole (AreReplies false editions input) x.written new flushed
whole_first first others editions input left x y report new flushed p q s e same settled =
    let text = replies_first first others editions input left x y report p q s e in
    record { text = text.0; is = text.1; grew = same ∙ text.2; settled = settled }

pub part_first : (first : EditionValue) (others editions : List EditionValue) (input left : Option (List ℕ)) (x y : State) (report : SessionReport) (new : Option (List ℕ))
    → editions ≡ first ∷ others → x.seen ≡ first ∷ [] → Some y.seen ≡ Some x.seen → Session request_limit input left x y report → new ≡ y.written
    → WrittenInPart (AreBegun false editions input) x.written new
part_first first others editions input left x y report new p q s e same =
    let text = replies_first first others editions input left x y report p q s e in
    record { text = text.0; is = are_begun false editions input text.0 text.1; front = front_whole x.written new text.0 (same ∙ text.2) }

pub at_end : (input left : Option (List ℕ)) → IsBehind input left → Told (λ bytes rest. rest ≡ []) input left → IsAtEnd left
at_end None None b t = tt
at_end None (Some left) b t = absurd (cc b.1)
at_end (Some input) None b t = absurd t
at_end (Some input) (Some left) b t = t

-- ---- how far the input was read

pub served_first : (input left : Option (List ℕ)) (x y : State) (report : SessionReport) → Session request_limit input left x y report → IsBehind input left
    → (report.end ≡ EndOfInput → Told (λ bytes rest. rest ≡ []) input left) → IsServed input left
served_first input left x y report e behind far =
    record { requests = e.requests; all = e.all; ahead = subst (λ (end : End). Told (λ bytes others. ReadsAhead (AtMost (most_behind (Some end))) request_limit e.requests bytes others) input left) e.end e.ahead; ended = λ ends. at_end input left behind (far (e.end ∙ ends)) }

pub read_all : (first : EditionValue) (others editions : List EditionValue) (input left : Option (List ℕ)) (x y : State) (report : SessionReport) (new : Option (List ℕ))
    → editions ≡ first ∷ others → x.seen ≡ first ∷ [] → Some y.seen ≡ Some x.seen → Session request_limit input left x y report → new ≡ y.written
    → IsReadFor false editions input left x.written new
read_all first others editions input left x y report new p q s e same = record {
  requests = e.requests;
  ahead = ahead_more (most_behind (Some report.end)) request_limit e.requests input left (most_behind_held (Some report.end)) e.ahead;
  more = [];
  whole = same ∙ e.answered.bytes
      ∙ ap (append_known x.written) (answered_first first others editions x y e.requests e.editions report.editions report.reads p q (same_shelf y.seen x.seen s) e.answered ∙ sym (append-nil (replayed false editions e.requests)));
}

pub read_some : (first : EditionValue) (others editions : List EditionValue) (input left : Option (List ℕ)) (x y : State)
    → editions ≡ first ∷ others → x.seen ≡ first ∷ [] → Some y.seen ≡ Some x.seen → Broken request_limit input left x y
    → IsReadFor false editions input left x.written y.written
read_some first others editions input left x y p q s e = record {
  requests = e.requests;
  ahead = e.ahead;
  more = e.broke_off.bytes.bytes;
  whole = grew_on x.written e.between.written y.written (replayed false editions e.requests) e.broke_off.bytes.bytes
      (whole_before first others editions input left x y p q s e) e.broke_off.bytes.grew;
}

-- a read failed
pub waits_first : (first : EditionValue) (others editions : List EditionValue) (input left : Option (List ℕ)) (x y : State) (flushed : Option ℕ)
    → editions ≡ first ∷ others → x.seen ≡ first ∷ [] → Some y.seen ≡ Some x.seen → sessions.Waits request_limit input left x y → (y.written ≡ x.written) ⊎ IsFlushed y.written flushed
    → Waits false editions input left x.written y.written flushed
waits_first first others editions input left x y flushed p q s e settled = record {
  requests = e.requests;
  begun = e.begun;
  open_ = e.open_;
  ahead = e.ahead;
  whole = e.answered.bytes ∙ ap (append_known x.written) (answered_first first others editions x y e.requests e.editions _ _ p q (same_shelf y.seen x.seen s) e.answered);
  settled = settled;
}

told_none : (input : Option (List ℕ)) → Told (λ bytes others. ReadsAhead (AtMost (most_held 0)) request_limit [] bytes others) input input
told_none None = tt
told_none (Some bytes) = record { held = []; read = refl; is = omega arith }

-- nothing was read
pub read_none : (advances : Bool) (editions : List EditionValue) (input old : Option (List ℕ)) → IsReadFor advances editions input input old old
read_none advances editions input old = record { requests = []; ahead = told_none input; more = []; whole = append_nothing old }

pub replay_none : (advances : Bool) (feed input old : Option (List ℕ)) → ReplayReads advances feed input input old old
replay_none advances feed input old = record { behind = ([], prepend_nothing input); ahead = inl refl }

-- ---- the feed in a file

-- what stands of what was opened stands of what the file holds
pub stands_opened : (content left : Option (List ℕ)) (answer : Result (List EditionValue) FeedRefusal) → IfSome content (λ told. left ≡ Some told)
    → FeedStandsIn left answer → FeedStandsIn content answer
stands_opened (Some told) left answer h x = subst (λ (z : Option (List ℕ)). FeedStandsIn z answer) h x
stands_opened None None answer h x = x
stands_opened None (Some told) answer h x = (told, x)

pub replay_read : (advances : Bool) (editions : List EditionValue) (content left input after old new : Option (List ℕ)) → IfSome content (λ told. left ≡ Some told) → FeedStandsIn left (Ok editions)
    → IsBehind input after → IsReadFor advances editions input after old new → ReplayReads advances content input after old new
replay_read advances editions content left input after old new h x behind read =
    record { behind = behind; ahead = inr (record { editions = editions; published = stands_opened content left (Ok editions) h x; read = read }) }

-- where a read failed of the feed or of the input
pub waits_feed : (advances : Bool) (editions : List EditionValue) (content left input after old new : Option (List ℕ)) (flushed : Option ℕ) → IfSome content (λ told. left ≡ Some told) → FeedStandsIn left (Ok editions)
    → Waits advances editions input after old new flushed → ReplayWaits advances content input after old new flushed
waits_feed advances editions content left input after old new flushed h x waits =
    inr (record { editions = editions; published = stands_opened content left (Ok editions) h x; waits = waits })

-- ---- the file

-- no more was read of a file that is open
pub file_read : (closed : Bool) (content left now : Option (List ℕ)) → closed ≡ false → IfSome content (λ told. left ≡ Some told)
    → ReadsAtMost (feed_limit + buffer_size) left now → IsFileRead closed content now
file_read true content left now e h r = absurd cc
file_read false None left now e h r = tt
file_read false (Some told) left now e h r = subst (λ (list : Option (List ℕ)). ReadsAtMost (feed_limit + buffer_size) list now) h r

-- nothing is left where none is open
pub file_closed : (closed : Bool) (content left : Option (List ℕ)) → closed ≡ true → IsAtEnd left → IsFileRead closed content left
file_closed true content left e h = h
file_closed false content left e h = absurd cc
