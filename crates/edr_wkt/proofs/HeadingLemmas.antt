-- Tags and dims: there is one heading with a bracket behind it at the front of a text.
use Rattle.std.proofs.Common.{◌≡◌, ℕ, subst, ◌<◌, ◌≤◌, ◌==◌, ◌&&◌, Bool, true, false, cond, nat_le, List, [], ◌∷◌, ◌++◌, length, map, get_or, take, drop, refl, sym, ap, ◌∙◌, arith, append_assoc}
use Rattle.std.specs.List.{AllByRecursion}
use Rattle.std.specs.Char.{to_ascii_lowercase}
use Rattle.std.proofs.lemmas.List.{length-append, length-map, map-append, take_at, drop_at}
use Rattle.std.proofs.lemmas.Bool.Decides.{nat_tests}
use Rattle.edr_base.specs.NumberParts.{NonePass, Stops, IsSplit}
use Rattle.edr_base.specs.SplitLaws.{IsSplit-unique}
use Rattle.edr_wkt.specs.declared.headings.Kind.{Kind}
use Rattle.edr_wkt.specs.declared.headings.Kind.TheVariants as k
use Rattle.edr_wkt.specs.declared.headings.Kind.TheVariants.{Point, MultiPoint, LineString, MultiPolygon}
use Rattle.edr_base.specs.Names.{is_blank, IsAnyCase}
use Rattle.edr_wkt.specs.Grammar.{is_end, AreBlanks, IsMark}
use Rattle.edr_wkt.specs.Headings.{tag_text, dims_text, IsHeading}
use Rattle.edr_wkt.specs.HeadingReads.{HasNoLetters, BeginsWithKind, HasNoKind, BeginsWithHeading, HasNoHeading}
use Rattle.edr_wkt.specs.Reads.{not_blank, BeginsWithWord}
use Rattle.edr_wkt.proofs.WordLemmas.{blanks-none, blanks-all, mark-unique, word-stops}

abbrev lower : List ℕ → List ℕ
lower cs = map to_ascii_lowercase cs

any-case-length : (letters word : List ℕ) → IsAnyCase letters word → length letters ≡ length word
any-case-length letters word e = sym (length-map letters to_ascii_lowercase) ∙ ap length e ∙ length-map word to_ascii_lowercase

-- letters of a given length at the front are the first bytes
pub letters-at : (text word letters rest : List ℕ) → IsAnyCase letters word → text ≡ letters ++ rest → (letters ≡ take (length word) text) × (rest ≡ drop (length word) text)
letters-at text word letters rest e t =
    let n = any-case-length letters word e in
    (sym (take_at letters rest (length word) n) ∙ ap (take (length word)) (sym t), sym (drop_at letters rest (length word) n) ∙ ap (drop (length word)) (sym t))

pub letters-short : (text word : List ℕ) → length text < length word → HasNoLetters text word
letters-short text word h rest (letters, e, t) = omega (arith, h, any-case-length letters word e, ap length t, length-append letters rest)

pub letters-other : (text word : List ℕ) → ¬ (IsAnyCase (take (length word) text) word) → HasNoLetters text word
letters-other text word other rest (letters, e, t) =
    let P : List ℕ → Type 0 = λ l. IsAnyCase l word in
    other (subst P (letters-at text word letters rest e t).0 e)

-- the kind whose tag stands at the front of a text in small letters
kind_at : List ℕ → Kind
kind_at small = cond (get_or small 0 0 == 108) LineString (cond (get_or small 0 0 == 112) (cond (get_or small 2 0 == 105) Point k.Polygon) (cond (get_or small 7 0 == 105) MultiPoint MultiPolygon))

kind_at-tag : (kind : Kind) (rest : List ℕ) → kind_at (lower (tag_text kind) ++ rest) ≡ kind
unfolding kind_at
kind_at-tag Point rest = refl
kind_at-tag MultiPoint rest = refl
kind_at-tag LineString rest = refl
kind_at-tag k.Polygon rest = refl
kind_at-tag MultiPolygon rest = refl

kind_at-text : (kind : Kind) (text rest : List ℕ) → BeginsWithKind text kind rest → kind_at (lower text) ≡ kind
kind_at-text kind text rest (letters, e, t) =
    ap kind_at (ap lower t ∙ map-append to_ascii_lowercase letters rest ∙ ap (λ l. l ++ lower rest) e) ∙ kind_at-tag kind (lower rest)

-- one tag stands at the front of a text
pub kind-unique : (a b : Kind) (text x y : List ℕ) → BeginsWithKind text a x → BeginsWithKind text b y → (a ≡ b) × (x ≡ y)
kind-unique a b text x y m n =
    let same : a ≡ b = sym (kind_at-text a text x m) ∙ kind_at-text b text y n in
    let P : Kind → Type 0 = λ w. x ≡ drop (length (tag_text w)) text in
    (same, subst P same (letters-at text (tag_text a) m.0 x m.1 m.2).1 ∙ sym (letters-at text (tag_text b) n.0 y n.1 n.2).1)

abbrev pub kinds : List Kind
kinds = Point ∷ MultiPoint ∷ LineString ∷ k.Polygon ∷ MultiPolygon ∷ []

-- where none of all tags stands at the front, there is no kind
pub kinds-none : (text : List ℕ) → AllByRecursion (λ kind. HasNoLetters text (tag_text kind)) kinds → HasNoKind text
kinds-none text none Point = none.0
kinds-none text none MultiPoint = none.1.0
kinds-none text none LineString = none.1.1.0
kinds-none text none k.Polygon = none.1.1.1.0
kinds-none text none MultiPolygon = none.1.1.1.1.0

-- a word of letters
are_letters : List ℕ → Bool
are_letters [] = true
are_letters (c ∷ cs) = nat_le 97 (to_ascii_lowercase c) && are_letters cs

letters-parts : (c : ℕ) (cs : List ℕ) → are_letters (c ∷ cs) ≡ true → (97 ≤ to_ascii_lowercase c) × (are_letters cs ≡ true)
unfolding are_letters
letters-parts c cs e = (grind (arith, nat_tests), grind (arith, nat_tests))

letter-end : (c : ℕ) → 97 ≤ to_ascii_lowercase c → is_end c ≡ false
letter-end c h = grind (arith, nat_tests)

any-case-none : (letters word : List ℕ) → IsAnyCase letters word → are_letters word ≡ true → NonePass is_end letters
any-case-none [] word e all = tt
any-case-none (c ∷ letters) [] e all = absurd (omega (arith, ap length e))
any-case-none (c ∷ letters) (d ∷ word) e all =
    let head : to_ascii_lowercase c ≡ to_ascii_lowercase d = cc in
    let tail : lower letters ≡ lower word = cc in
    let parts = letters-parts d word all in
    (letter-end c (let P : ℕ → Type 0 = λ x. 97 ≤ x in subst P (sym head) parts.0), any-case-none letters word tail parts.1)

tag-letters : (kind : Kind) → are_letters (tag_text kind) ≡ true
unfolding are_letters
tag-letters Point = refl
tag-letters MultiPoint = refl
tag-letters LineString = refl
tag-letters k.Polygon = refl
tag-letters MultiPolygon = refl

tag-some : (kind : Kind) → 0 < length (tag_text kind)
tag-some Point = omega arith
tag-some MultiPoint = omega arith
tag-some LineString = omega arith
tag-some k.Polygon = omega arith
tag-some MultiPolygon = omega arith

dims-letters : (z m : Bool) → are_letters (dims_text z m) ≡ true
unfolding are_letters
dims-letters false false = refl
dims-letters true false = refl
dims-letters false true = refl
dims-letters true true = refl

-- whether dims in small letters have z and m
z_at : List ℕ → Bool
z_at [] = false
z_at (c ∷ cs) = c == 122

m_at : List ℕ → Bool
m_at [] = false
m_at (c ∷ []) = c == 109
m_at (c ∷ d ∷ cs) = true

dims-at : (z m : Bool) → (z_at (lower (dims_text z m)) ≡ z) × (m_at (lower (dims_text z m)) ≡ m)
unfolding z_at m_at
dims-at false false = (refl, refl)
dims-at true false = (refl, refl)
dims-at false true = (refl, refl)
dims-at true true = (refl, refl)

pub dims-unique : (word : List ℕ) (z m y l : Bool) → IsAnyCase word (dims_text z m) → IsAnyCase word (dims_text y l) → (z ≡ y) × (m ≡ l)
dims-unique word z m y l a b =
    let same : lower (dims_text z m) ≡ lower (dims_text y l) = sym a ∙ b in
    (sym (dims-at z m).0 ∙ ap z_at same ∙ (dims-at y l).0, sym (dims-at z m).1 ∙ ap m_at same ∙ (dims-at y l).1)

blanks-append : (a b : List ℕ) → AreBlanks a → AreBlanks b → AreBlanks (a ++ b)
blanks-append [] b x y = y
blanks-append (c ∷ a) b x y = (x.0, blanks-append a b x.1 y)

blank-end : (c : ℕ) → is_blank c ≡ true → is_end c ≡ true
blank-end c e = grind (arith, nat_tests)

mark-stops : (blanks rest : List ℕ) → AreBlanks blanks → Stops is_end (blanks ++ 40 ∷ rest)
mark-stops [] rest all = refl
mark-stops (c ∷ blanks) rest all = blank-end c all.0

-- the dims that stand before a bracket are the word behind the tag
dims-word : (after word rest front blanks : List ℕ) → IsSplit not_blank after blanks front → IsSplit is_end front word rest
    → (z m : Bool) (between dims body inside : List ℕ) → AreBlanks between → IsAnyCase dims (dims_text z m) → after ≡ between ++ (dims ++ body) → IsMark 40 body inside
    → IsAnyCase word (dims_text z m) × IsMark 40 rest inside
dims-word after word rest front blanks s t z m between [] body inside all any e mark =
    let cut : IsSplit not_blank after (between ++ mark.blanks) (40 ∷ inside) = record {
      text_is = e ∙ ap (λ l. between ++ l) mark.text_is ∙ sym (append_assoc between mark.blanks (40 ∷ inside));
      before = blanks-none (between ++ mark.blanks) (blanks-append between mark.blanks all mark.are_blanks);
      stops = refl;
    } in
    let front_is : front ≡ 40 ∷ inside = (IsSplit-unique not_blank after _ _ _ _ s cut).1 in
    let bare : IsSplit is_end front [] (40 ∷ inside) = record { text_is = front_is; before = tt; stops = refl } in
    let same = IsSplit-unique is_end front _ _ _ _ bare t in
    let P : List ℕ → Type 0 = λ l. IsAnyCase l (dims_text z m) in
    let Q : List ℕ → Type 0 = λ l. IsMark 40 l inside in
    (subst P same.0 any, subst Q same.1 (record { blanks = []; are_blanks = tt; text_is = refl }))
dims-word after word rest front blanks s t z m between (d ∷ dims) body inside all any e mark =
    let none = any-case-none (d ∷ dims) (dims_text z m) any (dims-letters z m) in
    let cut : IsSplit not_blank after between ((d ∷ dims) ++ body) = record
    { text_is = e; before = blanks-none between all; stops = word-stops (d ∷ dims) body (omega arith) none } in
    let front_is : (d ∷ dims) ++ body ≡ front = (IsSplit-unique not_blank after _ _ _ _ cut s).1 in
    let S : List ℕ → Type 0 = λ l. Stops is_end l in
    let whole : IsSplit is_end front (d ∷ dims) body = record { text_is = sym front_is; before = none; stops = subst S (sym mark.text_is) (mark-stops mark.blanks inside mark.are_blanks) } in
    let same = IsSplit-unique is_end front _ _ _ _ whole t in
    let P : List ℕ → Type 0 = λ l. IsAnyCase l (dims_text z m) in
    let Q : List ℕ → Type 0 = λ l. IsMark 40 l inside in
    (subst P same.0 any, subst Q same.1 mark)

-- a heading is behind the blanks at the front: its tag, and what stands behind it
heading-front : (kind : Kind) (z m : Bool) (text body blanks front : List ℕ) → IsSplit not_blank text blanks front → (h : IsHeading kind z m text body) → front ≡ h.tag ++ (h.between ++ (h.dims ++ body))
heading-front kind z m text body blanks front s h =
    let none = any-case-none h.tag (tag_text kind) h.is_tag (tag-letters kind) in
    let some : 0 < length h.tag = omega (arith, any-case-length h.tag (tag_text kind) h.is_tag, tag-some kind) in
    let cut : IsSplit not_blank text h.before (h.tag ++ (h.between ++ (h.dims ++ body))) = record
    { text_is = h.text_is; before = blanks-none h.before h.are_before; stops = word-stops h.tag (h.between ++ (h.dims ++ body)) some none } in
    (IsSplit-unique not_blank text _ _ _ _ s cut).1

pub heading-no_kind : (text blanks front : List ℕ) → IsSplit not_blank text blanks front → HasNoKind front → HasNoHeading text
heading-no_kind text blanks front s none kind z m inside (body, h, mark) =
    none kind (h.between ++ (h.dims ++ body)) (h.tag, h.is_tag, heading-front kind z m text body blanks front s h)

-- any other heading has the same tag, and its dims are the word behind that
pub heading-parts : (text blanks front after word rest : List ℕ) (kind : Kind) → IsSplit not_blank text blanks front → BeginsWithKind front kind after → BeginsWithWord after word rest
    → (a : Kind) (z m : Bool) (inside : List ℕ) → BeginsWithHeading text a z m inside → (kind ≡ a) × IsAnyCase word (dims_text z m) × IsMark 40 rest inside
heading-parts text blanks front after word rest kind s k (b, f, s1, s2) a z m inside (body, h, mark) =
    let same = kind-unique kind a front after (h.between ++ (h.dims ++ body)) k (h.tag, h.is_tag, heading-front a z m text body blanks front s h) in
    let dims = dims-word after word rest f b s1 s2 z m h.between h.dims body inside h.are_between h.are_dims same.1 mark in
    (same.0, dims.0, dims.1)

pub heading-from : (text blanks front after word rest inside : List ℕ) (kind : Kind) (z m : Bool) → IsSplit not_blank text blanks front → BeginsWithKind front kind after → BeginsWithWord after word rest
    → IsAnyCase word (dims_text z m) → IsMark 40 rest inside → BeginsWithHeading text kind z m inside
heading-from text blanks front after word rest inside kind z m s (tag, any, t) (b, f, s1, s2) dims mark = (
  rest,
  record {
    before = blanks;
    tag = tag;
    between = b;
    dims = word;
    are_before = blanks-all blanks s.before;
    is_tag = any;
    are_between = blanks-all b s1.before;
    are_dims = dims;
    text_is = s.text_is ∙ ap (λ l. blanks ++ l) (t ∙ ap (λ l. tag ++ l) (s1.text_is ∙ ap (λ l. b ++ l) s2.text_is));
  },
  mark,
)

-- each text is cut at the first byte that passes a test
record Cut (p : ℕ → Bool) (text : List ℕ) : Type 0 where
  front : List ℕ
  rest : List ℕ
  split : IsSplit p text front rest

cut-on : (p : ℕ → Bool) (c : ℕ) (text : List ℕ) (b : Bool) → p c ≡ b → Cut p text → Cut p (c ∷ text)
cut-on p c text true e t = record { front = []; rest = c ∷ text; split = record { text_is = refl; before = tt; stops = e } }
cut-on p c text false e t = record { front = c ∷ t.front; rest = t.rest; split = record { text_is = ap (λ l. c ∷ l) t.split.text_is; before = (e, t.split.before); stops = t.split.stops } }

cut : (p : ℕ → Bool) (text : List ℕ) → Cut p text
cut p [] = record { front = []; rest = []; split = record { text_is = refl; before = tt; stops = tt } }
cut p (c ∷ text) = cut-on p c text (p c) refl (cut p text)

-- there is one heading
pub heading-unique : (text : List ℕ) (a b : Kind) (z m y l : Bool) (inside within : List ℕ) → BeginsWithHeading text a z m inside → BeginsWithHeading text b y l within
    → (a ≡ b) × (z ≡ y) × (m ≡ l) × (inside ≡ within)
heading-unique text a b z m y l inside within g h =
    let first = cut not_blank text in
    let after = g.1.between ++ (g.1.dims ++ g.0) in
    let kind : BeginsWithKind first.rest a after = (g.1.tag, g.1.is_tag, heading-front a z m text g.0 first.front first.rest first.split g.1) in
    let second = cut not_blank after in
    let third = cut is_end second.rest in
    let word : BeginsWithWord after third.front third.rest = (second.front, second.rest, second.split, third.split) in
    let x = heading-parts text first.front first.rest after third.front third.rest a first.split kind word a z m inside g in
    let w = heading-parts text first.front first.rest after third.front third.rest a first.split kind word b y l within h in
    let dims = dims-unique third.front z m y l x.1 w.1 in
    (w.0, dims.0, dims.1, (mark-unique 40 40 third.rest inside within refl refl x.2 w.2).1)
