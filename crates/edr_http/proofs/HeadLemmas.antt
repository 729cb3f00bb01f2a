-- What the parser's answer on the first bytes says of all of them.
use Rattle.std.proofs.Common.{map, ◌≡◌, ℕ, ◌+◌, ◌-◌, ◌≤◌, List, [], ◌++◌, length, take, drop, refl, sym, ◌∙◌, ap, arith, inl, inr, append_assoc, append-nil, subst}
use Rattle.std.proofs.lemmas.List.{take-append-le, take-append-drop, length-append, length-take-le, length-map}
use Rattle.std.proofs.Math.Seq.{take-append-add}
use Rattle.std.proofs.lemmas.Grind.{common_steps}
use Rattle.httparse.specs.Grammar.{RequestHead, ReadsRequest, print_request, HasNoRequest}
use Rattle.httparse.specs.declared.spans.HeaderSpan.{HeaderSpan}
use Rattle.httparse.specs.declared.spans.RequestSpans.{RequestSpans}
use Rattle.httparse.specs.Spans.{RequestOverflows, IsRequestWithin, IsRequestAt, IsRequestOf, AreFieldsAt, header_bytes, name_and_value}
use Rattle.httparse.proofs.GrammarLemmas.{ReadsRequest-append, request_prefix_free}
use Rattle.edr_http.specs.Heads.{BeginsWith, HasNoHead, HasHead, HeadIsOne, DecidedEarly, IsDecided, head_of}
use Rattle.edr_http.specs.Finding.{HasTree, HasParts, HasNoTree, NeverHasTree, Tells}
use Rattle.edr_http.specs.declared.finding.Found.{Found}
use Rattle.edr_http.specs.declared.finding.Found.TheVariants as found

-- what reads in the window reads in the whole
pub reads_whole : (n : ℕ) (bytes : List ℕ) (h : RequestHead) (rest : List ℕ)
    → ReadsRequest (take n bytes) h rest → ReadsRequest bytes h (rest ++ drop n bytes)
reads_whole n bytes h rest x =
    let whole = ReadsRequest-append (take n bytes) h rest (drop n bytes) x in
    let P : List ℕ → Type 0 = λ b. ReadsRequest b h (rest ++ drop n bytes) in
    subst P (take-append-drop n bytes) whole

take-front : (n : ℕ) (front rest : List ℕ) → length front ≤ n → take n (front ++ rest) ≡ front ++ take (n - length front) rest
take-front n front rest h =
    let e : length front + (n - length front) ≡ n = omega arith in
    let P : ℕ → Type 0 = λ m. take m (front ++ rest) ≡ front ++ take (n - length front) rest in
    subst P e (take-append-add front rest (n - length front))

-- a head that is short enough reads in the window
pub reads_window : (n : ℕ) (bytes : List ℕ) (h : RequestHead) (rest : List ℕ)
    → ReadsRequest bytes h rest → length (print_request h) ≤ n
    → ReadsRequest (take n bytes) h (take (n - length (print_request h)) rest)
reads_window n bytes h rest x short =
    (x.0, ap (take n) x.1 ∙ take-front n (print_request h) rest short)

-- a head in the first n bytes is no longer than that
pub read_length : (n : ℕ) (bytes : List ℕ) (h : RequestHead) (rest : List ℕ)
    → ReadsRequest (take n bytes) h rest → length (print_request h) ≤ n
read_length n bytes h rest x =
    let e : length (take n bytes) ≡ length (print_request h) + length rest = ap length x.1 ∙ length-append (print_request h) rest in
    grind (arith, common_steps, e)

-- no head in the window, which is full: no head in the whole, whatever follows
pub never_full : (bytes : List ℕ) → 16384 ≤ length bytes → HasNoRequest (take 16384 bytes) → NeverHasTree bytes
never_full bytes full none more h rest b =
    let x = reads_window 16384 (bytes ++ more) h rest b.reads b.short in
    let P : List ℕ → Type 0 = λ w. ReadsRequest w h (take (16384 - length (print_request h)) rest) in
    none h _ (subst P (take-append-le 16384 bytes more full) x)

-- no head in the window: no head in the whole
pub none_yet : (bytes : List ℕ) → HasNoRequest (take 16384 bytes) → HasNoTree bytes
none_yet bytes none h rest b = none h _ (reads_window 16384 bytes h rest b.reads b.short)

-- whatever follows the window is what follows the whole
pub never_more : (bytes : List ℕ) → RequestOverflows 64 (take 16384 bytes) → NeverHasTree bytes
never_more bytes over more h rest b =
    let whole : bytes ++ more ≡ take 16384 bytes ++ (drop 16384 bytes ++ more) =
    ap (λ w. w ++ more) (sym (take-append-drop 16384 bytes)) ∙ append_assoc (take 16384 bytes) (drop 16384 bytes) more in
    let P : List ℕ → Type 0 = λ w. ReadsRequest w h rest in
    let many = over _ h rest (subst P whole b.reads) in
    let few = b.few_fields in
    absurd (omega (arith, many, few))

-- as many fields as headers
fields_fit : (buf : List ℕ) (headers : List HeaderSpan) (count : ℕ) (h : RequestHead) → length headers ≤ 64
    → count ≤ length headers → AreFieldsAt buf headers count h.fields → length h.fields ≤ 64
fields_fit buf headers count h room fits e =
    let same : length (map (header_bytes buf) (take count headers)) ≡ length (map name_and_value h.fields) = ap length e in
    let a = length-map (take count headers) (header_bytes buf) in
    let b = length-map h.fields name_and_value in
    let t = length-take-le count headers fits in
    omega (arith, same, a, b, t)

-- there is at most one head, and no head is a proper prefix of another
pub one_head : (bytes more : List ℕ) (h k : RequestHead) (r q : List ℕ)
    → BeginsWith bytes h r → BeginsWith (bytes ++ more) k q → (h ≡ k) × (r ++ more ≡ q)
one_head bytes more h k r q x y = request_prefix_free bytes more h k r q x.reads y.reads

pub got_head : (bytes window : List ℕ) (headers : List HeaderSpan) (r : RequestSpans) → window ≡ take 16384 bytes
    → length headers ≤ 64 → IsRequestWithin window headers r → IsRequestOf window headers r
    → HasParts bytes headers r
got_head bytes window headers r e room within at =
    let P : List ℕ → Type 0 = λ w. ReadsRequest w at.0 (drop r.len w) in
    let x = subst P e at.1.reads in
    record {
      tree = at.0;
      rest = drop r.len (take 16384 bytes) ++ drop 16384 bytes;
      begins = record {
        reads = reads_whole 16384 bytes at.0 _ x;
        few_fields = fields_fit window headers r.headers at.0 room within.section.count_fits at.1.fields;
        short = read_length 16384 bytes at.0 _ x;
      };
      within = subst (λ (w : List ℕ). IsRequestWithin w headers r) e within;
      at = subst (λ (w : List ℕ). IsRequestAt w headers r at.0) e at.1;
    }

pub has_tree : (bytes : List ℕ) (fields : List HeaderSpan) (spans : RequestSpans) → HasParts bytes fields spans → HasTree bytes spans.len
has_tree bytes fields spans h = (h.tree, h.rest, h.begins, h.at.len)

-- ---- heads by what they say

pub no_head : (bytes : List ℕ) → HasNoTree bytes → HasNoHead bytes
no_head bytes none head rest h = none h.tree rest h.begins

pub some_head : (bytes : List ℕ) (n : ℕ) → HasTree bytes n → HasHead bytes
some_head bytes n h = (head_of h.0, h.1, record { tree = h.0; begins = h.2; says = refl })

pub some_tree : (bytes : List ℕ) → HasHead bytes → (n : ℕ) × HasTree bytes n
some_tree bytes h = (length (print_request h.2.tree), (h.2.tree, h.1, h.2.begins, refl))

pub never_now : (bytes : List ℕ) → NeverHasTree bytes → HasNoTree bytes
never_now bytes never = subst HasNoTree (append-nil bytes) (never [])

-- ---- laws

pub head_one : HeadIsOne
head_one bytes one other rest rest' x y =
    let same = one_head bytes [] x.tree y.tree rest rest' x.begins (subst (λ (z : List ℕ). BeginsWith z y.tree rest') (sym (append-nil bytes)) y.begins) in
    (x.says ∙ (ap head_of same.0 ∙ sym y.says), sym (append-nil rest) ∙ same.1)

pub early : DecidedEarly
early bytes = (
  λ h. let b = h.2.begins in (
    h.0,
    take (16384 - length (print_request h.2.tree)) h.1,
    record {
      tree = h.2.tree;
      begins = record { reads = reads_window 16384 bytes h.2.tree h.1 b.reads b.short; few_fields = b.few_fields; short = b.short };
      says = h.2.says;
    },
  ),
  λ h. let b = h.2.begins in (
    h.0,
    h.1 ++ drop 16384 bytes,
    record {
      tree = h.2.tree;
      begins = record { reads = reads_whole 16384 bytes h.2.tree h.1 b.reads; few_fields = b.few_fields; short = b.short };
      says = h.2.says;
    },
  ),
)

pub decided : (bytes : List ℕ) (fields : List HeaderSpan) (found : Found) → Tells bytes fields found → IsDecided bytes
decided bytes fields (found.Got spans) h = inl (some_head bytes spans.len (has_tree bytes fields spans h))
decided bytes fields found.NeedMore h = inr (no_head bytes h.0)
decided bytes fields found.Bad h = inr (no_head bytes (never_now bytes h))
