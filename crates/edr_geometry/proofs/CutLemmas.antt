-- Odd and even behind the cuts of a line, and what the edges of a ring toggle and mark.
use Rattle.std.proofs.Common.{◌≡◌, ℕ, zero, suc, ◌+◌, ◌-◌, ◌<◌, ◌≤◌, nat_lt, arith, Bool, true, false, not, ◌||◌, cond, refl, sym, ap, ap₂, ◌∙◌, inl, inr, List, [], ◌∷◌, ◌++◌, length, get_or, take, drop, count_by, map, ℤ, pos, length-drop, get_or-drop}
use Rattle.std.specs.List.{list_any, flat_map}
use Rattle.std.specs.List.Sorted.{IsNonDecreasing, IsPermutation}
use mathlib.Core.Bool.{beq}
use Rattle.std.proofs.Math.Seq.{drop-cons, take-suc}
use Rattle.std.proofs.lemmas.Grind.{flat_map-append}
use Rattle.std.proofs.lemmas.List.Concat.{flat_map-cons}
use Rattle.std.proofs.lemmas.Bool.{cases_lt, cases_Bool}
use Rattle.std.proofs.lemmas.Bool.Decides.{nat_tests}
use Rattle.std.proofs.lemmas.List.{drop_all, append-nil}
use Rattle.std.proofs.lemmas.List.Folds.{list_any-append}
use Rattle.std.proofs.lemmas.List.Sorted.{sum_by-IsPermutation}
use Rattle.std.proofs.lemmas.List.Sums.{sum_by-cons}
use Rattle.edr_base.specs.declared.places.Position.{Position}
use Rattle.edr_geometry.specs.Lines.{flip_if, odd_behind, AreCuts, Toggles}
use Rattle.edr_geometry.specs.Planar.{Edge, edges_along, is_odd, spot_of}
use Rattle.edr_geometry.specs.Ranges.{lies_in}
use Rattle.edr_geometry.specs.Rows.{Joins}

not_not : (b : Bool) → b ≡ not (not b)
not_not true = refl
not_not false = refl

-- ---- odd and even

is_odd-suc : (n : ℕ) → is_odd (1 + n) ≡ not (is_odd n)
is_odd-suc n = grind arith

module _ {X : Type 0} (test : X → Bool) where
  pub odd-cons : (x : X) (xs : List X) → is_odd (count_by test (x ∷ xs)) ≡ flip_if (test x) (is_odd (count_by test xs))
  odd-cons x xs =
      let step = sum_by-cons (λ y. cond (test y) 1 0) x xs in
      elim (cases_Bool (test x)) [
        | inl passes ↦ (let one : count_by test (x ∷ xs) ≡ 1 + count_by test xs = step ∙ ap (λ b. cond b 1 0 + count_by test xs) passes in rw (one, passes) (is_odd-suc (count_by test xs)))
        | inr fails ↦ (let none : count_by test (x ∷ xs) ≡ count_by test xs = step ∙ ap (λ b. cond b 1 0 + count_by test xs) fails ∙ omega arith in rw (none, fails) refl)
      ]

flip-flip : (a b c : Bool) → flip_if (flip_if a b) c ≡ flip_if a (flip_if b c)
flip-flip true true c = not_not c
flip-flip true false c = refl
flip-flip false b c = refl

module _ {X : Type 0} (test : X → Bool) where
  pub odd-append : (xs ys : List X) → is_odd (count_by test (xs ++ ys)) ≡ flip_if (is_odd (count_by test xs)) (is_odd (count_by test ys))
  odd-append [] ys = refl
  odd-append (x ∷ xs) ys =
      odd-cons test x (xs ++ ys) ∙ ap (flip_if (test x)) (odd-append xs ys)
      ∙ sym (flip-flip (test x) (is_odd (count_by test xs)) (is_odd (count_by test ys)))
      ∙ ap (λ b. flip_if b (is_odd (count_by test ys))) (sym (odd-cons test x xs))

flip-swap : (a b : Bool) → flip_if a b ≡ flip_if b a
flip-swap true true = refl
flip-swap true false = refl
flip-swap false true = refl
flip-swap false false = refl

-- ---- edges along a ring

pub edges_more : (ring : List Position) (place : ℕ) (d : Position) → suc place < length ring
    → edges_along (take (suc (suc place)) ring) ≡ edges_along (take (suc place) ring) ++ record { start = spot_of (get_or ring place d); end = spot_of (get_or ring (suc place) d) } ∷ []
edges_more [] place d h = absurd (omega arith)
edges_more (p ∷ []) place d h = absurd (omega arith)
edges_more (p ∷ (q ∷ ps)) zero d h = refl
edges_more (p ∷ (q ∷ ps)) (suc place) d h = ap (λ es. record { start = spot_of p; end = spot_of q } ∷ es) (edges_more (q ∷ ps) place d (omega arith))

-- ---- toggling one after the other

pub Toggles_then : (n : ℕ) (first next last : List ℕ) (some more : ℕ → Bool) (all : ℕ → Bool) → Toggles n first next some → Toggles n next last more
    → ((place : ℕ) → all place ≡ flip_if (some place) (more place)) → Toggles n first last all
Toggles_then n first next last some more all h k joins place inside =
    k place inside ∙ ap (flip_if (more place)) (h place inside)
    ∙ sym (flip-flip (more place) (some place) (odd_behind n first place))
    ∙ ap (λ b. flip_if b (odd_behind n first place)) (flip-swap (more place) (some place) ∙ sym (joins place))

pub flip_none : (b : Bool) → flip_if b false ≡ b
flip_none true = refl
flip_none false = refl

pub ring_more : (ring : List Position) (place : ℕ) (d : Position) (test : Edge → Bool) → 0 < place → place < length ring
    → is_odd (count_by test (edges_along (take (place + 1) ring)))
    ≡ flip_if (is_odd (count_by test (edges_along (take place ring)))) (test (record { start = spot_of (get_or ring (place - 1) d); end = spot_of (get_or ring place d) }))
ring_more ring zero d test h inside = absurd (omega arith)
ring_more ring (suc place) d test h inside =
    let edge : Edge = record { start = spot_of (get_or ring place d); end = spot_of (get_or ring (suc place) d) } in
    let back : suc place - 1 ≡ place = omega arith in
    let next : suc place + 1 ≡ suc (suc place) = omega arith in
    let before = edges_along (take (suc place) ring) in
    let one : is_odd (count_by test (edge ∷ [])) ≡ test edge = odd-cons test edge [] ∙ flip_none (test edge) in
    rw (next, back) (ap (λ es. is_odd (count_by test es)) (edges_more ring place d inside) ∙ odd-append test before (edge ∷ []) ∙ ap (flip_if (is_odd (count_by test before))) one)

-- ---- joining one after the other

pub or_true : (b : Bool) → (b || true) ≡ true
or_true true = refl
or_true false = refl

pub or_none : (b : Bool) → (b || false) ≡ b
or_none true = refl
or_none false = refl

pub or_assoc : (a b c : Bool) → ((a || b) || c) ≡ (a || (b || c))
or_assoc true b c = refl
or_assoc false b c = refl

pub ring_any_more : (ring : List Position) (place : ℕ) (d : Position) (test : Edge → Bool) → 0 < place → place < length ring
    → list_any test (edges_along (take (place + 1) ring))
    ≡ (list_any test (edges_along (take place ring)) || test (record { start = spot_of (get_or ring (place - 1) d); end = spot_of (get_or ring place d) }))
ring_any_more ring zero d test h inside = absurd (omega arith)
ring_any_more ring (suc place) d test h inside =
    let edge : Edge = record { start = spot_of (get_or ring place d); end = spot_of (get_or ring (suc place) d) } in
    let back : suc place - 1 ≡ place = omega arith in
    let next : suc place + 1 ≡ suc (suc place) = omega arith in
    let before = edges_along (take (suc place) ring) in
    rw (next, back) (ap (list_any test) (edges_more ring place d inside) ∙ list_any-append test before (edge ∷ []) ∙ ap (λ b. list_any test before || b) (or_none (test edge)))

pub Joins_then : (first next last : List Bool) (some more all : ℕ → Bool) → length next ≡ length first → Joins first next some → Joins next last more
    → ((place : ℕ) → all place ≡ (some place || more place)) → Joins first last all
Joins_then first next last some more all same h k joins place inside =
    k place (omega (arith, same)) ∙ ap (λ b. b || more place) (h place inside)
    ∙ or_assoc (get_or first place false) (some place) (more place)
    ∙ ap (λ b. get_or first place false || b) (sym (joins place))

-- ---- a list by its places

pub mask_is : (xs : List ℤ) (items : List Bool) (test : ℤ → Bool) → length items ≡ length xs
    → ((place : ℕ) → place < length xs → get_or items place false ≡ test (get_or xs place (pos 0))) → items ≡ map test xs
mask_is [] [] test size same = refl
mask_is [] (b ∷ items) test size same = absurd (omega (arith, size))
mask_is (x ∷ xs) [] test size same = absurd (omega (arith, size))
mask_is (x ∷ xs) (b ∷ items) test size same =
    ap (λ first. first ∷ items) (same zero (omega arith))
    ∙ ap (λ rest. test x ∷ rest) (mask_is xs items test (omega (arith, size)) (λ place h. same (suc place) (omega arith)))

pub xor_is : (a b : Bool) → not (beq a b) ≡ flip_if a b
xor_is true true = refl
xor_is true false = refl
xor_is false true = refl
xor_is false false = refl

-- ---- cuts

abbrev is_behind : ℕ → ℕ → ℕ → Bool
is_behind count place cut = nat_lt (place + cut) count

pub cut-cons : (count place cut : ℕ) (cuts : List ℕ) → odd_behind count (cut ∷ cuts) place ≡ flip_if (is_behind count place cut) (odd_behind count cuts place)
cut-cons count place cut cuts = odd-cons (is_behind count place) cut cuts

-- a range is toggled by its two ends
pub range_toggled : (count from end place : ℕ) (cuts : List ℕ) → from < end → end ≤ count → place < count
    → odd_behind count ((cuts ++ ((count - end) ∷ [])) ++ ((count - from) ∷ [])) place ≡ flip_if (lies_in (from, end) place) (odd_behind count cuts place)
range_toggled count from end place cuts order inside h =
    odd-append (is_behind count place) (cuts ++ ((count - end) ∷ [])) ((count - from) ∷ [])
    ∙ ap₂ (λ p q. flip_if p q) (odd-append (is_behind count place) cuts ((count - end) ∷ []) ∙ ap (flip_if (odd_behind count cuts place)) (alone (count - end))) (alone (count - from))
    ∙ both (odd_behind count cuts place)
  where
    alone : (cut : ℕ) → odd_behind count (cut ∷ []) place ≡ is_behind count place cut
    alone cut = cut-cons count place cut [] ∙ flip_none (is_behind count place cut)

    both : (b : Bool) → flip_if (flip_if b (is_behind count place (count - end))) (is_behind count place (count - from)) ≡ flip_if (lies_in (from, end) place) b
    both true = grind (arith, nat_tests)
    both false = grind (arith, nat_tests)

pub range_empty : (from end place : ℕ) (b : Bool) → end ≤ from → b ≡ flip_if (lies_in (from, end) place) b
range_empty from end place b h = let none : lies_in (from, end) place ≡ false = grind (arith, nat_tests) in rw none refl

-- the cuts of another order are as many
pub reordered : (count place : ℕ) (cuts others : List ℕ) → IsPermutation cuts others → odd_behind count others place ≡ odd_behind count cuts place
reordered count place cuts others same = ap is_odd (sum_by-IsPermutation (λ cut. cond (is_behind count place cut) 1 0) cuts others same)

-- none is behind a place where each is too far
none_behind : (count place : ℕ) (cuts : List ℕ) → ((j : ℕ) → j < length cuts → count ≤ place + get_or cuts j 0) → odd_behind count cuts place ≡ false
none_behind count place [] far = refl
none_behind count place (cut ∷ cuts) far =
    let here : is_behind count place cut ≡ false = (let le = far zero (omega arith) in grind (arith, nat_tests)) in
    cut-cons count place cut cuts ∙ rw here (none_behind count place cuts (λ j inside. far (suc j) (omega (arith, inside))))

module _ (count place : ℕ) (cuts : List ℕ) (ascend : IsNonDecreasing cuts) (are : AreCuts count cuts) (k : ℕ) where
  abbrev low : ℕ
  low = get_or cuts k 0

  abbrev high : ℕ
  high = get_or cuts (suc k) 0

  later : suc k < length cuts → count ≤ place + high → odd_behind count (drop (suc (suc k)) cuts) place ≡ false
  later inside far =
      none_behind count place (drop (suc (suc k)) cuts)
      (λ j below. (let within : suc (suc k) + j < length cuts = omega (arith, below, length-drop (suc (suc k)) cuts) in
      let at : get_or (drop (suc (suc k)) cuts) j 0 ≡ get_or cuts (suc (suc k) + j) 0 = get_or-drop (suc (suc k)) cuts j 0 in
      let more : high ≤ get_or cuts (suc (suc k) + j) 0 = ascend (suc k) (suc (suc k) + j) 0 (omega arith) within in
      omega (arith, far, at, more)))

  pair_of : (rest : Bool) → place < count → low ≤ high → high ≤ count → (count ≤ place + high → rest ≡ false)
      → flip_if (is_behind count place low) (flip_if (is_behind count place high) rest) ≡ (lies_in (count - high, count - low) place || rest)
  pair_of true h order inside none = elim (cases_lt (place + high) count) [
    | inl lt ↦ grind (arith, nat_tests)
    | inr ge ↦ absurd (differ (none ge))
  ]
    where
      differ : true ≡ false → ⊥
      differ e = grind arith
  pair_of false h order inside none = grind (arith, nat_tests)

  -- the next two cuts are the ends of a range of places
  pub pair_behind : suc k < length cuts → place < count → odd_behind count (drop k cuts) place ≡ (lies_in (count - high, count - low) place || odd_behind count (drop (suc (suc k)) cuts) place)
  pair_behind inside h =
      ap (λ cs. odd_behind count cs place) (drop-cons cuts k 0 (omega (arith, inside)) ∙ ap (λ cs. low ∷ cs) (drop-cons cuts (suc k) 0 inside))
      ∙ cut-cons count place low (high ∷ drop (suc (suc k)) cuts)
      ∙ ap (flip_if (is_behind count place low)) (cut-cons count place high (drop (suc (suc k)) cuts))
      ∙ pair_of (odd_behind count (drop (suc (suc k)) cuts) place) h (ascend k (suc k) 0 (omega arith) inside) (are (suc k) 0 inside) (later inside)

  -- the last one ends a range from the first place on
  pub last_behind : k < length cuts → length cuts ≤ suc k → place < count → odd_behind count (drop k cuts) place ≡ lies_in (0, count - low) place
  last_behind inside end h =
      ap (λ cs. odd_behind count cs place) (drop-cons cuts k 0 inside ∙ ap (λ cs. low ∷ cs) (drop_all (suc k) cuts end))
      ∙ cut-cons count place low [] ∙ flip_none (is_behind count place low) ∙ (grind (arith, nat_tests))

pub none_left : (count place k : ℕ) (cuts : List ℕ) → length cuts ≤ k → odd_behind count (drop k cuts) place ≡ false
none_left count place k cuts end = ap (λ cs. odd_behind count cs place) (drop_all k cuts end)

-- ---- one ring more

edges_of_one : (ring : List Position) → flat_map edges_along (ring ∷ []) ≡ edges_along ring
edges_of_one ring = flat_map-cons edges_along ring [] ∙ append-nil (edges_along ring)

edges_of_more : (rings : List (List Position)) (k : ℕ) → k < length rings → flat_map edges_along (take (k + 1) rings) ≡ flat_map edges_along (take k rings) ++ edges_along (get_or rings k [])
edges_of_more rings k inside =
    let next : k + 1 ≡ suc k = omega arith in
    ap (λ n. flat_map edges_along (take n rings)) next ∙ ap (flat_map edges_along) (take-suc rings k [] inside)
    ∙ flat_map-append edges_along (take k rings) (get_or rings k [] ∷ []) ∙ ap (λ es. flat_map edges_along (take k rings) ++ es) (edges_of_one (get_or rings k []))

pub rings_more : (rings : List (List Position)) (k : ℕ) (test : Edge → Bool) → k < length rings
    → is_odd (count_by test (flat_map edges_along (take (k + 1) rings))) ≡ flip_if (is_odd (count_by test (flat_map edges_along (take k rings)))) (is_odd (count_by test (edges_along (get_or rings k []))))
rings_more rings k test inside =
    ap (λ es. is_odd (count_by test es)) (edges_of_more rings k inside) ∙ odd-append test (flat_map edges_along (take k rings)) (edges_along (get_or rings k []))

pub rings_any_more : (rings : List (List Position)) (k : ℕ) (test : Edge → Bool) → k < length rings
    → list_any test (flat_map edges_along (take (k + 1) rings)) ≡ (list_any test (flat_map edges_along (take k rings)) || list_any test (edges_along (get_or rings k [])))
rings_any_more rings k test inside =
    ap (list_any test) (edges_of_more rings k inside) ∙ list_any-append test (flat_map edges_along (take k rings)) (edges_along (get_or rings k []))
