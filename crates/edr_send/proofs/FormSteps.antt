-- What is sent of coverages that are told one by one.
use Rattle.std.proofs.Common.{◌≡◌, ℕ, zero, suc, ◌+◌, ◌<◌, ◌≤◌, List, [], ◌∷◌, ◌++◌, length, take, drop, get_or, refl, ap, sym, ◌∙◌, arith, drop-cons}
use Rattle.std.specs.Prelude.{map}
use Rattle.std.specs.List.{flat_map}
use Rattle.std.proofs.lemmas.List.{length-map, get_or-map, drop-map, take_all}
use Rattle.covjson_value.specs.declared.coverages.NdArray.{NdArray}
use Rattle.covjson_value.specs.declared.coverages.Coverage.{Coverage}
use Rattle.covjson_write.specs.Writers.{with_ranges}
use Rattle.edr_select.specs.Samples.{ascending_once}
use Rattle.edr_send.specs.SentReplies.{SentReply, ranges_in, ranges_at, range_at, chunks_at, in_a_row, HasRange}
use Rattle.edr_send.specs.Forms.{once_each}
use Rattle.edr_send.proofs.Ascending.{once_none}
use Rattle.edr_send.proofs.FrameTiles.{flat_take}

-- ---- the coverage of a number, and its ranges

module _ {X : Type 0} (f : X → Coverage) (xs : List X) (i : ℕ) (x : X) (l : i < length xs) (is : x ≡ get_or xs i x) where
  pub ranges_told : get_or (map ranges_in (map f xs)) i [] ≡ (f x).ranges
  ranges_told =
      get_or-map ranges_in (map f xs) i (f x) [] (omega (arith, l, length-map xs f))
      ∙ ap ranges_in (get_or-map f xs i x (f x) l)
      ∙ ap (λ (y : X). (f y).ranges) (sym is)

  pub head_told : (head : Coverage) → f x ≡ with_ranges head (f x).ranges
      → drop i (map f xs) ≡ with_ranges head (get_or (map ranges_in (map f xs)) i []) ∷ drop (suc i) (map f xs)
  head_told head e =
      drop-map f i xs ∙ ap (map f) (drop-cons xs i x l)
      ∙ ap (λ (y : X). f y ∷ map f (drop (suc i) xs)) (sym is)
      ∙ ap (λ (c : Coverage). c ∷ map f (drop (suc i) xs)) (e ∙ ap (with_ranges head) (sym ranges_told))
      ∙ ap (λ (cs : List Coverage). with_ranges head (get_or (map ranges_in (map f xs)) i []) ∷ cs) (sym (drop-map f (suc i) xs))

  pub chunks_told : (h : X → List (List ℕ)) → get_or (map h xs) i [] ≡ h x
  chunks_told h = get_or-map h xs i x [] l ∙ ap h (sym is)

pub range_told : (f : ℕ → NdArray) (ps : List ℕ) (j : ℕ) (d : NdArray) → j < length ps → get_or (map f ps) j d ≡ f (get_or ps j 0)
range_told f ps j d l = get_or-map f ps j 0 d l

pub once_told : (n : ℕ) (b : ℕ → List ℕ) (ps : List ℕ) (j : ℕ) → j < length ps → get_or (once_each n b ps) j [] ≡ ascending_once n (b (get_or ps j 0))
once_told n b ps j l = get_or-map (λ (p : ℕ). ascending_once n (b p)) ps j 0 [] l

-- of no more ranges chunks are told than there are
pub few_told : {X : Type 0} (f : X → Coverage) (h : X → List (List ℕ)) → ((x : X) → length (h x) ≤ length (f x).ranges) → (xs : List X) (i : ℕ)
    → length (get_or (map h xs) i []) ≤ length (get_or (map ranges_in (map f xs)) i [])
few_told f h few [] zero = omega arith
few_told f h few [] (suc i) = omega arith
few_told f h few (x ∷ xs) zero = few x
few_told f h few (x ∷ xs) (suc i) = few_told f h few xs i

-- ---- all chunks, each once

-- where those of each item come behind those of the items before it
pub once_steps : {X : Type 0} (n : ℕ) (f : X → List ℕ) (xs : List X) (d : X)
    → ((i : ℕ) → i < length xs → ascending_once n (flat_map f (take (i + 1) xs)) ≡ ascending_once n (flat_map f (take i xs)) ++ ascending_once n (f (get_or xs i d)))
    → ascending_once n (flat_map f xs) ≡ flat_map (λ x. ascending_once n (f x)) xs
once_steps n f xs d step =
    ap (λ ys. ascending_once n (flat_map f ys)) (sym (take_all (length xs) xs (omega arith)))
    ∙ so_far (length xs) (omega arith)
    ∙ ap (flat_map (λ x. ascending_once n (f x))) (take_all (length xs) xs (omega arith))
  where
    next : (i : ℕ) → suc i ≡ i + 1
    next i = omega arith

    so_far : (i : ℕ) → i ≤ length xs → ascending_once n (flat_map f (take i xs)) ≡ flat_map (λ x. ascending_once n (f x)) (take i xs)
    so_far zero l = once_none n
    so_far (suc i) l =
        ap (λ (k : ℕ). ascending_once n (flat_map f (take k xs))) (next i)
        ∙ step i (omega (arith, l))
        ∙ ap (λ (numbers : List ℕ). numbers ++ ascending_once n (f (get_or xs i d))) (so_far i (omega (arith, l)))
        ∙ sym (flat_take (λ x. ascending_once n (f x)) xs xs i d refl (omega (arith, l)))
        ∙ ap (λ (k : ℕ). flat_map (λ x. ascending_once n (f x)) (take k xs)) (sym (next i))

pub row_of_map : {X : Type 0} (g : X → List ℕ) (xs : List X) → in_a_row (map g xs) ≡ flat_map g xs
row_of_map g [] = refl
row_of_map g (x ∷ xs) = ap (λ (l : List ℕ). g x ++ l) (row_of_map g xs)

pub rows_of_map : {X : Type 0} (h : X → List (List ℕ)) (g : X → List ℕ) (xs : List X) → ((k : ℕ) (d : X) → k < length xs → in_a_row (h (get_or xs k d)) ≡ g (get_or xs k d))
    → flat_map in_a_row (map h xs) ≡ flat_map g xs
rows_of_map h g [] e = refl
rows_of_map h g (x ∷ xs) e =
    ap (λ (l : List ℕ). l ++ flat_map in_a_row (map h xs)) (e zero x (omega arith))
    ∙ ap (λ (l : List ℕ). g x ++ l) (rows_of_map h g xs (λ k d l. e (suc k) d (omega (arith, l))))

-- ---- a range that is asked for

-- one item alone
pub only : (i : ℕ) → i < 1 → zero ≡ get_or (zero ∷ []) i zero
only zero l = refl
only (suc i) l = absurd (omega (arith, l))

-- of a reply whose coverages are each made of an item, and whose ranges are each made of a parameter
module _ {X : Type 0} (f : X → Coverage) (r : X → ℕ → NdArray) (ps : List ℕ) (xs : List X) (same : (x : X) → (f x).ranges ≡ map (r x) ps)
    (sent : SentReply) (coverages : sent.coverages ≡ map f xs) (i j count : ℕ) (has : HasRange sent i j count) where
  at_coverage : (k : ℕ) → get_or (map ranges_in sent.coverages) k [] ≡ get_or (map ranges_in (map f xs)) k []
  at_coverage k = ap (λ (cs : List Coverage). get_or (map ranges_in cs) k []) coverages

  pub coverage_inside : i < length xs
  coverage_inside = let low = has.coverage in omega (arith, low, ap length coverages, length-map xs f)

  module _ (x : X) (is : x ≡ get_or xs i x) where
    ranges_are : ranges_at sent i ≡ map (r x) ps
    ranges_are = at_coverage i ∙ ranges_told f xs i x coverage_inside is ∙ same x

    pub range_inside : j < length ps
    range_inside = let low = has.range in omega (arith, low, ap length ranges_are, length-map ps (r x))

    pub range_is : range_at sent i j ≡ r x (get_or ps j 0)
    range_is = ap (λ (rs : List NdArray). get_or rs j (record { values = [] })) ranges_are ∙ range_told (r x) ps j (record { values = [] }) range_inside

    pub range_count : length (r x (get_or ps j 0)).values ≡ count
    range_count = sym (ap (λ (range : NdArray). length range.values) range_is) ∙ has.values

    pub chunks_are : (n : ℕ) (b : X → ℕ → List ℕ) → sent.chunks ≡ map (λ y. once_each n (b y) ps) xs → chunks_at sent i j ≡ ascending_once n (b x (get_or ps j 0))
    chunks_are n b e =
        ap (λ (cs : List (List (List ℕ))). get_or (get_or cs i []) j []) e
        ∙ ap (λ (cs : List (List ℕ)). get_or cs j []) (chunks_told f xs i x coverage_inside is (λ y. once_each n (b y) ps))
        ∙ once_told n (b x) ps j range_inside

pub once_items : {X : Type 0} (n : ℕ) (f : X → List ℕ) (xs : List X)
    → ((i : ℕ) (d : X) → i < length xs → ascending_once n (flat_map f (take (i + 1) xs)) ≡ ascending_once n (flat_map f (take i xs)) ++ ascending_once n (f (get_or xs i d)))
    → ascending_once n (flat_map f xs) ≡ flat_map (λ x. ascending_once n (f x)) xs
once_items n f [] step = once_none n
once_items n f (x ∷ xs) step = once_steps n f (x ∷ xs) x (λ i l. step i x l)
