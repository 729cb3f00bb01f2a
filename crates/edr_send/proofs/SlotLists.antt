-- The slots of places.
use Rattle.std.proofs.Common.{◌≡◌, ℕ, suc, ◌+◌, ◌<◌, List, [], ◌∷◌, ◌++◌, length, take, get_or, All, ℤ, Option, refl, ap, sym, ◌∙◌, subst, arith, append_assoc, append-nil, add-zero, length-append, inl, inr}
use Rattle.std.specs.Prelude.{map}
use Rattle.std.specs.List.{range_with_len, flat_map}
use Rattle.std.proofs.lemmas.Bool.{cases_lt}
use Rattle.std.proofs.lemmas.List.{take_more, map-append, get_or_append_left}
use Rattle.std.proofs.lemmas.Grind.{flat_map-append}
use Rattle.std.proofs.lemmas.List.Elements.{All-nil, All-cons, All-head, All-tail, All-append}
use Rattle.edr_chunk.specs.declared.shapes.GridShape.{GridShape}
use Rattle.edr_chunk.specs.declared.shapes.GridPlace.{GridPlace}
use Rattle.edr_chunk.specs.Places.{Within}
use Rattle.edr_chunk.specs.Tiles.{tile_of}
use Rattle.edr_chunk.specs.Grids as chunk
use Rattle.edr_chunk.specs.Grids.{value}
use Rattle.edr_select.specs.declared.plans.GridNode.{GridNode}
use Rattle.edr_send.specs.declared.slots.Slot.{Slot}
use Rattle.edr_select.specs.Listings.{PlannedValue, IsPlanned, place_at}
use Rattle.edr_send.specs.Filling.{IsSlot, slot_at, slots_from, slot_tile, slot_number, value_of, SlotsGrew}
use Rattle.edr_send.specs.Gathered.{places_of_range, places_of_coverage, places_of_coverages}

pub slots_append : (shape : GridShape) (n : ℕ) (xs ys : List GridPlace) → slots_from shape n (xs ++ ys) ≡ slots_from shape n xs ++ slots_from shape (n + length xs) ys
slots_append shape n [] ys = ap (λ (k : ℕ). slots_from shape k ys) (sym (add-zero n))
slots_append shape n (x ∷ xs) ys =
    ap (λ (l : List Slot). slot_at shape n x ∷ l) (slots_append shape (n + 1) xs ys ∙ ap (λ (k : ℕ). slots_from shape (n + 1) xs ++ slots_from shape k ys) (next n (length xs)))
  where
    next : (n k : ℕ) → n + 1 + k ≡ n + suc k
    next n k = omega arith

pub slots_length : (shape : GridShape) (n : ℕ) (xs : List GridPlace) → length (slots_from shape n xs) ≡ length xs
slots_length shape n [] = refl
slots_length shape n (x ∷ xs) = ap suc (slots_length shape (n + 1) xs)

pub grew_more : (shape : GridShape) (xs ys : List GridPlace) (a b c : List Slot) → SlotsGrew shape xs a b → SlotsGrew shape ys b c → SlotsGrew shape (xs ++ ys) a c
grew_more shape xs ys a b c p q =
    q
    ∙ ap (λ (l : List Slot). l ++ slots_from shape (length b) ys) p
    ∙ append_assoc a (slots_from shape (length a) xs) (slots_from shape (length b) ys)
    ∙ ap (λ (k : ℕ). a ++ (slots_from shape (length a) xs ++ slots_from shape k ys)) long
    ∙ ap (λ (l : List Slot). a ++ l) (sym (slots_append shape (length a) xs ys))
  where
    long : length b ≡ length a + length xs
    long = ap length p ∙ length-append a (slots_from shape (length a) xs) ∙ ap (λ (k : ℕ). length a + k) (slots_length shape (length a) xs)

-- one slot more of a row of places
pub grew_one : (shape : GridShape) (f : GridNode → GridPlace) (cells : List GridNode) (i : ℕ) (cell : GridNode) (a b c : List Slot) → i < length cells
    → cell ≡ get_or cells i cell → SlotsGrew shape (map f (take i cells)) a b → c ≡ b ++ slot_at shape (length b) (f cell) ∷ [] → SlotsGrew shape (map f (take (i + 1) cells)) a c
grew_one shape f cells i cell a b c inside is p q =
    subst (λ (places : List GridPlace). SlotsGrew shape places a c) (sym (ap (map f) (take_more cells i cell inside ∙ ap (λ (x : GridNode). take i cells ++ x ∷ []) (sym is)) ∙ map-append f (take i cells) (cell ∷ [])))
    (grew_more shape (map f (take i cells)) (f cell ∷ []) a b c p q)

-- the slots of one item more
pub grew_item : {X : Type 0} (shape : GridShape) (f : X → List GridPlace) (items : List X) (i : ℕ) (item : X) (a b c : List Slot) → i < length items
    → item ≡ get_or items i item → SlotsGrew shape (flat_map f (take i items)) a b → SlotsGrew shape (f item) b c → SlotsGrew shape (flat_map f (take (i + 1) items)) a c
grew_item shape f items i item a b c inside is p q =
    subst (λ (places : List GridPlace). SlotsGrew shape places a c)
    (sym (ap (flat_map f) (take_more items i item inside ∙ ap (λ x. take i items ++ x ∷ []) (sym is)) ∙ flat_map-append f (take i items) (item ∷ [])
    ∙ ap (λ (l : List GridPlace). flat_map f (take i items) ++ l) (append-nil (f item))))
    (grew_more shape (flat_map f (take i items)) (f item) a b c p q)

-- ---- what slots of places are

pub slots_are : (shape : GridShape) (n : ℕ) (places : List GridPlace) → All (Within shape) places → All (IsSlot shape) (slots_from shape n places)
slots_are shape n [] all = All-nil (IsSlot shape)
slots_are shape n (place ∷ places) all =
    All-cons (IsSlot shape) (slot_at shape n place) (slots_from shape (n + 1) places) (record { within = All-head (Within shape) place places all; tile = refl })
    (slots_are shape (n + 1) places (All-tail (Within shape) place places all))

pub slots_numbered : (shape : GridShape) (n : ℕ) (places : List GridPlace) → map slot_number (slots_from shape n places) ≡ range_with_len n (length places)
slots_numbered shape n [] = refl
slots_numbered shape n (place ∷ places) = ap (λ (l : List ℕ). n ∷ l) (slots_numbered shape (n + 1) places)

pub slots_tiles : (shape : GridShape) (n : ℕ) (places : List GridPlace) → map slot_tile (slots_from shape n places) ≡ map (tile_of shape) places
slots_tiles shape n [] = refl
slots_tiles shape n (place ∷ places) = ap (λ (l : List ℕ). tile_of shape place ∷ l) (slots_tiles shape (n + 1) places)

pub slots_values : (shape : GridShape) (grid : chunk.Values) (n : ℕ) (places : List GridPlace) → map (value_of grid) (slots_from shape n places) ≡ map (value grid) places
slots_values shape grid n [] = refl
slots_values shape grid n (place ∷ places) = ap (λ (l : List (Option ℤ)). value grid place ∷ l) (slots_values shape grid (n + 1) places)

-- ---- the places of a plan lie in its shape

pub within_at : (shape : GridShape) (parameter : ℕ) (cell : GridNode) → parameter < shape.parameters → Within shape (place_at 0 cell) → Within shape (place_at parameter cell)
within_at shape parameter cell inside w = record { parameter = inside; t = w.t; z = w.z; y = w.y; x = w.x }

pub range_within : (shape : GridShape) (parameter : ℕ) (cells : List GridNode) → parameter < shape.parameters → All (λ cell. Within shape (place_at 0 cell)) cells → All (Within shape) (places_of_range cells parameter)
range_within shape parameter [] inside all = All-nil (Within shape)
range_within shape parameter (cell ∷ cells) inside all =
    All-cons (Within shape) (place_at parameter cell) (places_of_range cells parameter) (within_at shape parameter cell inside (All-head (λ cell. Within shape (place_at 0 cell)) cell cells all))
    (range_within shape parameter cells inside (All-tail (λ cell. Within shape (place_at 0 cell)) cell cells all))

coverage_within : (shape : GridShape) (cells : List GridNode) (parameters : List ℕ) → All (λ parameter. parameter < shape.parameters) parameters → All (λ cell. Within shape (place_at 0 cell)) cells
    → All (Within shape) (flat_map (places_of_range cells) parameters)
coverage_within shape cells [] inside all = All-nil (Within shape)
coverage_within shape cells (parameter ∷ parameters) inside all =
    All-append (Within shape) (places_of_range cells parameter) (flat_map (places_of_range cells) parameters)
    (range_within shape parameter cells (All-head (λ parameter. parameter < shape.parameters) parameter parameters inside) all)
    (coverage_within shape cells parameters (All-tail (λ parameter. parameter < shape.parameters) parameter parameters inside) all)

pub plan_within : (shape : GridShape) (parameters : List ℕ) (coverages : List PlannedValue) → All (λ parameter. parameter < shape.parameters) parameters → All (IsPlanned shape parameters) coverages
    → All (Within shape) (places_of_coverages parameters coverages)
plan_within shape parameters [] inside all = All-nil (Within shape)
plan_within shape parameters (planned ∷ coverages) inside all =
    let here = All-head (IsPlanned shape parameters) planned coverages all in
    All-append (Within shape) (places_of_coverage parameters planned) (places_of_coverages parameters coverages)
    (coverage_within shape planned.cells parameters inside here.cells)
    (plan_within shape parameters coverages inside (All-tail (IsPlanned shape parameters) planned coverages all))

-- ---- a slot

abbrev pub slot_of : ℕ → ℕ → GridPlace → Slot
slot_of tile number place = record { tile = tile; number = number; place = place }

pub slot_is : (shape : GridShape) (n : ℕ) (place : GridPlace) (t m : ℕ) (p : GridPlace) → t ≡ tile_of shape p → m ≡ n → p ≡ place → slot_of t m p ≡ slot_at shape n place
slot_is shape n place t m p e f g =
    ap (λ (k : ℕ). slot_of k m p) e ∙ ap (λ (k : ℕ). slot_of (tile_of shape p) k p) f ∙ ap (slot_at shape n) g

-- slots that were added to none
pub from_none : (shape : GridShape) (places : List GridPlace) (a b : List Slot) → a ≡ [] → SlotsGrew shape places a b → b ≡ slots_from shape 0 places
from_none shape places a b e f = f ∙ ap (λ (l : List Slot). l ++ slots_from shape (length l) places) e

-- ---- numbers of which one more is known

get_or_append_here : (xs : List ℕ) (x d : ℕ) → get_or (xs ++ x ∷ []) (length xs) d ≡ x
get_or_append_here [] x d = refl
get_or_append_here (y ∷ xs) x d = get_or_append_here xs x d

pub starts_more : (f : ℕ → ℕ) (old new : List ℕ) (x i : ℕ) → new ≡ old ++ x ∷ [] → length old ≡ i → ((k : ℕ) → k < i → get_or old k 0 ≡ f k) → x ≡ f i
    → (length new ≡ i + 1) × ((k : ℕ) → k < i + 1 → get_or new k 0 ≡ f k)
starts_more f old new x i e long at is = (
  ap length e ∙ length-append old (x ∷ []) ∙ omega (arith, long),
  λ k l. elim (cases_lt k i) [
    | inl early ↦ ap (λ (xs : List ℕ). get_or xs k 0) e ∙ get_or_append_left old (x ∷ []) 0 k (omega (arith, early, long)) ∙ at k early
    | inr late ↦
        let here : k ≡ i = omega (arith, l, late) in
        ap (λ (xs : List ℕ). get_or xs k 0) e ∙ ap (λ (n : ℕ). get_or (old ++ x ∷ []) n 0) (here ∙ sym long) ∙ get_or_append_here old x 0 ∙ is ∙ ap f (sym here)
  ],
)
