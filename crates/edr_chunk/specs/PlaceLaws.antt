-- Laws of the numbers of a grid's values, for the proofs of callers.
use Rattle.std.proofs.Common.{◌≡◌, ℕ, ◌+◌, ◌*◌, ◌<◌, List, [], ◌∷◌, sym, ap, ◌∙◌, subst}
use Rattle.std.proofs.Math.Nat.{mul-one, mul_assoc, add-mul, add_assoc}
use Rattle.edr_chunk.specs.declared.shapes.GridShape.{GridShape}
use Rattle.edr_chunk.specs.declared.shapes.GridPlace.{GridPlace}
use Rattle.edr_chunk.specs.Places.{Within, nodes, count, number, node_number, NumbersTellPlaces}
use Rattle.edr_chunk.specs.RowMajorLaws.{row_major-below, row_major-once}

-- an axis: its length, and two places on it
abbrev pub Side : Type 0
Side = ℕ × ℕ × ℕ

abbrev pub length_of : Side → ℕ
length_of side = side.0

abbrev pub place_on : Side → ℕ
place_on side = side.1

abbrev pub other_on : Side → ℕ
other_on side = side.2

-- the axes z, y and x, and those with t
abbrev pub low_sides : GridShape → GridPlace → GridPlace → List Side
low_sides shape a b = (shape.levels, a.z, b.z) ∷ ((shape.rows, a.y, b.y) ∷ ((shape.columns, a.x, b.x) ∷ []))

abbrev pub sides : GridShape → GridPlace → GridPlace → List Side
sides shape a b = (shape.times, a.t, b.t) ∷ low_sides shape a b

-- factors in turn
in_turn : (z y x : ℕ) → (t : ℕ) → t * (z * (y * (x * 1))) ≡ ((t * z) * y) * x
in_turn z y x t =
    ap (λ n. t * (z * (y * n))) (mul-one x) ∙ (sym (mul_assoc t z (y * x)) ∙ sym (mul_assoc (t * z) y x))

pub node_number-below : (shape : GridShape) (place : GridPlace) → Within shape place → node_number shape place < nodes shape
node_number-below shape place within =
    let Below : ℕ → Type 0 = λ n. node_number shape place < n in
    subst Below (in_turn shape.levels shape.rows shape.columns shape.times)
    (row_major-below length_of place_on (low_sides shape place place) place.t shape.times within.t (within.z, (within.y, (within.x, tt))))

pub number-below : (shape : GridShape) (place : GridPlace) → Within shape place → number shape place < count shape
number-below shape place within =
    let Below : ℕ → Type 0 = λ n. number shape place < n in
    subst Below (ap (λ n. shape.parameters * n) (in_turn shape.levels shape.rows shape.columns shape.times))
    (row_major-below length_of place_on (sides shape place place) place.parameter shape.parameters within.parameter (within.t, (within.z, (within.y, (within.x, tt)))))

at : ℕ → ℕ → ℕ → ℕ → ℕ → GridPlace
at p t z y x = record { parameter = p; t = t; z = z; y = y; x = x }

pub number-once : (shape : GridShape) (a b : GridPlace) → Within shape a → Within shape b → number shape a ≡ number shape b → a ≡ b
unfolding at
number-once shape a b in_a in_b same =
    let s = row_major-once length_of place_on other_on (sides shape a b) a.parameter b.parameter
    (in_a.t, (in_a.z, (in_a.y, (in_a.x, tt)))) (in_b.t, (in_b.z, (in_b.y, (in_b.x, tt)))) same in
    ap (λ n. at n a.t a.z a.y a.x) s.0
    ∙ (ap (λ n. at b.parameter n a.z a.y a.x) s.1.0
    ∙ (ap (λ n. at b.parameter b.t n a.y a.x) s.1.1.0
    ∙ (ap (λ n. at b.parameter b.t b.z n a.x) s.1.1.1.0
    ∙ ap (λ n. at b.parameter b.t b.z b.y n) s.1.1.1.1.0)))

-- rows that stand before, one axis more
one_more : (p n k length place : ℕ) → (p * n + k) * length + place ≡ p * (n * length) + (k * length + place)
one_more p n k length place =
    ap (λ m. m + place) (add-mul (p * n) k length ∙ ap (λ m. m + k * length) (mul_assoc p n length)) ∙ add_assoc (p * (n * length)) (k * length) place

-- each parameter's values stand together
pub number-by_node : (shape : GridShape) (place : GridPlace) → number shape place ≡ place.parameter * nodes shape + node_number shape place
number-by_node shape place =
    let p = place.parameter in
    let T = shape.times in
    let Z = shape.levels in
    let Y = shape.rows in
    let X = shape.columns in
    let level = place.t * Z + place.z in
    ap (λ n. (n * Y + place.y) * X + place.x) (one_more p T place.t Z place.z)
    ∙ (ap (λ n. n * X + place.x) (one_more p (T * Z) level Y place.y) ∙ one_more p ((T * Z) * Y) (level * Y + place.y) X place.x)

pub numbers_tell_places : (shape : GridShape) → NumbersTellPlaces shape
numbers_tell_places shape =
    record { below = number-below shape; once = number-once shape; by_node = number-by_node shape; node_below = node_number-below shape }
