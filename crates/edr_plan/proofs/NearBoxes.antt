-- The corners of the box about a line, position by position.
use Rattle.std.proofs.Common.{◌≡◌, ℕ, ◌+◌, ◌<◌, List, [], ◌∷◌, length, take, get_or, All, true, false, cond, sym, subst, arith, ℤ, int_lt}
use Rattle.std.specs.Int.{int_min, int_max}
use Rattle.std.proofs.lemmas.Int.{ints}
use Rattle.std.proofs.lemmas.List.{take_more}
use Rattle.std.proofs.lemmas.List.Elements.{All-nil, All-cons, All-append, All-weaker}
use Rattle.edr_base.specs.declared.places.Position.{Position}
use Rattle.edr_base.specs.declared.places.Spot.{Spot}
use Rattle.edr_base.specs.Limits.{IsCoordinate}
use Rattle.edr_plan.specs.CorridorPlans.{IsLower, IsBefore, IsBehind}

-- ---- numbers within the limits

-- the lower of two coordinates, and the higher
pub lower_in : (a b m : ℤ) → IsCoordinate a → IsCoordinate b → m ≡ int_min a b → IsCoordinate m
lower_in a b m ha hb is = subst IsCoordinate (sym is) (elim (int_lt b a) as (λ t. IsCoordinate (cond t b a)) [ true ↦ hb | false ↦ ha ])

pub higher_in : (a b m : ℤ) → IsCoordinate a → IsCoordinate b → m ≡ int_max a b → IsCoordinate m
higher_in a b m ha hb is = subst IsCoordinate (sym is) (elim (int_lt b a) as (λ t. IsCoordinate (cond t a b)) [ true ↦ ha | false ↦ hb ])

-- ---- positions

-- with the next position
all_more : (P Q : Position → Type 0) → ((p : Position) → P p → Q p) → (line : List Position) (i : ℕ) (d : Position) → i < length line → All P (take i line) → Q (get_or line i d)
    → All Q (take (i + 1) line)
all_more P Q weaker line i d inside so_far next =
    subst (All Q) (sym (take_more line i d inside)) (All-append Q (take i line) (get_or line i d ∷ []) (All-weaker P Q weaker (take i line) so_far) (All-cons Q (get_or line i d) [] next (All-nil Q)))

pub before_more : (least lower : Spot) (line : List Position) (i : ℕ) (d : Position) → i < length line → IsLower lower least → All (IsBefore least) (take i line)
    → IsBefore lower (get_or line i d) → All (IsBefore lower) (take (i + 1) line)
before_more least lower line i d inside is so_far next =
    all_more (IsBefore least) (IsBefore lower) (λ p h. record { x = omega (arith, ints, is.x, h.x); y = omega (arith, ints, is.y, h.y) }) line i d inside so_far next

pub behind_more : (greatest higher : Spot) (line : List Position) (i : ℕ) (d : Position) → i < length line → IsLower greatest higher → All (IsBehind greatest) (take i line)
    → IsBehind higher (get_or line i d) → All (IsBehind higher) (take (i + 1) line)
behind_more greatest higher line i d inside is so_far next =
    all_more (IsBehind greatest) (IsBehind higher) (λ p h. record { x = omega (arith, ints, is.x, h.x); y = omega (arith, ints, is.y, h.y) }) line i d inside so_far next
