-- The spans of values and of some more, and those of the levels of stations.
use Rattle.std.proofs.Common.{◌≡◌, ◌<◌, ℤ, Bool, true, false, ◌||◌, if◌then◌else◌, List, [], ◌∷◌, ◌++◌, length, All, Option, None, Some, IfSome, is_some, option_map, refl, ap, sym, ◌∙◌, arith}
use Rattle.std.specs.List.{flat_map, list_any}
use Rattle.std.proofs.lemmas.Int.{ints}
use Rattle.std.proofs.lemmas.List.Elements.{All-nil, All-cons, All-head, All-tail, All-append}
use Rattle.std.proofs.lemmas.List.{append-nil}
use Rattle.std.proofs.lemmas.List.Concat.{flat_map-append}
use Rattle.covjson_value.specs.Samples.{values_or_none}
use Rattle.edr_base.specs.Limits.{IsCoordinate}
use Rattle.edr_station.specs.Stations.{StationValue, IsAxisWithin, IsPlaced}
use Rattle.edr_describe.specs.declared.reaches.Span.{Span}
use Rattle.edr_describe.specs.Extents.{lower, higher, least, greatest, levels_of_stations}
use Rattle.edr_describe.specs.Reaches.{span_of, span_with, span_with_given}

lower_again : (a b c : ℤ) → lower a (lower b c) ≡ lower (lower a b) c
lower_again a b c = grind (arith, ints)

higher_again : (a b c : ℤ) → higher a (higher b c) ≡ higher (higher a b) c
higher_again a b c = grind (arith, ints)

least_more : (v : ℤ) (a : List ℤ) (w : ℤ) (b : List ℤ) → lower (least (v ∷ a)) (least (w ∷ b)) ≡ least (v ∷ (a ++ w ∷ b))
least_more v [] w b = refl
least_more v (u ∷ a) w b = sym (lower_again v (least (u ∷ a)) (least (w ∷ b))) ∙ ap (lower v) (least_more u a w b)

greatest_more : (v : ℤ) (a : List ℤ) (w : ℤ) (b : List ℤ) → higher (greatest (v ∷ a)) (greatest (w ∷ b)) ≡ greatest (v ∷ (a ++ w ∷ b))
greatest_more v [] w b = refl
greatest_more v (u ∷ a) w b = sym (higher_again v (greatest (u ∷ a)) (greatest (w ∷ b))) ∙ ap (higher v) (greatest_more u a w b)

-- some values and some more
pub span_more : (a b : List ℤ) → 0 < length a → 0 < length b → span_with (span_of a) (span_of b) ≡ span_of (a ++ b)
span_more [] b some more = absurd (omega (arith, some))
span_more (v ∷ a) [] some more = absurd (omega (arith, more))
span_more (v ∷ a) (w ∷ b) some more = rw (least_more v a w b, greatest_more v a w b) refl

-- ---- values of which there may be none

abbrev span_if_some : List ℤ → Option Span
span_if_some [] = None
span_if_some (v ∷ values) = Some (span_of (v ∷ values))

abbrev are_some : List ℤ → Bool
are_some [] = false
are_some (v ∷ values) = true

given_more : (a b : List ℤ) → span_with_given (span_if_some a) (span_if_some b) ≡ span_if_some (a ++ b)
given_more [] b = refl
given_more (v ∷ a) [] = rw (append-nil a) refl
given_more (v ∷ a) (w ∷ b) = ap Some (span_more (v ∷ a) (w ∷ b) (omega arith) (omega arith))

given_if : (given : Bool) (values : List ℤ) → given ≡ are_some values → option_map span_of (if given then Some values else None) ≡ span_if_some values
given_if given [] is = rw is refl
given_if given (v ∷ values) is = rw is refl

-- ---- levels

abbrev levels_in : List StationValue → List ℤ
levels_in stations = flat_map (λ (s : StationValue). values_or_none s.zs) stations

one_given : (zs : Option (List ℤ)) → IfSome zs (IsAxisWithin IsCoordinate) → option_map span_of zs ≡ span_if_some (values_or_none zs)
one_given None within = refl
one_given (Some []) within = absurd (omega (arith, within.axis.some))
one_given (Some (z ∷ zs)) within = refl

first_some : (zs : Option (List ℤ)) (given : Bool) (values : List ℤ) → IfSome zs (IsAxisWithin IsCoordinate) → given ≡ are_some values
    → (is_some zs || given) ≡ are_some (values_or_none zs ++ values)
first_some None given values within is = is
first_some (Some []) given values within is = absurd (omega (arith, within.axis.some))
first_some (Some (z ∷ zs)) given values within is = refl

are_given : (stations : List StationValue) → All IsPlaced stations → list_any (λ (s : StationValue). is_some s.zs) stations ≡ are_some (levels_in stations)
are_given [] placed = refl
are_given (s ∷ stations) placed =
    first_some s.zs (list_any (λ (o : StationValue). is_some o.zs) stations) (levels_in stations) (All-head IsPlaced s stations placed).zs
    (are_given stations (All-tail IsPlaced s stations placed))

levels_are : (stations : List StationValue) → All IsPlaced stations → option_map span_of (levels_of_stations stations) ≡ span_if_some (levels_in stations)
levels_are stations placed = given_if (list_any (λ (s : StationValue). is_some s.zs) stations) (levels_in stations) (are_given stations placed)

-- the levels of stations and of one more
pub levels_more : (stations : List StationValue) (s : StationValue) → All IsPlaced stations → IsPlaced s
    → span_with_given (option_map span_of (levels_of_stations stations)) (option_map span_of s.zs) ≡ option_map span_of (levels_of_stations (stations ++ s ∷ []))
levels_more stations s placed one =
    let With : Option Span → Option Span = λ span. span_with_given span (option_map span_of s.zs) in
    let all : All IsPlaced (stations ++ s ∷ []) = All-append IsPlaced stations (s ∷ []) placed (All-cons IsPlaced s [] one (All-nil IsPlaced)) in
    let more : levels_in (stations ++ s ∷ []) ≡ levels_in stations ++ values_or_none s.zs =
    flat_map-append (λ (o : StationValue). values_or_none o.zs) stations (s ∷ []) ∙ ap (λ l. levels_in stations ++ l) (append-nil (values_or_none s.zs)) in
    ap With (levels_are stations placed)
    ∙ (ap (span_with_given (span_if_some (levels_in stations))) (one_given s.zs one.zs)
    ∙ (given_more (levels_in stations) (values_or_none s.zs) ∙ (ap span_if_some (sym more) ∙ sym (levels_are (stations ++ s ∷ []) all))))
