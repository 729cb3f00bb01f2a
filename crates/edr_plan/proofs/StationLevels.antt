-- Stations have levels where the first has.
use Rattle.std.proofs.Common.{◌≡◌, ◌<◌, Bool, true, false, List, [], ◌∷◌, length, refl, ap, ap₂, sym, ◌∙◌, arith, inl, inr, IsSome, IsNone, is_some, All, ℤ, Some, None}
use Rattle.std.specs.declared.option.Option.{Option}
use Rattle.std.specs.Prelude.{◌||◌, option_map}
use Rattle.std.specs.List.{list_any}
use Rattle.std.proofs.lemmas.List.Elements.{All-head, All-tail}
use Rattle.edr_station.specs.Stations.{StationValue, station_at}
use Rattle.edr_edition.specs.Editions.{AreAlike}

is_there : (zs : Option (List ℤ)) → IsSome zs → is_some zs ≡ true
is_there (Some values) h = refl
is_there None h = cc

is_absent : (zs : Option (List ℤ)) → IsNone zs → is_some zs ≡ false
is_absent None h = refl
is_absent (Some values) h = cc

pub none_have : (ss : List StationValue) → All (λ (s : StationValue). IsNone s.zs) ss → list_any (λ (s : StationValue). is_some s.zs) ss ≡ false
none_have [] none = refl
none_have (s ∷ ss) none =
    ap₂ (λ (b d : Bool). b || d) (is_absent s.zs (All-head (λ (s : StationValue). IsNone s.zs) s ss none)) (none_have ss (All-tail (λ (s : StationValue). IsNone s.zs) s ss none))

pub first_has_levels : (ss : List StationValue) → AreAlike ss → 0 < length ss → is_some (station_at ss 0).zs ≡ list_any (λ (s : StationValue). is_some s.zs) ss
first_has_levels [] alike some = absurd (omega arith)
first_has_levels (s ∷ ss) (inl each) some =
    let here : is_some s.zs ≡ true = is_there s.zs (All-head (λ (s : StationValue). IsSome s.zs) s ss each) in
    here ∙ sym (ap (λ (b : Bool). b || list_any (λ (s : StationValue). is_some s.zs) ss) here)
first_has_levels (s ∷ ss) (inr none) some = is_absent s.zs (All-head (λ (s : StationValue). IsNone s.zs) s ss none) ∙ sym (none_have (s ∷ ss) none)

pub some_mapped : {X Y : Type 0} (f : X → Y) (o : Option X) → is_some o ≡ is_some (option_map f o)
some_mapped f None = refl
some_mapped f (Some x) = refl
