-- Stations made of their parts.
use Rattle.std.proofs.Common.{◌≡◌, ◌≤◌, ℕ, ℤ, List, [], ◌∷◌, ◌++◌, length, take, drop, Option, refl, ap, ◌∙◌, arith}
use Rattle.std.proofs.lemmas.List.{length-append}
use Rattle.edr_base.specs.declared.places.Spot.{Spot}
use Rattle.edr_station.specs.Stations.{StationValue}
use Rattle.edr_station.specs.Kept.{station_with}

front_taken : (xs ys : List ℕ) → take (length xs) (xs ++ ys) ≡ xs
front_taken [] ys = refl
front_taken (x ∷ xs) ys = ap (λ zs. x ∷ zs) (front_taken xs ys)

front_dropped : (xs ys : List ℕ) → drop (length xs) (xs ++ ys) ≡ ys
front_dropped [] ys = refl
front_dropped (x ∷ xs) ys = front_dropped xs ys

pub id_inside : (s : StationValue) (names : List ℕ) (len : ℕ) → names ≡ s.id ++ s.label → len ≡ length s.id → len ≤ length names
id_inside s names len both is = omega (arith, is, ap (λ (ns : List ℕ). length ns) both, length-append s.id s.label)

module _ (s : StationValue) where
  abbrev made : List ℕ → List ℕ → List ℤ → Option (List ℤ) → List (List (Option ℤ)) → StationValue
  made id label ts zs series = record { id = id; label = label; x = s.x; y = s.y; ts = ts; zs = zs; series = series }

  pub parts_are : (names : List ℕ) (len : ℕ) (spot : Spot) (ts : List ℤ) (zs : Option (List ℤ)) (series : List (List (Option ℤ))) → names ≡ s.id ++ s.label → len ≡ length s.id → spot ≡ record { x = s.x; y = s.y } → ts ≡ s.ts → zs ≡ s.zs → series ≡ s.series
      → station_with names len spot ts zs series ≡ s
  parts_are names len spot ts zs series both is here times levels values =
      let id : take len names ≡ s.id = ap (λ (ns : List ℕ). take len ns) both ∙ (ap (λ n. take n (s.id ++ s.label)) is ∙ front_taken s.id s.label) in
      let label : drop len names ≡ s.label = ap (λ (ns : List ℕ). drop len ns) both ∙ (ap (λ n. drop n (s.id ++ s.label)) is ∙ front_dropped s.id s.label) in
      ap (λ (p : Spot). station_with names len p ts zs series) here
      ∙ (ap (λ i. made i (drop len names) ts zs series) id
      ∙ (ap (λ l. made s.id l ts zs series) label
      ∙ (ap (λ t. made s.id s.label t zs series) times ∙ (ap (λ z. made s.id s.label s.ts z series) levels ∙ ap (λ v. made s.id s.label s.ts s.zs v) values))))
