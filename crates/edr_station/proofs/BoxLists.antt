-- The places of the stations inside a box, list by list.
use Rattle.std.proofs.Common.{◌≡◌, ℕ, suc, ◌+◌, ◌<◌, ◌++◌, ◌∷◌, true, false, if◌then◌else◌, List, [], length, map, take, get_or, ap, ◌∙◌, arith}
use Rattle.std.specs.List.{filter, enumerate_from}
use Rattle.std.proofs.Math.Seq.{take-suc}
use Rattle.std.proofs.lemmas.List.{append-nil, map-append, length-take}
use Rattle.std.proofs.lemmas.List.Elements.{filter-append}
use Rattle.edr_base.specs.declared.places.Spot.{Spot}
use Rattle.edr_station.specs.Stations.{StationValue}
use Rattle.edr_station.specs.Boxes.{is_inside, Placed, place_of, is_placed_inside, places_from}

enumerate-append : (n : ℕ) (xs ys : List StationValue) → enumerate_from n (xs ++ ys) ≡ enumerate_from n xs ++ enumerate_from (n + length xs) ys
enumerate-append n [] ys = ap (λ k. enumerate_from k ys) (let e : n ≡ n + 0 = omega arith in e)
enumerate-append n (x ∷ xs) ys =
    let behind : n + 1 + length xs ≡ n + length (x ∷ xs) = omega arith in
    ap (λ (rest : List Placed). (n, x) ∷ rest)
    (enumerate-append (n + 1) xs ys ∙ ap (λ k. enumerate_from (n + 1) xs ++ enumerate_from k ys) behind)

-- those of one list and then those of another
pub places-append : (first : ℕ) (lo hi : Spot) (xs ys : List StationValue)
    → places_from first lo hi (xs ++ ys) ≡ places_from first lo hi xs ++ places_from (first + length xs) lo hi ys
places-append first lo hi xs ys =
    let test = is_placed_inside lo hi in
    ap (λ (placed : List Placed). map place_of (filter test placed)) (enumerate-append first xs ys)
    ∙ (ap (map place_of) (filter-append test (enumerate_from first xs) (enumerate_from (first + length xs) ys))
    ∙ map-append place_of (filter test (enumerate_from first xs)) (filter test (enumerate_from (first + length xs) ys)))

one_yes : (place : ℕ) (lo hi : Spot) (s : StationValue) → is_inside lo hi s ≡ true → places_from place lo hi (s ∷ []) ≡ place ∷ []
one_yes place lo hi s h = ap (λ b. map place_of (if b then (place, s) ∷ [] else [])) h

one_no : (place : ℕ) (lo hi : Spot) (s : StationValue) → is_inside lo hi s ≡ false → places_from place lo hi (s ∷ []) ≡ []
one_no place lo hi s h = ap (λ b. map place_of (if b then (place, s) ∷ [] else [])) h

module _ (first : ℕ) (lo hi : Spot) (stations : List StationValue) (i : ℕ) (s : StationValue) (inside : i < length stations) (is : get_or stations i s ≡ s) where
  one_more : places_from first lo hi (take (i + 1) stations) ≡ places_from first lo hi (take i stations) ++ places_from (first + i) lo hi (s ∷ [])
  one_more =
      let next : i + 1 ≡ suc i = omega arith in
      let long : length (take i stations) ≡ i = omega (arith, length-take i stations) in
      ap (λ n. places_from first lo hi (take n stations)) next
      ∙ (ap (places_from first lo hi) (take-suc stations i s inside ∙ ap (λ (x : StationValue). take i stations ++ x ∷ []) is)
      ∙ (places-append first lo hi (take i stations) (s ∷ [])
      ∙ ap (λ n. places_from first lo hi (take i stations) ++ places_from (first + n) lo hi (s ∷ [])) long))

  pub places_more_yes : is_inside lo hi s ≡ true → places_from first lo hi (take (i + 1) stations) ≡ places_from first lo hi (take i stations) ++ (first + i) ∷ []
  places_more_yes h = one_more ∙ ap (λ more. places_from first lo hi (take i stations) ++ more) (one_yes (first + i) lo hi s h)

  pub places_more_no : is_inside lo hi s ≡ false → places_from first lo hi (take (i + 1) stations) ≡ places_from first lo hi (take i stations)
  places_more_no h =
      one_more ∙ (ap (λ more. places_from first lo hi (take i stations) ++ more) (one_no (first + i) lo hi s h) ∙ append-nil (places_from first lo hi (take i stations)))
