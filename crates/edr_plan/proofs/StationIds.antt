-- Stations by their ids, and their samples by parameters, times and levels.
use Rattle.std.proofs.Common.{Bool, Equal, IfSome, Less, List, None, Some, [], ap, arith, bytes_eq, get_or, inl, inr, length, map, refl, sym, true, ℕ, ℤ, ◌<◌, ◌∙◌, ◌≡◌}
use Rattle.std.specs.List.Sorted.{IsStrictlySortedBy}
use Rattle.std.specs.Ordering.{int_eq}
use Rattle.std.specs.Prelude.{◌&&◌}
use Rattle.std.specs.declared.option.Option.{Option}
use Rattle.std.proofs.lemmas.Bool.{and_from, and_parts, cases_lt}
use Rattle.std.proofs.lemmas.Bool.Decides.{Decides-int_eq}
use Rattle.std.proofs.lemmas.List.{get_or-map, length-map}
use Rattle.std.proofs.lemmas.Map.Keys.{Less-from_sorted}
use Rattle.std.proofs.lemmas.Slice.Eq.{bytes_eq-Decides}
use Rattle.covjson_value.specs.Coverages.{AscendById, ids_of}
use Rattle.covjson_value.specs.Samples.{Node, is_of, same_node, same_where_given}
use Rattle.covjson_value.specs.declared.coverages.Parameter.{Parameter}
use Rattle.edr_axes.specs.Axes.{axis_length, value_at}
use Rattle.edr_axes.specs.AxisLaws.{ascending_once}
use Rattle.edr_base.specs.Limits.{IsCoordinate}
use Rattle.edr_base.specs.Names.{order}
use Rattle.edr_corridor.specs.Boxes.{level_at}
use Rattle.edr_ids.specs.Ids.{AscendBy}
use Rattle.edr_ids.specs.ListLaws.{order_itself}
use Rattle.edr_select.specs.Documents.{same_station}
use Rattle.edr_select.specs.Samples.{Stored, id_at}
use Rattle.edr_station.specs.Stations.{IsAxisWithin, IsStation, StationValue, nowhere, station_at, station_id}
use Rattle.edr_plan.specs.StationPlaces.{stored_in}

-- equal ids stand at one place
one_id : (ids : List (List ℕ)) → IsStrictlySortedBy order ids → (j k : ℕ) → j < length ids → k < length ids → get_or ids j [] ≡ get_or ids k [] → j ≡ k
one_id ids up j k hj hk same =
    elim (cases_lt j k) [
      | inl lt ↦ absurd (apart j k lt hk same)
      | inr ge ↦ elim (cases_lt k j) [
        | inl lt ↦ absurd (apart k j lt hj (sym same))
        | inr le ↦ omega arith
      ]
    ]
  where
    unequal : Less ≡ Equal → ⊥
    unequal e = cc

    apart : (low high : ℕ) → low < high → high < length ids → get_or ids low [] ≡ get_or ids high [] → ⊥
    apart low high lt inside e =
        unequal (sym (Less-from_sorted order ids low high [] up lt inside) ∙ ap (λ id. order id (get_or ids high [])) e ∙ order_itself (get_or ids high []))

pub one_station : (ss : List StationValue) → AscendBy station_id ss → (j k : ℕ) → j < length ss → k < length ss → (station_at ss j).id ≡ (station_at ss k).id → j ≡ k
one_station ss up j k hj hk same =
    one_id (map station_id ss) up j k (omega (arith, length-map ss station_id)) (omega (arith, length-map ss station_id))
    (get_or-map station_id ss j nowhere [] hj ∙ (same ∙ sym (get_or-map station_id ss k nowhere [] hk)))

one_parameter : (ps : List Parameter) → AscendById ps → (j k : ℕ) → j < length ps → k < length ps → id_at ps j ≡ id_at ps k → j ≡ k
one_parameter ps up j k hj hk same =
    one_id (ids_of ps) up j k (omega (arith, length-map ps (λ (p : Parameter). p.id))) (omega (arith, length-map ps (λ (p : Parameter). p.id))) same

same_level : (zs : Option (List ℤ)) → IfSome zs (IsAxisWithin IsCoordinate) → (k l : ℕ) → k < axis_length zs → l < axis_length zs
    → same_where_given (level_at zs k) (level_at zs l) ≡ true → k ≡ l
same_level None axis k l hk hl same = omega arith
same_level (Some values) axis k l hk hl same =
    ascending_once values axis.axis.ascending k l hk hl ((Decides-int_eq (value_at values k) (value_at values l)).0 same)

same_itself : (v : Option ℤ) → same_where_given v v ≡ true
same_itself None = refl
same_itself (Some v) = (Decides-int_eq v v).1 refl

module _ (ps : List Parameter) (ss : List StationValue) (k p t z : ℕ) where
  -- the sample is of this station and parameter, at this node
  abbrev pub is_there : Stored → Bool
  is_there x = same_station x.station (Some (station_at ss k).id) && is_of (id_at ps p) (stored_in ps ss k p t z).sample.at x.sample

  pub itself : is_there (stored_in ps ss k p t z) ≡ true
  itself =
      let n : Node = (stored_in ps ss k p t z).sample.at in
      and_from _ _ ((bytes_eq-Decides (station_at ss k).id (station_at ss k).id).1 refl)
      (and_from _ _ ((bytes_eq-Decides (id_at ps p) (id_at ps p)).1 refl)
      (and_from _ _ (and_from _ _ (and_from _ _ (same_itself n.t) (same_itself n.z)) ((Decides-int_eq n.y n.y).1 refl)) ((Decides-int_eq n.x n.x).1 refl)))

  module _ (are : IsStation (length ps) (station_at ss k)) (ids : AscendById ps)
      (hp : p < length ps) (ht : t < length (station_at ss k).ts) (hz : z < axis_length (station_at ss k).zs) where
    -- it stands at these places
    pub same_place : (a b c : ℕ) → a < length ps → b < length (station_at ss k).ts → c < axis_length (station_at ss k).zs
        → is_there (stored_in ps ss k a b c) ≡ true → (a ≡ p) × (b ≡ t) × (c ≡ z)
    same_place a b c ha hb hc h =
        let x : Stored = stored_in ps ss k a b c in
        let n : Node = (stored_in ps ss k p t z).sample.at in
        let of = and_parts (same_station x.station (Some (station_at ss k).id)) (is_of (id_at ps p) n x.sample) h in
        let at = and_parts (bytes_eq (id_at ps a) (id_at ps p)) (same_node x.sample.at n) of.1 in
        let row = and_parts (same_where_given x.sample.at.t n.t && same_where_given x.sample.at.z n.z && int_eq x.sample.at.y n.y) (int_eq x.sample.at.x n.x) at.1 in
        let levels = and_parts (same_where_given x.sample.at.t n.t && same_where_given x.sample.at.z n.z) (int_eq x.sample.at.y n.y) row.0 in
        let when = and_parts (same_where_given x.sample.at.t n.t) (same_where_given x.sample.at.z n.z) levels.0 in (
          one_parameter ps ids a p ha hp ((bytes_eq-Decides (id_at ps a) (id_at ps p)).0 at.0),
          ascending_once (station_at ss k).ts are.placed.ts.axis.ascending b t hb ht ((Decides-int_eq (value_at (station_at ss k).ts b) (value_at (station_at ss k).ts t)).0 when.0),
          same_level (station_at ss k).zs are.placed.zs c z hc hz when.1,
        )
