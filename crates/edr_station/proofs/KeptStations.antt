-- The stations of a collection after one of them is set or taken out.
use Rattle.std.proofs.Common.{◌≡◌, ℕ, ◌+◌, ◌*◌, ◌^◌, ◌<◌, ◌≤◌, List, [], inl, inr, length, take, drop, All, Some, None, Ok, refl, sym, ap, ◌∙◌, subst, arith}
use Rattle.std.proofs.Math.Seq.{take-add}
use Rattle.std.proofs.lemmas.List.Elements.{All-nil, All-cons}
use Rattle.std.proofs.lemmas.List.Sums.{sum_by-append, sum_by-take-drop}
use Rattle.std.specs.Prelude.{sum_by}
use Rattle.edr_ids.specs.Ids.{AscendBy, with_item, without_id}
use Rattle.edr_ids.specs.ListLaws.{AscendBy-nil, AscendBy-with_item, AscendBy-without_id}
use Rattle.edr_station.specs.Stations.{StationValue, StationsValue, IsStation, station_id}
use Rattle.edr_station.specs.Blocks.{blocks, blocks_of}
use Rattle.edr_station.specs.Shelves.{splice}
use Rattle.edr_station.specs.Places.{IsPlaceOf, IsSpanOf, AreKept}
use Rattle.edr_station.proofs.SortedPlaces.{set_new, set_one, left_one, spliced_all}

-- none
pub none_kept : (parameters : ℕ) → AreKept (record { parameters = parameters; stations = [] })
none_kept parameters = record {
  stations = record { each = All-nil (IsStation parameters); ascending = AscendBy-nil station_id };
  counted = omega arith;
}

pub span_fits : (id : List ℕ) (stations : List StationValue) (place end : ℕ) → IsSpanOf id stations place end → (place ≤ end) × (end ≤ place + 1) × (end ≤ length stations)
span_fits id stations place end (inl span) = (omega (arith, span.0), omega (arith, span.0), omega (arith, span.0, span.1.0))
span_fits id stations place end (inr span) = (omega (arith, span.0), omega (arith, span.0), omega (arith, span.0, span.1.0))

pub with_span : (new : StationValue) (stations : List StationValue) (place end : ℕ) → AscendBy station_id stations → IsSpanOf new.id stations place end
    → with_item station_id new stations ≡ splice place end (Some new) stations
with_span new stations place end up (inl span) =
    set_new new.id stations place span.1.1 span.1.2 new refl ∙ ap (λ n. splice place n (Some new) stations) (sym span.0)
with_span new stations place end up (inr span) =
    set_one new.id stations up place span.1.0 span.1.1 new refl ∙ ap (λ n. splice place n (Some new) stations) (sym span.0)

pub kept_with : (collection : StationsValue) (new : StationValue) (place end : ℕ) (stations : List StationValue) → AreKept collection → IsStation collection.parameters new
    → IsSpanOf new.id collection.stations place end → stations ≡ splice place end (Some new) collection.stations → blocks collection.parameters stations < 2 ^ 64
    → AreKept (record { parameters = collection.parameters; stations = stations })
kept_with collection new place end stations kept is span made counted =
    let whole : with_item station_id new collection.stations ≡ stations = with_span new collection.stations place end kept.stations.ascending span ∙ sym made in
    record {
      stations = record {
        each = subst (All (IsStation collection.parameters)) (sym made)
            (spliced_all (IsStation collection.parameters) place end (Some new) collection.stations kept.stations.each
            (All-cons (IsStation collection.parameters) new [] is (All-nil (IsStation collection.parameters))));
        ascending = subst (AscendBy station_id) whole (AscendBy-with_item station_id new collection.stations kept.stations.ascending);
      };
      counted = counted;
    }

fewer : (f : StationValue → ℕ) (stations : List StationValue) (place : ℕ) → sum_by f (splice place (place + 1) None stations) ≤ sum_by f stations
fewer f stations place =
    let parts = sum_by-append f (take place stations) (drop (place + 1) stations) in
    let split = sum_by-take-drop f stations (place + 1) in
    let more = ap (sum_by f) (take-add place 1 stations) ∙ sum_by-append f (take place stations) (take 1 (drop place stations)) in
    omega (arith, parts, split, more)

pub kept_without : (collection : StationsValue) (id : List ℕ) (place : ℕ) (stations : List StationValue) → AreKept collection → IsPlaceOf id collection.stations (Ok place)
    → stations ≡ splice place (place + 1) None collection.stations → AreKept (record { parameters = collection.parameters; stations = stations })
kept_without collection id place stations kept at made =
    let left : without_id station_id id collection.stations ≡ stations = left_one id collection.stations kept.stations.ascending place at.0 at.1 ∙ sym made in
    let total = fewer (λ (s : StationValue). collection.parameters * blocks_of s) collection.stations place in
    let here : blocks collection.parameters stations ≡ blocks collection.parameters (splice place (place + 1) None collection.stations) = ap (blocks collection.parameters) made in
    record {
      stations = record {
        each = subst (All (IsStation collection.parameters)) (sym made)
            (spliced_all (IsStation collection.parameters) place (place + 1) None collection.stations kept.stations.each (All-nil (IsStation collection.parameters)));
        ascending = subst (AscendBy station_id) left (AscendBy-without_id station_id id collection.stations kept.stations.ascending);
      };
      counted = omega (arith, here, total, kept.counted);
    }
