-- The value of a sample that is picked is found at its node.
use Rattle.std.proofs.Common.{◌≡◌, Bool, true, ap, None}
use Rattle.std.specs.Prelude.{◌&&◌, unwrap_or}
use Rattle.covjson_value.specs.Samples.{is_of}
use Rattle.edr_chunk.specs.declared.shapes.GridPlace.{GridPlace}
use Rattle.edr_chunk.specs.Grids.{value}
use Rattle.edr_chunk.specs.Places.{Within}
use Rattle.edr_edition.specs.Values.{InstanceValue}
use Rattle.edr_query.specs.Values.{QueryValue}
use Rattle.edr_select.specs.Samples.{Stored, id_at, node_at}
use Rattle.edr_select.specs.Documents.{same_station, value_in}
use Rattle.edr_select.specs.Choices.{TakesEach}
use Rattle.edr_select.specs.ListLaws.{find_each}
use Rattle.edr_select.proofs.Picks.{picks_at, Taken, found_pick, each_pick}
use Rattle.edr_select.specs.GridLaws.{IsGrid, same_stored, stored_itself}

pub value_at_place : (i : InstanceValue) (q : QueryValue) → TakesEach q.shape → (a : GridPlace) → IsGrid i → Within i.grid.shape a → Taken i q a
    → value_in (picks_at i q) None (id_at i.parameters a.parameter) (node_at i a) ≡ value i.grid a
value_at_place i q each a g within taken =
    let test : Stored → Bool = λ x. same_station x.station None && is_of (id_at i.parameters a.parameter) (node_at i a) x.sample in
    ap (λ v. unwrap_or v None)
    (find_each test (λ (x : Stored). x.sample.value) (value i.grid a) (picks_at i q)
    (each_pick i q (λ x. test x ≡ true → x.sample.value ≡ value i.grid a) (λ b wb h. ap (value i.grid) (same_stored i g a b within wb h)))
    (found_pick i q each test a within taken (stored_itself i a)))
