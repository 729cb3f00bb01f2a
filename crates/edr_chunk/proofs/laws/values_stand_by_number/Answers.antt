use Rattle.edr_chunk.proofs.AllPlaceLaws.{places_are_listed}
use Rattle.edr_chunk.proofs.PlaceNumbers.{read_place, read_places, places_agree}
use Rattle.edr_chunk.proofs.laws.values_stand_by_number.Goals as goal

pub returns : goal.returns
returns g c = record {
  listed = places_are_listed;
  reads = λ f s place d w. read_place f s place d w;
  whole = λ values s d long. read_places s values d long;
  agrees = λ f g s same. places_agree f g s same;
}
