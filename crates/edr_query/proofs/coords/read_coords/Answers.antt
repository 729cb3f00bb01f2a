use Rattle.std.proofs.Common.{refl, subst, inr, List, ℕ}
use Rattle.std.specs.Prelude.{Err}
use Rattle.edr_wkt.specs.Faults.{MatchWkt}
use Rattle.edr_query.proofs.CoordsLemmas.{no_geometry}
use Rattle.edr_query.proofs.coords.read_coords.Goals as goal

pub returns-in_default-fault : goal.returns-in_default-fault
returns-in_default-fault c =
    let P : List ℕ → Type 0 = λ t. MatchWkt (Err c.in-Err.fault) t in
    inr (
      refl,
      (
        c.in-Some.text.now,
        c.in-Some.ensures,
        no_geometry c.wkt_is_one.ensures c.faultless_geometries_have_no_fault.ensures c.in-Some.text.now c.in-Err.fault c.in_default-fault.not-OutOfMemory (subst P c.as_bytes.ensures.value c.in-Err.ensures),
      ),
    )
