use Rattle.std.proofs.Common.{sym, subst, arith}
use Rattle.edr_cache.specs.Entries.{IsKept}
use Rattle.edr_cache.proofs.EntryLemmas.{empty_kept}
use Rattle.edr_cache.proofs.kept.Kept.of.Goals as goal

pub invariant_of-result : goal.invariant_of-result
invariant_of-result c =
    let room = c.in-Some.room in
    subst IsKept (sym c.in_ok-new-in-Some.ensures) (empty_kept room.value (omega (arith, c.in-Some.ensures, c.requires)) room.ok)
