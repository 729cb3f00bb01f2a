use Rattle.std.proofs.Common.{length, ap, sym, arith}
use Rattle.edr_ids.proofs.Branches.{parts_are, same_items, same_count}
use Rattle.edr_ids.proofs.trees.joined.Goals as goal

pub returns : goal.returns
returns g c = parts_are (same_items c.in_ok-new.ensures.ok) (sym c.in_ok-share.ensures) (sym c.in_ok-try_clone.ensures) (sym c.in_ok-share-2.ensures)

pub invariant_of-result : goal.invariant_of-result
invariant_of-result g c = same_count c.in_ok-new.ensures.ok (omega (arith, ap length c.in_ok-share.ensures, ap length c.in_ok-share-2.ensures))
