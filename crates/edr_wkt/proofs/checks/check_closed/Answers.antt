use Rattle.std.proofs.Common.{◌≡◌, ◌∙◌, arith, List, get_or, subst}
use Rattle.edr_base.specs.declared.places.Position.{Position}
use Rattle.edr_base.specs.TestLaws.{fails}
use Rattle.edr_wkt.specs.Faults.{IsClosed}
use Rattle.edr_wkt.proofs.CheckLemmas.{first_bad-at}
use Rattle.edr_wkt.proofs.checks.check_closed.Goals as goal

pub returns-then-not-is_closed : goal.returns-then-not-is_closed
returns-then-not-is_closed c =
    let e : c.items.result.now ≡ get_or c.args.rings.now c.loop-i.i c.index-rings-i.result = c.items.ensures ∙ c.index-rings-i.is in
    let P : List Position → Type 0 = λ l. ¬ (IsClosed l) in
    (_, first_bad-at IsClosed c.args.rings.now c.loop-i.i c.index-rings-i.result (omega arith) c.loop-i.invariant (subst P e (fails _ _ c.is_closed.ensures c.if-not-is_closed.true)), omega arith)
