use Rattle.std.proofs.Common.{arith, List, ap, ◌∙◌, subst, length, get_or, ◌≡◌, Err}
use Rattle.edr_base.specs.declared.places.Position.{Position}
use Rattle.edr_wkt.specs.Faults.{IsInRange}
use Rattle.edr_wkt.specs.Checks.{MatchGood}
use Rattle.edr_wkt.proofs.CheckLemmas.{good-room, good-bad}
use Rattle.edr_wkt.proofs.GatherLemmas.{passed_on}
use Rattle.edr_wkt.proofs.checks.check_rings.Goals as goal

pub check_positions-requires : goal.check_positions-requires
check_positions-requires c =
    let list = c.args.rings.now in
    let at = c.loop-ring.ring-index in
    let f : List Position → List Position = λ r. r in
    let e : c.items.result.now ≡ f (get_or list at c.ring-item.result) = c.items.ensures ∙ c.ring-item.is in
    omega (arith, ap length e, good-room IsInRange f list c.args.before at c.loop-ring.count c.ring-item.result c.loop-ring-test.true c.loop-ring.invariant, c.requires)

pub returns-in_err-count : goal.returns-in_err-count
returns-in_err-count c =
    let list = c.args.rings.now in
    let at = c.loop-ring.ring-index in
    let f : List Position → List Position = λ r. r in
    let e : c.items.result.now ≡ f (get_or list at c.ring-item.result) = c.items.ensures ∙ c.ring-item.is in
    rw (passed_on c.from_residual.result c.in_err-count.field-0.0 c.from_residual.ensures)
    (good-bad IsInRange f list c.args.before at c.loop-ring.count c.in_err-count.field-0.0 c.ring-item.result c.loop-ring-test.true c.loop-ring.invariant
    (let P : List Position → Type 0 = λ l. MatchGood (Err c.in_err-count.field-0.0) IsInRange l c.loop-ring.count in subst P e c.in_err-count.ensures))
