use Rattle.std.proofs.Common.{◌≡◌, false, sym, ◌∙◌}
use Rattle.std.proofs.lemmas.Bool.{false≢true}
use Rattle.edr_wkt.proofs.GatherLemmas.{passed_back}
use Rattle.edr_wkt.proofs.BodyLemmas.{points-none, points-other, points-read}
use Rattle.edr_wkt.proofs.bodies.read_points.Goals as goal
use Rattle.edr_wkt.proofs.bodies.read_points.Goals.{else-not-multi-via-then-not-multi+else-len-ne1, else-not-multi-via-else-not-multi}

pub returns-in_err-positions-clause-not_wkt : goal.returns-in_err-positions-clause-not_wkt
returns-in_err-positions-clause-not_wkt c = λ e.
    points-none c.args.multi c.args.has_z c.args.has_m c.args.text.now (c.in_err-positions.ensures.not_wkt (passed_back c.from_residual.result c.in_err-positions.field-0.0 _ c.from_residual.ensures e))

pub returns-then-len-ne1-clause-not_wkt : goal.returns-then-len-ne1-clause-not_wkt
returns-then-len-ne1-clause-not_wkt c = λ e.
    points-other c.args.multi c.args.has_z c.args.has_m c.args.text.now _ _ _ _ _ c.in_ok-positions.ensures.read c.if-not-multi.true c.if-len-ne1.true

pub returns-clause-read : goal.returns-clause-read
returns-clause-read c =
    let one : c.args.multi ≡ false → c.in_ok-positions.len ≡ 1 =
    elim c.else-not-multi.branch [
      | else-not-multi-via-then-not-multi+else-len-ne1 w ↦ λ no. w.if-len-ne1.false
      | else-not-multi-via-else-not-multi w ↦ λ no. absurd (false≢true (sym no ∙ w.if-not-multi.false))
    ] in
    points-read c.args.multi c.args.has_z c.args.has_m c.args.text.now _ _ _ _ _ c.in_ok-positions.ensures.read one
