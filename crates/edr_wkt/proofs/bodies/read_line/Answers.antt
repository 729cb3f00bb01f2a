use Rattle.edr_wkt.proofs.GatherLemmas.{passed_back}
use Rattle.edr_wkt.proofs.BodyLemmas.{line-none, line-short, line-read}
use Rattle.edr_wkt.proofs.bodies.read_line.Goals as goal

pub returns-then-len-lt-LINE_LEAST-clause-not_wkt : goal.returns-then-len-lt-LINE_LEAST-clause-not_wkt
returns-then-len-lt-LINE_LEAST-clause-not_wkt c = λ e. line-short c.args.has_z c.args.has_m c.args.text.now _ _ _ _ _ c.in_ok-positions.ensures.read c.if-len-lt-LINE_LEAST.true

pub returns-clause-read : goal.returns-clause-read
returns-clause-read c = line-read c.args.has_z c.args.has_m c.args.text.now _ _ _ _ _ c.in_ok-positions.ensures.read c.if-len-lt-LINE_LEAST.false

pub returns-in_err-positions-clause-not_wkt : goal.returns-in_err-positions-clause-not_wkt
returns-in_err-positions-clause-not_wkt c = λ e. line-none c.args.has_z c.args.has_m c.args.text.now (λ ps rest h two. c.in_err-positions.ensures.not_wkt (passed_back c.from_residual.result c.in_err-positions.field-0.0 _ c.from_residual.ensures e) ps rest h)
