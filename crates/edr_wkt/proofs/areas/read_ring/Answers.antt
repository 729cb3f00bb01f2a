use Rattle.edr_wkt.specs.Grammar.{IsPosition}
use Rattle.edr_wkt.proofs.GatherLemmas.{passed_back, list-none_open, list-none, ring-short, ring-read}
use Rattle.edr_wkt.proofs.areas.read_ring.Goals as goal

pub returns-in_default-clause-not_wkt : goal.returns-in_default-clause-not_wkt
returns-in_default-clause-not_wkt c = λ e ps rest h. list-none_open (IsPosition c.args.has_z c.args.has_m) c.args.text.now c.in_default.ensures ps rest h.0

pub returns-then-len-lt-RING_LEAST-clause-not_wkt : goal.returns-then-len-lt-RING_LEAST-clause-not_wkt
returns-then-len-lt-RING_LEAST-clause-not_wkt c = λ e. ring-short c.args.has_z c.args.has_m c.args.text.now _ _ _ _ _ _ c.in-Some.ensures c.in_ok-positions.ensures.read c.if-len-lt-RING_LEAST.true

pub returns-in_err-positions-clause-not_wkt : goal.returns-in_err-positions-clause-not_wkt
returns-in_err-positions-clause-not_wkt c = λ e ps rest h. list-none (IsPosition c.args.has_z c.args.has_m) c.args.text.now _ c.in-Some.ensures (c.in_err-positions.ensures.not_wkt (passed_back c.from_residual.result c.in_err-positions.field-0.0 _ c.from_residual.ensures e)) ps rest h.0

pub returns-clause-read : goal.returns-clause-read
returns-clause-read c = ring-read c.args.has_z c.args.has_m c.args.text.now _ _ _ _ _ _ c.in-Some.ensures c.in_ok-positions.ensures.read c.if-len-lt-RING_LEAST.false
