use Rattle.edr_wkt.specs.Grammar.{IsRing}
use Rattle.edr_wkt.proofs.GatherLemmas.{passed_back, list-none_open, list-none, polygon-read}
use Rattle.edr_wkt.proofs.areas.read_polygon.Goals as goal

pub returns-in_default-clause-not_wkt : goal.returns-in_default-clause-not_wkt
returns-in_default-clause-not_wkt c = λ e p rest h. list-none_open (IsRing c.args.has_z c.args.has_m) c.args.text.now c.in_default.ensures p.rings rest h

pub returns-clause-read : goal.returns-clause-read
returns-clause-read c = polygon-read c.args.has_z c.args.has_m c.args.text.now _ _ _ _ _ c.in-Some.ensures c.in_ok-rings.ensures.read

pub returns-in_err-rings-clause-not_wkt : goal.returns-in_err-rings-clause-not_wkt
returns-in_err-rings-clause-not_wkt c = λ e p rest h. list-none (IsRing c.args.has_z c.args.has_m) c.args.text.now _ c.in-Some.ensures (c.in_err-rings.ensures.not_wkt (passed_back c.from_residual.result c.in_err-rings.field-0.0 _ c.from_residual.ensures e)) p.rings rest h
