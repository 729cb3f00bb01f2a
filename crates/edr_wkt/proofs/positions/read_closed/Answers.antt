use Rattle.edr_wkt.proofs.MemberLemmas.{closed-none, closed-no_mark}
use Rattle.edr_wkt.proofs.positions.read_closed.Goals as goal

pub returns-in_default : goal.returns-in_default
returns-in_default c = closed-none c.args.has_z c.args.has_m c.args.text.now c.in_default.ensures

pub returns-in_default-behind : goal.returns-in_default-behind
returns-in_default-behind c = closed-no_mark c.args.has_z c.args.has_m c.args.text.now _ _ c.in-Some.ensures.1 c.in_default-behind.ensures
