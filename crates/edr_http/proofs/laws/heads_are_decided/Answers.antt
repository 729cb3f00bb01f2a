use Rattle.edr_http.proofs.HeadLemmas.{decided}
use Rattle.edr_http.proofs.laws.heads_are_decided.Goals as goal

pub returns : goal.returns
returns c = decided c.args.bytes.now c.find_head.new.fields c.find_head.result c.find_head.ensures
