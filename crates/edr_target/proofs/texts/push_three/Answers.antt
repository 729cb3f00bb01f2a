use Rattle.std.proofs.Common.{arith}
use Rattle.std.proofs.lemmas.List.{append_assoc}
use Rattle.edr_target.proofs.texts.push_three.Goals as goal

pub returns : goal.returns
returns c = grind (arith, append_assoc)
