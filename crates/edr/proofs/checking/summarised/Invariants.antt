use Rattle.std.proofs.Common.{◌≡◌, take}
use Rattle.edr.specs.Outputs.{summary_lines}
use Rattle.edr.proofs.checking.summarised.Given as goal

abbrev pub invariant-loop-edition : goal.invariant-loop-edition
invariant-loop-edition l = l.lines.items ≡ summary_lines (take l.edition-index l.editions)
