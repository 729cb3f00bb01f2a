use Rattle.std.proofs.Common.{◌≡◌, ◌-◌, ◌≤◌, length, drop}
use Rattle.json.specs.Lex.{between, lex}
use Rattle.edr_samples.proofs.lexemes.blanks_end.Given as goal

abbrev pub invariant-blanks : goal.invariant-blanks
invariant-blanks l = (l.at ≤ length l.text) × (lex between (drop l.at l.text) ≡ lex between (drop l.from l.text))

abbrev pub decreases-blanks : goal.decreases-blanks
decreases-blanks l = length l.text - l.at
