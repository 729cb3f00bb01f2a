use Rattle.std.proofs.Common.{◌≡◌, ◌-◌, ◌≤◌, ◌<◌, ◌^◌, ◌++◌, length, drop, decimal}
use Rattle.edr_samples.proofs.lexemes.digits_at.Given as goal

abbrev pub invariant-digits : goal.invariant-digits
invariant-digits l = (l.at ≤ length l.text) × (l.number < 10 ^ 18) × (drop l.from l.text ≡ decimal l.number ++ drop l.at l.text)

abbrev pub decreases-digits : goal.decreases-digits
decreases-digits l = length l.text - l.at
