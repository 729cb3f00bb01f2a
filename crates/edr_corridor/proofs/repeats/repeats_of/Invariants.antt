use Rattle.std.proofs.Common.{◌≡◌, ℕ, ◌<◌, true, false, length, get_or}
use Rattle.edr_corridor.specs.Repeats.{IsRepeat}
use Rattle.edr_corridor.proofs.repeats.repeats_of.Given as goal

abbrev pub invariant-loop-number : goal.invariant-loop-number
invariant-loop-number l = (length l.repeats.items ≡ l.number) × ((k : ℕ) → k < l.number → get_or l.repeats.items k false ≡ true → IsRepeat l.line k)
