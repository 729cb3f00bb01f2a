-- For private clauses: segments of a line that are the same as one before.
use Rattle.std.specs.Prelude.{◌≡◌, ℕ, ◌+◌, ◌<◌, Bool, true, false, List, length}
use Rattle.std.specs.List.{slice_index_or}
use Rattle.edr_base.specs.declared.places.Position.{Position}
use Rattle.edr_corridor.specs.Segments.{at_segment, first_takes}

-- what the segment of a number passes, one before it passes too
abbrev pub IsRepeat : List Position → ℕ → Type 0
IsRepeat line number = (test : Position → Position → Bool) → at_segment test line number ≡ true → first_takes test line number ≡ true

-- a truth value for each segment, which is true only where the segment is the same as one before
pub record AreRepeats (line : List Position) (repeats : List Bool) : Type 0 where
  pub full : length repeats + 1 ≡ length line
  pub each : (number : ℕ) → number < length repeats → slice_index_or repeats number false ≡ true → IsRepeat line number
