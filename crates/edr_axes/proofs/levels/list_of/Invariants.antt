use Rattle.std.proofs.Common.{ℤ, List, ◌++◌, length}
use Rattle.edr_axes.specs.Levels.{AreLevelTexts}
use Rattle.edr_axes.proofs.levels.list_of.Given as goal

-- what the rest may be, the whole may be with the levels so far before it, and the other way round
abbrev pub invariant-loop-front : goal.invariant-loop-front
invariant-loop-front l =
    record {
      whole : (rest : List ℤ) → AreLevelTexts l.rest rest → AreLevelTexts l.text (l.levels.items ++ rest);
      left : (levels : List ℤ) → AreLevelTexts l.text levels → (rest : List ℤ) × AreLevelTexts l.rest rest;
    }

abbrev pub decreases-loop-front : goal.decreases-loop-front
decreases-loop-front l = length l.rest
