-- Lines that are written one behind the other.
use Rattle.std.proofs.Common.{◌≡◌, ◌∙◌, ap, ℕ, List, ◌++◌}
use Rattle.std.specs.Prelude.{Err}
use Rattle.edr_edition.specs.Values.{EditionValue}
use Rattle.edr_feed.specs.Summaries.{summary_line}
use Rattle.edr_work.specs.declared.faults.WorkFault.{WorkFault}
use Rattle.edr_work.specs.declared.faults.WorkFault.TheVariants.{NotFeed, Refused, OutOfMemory}
use Rattle.edr_work.specs.Lines.{cube_target, position_target, location_target, corridor_target, IsLine}
use Rattle.edr_work.specs.Working.{AreLines, IsTried}
use Rattle.edr_work.specs.Counting.{MatchLine, MatchLines}

pub are_lines : (edition : EditionValue) (head cube position location corridor text : List ℕ) → head ≡ summary_line edition
    → IsLine edition cube_target cube → IsLine edition position_target position → IsLine edition location_target location → IsLine edition corridor_target corridor
    → text ≡ head ++ cube ++ position ++ location ++ corridor → AreLines edition text
are_lines edition head cube position location corridor text head_is is_cube is_position is_location is_corridor joined = record {
  cube = cube;
  is_cube = is_cube;
  position = position;
  is_position = is_position;
  location = location;
  is_location = is_location;
  corridor = corridor;
  is_corridor = is_corridor;
  text_is = joined ∙ ap (λ (line : List ℕ). line ++ cube ++ position ++ location ++ corridor) head_is;
}

-- a refusal of one of the targets is one of them all
pub tried_refused : (edition : EditionValue) (target : List ℕ) (fault : WorkFault) → IsTried target → MatchLine (Err fault) edition target → MatchLines (Err fault) edition
tried_refused edition target (NotFeed refusal) tried h = h
tried_refused edition target (Refused refusal) tried h = (target, tried, h)
tried_refused edition target OutOfMemory tried h = tt
