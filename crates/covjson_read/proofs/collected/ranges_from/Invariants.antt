use Rattle.std.proofs.Common.{◌≡◌, ◌++◌, All, length}
use Rattle.edr_samples.specs.Trees.{tree_view, members_view}
use Rattle.covjson_value.specs.Coverages.{ids_of, IsParameter, IsRange}
use Rattle.edr_json.specs.Trees.{names_of}
use Rattle.covjson_read.specs.CollectedAnswers as ranges
use Rattle.covjson_read.proofs.RangesInTurn.{from_here}
use Rattle.covjson_read.proofs.collected.ranges_from.Given as goal

-- the answer of what is left, after what was read, is that of all; so with the names
abbrev pub invariant-loop-id : goal.invariant-loop-id
invariant-loop-id l = record {
  answer : from_here l.read (tree_view l.parameters) l.kept.items l.found.items l.id-iterator ≡ ranges.ranges_from l.read (tree_view l.parameters) (members_view l.members.entries);
  ids : ids_of l.kept.items ++ names_of (members_view l.id-iterator) ≡ names_of (members_view l.members.entries);
  parameters : All IsParameter l.kept.items;
  as_many : length l.found.items ≡ length l.kept.items;
  ranges : All (IsRange l.read.domain) l.found.items;
}
