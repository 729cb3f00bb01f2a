use Rattle.std.proofs.Common.{◌≡◌, drop}
use Rattle.covjson_ranges.specs.Ranges.{length_of, tree_place, tree_number}
use Rattle.edr_chunk.specs.RowMajor.{row_major}
use Rattle.covjson_ranges.proofs.places.tree_number.Given as goal

-- the number so far, among the axes that are left
abbrev pub invariant-loop-name : goal.invariant-loop-name
invariant-loop-name l =
    row_major (length_of l.domain) (tree_place l.domain l.turned l.places) (drop l.name-index l.names) l.number ≡ tree_number l.domain l.turned l.names l.places
