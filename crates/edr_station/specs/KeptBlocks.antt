-- How the values of a parameter are kept: for private clauses.
use Rattle.std.specs.Prelude.{◌≡◌, ℕ, ℤ, ◌<◌, List, [], length, Option}
use Rattle.std.specs.List.{slice_index_or, flat_map}
use Rattle.edr_station.specs.Blocks.{blocks_along, cut_block}

-- the values of blocks, one block after another
abbrev pub values_of : List (List (Option ℤ)) → List (Option ℤ)
values_of blocks = flat_map (λ (block : List (Option ℤ)). block) blocks

-- so many blocks of a list of values
pub record Filled (values : List (Option ℤ)) (blocks : List (List (Option ℤ))) (filled : ℕ) : Type 0 where
  pub many : length blocks ≡ filled
  pub each : (block : ℕ) → block < filled → slice_index_or blocks block [] ≡ cut_block block values

-- blocks that are those of their values
abbrev pub AreBlocks : List (List (Option ℤ)) → Type 0
AreBlocks blocks = Filled (values_of blocks) blocks (blocks_along (length (values_of blocks)))
