use Rattle.std.proofs.Common.{rules}
use Rattle.edr_chunk.proofs.PlaceNumbers.{digits_within}
use Rattle.edr_chunk.proofs.tile_numbers.place_of.Goals as goal

pub returns-clause-within : goal.returns-clause-within
returns-clause-within c = digits_within _ _ (search rules) (search rules) (search rules) (search rules) (search rules)
