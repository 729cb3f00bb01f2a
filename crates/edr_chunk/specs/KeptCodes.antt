-- What kept codes stand for: for private clauses.
use Rattle.std.specs.Prelude.{ℤ, List, Option, map, replicate}
use Rattle.edr_chunk.specs.declared.packed.Codes.{Codes}
use Rattle.edr_chunk.specs.declared.packed.Codes.TheVariants.{Same, Bytes, Pairs, Triples, Words, Whole}
use Rattle.edr_chunk.specs.Codes.{code_sample, triple_sample, whole_sample}

-- the samples of codes that count from a floor
abbrev pub samples : ℤ → Codes → List (Option ℤ)
samples floor (Same value count) = replicate count value
samples floor (Bytes codes) = map (code_sample floor) codes.items
samples floor (Pairs codes) = map (code_sample floor) codes.items
samples floor (Triples codes) = map (triple_sample floor) codes.items
samples floor (Words codes) = map (code_sample floor) codes.items
samples floor (Whole numbers) = map (whole_sample floor) numbers.items
