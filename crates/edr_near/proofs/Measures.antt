-- How many ranks are left behind the last one.
use Rattle.std.proofs.Common.{ℕ, ◌+◌, ◌-◌, ◌^◌, Option, Some, None}
use Rattle.edr_near.specs.declared.candidates.Candidate.{Candidate}
use Rattle.edr_near.specs.Search.{rank_of}

abbrev pub left_after : Option Candidate → ℕ
left_after None = 2 ^ 128 + 1
left_after (Some last) = 2 ^ 128 - rank_of last
