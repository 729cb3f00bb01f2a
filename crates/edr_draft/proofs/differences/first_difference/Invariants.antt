use Rattle.std.proofs.Common.{◌≡◌, take}
use Rattle.edr_draft.proofs.differences.first_difference.Given as goal

-- the parameters so far are the same
abbrev pub invariant-loop-place : goal.invariant-loop-place
invariant-loop-place l = take l.place l.one ≡ take l.place l.other
