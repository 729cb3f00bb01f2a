use Rattle.std.proofs.Common.{◌≡◌, take}
use Rattle.edr_import.specs.Imports.{times_in}
use Rattle.edr_import.proofs.importing.times_in.Given as goal

abbrev pub invariant-loop-place : goal.invariant-loop-place
invariant-loop-place l = l.count ≡ times_in (take l.place l.sites)
