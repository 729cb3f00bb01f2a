use Rattle.std.proofs.Common.{◌≡◌, ◌++◌, take}
use Rattle.edr_wkt.specs.Spelling.{ring_text, joined}
use Rattle.edr_wkt.proofs.writing.push_rings.Given as goal

abbrev pub invariant-loop-place : goal.invariant-loop-place
invariant-loop-place l = l.out.items ≡ l.initial.out.items ++ joined (ring_text l.has_z l.has_m) (take l.place l.rings)
