use Rattle.std.proofs.Common.{◌≡◌, ◌++◌, take}
use Rattle.edr_wkt.specs.Spelling.{member_text, joined}
use Rattle.edr_wkt.proofs.writing.push_points.Given as goal

abbrev pub invariant-loop-place : goal.invariant-loop-place
invariant-loop-place l = l.out.items ≡ l.initial.out.items ++ joined (member_text l.multi l.has_z l.has_m) (take l.place l.positions)
