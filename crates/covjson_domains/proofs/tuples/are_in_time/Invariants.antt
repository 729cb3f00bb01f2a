use Rattle.std.proofs.Common.{◌≡◌, ◌-◌, drop, map}
use Rattle.covjson_value.specs.declared.domains.CoordinateName.TheVariants.{T}
use Rattle.covjson_value.specs.Domains.{coordinate}
use Rattle.covjson_domains.specs.TupleAnswers as tuples
use Rattle.covjson_domains.proofs.tuples.are_in_time.Given as goal

-- from the last that was seen on none falls where none does
abbrev pub invariant-loop-place : goal.invariant-loop-place
invariant-loop-place l = tuples.never_falls (map (coordinate T) (drop (l.place - 1) l.positions)) ≡ tuples.never_falls (map (coordinate T) l.positions)
