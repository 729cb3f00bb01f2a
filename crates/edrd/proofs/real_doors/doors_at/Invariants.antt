use Rattle.std.proofs.Common.{◌≡◌, vec_len}
use Rattle.std.specs.Prelude.{All}
use Rattle.edrd.specs.Doors.{IsNew}
use Rattle.edrd.specs.declared.real_door.RealDoor.{RealDoor}
use Rattle.edrd.proofs.real_doors.doors_at.Given as goal

abbrev pub invariant-loop : goal.invariant-loop
invariant-loop l =
    (vec_len l.doors ≡ l.counter)
    × All (IsNew {A = RealDoor} (λ door. door.over) (λ door. door.given) (λ door. door.finished) (λ door. door.faulted) (λ door. door.faults)) l.doors.items
