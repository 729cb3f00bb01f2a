use Rattle.std.proofs.Common.{◌≡◌, vec_len}
use Rattle.std.specs.Prelude.{All}
use Rattle.edrd.specs.Doors.{IsNew}
use Rattle.edrd.specs.declared.test_doors.MemoryDoor.{MemoryDoor}
use Rattle.edrd.proofs.test_doors.doors_with.Given as goal

abbrev pub invariant-loop : goal.invariant-loop
invariant-loop l =
    (vec_len l.doors ≡ l.counter)
    × All (IsNew {A = MemoryDoor} (λ door. door.over) (λ door. door.given) (λ door. door.finished) (λ door. door.faulted) (λ door. door.faults)) l.doors.items
