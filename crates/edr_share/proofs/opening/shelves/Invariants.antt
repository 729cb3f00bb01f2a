use Rattle.std.proofs.Common.{◌≡◌, vec_len, All}
use Rattle.std.specs.Arc.{arc_value}
use Rattle.edr_share.specs.Values.{unread}
use Rattle.edr_share.proofs.opening.shelves.Given as goal

abbrev pub invariant-loop : goal.invariant-loop
invariant-loop l =
    (vec_len l.shelves ≡ l.counter) × All (λ shelf. shelf ≡ unread (arc_value l.fn.factory.board).shared.table_id) l.shelves.items × (l.places.faults ≡ l.fn.places.faults)
