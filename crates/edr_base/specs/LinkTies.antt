-- What reading and what writing can't change are told of one link, for the links of this crate.
use Rattle.std.specs.Prelude.{◌≡◌, ℕ, Bool, true, false, not, List, [], refl}
use Rattle.std.specs.Prelude.{Some, None}
use Rattle.std.proofs.lemmas.Bool.{false≢true}
use Rattle.edr_base.specs.Outside.{Asked, Ties}
use Rattle.edr_base.specs.Memory.{left_in, link_aside, link_beside}
use Rattle.edr_base.specs.Untold.{untold_aside, untold_beside}

-- nothing is left where nothing is connected
left_in_idle : (ready : Bool) (at : ℕ) (bytes : List ℕ) → not ready ≡ true → left_in ready at bytes ≡ []
left_in_idle true at bytes e = absurd (false≢true e)
left_in_idle false at bytes e = refl

pub memory_ties : (ready : Bool) (asked : List Asked) (incoming : List ℕ) (at : ℕ) (written : List ℕ) (flushed : ℕ)
    → Ties (link_aside ready asked incoming written flushed) (link_beside ready asked incoming (left_in ready at incoming)) (Some (left_in ready at incoming)) (Some written) (Some flushed)
memory_ties ready asked incoming at written flushed =
    record { idle = refl; asked = refl; incoming = refl; written = refl; flushed = refl; left = refl; ended = left_in_idle ready at incoming }

-- of the runtime's link, which tells nothing
pub untold_ties : (idle : Bool) → Ties (untold_aside idle) (untold_beside idle) None None None
untold_ties idle = record { idle = refl; asked = refl; incoming = refl; written = refl; flushed = refl; left = refl; ended = λ _. tt }
