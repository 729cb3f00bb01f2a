-- The objects in memory: which of their calls fail, and what they tell.
use Rattle.std.specs.Prelude.{ℕ, ◌+◌, ◌<◌, Bool, true, false, not, bytes_eq, List, [], drop, Vec, Contains, position, option_map, unwrap_or, slice_get}
use Rattle.std.specs.declared.option.Option.{Option}
use Rattle.std.specs.declared.alloc.Global.{Global}
use Rattle.std.specs.Prelude.{None, Some}
use Rattle.edr_base.specs.Outside.{Aside, Beside, Asked}
use Rattle.edr_base.specs.Limits.{count_limit}

-- after so many calls the next one fails; a call that can't be counted doesn't
abbrev pub FailsNext : List ℕ → ℕ → Type 0
FailsNext fails calls = (calls < count_limit) × Contains fails (calls + 1)

-- a file: its name and its content
abbrev pub File : Type 0
File = Vec ℕ Global × Vec ℕ Global

-- the bytes of the file at a place
abbrev pub bytes_at : List File → ℕ → List ℕ
bytes_at files place = unwrap_or (option_map (λ (f : File). f.1.items) (slice_get files place)) []

-- the place of the first file of a name
abbrev pub place_of_name : List File → List ℕ → Option ℕ
place_of_name files name = position (λ (f : File). bytes_eq f.0.items name) files

-- what the first file of a name holds
abbrev pub content_of : List File → List ℕ → Option (List ℕ)
content_of files name = option_map (bytes_at files) (place_of_name files name)

-- what is left from a place on, where something is open
abbrev pub left_in : Bool → ℕ → List ℕ → List ℕ
left_in true at bytes = drop at bytes
left_in false at bytes = []

abbrev pub name_asked : Vec ℕ Global → Asked
name_asked name = (name.items, 0)

abbrev pub files_aside : Bool → List Asked → (List ℕ → Option (List ℕ)) → Aside
files_aside ready asked content =
    record { idle = not ready; asked = Some asked; content = content; incoming = None; written = None; flushed = None }

abbrev pub peer_asked : Vec ℕ Global × ℕ → Asked
peer_asked peer = (peer.0.items, peer.1)

abbrev pub link_aside : Bool → List Asked → List ℕ → List ℕ → ℕ → Aside
link_aside ready asked incoming written flushed =
    record { idle = not ready; asked = Some asked; content = λ _. None; incoming = Some incoming; written = Some written; flushed = Some flushed }

abbrev pub link_beside : Bool → List Asked → List ℕ → List ℕ → Beside
link_beside ready asked incoming left =
    record { idle = not ready; asked = Some asked; incoming = Some incoming; left = Some left; bottom = Some []; held = [] }
