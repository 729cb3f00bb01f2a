-- Objects that tell nothing of contents: real files, sockets and streams.
use Rattle.std.specs.Prelude.{Bool, []}
use Rattle.std.specs.Prelude.{None}
use Rattle.edr_base.specs.Outside.{Aside, Beside}

abbrev pub untold_aside : Bool → Aside
untold_aside idle = record { idle = idle; asked = None; content = λ _. None; incoming = None; written = None; flushed = None }

abbrev pub untold_beside : Bool → Beside
untold_beside idle = record { idle = idle; asked = None; incoming = None; left = None; bottom = None; held = [] }
