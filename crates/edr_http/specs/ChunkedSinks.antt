-- What a sink that sends chunks tells, and what ends a body.
use Rattle.std.specs.Prelude.{◌≡◌, ℕ, Bool, List, [], ◌++◌, Result, option_map}
use Rattle.std.specs.declared.option.Option.{Option}
use Rattle.std.specs.Prelude.{None, Some}
use Rattle.edr_base.specs.Outside.{Beside}
use Rattle.edr_base.specs.Calls.{Front, Writes}
use Rattle.edr_base.specs.declared.outside.Faults as Faults
use Rattle.edr_base.specs.declared.outside.Sink as Sink
use Rattle.edr_http.specs.declared.chunked_sink.ChunkedSink.{ChunkedSink}
use Rattle.edr_http.specs.Chunks.{chunked}

-- the sink that the chunks are sent to
abbrev pub sink_inside : {K : Type 0} {sink : Sink.Ghosts K} {faults : Faults.Ghosts K} → ChunkedSink K sink faults → K
sink_inside layer = layer.sink

-- how many full pieces were sent
abbrev pub pieces_sent : {K : Type 0} {sink : Sink.Ghosts K} {faults : Faults.Ghosts K} → ChunkedSink K sink faults → ℕ
pieces_sent layer = layer.pieces

-- what is beside a layer over a sink: that of the sink, but idle once the body is ended, and with a bottom of its own
abbrev pub layer_beside : Bool → Beside → Option (List ℕ) → Beside
layer_beside ended inside bottom =
    record { idle = ended; asked = inside.asked; incoming = inside.incoming; left = inside.left; bottom = bottom; held = inside.held }

-- nothing, where it is told what the sink has
abbrev pub nothing_in : Option (List ℕ) → Option (List ℕ)
nothing_in known = option_map (λ bytes. []) known

-- the body was sent in chunks behind what stood below with Ok, and else a beginning of that; `known` is what the sink inside has
abbrev pub EndsBody : {T E : Type 0} → Result T E → Option (List ℕ) → Option (List ℕ) → Option (List ℕ) → Type 0
EndsBody result bottom None known = known ≡ None
EndsBody result bottom (Some body) known = Writes result (chunked body) bottom known

-- what was sent behind what stood below begins the chunks of the body with `more` behind it
abbrev pub BeginsBody : Option (List ℕ) → Option (List ℕ) → Option (List ℕ) → List ℕ → Type 0
BeginsBody bottom None known more = known ≡ None
BeginsBody bottom (Some body) known more = Front (chunked (body ++ more)) bottom known
