use Rattle.std.proofs.Common.{false, ◌++◌, sym, ap, ◌∙◌}
use Rattle.std.specs.Fmt.{digits}
use Rattle.edr_http.specs.Chunks.{crlf}
use Rattle.edr_http.proofs.ChunkFrames.{size_full}
use Rattle.edr_http.proofs.chunks.size_line.Goals as goal

pub returns-then-size-eq-CHUNK_LENGTH-clause-text : goal.returns-then-size-eq-CHUNK_LENGTH-clause-text
returns-then-size-eq-CHUNK_LENGTH-clause-text c = sym (ap (λ k. digits 16 false k ++ crlf) c.if-size-eq-CHUNK_LENGTH.true ∙ ap (λ w. w ++ crlf) size_full)
