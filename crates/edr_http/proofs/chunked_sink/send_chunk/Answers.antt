use Rattle.std.proofs.Common.{arith}
use Rattle.edr_base.specs.KnownBytes.{writes_on}
use Rattle.edr_http.proofs.ChunkEnds.{chunk_parts, written_as}
use Rattle.edr_http.proofs.ReplyLemmas.{stopped_first}
use Rattle.edr_http.proofs.chunked_sink.send_chunk.Goals as goal

pub returns-clause-bytes : goal.returns-clause-bytes
returns-clause-bytes g c =
    written_as _ _ _ _ _ (chunk_parts c.size_line-start.result.0 c.args.text.now c.size_line-start.result.1 (omega arith) c.requires.0 c.requires.1 c.size_line-start.ensures.text) (writes_on _ _ _ _ _ _ c.in_ok-send.ensures.bytes.whole c.send_two.ensures.bytes)

pub returns-in_err-send-clause-bytes : goal.returns-in_err-send-clause-bytes
returns-in_err-send-clause-bytes g c =
    written_as _ _ _ _ _ (chunk_parts c.size_line-start.result.0 c.args.text.now c.size_line-start.result.1 (omega arith) c.requires.0 c.requires.1 c.size_line-start.ensures.text) (stopped_first c.from_residual.result _ _ _ _ c.from_residual.ensures.0 c.in_err-send.ensures.bytes.front)
