use Rattle.std.proofs.Common.{◌≡◌, ◌∙◌, length, rules, arith}
use Rattle.edr_http.specs.ChunkedSinkParts.{piece_in}
use Rattle.edr_http.proofs.ChunkFrames.{frame_chunk, piece_length}
use Rattle.edr_http.proofs.ChunkSteps.{piece_part, piece_full}
use Rattle.edr_http.proofs.chunked_sink.ChunkedSink.make_room.Goals as goal

pub invariant_of-self : goal.invariant_of-self
invariant_of-self g c =
    let s = c.args.self.now in
    let r = c.send_rest-outcome.ensures in
    let l : length s.frame ≡ 4109 = omega arith in
    let full : s.used ≡ 4096 = omega arith in
    let m = piece_full s.ended s.pieces s.sent _ (piece_in s.frame s.used) _ _ _ c.requires.going (piece_length s.frame s.used l (omega (arith, full)) ∙ full)
    (frame_chunk s.frame s.used l (s.framed c.requires.going) full) s.room s.kept r.within.0 (search rules) r.bytes in
    record { within = search rules; whole = search rules; framed = s.framed; room = m.room; kept = m.kept }

pub invariant_of-self-else-is_ok : goal.invariant_of-self-else-is_ok
invariant_of-self-else-is_ok g c =
    let s = c.args.self.now in
    let r = c.send_rest-outcome.ensures in
    let l : length s.frame ≡ 4109 = omega arith in
    let full : s.used ≡ 4096 = omega arith in
    let m = piece_part s.ended s.pieces s.sent _ (piece_in s.frame s.used) _ _ _ c.requires.going
    (frame_chunk s.frame s.used l (s.framed c.requires.going) full) s.room s.kept r.within.0 r.within.1 r.bytes in
    record { within = search rules; whole = λ some. full; framed = s.framed; room = m.room; kept = m.kept }

pub returns-then-is_ok-clause-body : goal.returns-then-is_ok-clause-body
returns-then-is_ok-clause-body g c =
    let s = c.args.self.now in
    let r = c.send_rest-outcome.ensures in
    let l : length s.frame ≡ 4109 = omega arith in
    let full : s.used ≡ 4096 = omega arith in
    (piece_full s.ended s.pieces s.sent _ (piece_in s.frame s.used) _ _ _ c.requires.going (piece_length s.frame s.used l (omega (arith, full)) ∙ full)
    (frame_chunk s.frame s.used l (s.framed c.requires.going) full) s.room s.kept r.within.0 (search rules) r.bytes).body

pub returns-then-is_ok-clause-bottom : goal.returns-then-is_ok-clause-bottom
returns-then-is_ok-clause-bottom g c =
    let s = c.args.self.now in
    let r = c.send_rest-outcome.ensures in
    let l : length s.frame ≡ 4109 = omega arith in
    let full : s.used ≡ 4096 = omega arith in
    (piece_full s.ended s.pieces s.sent _ (piece_in s.frame s.used) _ _ _ c.requires.going (piece_length s.frame s.used l (omega (arith, full)) ∙ full)
    (frame_chunk s.frame s.used l (s.framed c.requires.going) full) s.room s.kept r.within.0 (search rules) r.bytes).bottom

pub returns-else-is_ok-clause-body : goal.returns-else-is_ok-clause-body
returns-else-is_ok-clause-body g c =
    let s = c.args.self.now in
    let r = c.send_rest-outcome.ensures in
    let l : length s.frame ≡ 4109 = omega arith in
    let full : s.used ≡ 4096 = omega arith in
    (piece_part s.ended s.pieces s.sent _ (piece_in s.frame s.used) _ _ _ c.requires.going
    (frame_chunk s.frame s.used l (s.framed c.requires.going) full) s.room s.kept r.within.0 r.within.1 r.bytes).body

pub returns-else-is_ok-clause-bottom : goal.returns-else-is_ok-clause-bottom
returns-else-is_ok-clause-bottom g c =
    let s = c.args.self.now in
    let r = c.send_rest-outcome.ensures in
    let l : length s.frame ≡ 4109 = omega arith in
    let full : s.used ≡ 4096 = omega arith in
    (piece_part s.ended s.pieces s.sent _ (piece_in s.frame s.used) _ _ _ c.requires.going
    (frame_chunk s.frame s.used l (s.framed c.requires.going) full) s.room s.kept r.within.0 r.within.1 r.bytes).bottom
