use Rattle.std.proofs.Common.{◌≡◌, codes, length, refl, arith, ◌∙◌}
use Rattle.edr_http.proofs.ChunkFrames.{put_behind, full_end, empty_end, short_end, no_part}
use Rattle.edr_http.proofs.chunks.last_text.Goals as goal

pub returns-then-used-eq-CHUNK_LENGTH-clause-text : goal.returns-then-used-eq-CHUNK_LENGTH-clause-text
returns-then-used-eq-CHUNK_LENGTH-clause-text c =
    let l : length c.args.frame.now ≡ 4109 = omega arith in
    full_end c.args.frame.now c.args.used c.args.sent l c.requires.framed (omega arith) (omega arith)

pub returns-then-used-eq0-clause-text : goal.returns-then-used-eq0-clause-text
returns-then-used-eq0-clause-text c =
    let l : length c.args.frame.now ≡ 4109 = omega arith in
    empty_end c.args.frame.now c.args.used c.args.sent l c.requires.framed (omega arith) (no_part c.args.sent c.args.used c.requires.whole (omega arith))

pub put_size-start-requires-clause-full : goal.put_size-start-requires-clause-full
put_size-start-requires-clause-full c =
    let l : length c.args.frame.now ≡ 4109 = omega arith in
    (put_behind c.args.frame.now _ (codes "\r\n0\r\n\r\n") c.args.used l (omega arith) c.put.ensures).size ∙ c.requires.framed.size

pub returns-clause-text : goal.returns-clause-text
returns-clause-text c =
    let l : length c.args.frame.now ≡ 4109 = omega arith in
    short_end c.args.frame.now _ _ _ c.args.used c.args.sent c.put_size-start.result l c.requires.framed (omega arith) (omega arith) c.requires.whole
    (put_behind c.args.frame.now _ (codes "\r\n0\r\n\r\n") c.args.used l (omega arith) c.put.ensures) refl c.put_size-start.ensures.place c.put_size-start.ensures.text
