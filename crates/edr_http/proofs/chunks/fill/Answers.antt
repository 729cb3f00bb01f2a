use Rattle.std.proofs.Common.{◌≡◌, length, arith}
use Rattle.edr_http.proofs.ChunkFrames.{fill_frame, fill_piece}
use Rattle.edr_http.proofs.chunks.fill.Goals as goal

pub returns-clause-framed : goal.returns-clause-framed
returns-clause-framed c =
    let l : length c.args.frame.now ≡ 4109 = omega arith in
    fill_frame c.args.frame.now _ c.args.bytes.now c.args.used l c.requires.room c.requires.framed c.put.ensures

pub returns-clause-piece : goal.returns-clause-piece
returns-clause-piece c =
    let l : length c.args.frame.now ≡ 4109 = omega arith in
    fill_piece c.args.frame.now _ c.args.bytes.now c.args.used l c.requires.room c.put.ensures
