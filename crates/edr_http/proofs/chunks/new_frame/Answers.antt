use Rattle.std.proofs.Common.{◌≡◌, length, arith}
use Rattle.edr_http.proofs.ChunkFrames.{frame_new}
use Rattle.edr_http.proofs.chunks.new_frame.Goals as goal

pub returns : goal.returns
returns c =
    let l : length c.put.new.text ≡ 4109 = omega arith in
    frame_new _ c.put.new.text c.put-2.new.text l c.put.ensures c.put-2.ensures
