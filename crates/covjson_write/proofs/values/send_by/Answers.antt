use Rattle.std.proofs.lemmas.List.{take_rest}
use Rattle.covjson_write.proofs.PlaceLemmas.{split_written}
use Rattle.covjson_write.proofs.values.send_by.Goals as goal

pub returns-clause-bytes : goal.returns-clause-bytes
returns-clause-bytes g c =
    split_written c.send_behind.result c.args.number c.args.samples.now c.args.piece.now c.place_one-gathered.new.buffer c.place_one-gathered.result _ _ c.requires.some c.place_one-gathered.ensures.text
    (rw (take_rest c.args.samples.now 1) at c.send_behind.ensures.bytes)
