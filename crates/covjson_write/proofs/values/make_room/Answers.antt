use Rattle.covjson_write.proofs.ValueLemmas.{all_went}
use Rattle.covjson_write.proofs.values.make_room.Goals as goal

pub returns-in_err-send-clause-front : goal.returns-in_err-send-clause-front
returns-in_err-send-clause-front g c = c.send.ensures.bytes.front

pub returns-clause-front : goal.returns-clause-front
returns-clause-front g c = c.send.ensures.bytes.front

pub returns-clause-kept : goal.returns-clause-kept
returns-clause-kept g c =
    let done = rw c.in_ok-send.was at c.send.ensures.bytes in
    all_went _ _ _ done.whole
