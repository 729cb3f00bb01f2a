use Rattle.std.proofs.lemmas.Result.{err_from_is_err_and}
use Rattle.edr_serve.proofs.ReplyTexts.{text_whole, text_broke}
use Rattle.edr_serve.proofs.replying.reply_with.Goals as goal

pub returns-clause-bytes : goal.returns-clause-bytes
returns-clause-bytes g c =
    text_whole _ _ _ _ c.args.text.now c.args.edition c.args.is_head c.args.close c.if-is_head.false c.in_ok-write_head.ensures.bytes.whole c.send_body.ensures.bytes

pub returns-in_err-write_head-clause-bytes : goal.returns-in_err-write_head-clause-bytes
returns-in_err-write_head-clause-bytes g c =
    let p = err_from_is_err_and c.from_residual.result c.from_residual.ensures.1 in
    rw (p.1, p.2) (text_broke _ _ _ _ c.args.text.now c.args.edition c.args.is_head c.args.close c.in_err-write_head.ensures.bytes.front)
