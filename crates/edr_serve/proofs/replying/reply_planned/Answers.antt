use Rattle.std.proofs.lemmas.Result.{err_from_is_err_and}
use Rattle.edr_serve.proofs.ReplyTexts.{planned_whole, planned_headed, planned_broke, planned_reads}
use Rattle.edr_serve.proofs.replying.reply_planned.Goals as goal

pub returns-clause-bytes : goal.returns-clause-bytes
returns-clause-bytes g c =
    planned_whole _ _ _ _ c.args.edition.now c.args.plan.now.query c.args.plan.now c.args.number c.args.is_head c.args.close c.requires c.if-is_head.false
    c.in_ok-write_head.ensures.bytes.whole c.send_data.ensures.bytes

pub returns-in_err-write_head-clause-bytes : goal.returns-in_err-write_head-clause-bytes
returns-in_err-write_head-clause-bytes g c =
    let p = err_from_is_err_and c.from_residual.result c.from_residual.ensures.1 in
    rw (p.1, p.2) (planned_broke _ _ _ _ c.args.edition.now c.args.plan.now.query c.args.plan.now c.args.number c.args.is_head c.args.close c.requires c.in_err-write_head.ensures.bytes.front)

pub returns-then-is_head-clause-bytes : goal.returns-then-is_head-clause-bytes
returns-then-is_head-clause-bytes g c =
    planned_headed _ _ _ c.args.edition.now c.args.plan.now.query c.args.plan.now c.args.number c.args.is_head c.args.close c.requires c.if-is_head.true
    (record { whole = c.in_ok-write_head.ensures.bytes.whole; front = c.in_ok-write_head.ensures.bytes.front })

pub returns-clause-reads : goal.returns-clause-reads
returns-clause-reads g c =
    planned_reads c.send_data.result c.args.edition.now c.args.plan.now.query c.args.plan.now c.args.is_head c.requires c.if-is_head.false c.send_data.ensures.reads
