use Rattle.edr_query.specs.declared.pages.Page.TheVariants.{Ask}
use Rattle.edr_serve.proofs.ReplyTexts.{nothing_written, refused_page, refused_reads, plan_own, plan_written}
use Rattle.edr_serve.proofs.replying.reply_query.Goals as goal

pub returns-in-Err-Refused-clause-bytes : goal.returns-in-Err-Refused-clause-bytes
returns-in-Err-Refused-clause-bytes g c =
    refused_page c.reply_refused.result _ _ c.args.edition.now (Ask c.args.query) c.in-Err-Refused.refusal c.args.number c.args.is_head c.args.close
    (rw c.in-Err-Refused.field-0-is at c.in-Err-Refused.ensures) c.reply_refused.ensures.bytes

pub returns-in-Err-OutOfMemory-clause-bytes : goal.returns-in-Err-OutOfMemory-clause-bytes
returns-in-Err-OutOfMemory-clause-bytes g c = nothing_written _ _ _ _

pub reply_planned-outcome-requires : goal.reply_planned-outcome-requires
reply_planned-outcome-requires g c = plan_own c.args.edition.now c.args.query c.in-Ok.plan c.in-Ok.ensures

pub returns-in-Ok-clause-bytes : goal.returns-in-Ok-clause-bytes
returns-in-Ok-clause-bytes g c =
    plan_written c.reply_planned-outcome.result _ _ c.args.edition.now c.args.query c.in-Ok.plan c.args.number c.args.is_head c.args.close c.in-Ok.ensures c.reply_planned-outcome.ensures.bytes

pub returns-in-Err-Refused-clause-reads : goal.returns-in-Err-Refused-clause-reads
returns-in-Err-Refused-clause-reads g c =
    refused_reads c.reply_refused.result c.args.edition.now (Ask c.args.query) c.in-Err-Refused.refusal c.args.is_head
    (rw c.in-Err-Refused.field-0-is at c.in-Err-Refused.ensures) c.reply_refused.ensures.reads
