use Rattle.std.proofs.Common.{sym, subst, ℕ, List}
use Rattle.edr_describe.specs.Describing.{IsDescribed}
use Rattle.edr_serve.proofs.ReplyTexts.{nothing_written, described, refused_page}
use Rattle.edr_serve.proofs.replying.reply_description.Goals as goal

pub returns-in-Err-OutOfMemory-clause-bytes : goal.returns-in-Err-OutOfMemory-clause-bytes
returns-in-Err-OutOfMemory-clause-bytes g c = nothing_written _ _ _ _

pub returns-in-Ok-clause-bytes : goal.returns-in-Ok-clause-bytes
returns-in-Ok-clause-bytes g c =
    let is : IsDescribed c.args.edition.now c.args.page.now c.bytes.result.now = subst (λ (text : List ℕ). IsDescribed c.args.edition.now c.args.page.now text) (sym c.bytes.ensures) c.in-Ok.ensures in
    described _ _ _ c.args.edition.now c.args.page.now c.bytes.result.now c.args.number c.args.is_head c.args.close c.requires is c.reply_with.ensures.bytes

pub returns-in-Err-Refused-clause-bytes : goal.returns-in-Err-Refused-clause-bytes
returns-in-Err-Refused-clause-bytes g c =
    refused_page c.write_refusal.result _ _ c.args.edition.now c.args.page.now c.in-Err-Refused.refusal c.args.number c.args.is_head c.args.close
    (rw c.in-Err-Refused.field-0-is at c.in-Err-Refused.ensures) c.write_refusal.ensures.bytes
