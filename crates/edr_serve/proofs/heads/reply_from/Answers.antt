use Rattle.std.proofs.Common.{rules, ◌≡◌}
use Rattle.std.proofs.lemmas.Result.{err_from_is_err_and}
use Rattle.std.specs.Prelude.{is_some}
use Rattle.edr_serve.proofs.OneReply.{settled, closing, unsettled}
use Rattle.edr_serve.proofs.ReplyTexts.{same_err}
use Rattle.edr_serve.proofs.heads.reply_from.Goals as goal

pub returns-clause-bytes : goal.returns-clause-bytes
returns-clause-bytes g c =
    let close : c.is_some.result ≡ is_some c.args.end = search rules in
    settled _ _ _ _ _ _ c.in_ok-settle.ensures.bytes (closing _ _ _ c.args.edition.now c.args.page c.args.edition.now.number c.args.is_head _ _ close c.in_ok-reads.ensures.bytes)

pub returns-in_err-settle-clause-bytes : goal.returns-in_err-settle-clause-bytes
returns-in_err-settle-clause-bytes g c =
    let close : c.is_some.result ≡ is_some c.args.end = search rules in
    let p = err_from_is_err_and c.from_residual-in_err-settle.result c.from_residual-in_err-settle.ensures.1 in
    rw (p.1, p.2) (unsettled _ _ _ _ _ _ _ c.in_err-settle.ensures.bytes (closing _ _ _ c.args.edition.now c.args.page c.args.edition.now.number c.args.is_head _ _ close c.in_ok-reads.ensures.bytes))

pub returns-in_err-reads-clause-bytes : goal.returns-in_err-reads-clause-bytes
returns-in_err-reads-clause-bytes g c =
    let close : c.is_some.result ≡ is_some c.args.end = search rules in
    let p = err_from_is_err_and c.from_residual.result c.from_residual.ensures.1 in
    rw (p.1, p.2) (same_err _ _ _ _ _ _ (closing _ _ _ c.args.edition.now c.args.page c.args.edition.now.number c.args.is_head _ _ close c.in_err-reads.ensures.bytes))
