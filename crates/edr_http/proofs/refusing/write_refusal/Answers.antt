use Rattle.std.proofs.Common.{rules, ap, true}
use Rattle.edr_http.specs.Replies.{reply_head}
use Rattle.edr_http.proofs.ReplyLemmas.{written_on, written_stop}
use Rattle.edr_http.proofs.refusing.write_refusal.Goals as goal

pub returns-clause-bytes : goal.returns-clause-bytes
returns-clause-bytes g c =
    written_on _ _ _ _ _ _ _ _ (ap (λ s. reply_head s true c.args.edition c.args.close) c.status.ensures) (search rules) c.in_ok-write_head.ensures.bytes.whole c.send_body.ensures.bytes

pub returns-in_err-write_head-clause-bytes : goal.returns-in_err-write_head-clause-bytes
returns-in_err-write_head-clause-bytes g c =
    written_stop c.from_residual.result _ _ _ _ _ c.from_residual.ensures.0 (ap (λ s. reply_head s true c.args.edition c.args.close) c.status.ensures) c.in_err-write_head.ensures.bytes.front
