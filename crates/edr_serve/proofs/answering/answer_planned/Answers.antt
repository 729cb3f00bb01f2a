use Rattle.std.proofs.Common.{◌≡◌, rules}
use Rattle.std.proofs.lemmas.Result.{err_from_is_err_and}
use Rattle.edr_serve.proofs.AnswerLemmas.{text_planned, stands_planned, sent_in_part}
use Rattle.edr_serve.proofs.answering.answer_planned.Goals as goal

pub send-requires-clause-stands : goal.send-requires-clause-stands
send-requires-clause-stands g c =
    let id : c.bytes.result.now ≡ c.args.query.now.collection = search rules in
    stands_planned c.args.edition.now c.args.query.now c.args.plan.now c.of-store.result.subject _ _ c.requires id c.instance_named.ensures c.of-store.ensures.subject

pub returns-clause-written : goal.returns-clause-written
returns-clause-written g c =
    let id : c.bytes.result.now ≡ c.args.query.now.collection = search rules in (
      _,
      text_planned c.args.edition.now c.args.query.now c.args.plan.now c.of-store.result.subject _ _ c.requires id c.instance_named.ensures c.of-store.ensures.subject,
      c.in_ok-send.ensures.text.whole,
    )

pub returns-in_err-send-clause-written : goal.returns-in_err-send-clause-written
returns-in_err-send-clause-written g c =
    let id : c.bytes.result.now ≡ c.args.query.now.collection = search rules in
    let p = err_from_is_err_and c.from_residual.result c.from_residual.ensures.1 in
    rw (p.1, p.2) (sent_in_part (Unit {0}) _ _ _ _ _ (text_planned c.args.edition.now c.args.query.now c.args.plan.now c.of-store.result.subject _ _ c.requires id c.instance_named.ensures c.of-store.ensures.subject) c.in_err-send.ensures.text.front)
