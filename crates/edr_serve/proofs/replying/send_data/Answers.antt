use Rattle.std.proofs.Common.{rules, ap, ◌≡◌, ◌∙◌}
use Rattle.std.proofs.lemmas.Result.{err_from_is_err_and}
use Rattle.edr_query.specs.Values.{QueryValue}
use Rattle.edr_select.specs.Selections.{needed}
use Rattle.edr_serve.proofs.ReplyTexts.{data_sent, data_read, named_subject, same_err, same_ok}
use Rattle.edr_serve.proofs.replying.send_data.Goals as goal

pub returns-clause-bytes : goal.returns-clause-bytes
returns-clause-bytes g c =
    let id : c.bytes-collection.result.now ≡ c.args.plan.now.query.collection = search rules in
    let instance = c.instance_named.ensures ∙ ap (λ (q : QueryValue). q.instance) c.query-query.ensures in
    let named = named_subject c.args.edition.now c.args.plan.now.query c.of-store.result.subject _ _ id instance c.of-store.ensures.subject in
    data_sent _ _ _ c.args.edition.now c.args.plan.now.query c.args.plan.now c.of-store.result.subject c.requires named (same_ok _ c.into_reads.result _ _ _ c.in_ok-send_in_chunks.ensures.text)

pub returns-clause-reads : goal.returns-clause-reads
returns-clause-reads g c =
    let id : c.bytes-collection.result.now ≡ c.args.plan.now.query.collection = search rules in
    let instance = c.instance_named.ensures ∙ ap (λ (q : QueryValue). q.instance) c.query-query.ensures in
    let named = named_subject c.args.edition.now c.args.plan.now.query c.of-store.result.subject _ _ id instance c.of-store.ensures.subject in
    let told : c.into_reads.result ≡ needed c.of-store.result.subject c.args.plan.now.query = search rules in
    told ∙ data_read c.args.edition.now c.args.plan.now.query c.args.plan.now c.of-store.result.subject c.requires named

pub returns-in_err-send_in_chunks-clause-bytes : goal.returns-in_err-send_in_chunks-clause-bytes
returns-in_err-send_in_chunks-clause-bytes g c =
    let id : c.bytes-collection.result.now ≡ c.args.plan.now.query.collection = search rules in
    let instance = c.instance_named.ensures ∙ ap (λ (q : QueryValue). q.instance) c.query-query.ensures in
    let named = named_subject c.args.edition.now c.args.plan.now.query c.of-store.result.subject _ _ id instance c.of-store.ensures.subject in
    let p = err_from_is_err_and c.from_residual.result c.from_residual.ensures.1 in
    rw (p.1, p.2) (data_sent _ _ _ c.args.edition.now c.args.plan.now.query c.args.plan.now c.of-store.result.subject c.requires named (same_err _ _ _ _ _ _ c.in_err-send_in_chunks.ensures.text))
