use Rattle.std.proofs.Common.{rules, ◌≡◌, ◌∙◌, Some, Err, IfSome, ap, refl, inl, inr}
use Rattle.std.proofs.lemmas.Result.{err_from_is_err_and}
use Rattle.edr_fetch.proofs.HeardLemmas.{heard_fault}
use Rattle.edr_fetch.proofs.ExchangeLemmas.{exchanged_unsent, heard_unsent, exchanged_sent}
use Rattle.edr_fetch.proofs.fetching.fetch.Goals as goal

pub returns-in_err-text-clause-exchanged : goal.returns-in_err-text-clause-exchanged
returns-in_err-text-clause-exchanged g c =
    let p = err_from_is_err_and c.from_residual.result c.from_residual.ensures.1 in
    rw (p.1, p.2) (inl refl)

pub returns-in_err-text-clause-heard : goal.returns-in_err-text-clause-heard
returns-in_err-text-clause-heard g c =
    let p = err_from_is_err_and c.from_residual.result c.from_residual.ensures.1 in
    rw (p.1, p.2) tt

pub returns-in_err-text-clause-asked : goal.returns-in_err-text-clause-asked
returns-in_err-text-clause-asked g c =
    let p = err_from_is_err_and c.from_residual.result c.from_residual.ensures.1 in
    inr (p.1 ∙ ap Err p.2, refl)

pub returns-in_err-put-clause-exchanged : goal.returns-in_err-put-clause-exchanged
returns-in_err-put-clause-exchanged g c =
    let p = err_from_is_err_and c.from_residual-in_err-put.result c.from_residual-in_err-put.ensures.1 in
    rw (p.1, p.2) (exchanged_unsent c.in_err-put.field-0.0 _ _ _ _ (search rules) (λ e. search rules))

pub returns-in_err-put-clause-heard : goal.returns-in_err-put-clause-heard
returns-in_err-put-clause-heard g c =
    let p = err_from_is_err_and c.from_residual-in_err-put.result c.from_residual-in_err-put.ensures.1 in
    rw (p.1, p.2) (heard_unsent c.in_err-put.field-0.0 _ _)

pub returns-in_err-read_reply-clause-exchanged : goal.returns-in_err-read_reply-clause-exchanged
returns-in_err-read_reply-clause-exchanged g c =
    let p = err_from_is_err_and c.from_residual-in_err-read_reply.result c.from_residual-in_err-read_reply.ensures.1 in
    rw (p.1, p.2) (exchanged_sent c.in_err-read_reply.field-0.0 _ _ _ _ (search rules) (λ e. search rules))

pub returns-in_err-read_reply-clause-heard : goal.returns-in_err-read_reply-clause-heard
returns-in_err-read_reply-clause-heard g c =
    let opened : IfSome (g.L.Source.aside c.args.link.now).incoming (λ told. g.L.Source.left c.put.new.sink ≡ Some told) = search rules in
    let p = err_from_is_err_and c.from_residual-in_err-read_reply.result c.from_residual-in_err-read_reply.ensures.1 in
    rw (p.1, p.2)
    (heard_fault c.in_err-read_reply.field-0.0 _ _ _ opened c.in_err-read_reply.ensures.unfinished c.in_err-read_reply.ensures.bad_reply
    c.in_err-read_reply.ensures.no_reply c.in_err-read_reply.ensures.near c.in_err-read_reply.ensures.not_data c.in_err-read_reply.ensures.no_document)
