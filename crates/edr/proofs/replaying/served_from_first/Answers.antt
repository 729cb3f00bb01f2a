use Rattle.std.proofs.Common.{◌∙◌, sym, ap, true, Err, inl, inr, ⊎_elim}
use Rattle.edr.proofs.ReplayLemmas.{whole_first, part_first, begun_first, served_first, read_all, read_some, waits_first}
use Rattle.edr.proofs.EndLemmas.{settled_output, broken_output, read_so_far, broken_waits, settled_waits}
use Rattle.edr.proofs.replaying.served_from_first.Goals as goal

pub returns-in-Ok-serve_session-clause-output : goal.returns-in-Ok-serve_session-clause-output
returns-in-Ok-serve_session-clause-output g c =
    settled_output c.settled.result true _ _ _ _ _ _ _ c.settled.ensures.settles
    (λ settled. whole_first c.in-Some.first _ c.args.editions.items _ _ _ _ c.in-Ok-serve_session.field-0 _ _ (sym c.into_iter-rest.ensures.rest ∙ c.in-Some.ensures.items) c.in-Ok.ensures c.in-Ok-serve_session.ensures.stock c.in-Ok-serve_session.ensures.done c.settled.ensures.written settled)
    (part_first c.in-Some.first _ c.args.editions.items _ _ _ _ c.in-Ok-serve_session.field-0 _ (sym c.into_iter-rest.ensures.rest ∙ c.in-Some.ensures.items) c.in-Ok.ensures c.in-Ok-serve_session.ensures.stock c.in-Ok-serve_session.ensures.done c.settled.ensures.written)

pub returns-in-Ok-serve_session-clause-ended : goal.returns-in-Ok-serve_session-clause-ended
returns-in-Ok-serve_session-clause-ended g c =
    read_so_far c.settled.result _ (served_first _ _ _ _ c.in-Ok-serve_session.field-0 c.in-Ok-serve_session.ensures.done c.in-Ok-serve_session.ensures.behind c.in-Ok-serve_session.ensures.ended)

pub returns-in-Ok-serve_session-clause-read : goal.returns-in-Ok-serve_session-clause-read
returns-in-Ok-serve_session-clause-read g c =
    read_all c.in-Some.first _ c.args.editions.items _ _ _ _ c.in-Ok-serve_session.field-0 _ (sym c.into_iter-rest.ensures.rest ∙ c.in-Some.ensures.items) c.in-Ok.ensures c.in-Ok-serve_session.ensures.stock c.in-Ok-serve_session.ensures.done c.settled.ensures.written

pub returns-clause-output : goal.returns-clause-output
returns-clause-output g c =
    rw c.broken.ensures
    (broken_output c.in-Err.fault _ _ _ _ _
    (begun_first c.output_goes_on.ensures c.in-Some.first _ c.args.editions.items _ _ _ _ (sym c.into_iter-rest.ensures.rest ∙ c.in-Some.ensures.items) c.in-Ok.ensures c.in-Err.ensures.stock c.in-Err.ensures.fault))

pub returns-clause-read : goal.returns-clause-read
returns-clause-read g c =
    read_some c.in-Some.first _ c.args.editions.items _ _ _ _ (sym c.into_iter-rest.ensures.rest ∙ c.in-Some.ensures.items) c.in-Ok.ensures c.in-Err.ensures.stock c.in-Err.ensures.fault

pub returns-in-Ok-serve_session-clause-waits : goal.returns-in-Ok-serve_session-clause-waits
returns-in-Ok-serve_session-clause-waits g c = settled_waits c.settled.result _ _ _ _ _ c.settled.ensures.settles

pub returns-clause-waits : goal.returns-clause-waits
returns-clause-waits g c =
    rw c.broken.ensures
    (broken_waits c.in-Err.fault _
    (λ is. waits_first c.in-Some.first _ c.args.editions.items _ _ _ _ _ (sym c.into_iter-rest.ensures.rest ∙ c.in-Some.ensures.items) c.in-Ok.ensures c.in-Err.ensures.stock (c.in-Err.ensures.waits (ap Err is))
    (⊎_elim (λ same. inl (ap g.K.Sink.written same)) (λ flushed. inr flushed) (c.in-Err.ensures.settled (ap Err is)))))
