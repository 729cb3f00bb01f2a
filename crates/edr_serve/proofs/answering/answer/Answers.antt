use Rattle.std.proofs.Common.{inl}
use Rattle.edr_serve.proofs.AnswerLemmas.{answers_more}
use Rattle.edr_serve.proofs.answering.answer.Goals as goal

pub returns-clause-written : goal.returns-clause-written
returns-clause-written g c =
    answers_more c.answer_page-outcome.result _ _ _ _ (λ answer answered. inl (record { page = c.in_ok-page.page; asked = c.in_ok-page.ensures; answered = answered })) c.answer_page-outcome.ensures.written
