use Rattle.std.proofs.Common.{rules, ◌≡◌, inr, refl, sym}
use Rattle.edr_fetch.specs.Requests.{request_text}
use Rattle.edr.specs.Said.{reply_explained}
use Rattle.edr.proofs.AskLemmas.{ends_as}
use Rattle.edr.proofs.ShowLemmas.{table_heard, reply_taken, table_link, fault_output, fault_cause, fault_link, halted_anyway}
use Rattle.edr.proofs.ExplainLemmas.{reply_is_explained}
use Rattle.edr.proofs.fetching.fetch_url.Goals as goal

pub returns-in-Ok-clause-output : goal.returns-in-Ok-clause-output
returns-in-Ok-clause-output g c =
    ends_as c.tabled.result _ _ _ _ _ _ (λ text is. table_heard c.in-Ok.reply _ _ c.in-Ok.ensures.heard c.in-Ok.ensures.valid text is)
    (λ text is. inr (table_heard c.in-Ok.reply _ _ c.in-Ok.ensures.heard c.in-Ok.ensures.valid text is)) c.tabled.ensures.output

pub returns-in-Ok-clause-exchange : goal.returns-in-Ok-clause-exchange
returns-in-Ok-clause-exchange g c =
    rw (sym c.in-Ok-Some.ensures.request, c.in-Ok-Some.field-0-is)
    (table_link c.tabled.result (request_text c.in-Ok-Some.request) _ _ _ _ _ c.tabled.ensures.cause c.in-Ok.ensures.exchanged (reply_taken c.in-Ok.reply _ _ c.in-Ok.ensures.heard))

pub returns-clause-output : goal.returns-clause-output
returns-clause-output g c = rw c.ending_of.ensures (fault_output c.in-Err-fetch.fault _ _ _)

pub returns-clause-cause : goal.returns-clause-cause
returns-clause-cause g c =
    rw c.ending_of.ensures
    (fault_cause c.in-Err-fetch.fault c.args.url.now _ _ _ _ _ _ _ c.in-Err-fetch.ensures.exchanged c.in-Err-fetch.ensures.heard refl refl refl)

pub returns-clause-exchange : goal.returns-clause-exchange
returns-clause-exchange g c =
    rw (sym c.in-Ok-Some.ensures.request, c.in-Ok-Some.field-0-is, c.ending_of.ensures)
    (fault_link c.in-Err-fetch.fault _ _ _ _ _ _ c.in-Err-fetch.ensures.exchanged c.in-Err-fetch.ensures.heard)

pub returns-then-is_err-clause-exchange : goal.returns-then-is_err-clause-exchange
returns-then-is_err-clause-exchange g c =
    rw (sym c.in-Ok-Some.ensures.request, c.in-Ok-Some.field-0-is)
    (halted_anyway c.in-Err-fetch.fault (request_text c.in-Ok-Some.request) _ _ _ c.in-Err-fetch.ensures.exchanged)

pub returns-clause-explains : goal.returns-clause-explains
returns-clause-explains g c =
    let said : c.explain_reply.new.explained ≡ reply_explained c.args.why c.in-Err-fetch.fault = search rules in
    rw c.ending_of.ensures (reply_is_explained c.args.why c.in-Err-fetch.fault _ _ _ c.in-Err-fetch.ensures.heard said)
