use Rattle.std.proofs.Common.{rules, ◌≢◌}
use Rattle.covjson_checks.specs.declared.faults.CovFault.TheVariants as cov
use Rattle.edr_reply.specs.Messages.{body_limit}
use Rattle.edr.specs.Documents.{IsTableOf, IsNoDocumentBy}
use Rattle.edr.specs.declared.endings.DocumentRefusal.TheVariants.{Cov}
use Rattle.edr.proofs.AskLemmas.{ends_with}
use Rattle.edr.proofs.ShowLemmas.{of_all}
use Rattle.edr.proofs.ExplainLemmas.{document_is_explained}
use Rattle.edr.proofs.showing.show.Goals as goal

pub returns-in-Ok-read_document-clause-output : goal.returns-in-Ok-read_document-clause-output
returns-in-Ok-read_document-clause-output g c =
    let stands = rw c.deref.ensures.value at c.in-Ok-read_document.ensures.stands in
    ends_with c.tabled.result _ _ _ _ _
    (λ text is. of_all (λ bytes. IsTableOf bytes text) c.in-Ok.bytes.items body_limit _ _ c.in-Ok.ensures.all
    (record { within = c.in-Ok.ensures.all.within; document = c.in-Ok-read_document.document; stands = stands; text_is = is }))
    c.tabled.ensures.output

pub returns-in-Ok-explain_document-clause-cause : goal.returns-in-Ok-explain_document-clause-cause
returns-in-Ok-explain_document-clause-cause g c =
    let other : c.in-Err.fault ≢ cov.OutOfMemory = search rules in
    let none = rw c.deref.ensures.value at c.in-Err.ensures.none other in
    of_all (IsNoDocumentBy Cov) c.in-Ok.bytes.items body_limit _ _ c.in-Ok.ensures.all (c.in-Ok.ensures.all.within, none)

pub returns-in-Ok-explain_document-clause-explains : goal.returns-in-Ok-explain_document-clause-explains
returns-in-Ok-explain_document-clause-explains g c =
    let other : c.in-Err.fault ≢ cov.OutOfMemory = search rules in
    let rows = rw c.deref.ensures.value at c.in-Err.ensures.first_fault other in
    document_is_explained c.args.why c.in-Err.fault c.in-Ok.bytes.items body_limit _ _ _ c.in-Ok.ensures.all rows c.in-Ok-explain_document.ensures.explained
