use Rattle.std.proofs.Common.{inl}
use Rattle.edr_export.proofs.ExportLemmas.{answers_more}
use Rattle.edr_export.proofs.exporting.export_values.Goals as goal

pub returns-clause-written : goal.returns-clause-written
returns-clause-written g c =
    answers_more c.export_page-outcome.result _ _ _ _ (λ answer answered. inl (c.in_ok-page.page, c.in_ok-page.ensures, answered)) c.export_page-outcome.ensures.written
