use Rattle.std.proofs.Common.{Ok}
use Rattle.edr_import.specs.Imports.{TableStands}
use Rattle.edr_import.specs.Limits.{table_limit}
use Rattle.std.specs.Prelude.{◌≤◌, List, ℕ, length}
use Rattle.edr.proofs.AskLemmas.{ends_with}
use Rattle.edr.proofs.ShowLemmas.{of_all}
use Rattle.edr.proofs.ImportLemmas.{import_caused}
use Rattle.edr.proofs.importing.import.Goals as goal

pub returns-clause-output : goal.returns-clause-output
returns-clause-output g c =
    let stands = rw c.deref.ensures.value at c.imported.ensures.output in
    ends_with c.imported.result _ _ _ _ _
    (λ text is. of_all (λ (bytes : List ℕ). (length bytes ≤ table_limit) × TableStands bytes (Ok text)) c.in-Ok.bytes.items table_limit _ _ c.in-Ok.ensures.all (c.in-Ok.ensures.all.within, is))
    stands

pub returns-clause-cause : goal.returns-clause-cause
returns-clause-cause g c =
    let caused = rw c.deref.ensures.value at c.imported.ensures.cause in
    import_caused c.imported.result c.in-Ok.bytes.items _ _ _ _ _ _ c.in-Ok.ensures.all c.in-Ok.ensures.all.within caused
