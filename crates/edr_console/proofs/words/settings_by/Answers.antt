use Rattle.std.proofs.Common.{◌∙◌, ap, map, Bor}
use Rattle.clap.specs.Words.{Text}
use Rattle.edr_console.proofs.WordLemmas.{of_texts_ok}
use Rattle.edr_console.proofs.words.settings_by.Goals as goal

pub returns-in-Some-clause-is : goal.returns-in-Some-clause-is
returns-in-Some-clause-is c =
    let told = rw c.in-Some.is at c.in_ok-texts.ensures in
    of_texts_ok _ _ _ told.0 (ap (map (λ (t : Bor Text). t.now)) c.deref.ensures.value ∙ told.1) c.parsed.ensures.is
