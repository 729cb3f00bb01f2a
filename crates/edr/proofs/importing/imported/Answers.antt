use Rattle.std.proofs.Common.{◌∙◌, false}
use Rattle.edr_base.specs.KnownBytes.{front_whole}
use Rattle.edr.proofs.EndLemmas.{settled_output}
use Rattle.edr.proofs.importing.imported.Goals as goal

pub returns-in-Ok-clause-output : goal.returns-in-Ok-clause-output
returns-in-Ok-clause-output g c =
    let text = c.in-Ok.ensures.written in
    settled_output c.settled.result false _ _ _ _ _ _ _ c.settled.ensures.settles
    (λ settled. record { text = text.0; is = text.1; grew = c.settled.ensures.written ∙ text.2; settled = settled })
    (record { text = text.0; is = text.1; front = front_whole _ _ _ (c.settled.ensures.written ∙ text.2) })
