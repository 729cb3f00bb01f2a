use Rattle.std.proofs.Common.{◌∙◌, ℕ, List, false, refl}
use Rattle.edr_base.specs.KnownBytes.{front_whole}
use Rattle.edr.specs.Helps.{help}
use Rattle.edr.proofs.EndLemmas.{settled_output}
use Rattle.edr.proofs.helping.tell_help.Goals as goal

pub returns-in-Ok-clause-output : goal.returns-in-Ok-clause-output
returns-in-Ok-clause-output g c =
    let text : List ℕ = help in
    let grew = c.settled.ensures.written ∙ c.in-Ok.ensures.bytes.whole in
    settled_output c.settled.result false _ _ _ _ _ _ _ c.settled.ensures.settles
    (λ settled. record { text = text; is = refl; grew = grew; settled = settled })
    (record { text = text; is = refl; front = front_whole _ _ _ grew })
