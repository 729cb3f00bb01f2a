use Rattle.std.proofs.Common.{◌∙◌, ℕ, List, false, refl}
use Rattle.edr_base.specs.KnownBytes.{front_whole}
use Rattle.edr_make.specs.Made.{made}
use Rattle.edr.proofs.EndLemmas.{settled_output}
use Rattle.edr.proofs.making.make.Goals as goal

pub returns-in-Ok-clause-output : goal.returns-in-Ok-clause-output
returns-in-Ok-clause-output g c =
    let text : List ℕ = made c.args.number in
    let grew = c.settled.ensures.written ∙ c.in-Ok.ensures.text.whole in
    settled_output c.settled.result false _ _ _ _ _ _ _ c.settled.ensures.settles
    (λ settled. record { text = text; is = refl; grew = grew; settled = settled })
    (record { text = text; is = refl; front = front_whole _ _ _ grew })
