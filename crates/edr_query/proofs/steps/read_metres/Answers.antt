use Rattle.std.proofs.Common.{refl, inr, subst, List, ℕ}
use Rattle.edr_axes.specs.Distances.{HasNoDistance}
use Rattle.edr_query.proofs.steps.read_metres.Goals as goal

pub returns-in-None : goal.returns-in-None
returns-in-None c =
    let n = c.in-Some.number_text.now in let u = c.in-Some-get.unit_text.now in
    let P : List ℕ → Type 0 = λ t. HasNoDistance t c.as_bytes-2.result.now in
    let Q : List ℕ → Type 0 = λ t. HasNoDistance n t in
    inr (refl, (n, c.in-Some.ensures, (u, c.in-Some-get.ensures, subst Q c.as_bytes-2.ensures.value (subst P c.as_bytes.ensures.value c.in-None.ensures))))
