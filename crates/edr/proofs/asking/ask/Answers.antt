use Rattle.std.proofs.Common.{◌≡◌, List, subst, rules}
use Rattle.edr_edition.specs.Values.{EditionValue}
use Rattle.edr_edition.specs.Shelves.{EndsWith}
use Rattle.edr.proofs.AskLemmas.{ends_with}
use Rattle.edr.proofs.asking.ask.Goals as goal

pub returns-in-Ok-clause-output : goal.returns-in-Ok-clause-output
returns-in-Ok-clause-output g c =
    let same : c.items.result.now ≡ c.in-Ok.feed.editions = search rules in
    let last : EndsWith c.in-Ok.feed.editions c.last_of.result.now = subst (λ (l : List EditionValue). EndsWith l c.last_of.result.now) same c.last_of.ensures in
    ends_with c.answered.result _ _ _ _ _
    (λ text answered. record { editions = c.in-Ok.feed.editions; feed = c.in-Ok.ensures.editions; edition = c.last_of.result.now; last = last; answered = answered })
    c.answered.ensures.output
