use Rattle.std.proofs.Common.{rules}
use Rattle.std.specs.Arc.{arc_value}
use Rattle.edr_edition.specs.Shelves.{SteppedValue}
use Rattle.edr_edition.proofs.ShelfLaws.{given_grows, given_within, taken_grows}
use Rattle.edr_edition.proofs.shelves.SteppedShelfEditions.take.Goals as goal

pub returns-clause-grows : goal.returns-clause-grows
returns-clause-grows c =
    let after : SteppedValue = record { editions = c.self.inside.editions.items; answered = c.saturating_add-self-inside.result } in
    given_grows c.args.self.now after (search rules) (search rules)

pub returns-clause-taken : goal.returns-clause-taken
returns-clause-taken c =
    let after : SteppedValue = record { editions = c.self.inside.editions.items; answered = c.saturating_add-self-inside.result } in
    taken_grows c.args.self.now after (arc_value c.in_ok-edition.edition) (search rules) (search rules)

pub returns-clause-within : goal.returns-clause-within
returns-clause-within c = given_within (record { editions = c.self.inside.editions.items; answered = c.saturating_add-self-inside.result })
