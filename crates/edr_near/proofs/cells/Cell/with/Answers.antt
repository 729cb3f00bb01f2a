use Rattle.std.proofs.Common.{ap, subst}
use Rattle.std.specs.Arc.{arc_value}
use Rattle.edr_near.specs.Kept.{IsMore}
use Rattle.edr_near.proofs.cells.Cell.with.Goals as goal

pub returns-clause-items : goal.returns-clause-items
returns-clause-items g c = subst (λ l. IsMore l (arc_value c.args.item.now) c.in_ok-with.field-0) (ap (λ v. v.items) c.self.view_is) c.in_ok-with.ensures
