use Rattle.std.proofs.Common.{◌≡◌, ◌++◌}
use Rattle.edr_edition.proofs.shelves.shared.Given as goal

abbrev pub invariant-loop-edition : goal.invariant-loop-edition
invariant-loop-edition l = l.all.items ++ l.edition-iterator.rest.items ≡ l.fn.editions.items
