use Rattle.std.proofs.Common.{rules}
use Rattle.std.proofs.lemmas.Fn.{always_returns_same}
use Rattle.edr_import.specs.Sorting.{is_before}
use Rattle.edr_import.proofs.OrderLemmas.{weak}
use Rattle.edr_import.proofs.sorting.sorted.Goals as goal

pub returns-clause-sorted : goal.returns-clause-sorted
returns-clause-sorted c = c.sort_unstable_by.ensures.sorted is_before weak (always_returns_same _ _ _ (λ a r f' k. search rules))
