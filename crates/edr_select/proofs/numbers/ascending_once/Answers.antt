use Rattle.std.proofs.Common.{◌∙◌}
use Rattle.std.proofs.lemmas.List.Filters.{dedup_is}
use Rattle.edr_select.proofs.AscendingOnce.{sorted_is}
use Rattle.edr_select.proofs.numbers.ascending_once.Goals as goal

pub returns : goal.returns
returns c = λ count below.
    dedup_is _ _ _ c.dedup.ensures.filtered ∙ sorted_is count _ _ below c.sort_unstable.ensures.permutation c.sort_unstable.ensures.sorted
