use Rattle.edr_draft.proofs.SeriesLaws.{one_row}
use Rattle.edr_draft.proofs.series.is_series.Goals as goal

pub returns-then-len-eq1 : goal.returns-then-len-eq1
returns-then-len-eq1 c = one_row _ _ _ _ _ _ _ c.in-Grid.is c.len.ensures.0 c.if-len-eq1.true c.len-then-len-eq1.ensures.0
