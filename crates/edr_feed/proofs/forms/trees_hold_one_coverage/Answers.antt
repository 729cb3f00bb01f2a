use Rattle.edr_feed.proofs.FormLaws.{one_coverage}
use Rattle.edr_feed.proofs.forms.trees_hold_one_coverage.Goals as goal

pub returns : goal.returns
returns c = one_coverage
