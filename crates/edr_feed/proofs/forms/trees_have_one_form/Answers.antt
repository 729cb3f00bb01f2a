use Rattle.edr_feed.proofs.FormLaws.{one_form}
use Rattle.edr_feed.proofs.forms.trees_have_one_form.Goals as goal

pub returns : goal.returns
returns c = one_form c.trees_stand_for_one.ensures
