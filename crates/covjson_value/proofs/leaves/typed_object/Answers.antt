use Rattle.std.proofs.Common.{ap, ◌∙◌}
use Rattle.serde_json.specs.Data.{object}
use Rattle.serde_json.proofs.Views.{view-Object}
use Rattle.covjson_value.proofs.leaves.typed_object.Goals as goal

pub returns : goal.returns
returns c = view-Object c.put_text.new.members ∙ ap object c.in_ok-put_text.ensures
