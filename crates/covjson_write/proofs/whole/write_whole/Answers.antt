use Rattle.std.proofs.Common.{ap, ◌∙◌}
use Rattle.serde_json.specs.Written.{compact_text}
use Rattle.covjson_write.proofs.whole.write_whole.Goals as goal

pub returns : goal.returns
returns c = c.from_vec.ensures ∙ c.in_ok-text.ensures.text c.in_ok-tree.ensures.no_float ∙ ap compact_text c.in_ok-tree.ensures.tree
