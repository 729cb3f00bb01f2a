use Rattle.edr_samples.specs.Trees.{tree_view}
use Rattle.edr_base.specs.TestLaws.{fails, holds}
use Rattle.edr_feed.proofs.FormFaults.{no_kind}
use Rattle.edr_feed.proofs.forms.kind_in.Goals as goal

pub returns-then-has_text : goal.returns-then-has_text
returns-then-has_text c = holds _ _ c.has_text.ensures c.if-has_text.true

pub returns-then-has_text-2 : goal.returns-then-has_text-2
returns-then-has_text-2 c = holds _ _ c.has_text-2.ensures c.if-has_text-2.true

pub returns : goal.returns
returns c = no_kind (tree_view c.args.tree.now) (fails _ _ c.has_text.ensures c.if-has_text.false) (fails _ _ c.has_text-2.ensures c.if-has_text-2.false)
