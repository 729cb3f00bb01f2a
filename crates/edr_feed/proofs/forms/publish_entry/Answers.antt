use Rattle.std.proofs.Common.{sym, ◌∙◌, true≢false}
use Rattle.edr_samples.specs.Trees.{tree_view}
use Rattle.edr_feed.proofs.FormOutlines.{publish_outline, publish_whole}
use Rattle.edr_feed.proofs.forms.publish_entry.Goals as goal

pub returns-then-has_members-clause-reads : goal.returns-then-has_members-clause-reads
returns-then-has_members-clause-reads c = publish_whole (tree_view c.args.tree.now) (sym c.has_members.ensures ∙ c.if-has_members.true)

pub returns-else-has_members-clause-reads : goal.returns-else-has_members-clause-reads
returns-else-has_members-clause-reads c = λ outline.
    true≢false (sym (publish_outline (tree_view c.args.tree.now) outline).1.counts ∙ (sym c.has_members.ensures ∙ c.if-has_members.false))
