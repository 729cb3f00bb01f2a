use Rattle.std.proofs.Common.{rules, sym, ◌∙◌}
use Rattle.edr_samples.specs.Trees.{tree_view}
use Rattle.edr_base.specs.TestLaws.{fails}
use Rattle.edr_feed.specs.Forms.{IsBare}
use Rattle.edr_feed.proofs.FormFaults.{no_line}
use Rattle.edr_feed.proofs.forms.entry_of.Goals as goal

pub returns-else-has_members-clause-reads : goal.returns-else-has_members-clause-reads
returns-else-has_members-clause-reads c =
    let d = tree_view c.args.tree.now in
    let apart : ¬ (IsBare d) = λ bare. fails _ _ c.has_text.ensures c.if-has_text.false (search rules) in
    no_line d apart (sym c.has_members.ensures ∙ c.if-has_members.false)
