use Rattle.std.proofs.Common.{rules, arith}
use Rattle.edr_samples.specs.Trees.{tree_view}
use Rattle.edr_feed.proofs.lines.line_says.Goals as goal

pub returns-clause-says : goal.returns-clause-says
returns-clause-says c = ((omega (arith, c.if-line-gt-LINE_LIMIT.false), search rules), tree_view c.in_ok-tree.tree, c.in_ok-tree.ensures.tree, c.in_ok-entry_of.ensures.reads)
