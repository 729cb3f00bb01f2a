use Rattle.std.proofs.Common.{inl, arith}
use Rattle.std.proofs.lemmas.Bool.Decides.{nat_tests}
use Rattle.edr_samples.specs.Trees.{tree_view}
use Rattle.covjson_read.proofs.SampleEntries.{coverages_some}
use Rattle.covjson_read.proofs.documents.coverages_of.Goals as goal

pub returns-then-len-ne0-clause-answer : goal.returns-then-len-ne0-clause-answer
returns-then-len-ne0-clause-answer c = rw c.in-Samples.is (inl (coverages_some (tree_view c.args.collection.now) c.in-Samples.samples.now (λ e. grind (arith, nat_tests))))
