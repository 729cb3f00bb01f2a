use Rattle.std.proofs.Common.{subst}
use Rattle.edr_samples.specs.Trees.{tree_view, members_view}
use Rattle.covjson_value.specs.declared.coverages.Document.{Document}
use Rattle.covjson_checks.specs.Answers.{Answer, GivesUnlessMemory}
use Rattle.covjson_read.proofs.DocumentLemmas.{document_by_kind}
use Rattle.covjson_read.proofs.documents.document_of.Goals as goal

pub returns-clause-answer : goal.returns-clause-answer
returns-clause-answer c =
    let tree = tree_view c.args.tree.now in
    let members = members_view c.in_ok-_members._members.now.entries in
    let same = document_by_kind tree (tree_view c.in_ok-_kind._kind.now) members c.text_or_empty.result.now c.in_ok-_members.ensures c.in_ok-_kind.ensures c.text_or_empty.ensures in
    subst (λ (answer : Answer Document). GivesUnlessMemory (λ d. d) c.document_of_type.result answer) same c.document_of_type.ensures.answer
