use Rattle.std.proofs.Common.{rules, ◌≡◌, codes, bytes_eq, Some, Ok, refl}
use Rattle.edr_samples.specs.Trees.{tree_view, members_view}
use Rattle.edr_base.specs.FirstThatApplies.{check}
use Rattle.edr_json.specs.AnswerLaws.{and_then_given}
use Rattle.edr_json.specs.Trees.{text_or_empty}
use Rattle.covjson_checks.specs.declared.faults.Member.TheVariants.{Kind}
use Rattle.covjson_checks.specs.declared.faults.CovFault.TheVariants.{WrongType}
use Rattle.covjson_read.proofs.coverages.is_coverage.Goals as goal

pub returns : goal.returns
returns c =
    let kind = tree_view c.in_ok-_kind._kind.now in
    let named : check (bytes_eq (text_or_empty (Some kind)) (codes "Coverage")) (WrongType Kind) ≡ Ok tt = search rules in
    and_then_given _ _ (members_view c.in_ok-_members._members.now.entries) _ c.in_ok-_members.ensures
    (and_then_given _ _ kind _ c.in_ok-_kind.ensures (and_then_given _ _ tt _ named refl))
