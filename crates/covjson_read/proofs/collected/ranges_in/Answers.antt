use Rattle.std.proofs.Common.{◌≡◌, Ok, codes, length, true≢false, sym, ap, ap₂, ◌∙◌}
use Rattle.edr_samples.specs.Trees.{tree_view, members_view}
use Rattle.covjson_checks.specs.declared.faults.Member.TheVariants.{Ranges}
use Rattle.covjson_checks.specs.Members.{need, object_at}
use Rattle.covjson_read.specs.CollectedAnswers.{both}
use Rattle.covjson_read.proofs.RangesInTurn.{some_members, some_ranges}
use Rattle.covjson_read.proofs.collected.ranges_in.Goals as goal

pub returns-clause-answer : goal.returns-clause-answer
returns-clause-answer c =
    let es = c.in_ok-members.members.now.entries in
    let found = tree_view c.in_ok-found.found.now in
    let needed : need (codes "ranges") Ranges (tree_view c.args.tree.now) ≡ Ok found = c.in_ok-found.ensures in
    let are : object_at Ranges found ≡ Ok (members_view es) = c.in_ok-members.ensures in
    let some : ¬ (length es ≡ 0) = λ e. true≢false (sym (c.is_empty.ensures.1 e) ∙ c.if-is_empty.false) in
    some_ranges c.args.read.now (tree_view c.args.parameters.now) (tree_view c.args.tree.now) found (members_view es) needed are (some_members es some)
    ∙ c.in_ok-ranges_from.ensures.answer ∙ ap Ok (ap₂ both (sym c.of.ensures) (sym c.of-2.ensures))

pub returns-clause-valid : goal.returns-clause-valid
returns-clause-valid c = rw (c.of.ensures, c.of-2.ensures) c.in_ok-ranges_from.ensures.valid
