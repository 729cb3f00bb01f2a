use Rattle.std.proofs.Common.{sym, ◌∙◌}
use Rattle.edr_query.proofs.StepLemmas.{passed_all, all_said}
use Rattle.edr_query.proofs.steps.without_conflict.Goals as goal

pub returns-then-conflicts : goal.returns-then-conflicts
returns-then-conflicts c =
    let said = c.args.said in
    record {
      applies = (said, c.requires.said, sym c.conflicts.ensures ∙ c.if-conflicts.true);
      none_before = passed_all c.args.page c.args.parameters.now said c.requires.passed c.requires.said;
    }

pub returns : goal.returns
returns c =
    all_said c.wkt_is_one.ensures c.times_are_unique.ensures c.levels_are_unique.ensures c.distances_are_unique.ensures c.args.page c.args.parameters.now c.args.said
    c.requires.passed c.requires.said (sym c.conflicts.ensures ∙ c.if-conflicts.false)
