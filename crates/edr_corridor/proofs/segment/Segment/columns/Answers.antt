use Rattle.edr_corridor.proofs.Halves.{about_back}
use Rattle.edr_corridor.proofs.segment.Segment.columns.Goals as goal

pub returns-clause-has : goal.returns-clause-has
returns-clause-has c =
    let segment = c.args.self.now in
    about_back c.about.result segment.start.x segment.end.x segment.rule.width c.requires.start_in.x c.requires.end_in.x c.requires.rule_in.width_in c.about.ensures.has
