use Rattle.edr_corridor.proofs.Halves.{about_back}
use Rattle.edr_corridor.proofs.segment.Segment.rows.Goals as goal

pub returns-clause-has : goal.returns-clause-has
returns-clause-has c =
    let segment = c.args.self.now in
    about_back c.about.result segment.start.y segment.end.y segment.rule.width c.requires.start_in.y c.requires.end_in.y c.requires.rule_in.width_in c.about.ensures.has
