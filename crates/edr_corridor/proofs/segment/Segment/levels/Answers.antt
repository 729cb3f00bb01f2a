use Rattle.std.proofs.Common.{◌≡◌, Option, Some, IfSome, ℤ, subst}
use Rattle.edr_base.specs.Limits.{IsCoordinate, IsMetres}
use Rattle.edr_corridor.proofs.Halves.{about_back, levels_about_z, levels_about_level}
use Rattle.edr_corridor.proofs.segment.Segment.levels.Goals as goal

pub returns-then-self-clause-has : goal.returns-then-self-clause-has
returns-then-self-clause-has c =
    let segment = c.args.self.now in let height = c.in_ok-height.height in
    let height_is : segment.rule.height ≡ Some height = c.in_ok-height.was in
    let height_in : IsMetres height = subst (λ (h : Option ℤ). IfSome h IsMetres) height_is c.requires.rule_in.height_in in
    levels_about_z segment c.about.result height c.if-self.true height_is
    (about_back c.about.result segment.start.z segment.end.z height c.requires.start_in.z c.requires.end_in.z height_in c.about.ensures.has)

pub returns-clause-has : goal.returns-clause-has
returns-clause-has c =
    let segment = c.args.self.now in let height = c.in_ok-height.height in let level = c.in_ok-level.level in
    let height_is : segment.rule.height ≡ Some height = c.in_ok-height.was in
    let level_is : segment.rule.level ≡ Some level = c.in_ok-level.was in
    let height_in : IsMetres height = subst (λ (h : Option ℤ). IfSome h IsMetres) height_is c.requires.rule_in.height_in in
    let level_in : IsCoordinate level = subst (λ (l : Option ℤ). IfSome l IsCoordinate) level_is c.requires.rule_in.level_in in
    levels_about_level segment c.about-2.result height level c.if-self.false height_is level_is (about_back c.about-2.result level level height level_in level_in height_in c.about-2.ensures.has)
