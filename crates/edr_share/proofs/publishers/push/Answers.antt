use Rattle.std.proofs.Common.{rules, ◌≡◌, drop, sym, subst, ◌∙◌, ap, List, [], ◌∷◌, ◌++◌}
use Rattle.std.specs.Arc.{arc_value}
use Rattle.left_right.specs.Sides.{view}
use Rattle.edr_edition.specs.Values.{EditionValue}
use Rattle.edr_edition.specs.Shelves.{IsNext}
use Rattle.edr_share.specs.declared.shown.Shown.{Shown}
use Rattle.edr_share.specs.declared.rule.View.{View}
use Rattle.edr_share.specs.Values.{IsShelfLog}
use Rattle.edr_share.proofs.Steps.{log_on, publishes}
use Rattle.edr_share.proofs.publishers.push.Goals as goal

pub publish_as-writer-requires : goal.publish_as-writer-requires
publish_as-writer-requires g c next is =
    let pending = c.in-Ok.ensures.pending ∙ ap (λ operations. operations ++ c.args.next ∷ []) c.requires.pending in
    let desk = c.in-Ok.ensures.desk in
    publishes _ _ c.append.new.self.desk.shown.value next c.args.next (drop c.append.new.self.behind c.append.new.self.log.items) pending is
    (ap (λ d. (view {T = Shown} {V = View} d.place).publishes) desk ∙ c.requires.publishes)
    (subst (λ (seen : List EditionValue). IsNext seen (arc_value c.args.next)) (ap (λ d. (view {T = Shown} {V = View} d.place).seen) (sym desk)) c.requires.number)

pub returns-in-Ok-done-clause-log : goal.returns-in-Ok-done-clause-log
returns-in-Ok-done-clause-log g c =
    let grew : (view {T = Shown} {V = View} c.publish_as-writer.result.0.desk.place).seen
    ≡ (view {T = Shown} {V = View} c.args.writer.desk.place).seen ++ arc_value c.args.next ∷ [] = search rules in
    subst IsShelfLog (sym grew) (log_on _ _ c.requires.log c.requires.number)
