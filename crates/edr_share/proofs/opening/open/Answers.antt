use Rattle.std.proofs.Common.{sym, ◌∙◌, ap, refl, ◌∷◌, [], ◌++◌}
use Rattle.std.specs.Arc.{arc_value}
use Rattle.edr_share.proofs.Steps.{starts, opens}
use Rattle.edr_share.proofs.opening.open.Goals as goal

pub new-requires-2-clause-rule : goal.new-requires-2-clause-rule
new-requires-2-clause-rule g c = starts _ refl

pub publish_as-writer-requires : goal.publish_as-writer-requires
publish_as-writer-requires g c next is =
    let made = c.in_ok-writer.ensures in
    let desk = c.in-Ok.ensures.desk in
    let pending = c.in-Ok.ensures.pending ∙ ap (λ xs. xs ++ c.in_ok-first.first ∷ []) made.1 in
    opens _ _ c.append.new.self.desk.shown.value next c.in_ok-first.first _ pending is
    (ap (λ d. d.shown.value.begun) desk ∙ ap (λ s. s.begun) made.0)
    (sym (ap (λ d. arc_value d.shown.value.latest) desk ∙ (ap (λ s. arc_value s.latest) made.0 ∙ c.in_ok-try_clone.ensures)))
