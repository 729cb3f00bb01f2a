use Rattle.std.proofs.Common.{◌≡◌, ◌∙◌, ℕ, Bool, List, true, false, length, ap, ap₂, sym, refl}
use Rattle.std.specs.Prelude.{not, ◌&&◌}
use Rattle.std.specs.List.{slice_index_or}
use Rattle.std.proofs.lemmas.Bool.{and_right}
use Rattle.edr_lines.specs.Boxes.{some_asked}
use Rattle.edr_lines.specs.Corridors.{CorridorValue}
use Rattle.edr_lines.proofs.MoreSides.{none_asked}
use Rattle.edr_lines.proofs.stacks_taken.asks_nothing.Goals as goal

of_not : (b : Bool) → not b ≡ true → b ≡ false
of_not true h = cc
of_not false h = refl

pub returns-then-not-times : goal.returns-then-not-times
returns-then-not-times c =
    let v = c.args.corridor.now in
    let is : c.has_asked-times.result ≡ some_asked v.times (0, length v.times) =
    c.has_asked-times.ensures
    ∙ ap₂ (λ (asked : List Bool) (n : ℕ). some_asked asked (0, n)) (c.deref.ensures.value ∙ ap (λ (w : CorridorValue). w.times) c.corridor.view_is) (c.len.ensures ∙ c.corridor.inside.times.ok.0 ∙ ap (λ (w : CorridorValue). length w.times) c.corridor.view_is) in
    λ h t z. ap (λ b. b && slice_index_or v.levels z false) (none_asked v.times (sym is ∙ of_not c.has_asked-times.result h) t)

pub returns-else-not-times : goal.returns-else-not-times
returns-else-not-times c =
    let v = c.args.corridor.now in
    let is : c.has_asked-levels.result ≡ some_asked v.levels (0, length v.levels) =
    c.has_asked-levels.ensures
    ∙ ap₂ (λ (asked : List Bool) (n : ℕ). some_asked asked (0, n)) (c.deref-2.ensures.value ∙ ap (λ (w : CorridorValue). w.levels) c.corridor.view_is) (c.len-2.ensures ∙ c.corridor.inside.levels.ok.0 ∙ ap (λ (w : CorridorValue). length w.levels) c.corridor.view_is) in
    λ h t z. and_right (slice_index_or v.times t false) (slice_index_or v.levels z false) (none_asked v.levels (sym is ∙ of_not c.has_asked-levels.result h) z)
