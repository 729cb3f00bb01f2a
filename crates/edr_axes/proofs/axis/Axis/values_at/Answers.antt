use Rattle.std.proofs.Common.{◌∷◌, ◌++◌, [], List, ap, sym, ◌∙◌, take, rules, FitsSigned, w64}
use Rattle.std.specs.Prelude.{ℤ, map}
use Rattle.std.proofs.lemmas.Int.{to_z-of_z}
use Rattle.std.proofs.lemmas.List.{map_more, take_all}
use Rattle.edr_axes.specs.Axes.{value_at}
use Rattle.edr_axes.proofs.axis.Axis.values_at.Goals as goal

pub loop-place-preserved : goal.loop-place-preserved
loop-place-preserved c =
    let f = value_at c.args.self.now in
    let places = c.args.places.now in
    let i = c.loop-place.place-index in
    let fits : FitsSigned w64 c.value.result = search rules in
    c.in_ok-push.ensures.items ∙ ap (λ (v : ℤ). c.loop-place.values.items ++ v ∷ []) (to_z-of_z w64 c.value.result fits)
    ∙ ap (λ (l : List ℤ). l ++ c.value.result ∷ []) c.loop-place.invariant
    ∙ ap (λ (v : ℤ). map f (take i places) ++ v ∷ []) c.value.ensures ∙ sym (map_more f places i 0 c.loop-place-test.true)

pub returns : goal.returns
returns c = c.loop-place.invariant ∙ ap (map (value_at c.args.self.now)) (take_all c.loop-place.place-index c.args.places.now c.loop-place-test.false)
