use Rattle.std.proofs.Common.{rules, ◌≡◌, ◌+◌, ◌∙◌, sym, subst, ℕ, ℤ, List, ◌∷◌, [], ◌++◌, Option, to_z, of_z, w64}
use Rattle.edr_axes.specs.Axes.{value_at}
use Rattle.edr_import.specs.Tables.{IsValueAt}
use Rattle.edr_import.proofs.ValueLemmas.{HasValues, values_on}
use Rattle.edr_import.proofs.series.values_of.Goals as goal

pub loop-place-preserved : goal.loop-place-preserved
loop-place-preserved c =
    let xs = c.args.observations.now in
    let site = c.args.site.now in
    let id : c.bytes.result.now ≡ site.id = search rules in
    let t : c.value-t.result ≡ value_at site.times c.loop-place.place = search rules in
    let told : to_z w64 (of_z w64 c.value-t.result) ≡ c.value-t.result = search rules in
    let first : IsValueAt xs site.id (to_z w64 (of_z w64 c.value-t.result)) c.args.parameter.now c.value_of.result =
    subst (λ (s : List ℕ). IsValueAt xs s (to_z w64 (of_z w64 c.value-t.result)) c.args.parameter.now c.value_of.result) id c.value_of.ensures in
    let is : IsValueAt xs site.id (value_at site.times c.loop-place.place) c.args.parameter.now c.value_of.result =
    subst (λ (v : ℤ). IsValueAt xs site.id v c.args.parameter.now c.value_of.result) (told ∙ t) first in
    let pushed : c.push.new.self.items ≡ c.loop-place.values.items ++ c.value_of.result ∷ [] = search rules in
    subst (λ (vs : List (Option ℤ)). HasValues xs site c.args.parameter.now (c.loop-place.place + 1) vs) (sym pushed)
    (values_on xs site c.args.parameter.now c.loop-place.place c.loop-place.values.items c.value_of.result c.loop-place.invariant is)
