use Rattle.std.proofs.Common.{rules, ◌≡◌, ◌+◌, ◌∙◌, sym, ap, subst, length, get_or, ℕ, List, ◌∷◌, [], ◌++◌}
use Rattle.covjson_value.specs.declared.coverages.NdArray.{NdArray}
use Rattle.edr_import.specs.declared.names.Name.{Name}
use Rattle.edr_import.specs.Tables.{AreValues, AreSeries, name_id}
use Rattle.edr_import.proofs.ValueLemmas.{HasSeries, series_on, all_series}
use Rattle.edr_import.proofs.series.series_of.Goals as goal

pub loop-place-preserved : goal.loop-place-preserved
loop-place-preserved c =
    let xs = c.args.observations.now in
    let names = c.args.names.now in
    let site = c.args.site.now in
    let range : NdArray = record { values = c.in_ok-values.values.items } in
    let id : (name : Name) → c.bytes.result.now ≡ name_id (get_or names c.loop-place.place name) = λ name. c.bytes.ensures ∙ ap (λ (n : Name). name_id n) (c.at.ensures name) in
    let is : (name : Name) → AreValues xs site (name_id (get_or names c.loop-place.place name)) range.values =
    λ name. subst (λ (s : List ℕ). AreValues xs site s range.values) (id name) c.in_ok-values.ensures in
    let pushed : c.push.new.self.items ≡ c.loop-place.ranges.items ++ range ∷ [] = search rules in
    subst (HasSeries xs names site (c.loop-place.place + 1)) (sym pushed)
    (series_on xs names site c.loop-place.place c.loop-place.ranges.items range c.loop-place.invariant is)

pub returns : goal.returns
returns c =
    let same : c.of-2.result ≡ c.loop-place.ranges.items = search rules in
    let done : c.loop-place.place ≡ length c.args.names.now = search rules in
    subst (AreSeries c.args.observations.now c.args.names.now c.args.site.now) (sym same)
    (all_series c.args.observations.now c.args.names.now c.args.site.now c.loop-place.place c.loop-place.ranges.items c.loop-place.invariant done)
