use Rattle.std.proofs.Common.{rules, ◌≡◌, ℤ, codes, FitsSigned, w64, OnOk, option_map}
use Rattle.std.specs.Fmt.{signed_decimal}
use Rattle.form_urlencoded.specs.Form.{append_pair}
use Rattle.edr_query.specs.declared.parameters.Parameter.TheVariants as p
use Rattle.edr_query.specs.Spelling.{metres_unit}
use Rattle.edr_target.specs.Forms.{with_pair}
use Rattle.edr_target.proofs.FormLemmas.{height_put, on_ok, passed}
use Rattle.edr_target.proofs.places.push_height.Goals as goal

pub returns-in-Some : goal.returns-in-Some
returns-in-Some c =
    let now = c.push_distance.new.form.items in
    let old = c.args.form.now.items in
    let metres : ℤ = c.in-Some.height in
    let fits : FitsSigned w64 metres = search rules in
    let put : OnOk c.push_distance.result (now ≡ append_pair (append_pair old (codes "corridor-height") (signed_decimal metres)) (codes "height-units") (codes "m")) =
    passed (λ (n : ℤ). OnOk c.push_distance.result (now ≡ append_pair (append_pair old (codes "corridor-height") (signed_decimal n)) (codes "height-units") (codes "m"))) metres fits c.push_distance.ensures in
    on_ok c.push_distance.result _ (now ≡ with_pair (with_pair old p.CorridorHeight (option_map signed_decimal c.args.height)) p.HeightUnits (metres_unit c.args.height)) (height_put old now c.args.height metres c.in-Some.is) put
