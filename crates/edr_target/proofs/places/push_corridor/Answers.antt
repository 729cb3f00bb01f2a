use Rattle.std.proofs.Common.{rules, ◌≡◌, ℤ, codes, FitsSigned, w64}
use Rattle.std.specs.Fmt.{signed_decimal}
use Rattle.form_urlencoded.specs.Form.{append_pair}
use Rattle.edr_query.specs.declared.shapes.Shape.TheVariants.{Corridor}
use Rattle.edr_target.specs.Forms.{with_place}
use Rattle.edr_target.proofs.FormLemmas.{corridor_put, on_ok, passed}
use Rattle.edr_target.proofs.places.push_corridor.Goals as goal

pub returns : goal.returns
returns c =
    let old = c.args.form.now.items in
    let one = c.push_coords.new.form.items in
    let two = c.push_distance.new.form.items in
    let now = c.push_height.new.form.items in
    let width : ℤ = c.args.width in
    let fits : FitsSigned w64 width = search rules in
    let put : two ≡ append_pair (append_pair one (codes "corridor-width") (signed_decimal width)) (codes "width-units") (codes "m") =
    passed (λ (n : ℤ). two ≡ append_pair (append_pair one (codes "corridor-width") (signed_decimal n)) (codes "width-units") (codes "m")) width fits c.in_ok-push_distance.ensures in
    on_ok c.push_height.result _ (now ≡ with_place old (Corridor c.args.geometry.now width c.args.height))
    (λ h. corridor_put old one two now c.args.geometry.now width c.args.height c.in_ok-push_coords.ensures put h)
    c.push_height.ensures
