use Rattle.std.proofs.Common.{◌≡◌, ◌∙◌, ◌++◌, sym, ap, ap₂, rules, to_z, of_z, w64}
use Rattle.std.proofs.lemmas.Result.{on_ok_weaker}
use Rattle.edr_geometry.specs.Planar.{in_disc}
use Rattle.edr_geometry.specs.Masks.{row_of}
use Rattle.edr_select.specs.Masks.{takes_spot}
use Rattle.edr_select.proofs.MaskReach.{of_disc}
use Rattle.edr_select.proofs.MaskBits.{row_agrees}
use Rattle.edr_select.proofs.mask_rows.add_bits.Goals as goal

pub returns-in_ok-mask-in-Radius : goal.returns-in_ok-mask-in-Radius
returns-in_ok-mask-in-Radius c =
    let centre = c.centre_of.result in let within = c.in-Radius.within in
    let whole : to_z w64 (of_z w64 within) ≡ within = search rules in
    let level : to_z w64 (of_z w64 c.args.y) ≡ c.args.y = search rules in
    let same : row_of (λ p. in_disc p centre within) c.args.y c.args.xs.now ≡ row_of (takes_spot c.args.shape.now) c.args.y c.args.xs.now =
    row_agrees (λ p. in_disc p centre within) (takes_spot c.args.shape.now) c.args.y c.args.xs.now
    (λ spot. sym (of_disc c.in-Radius.geometry within centre c.centre_of.ensures spot) ∙ ap (λ s. takes_spot s spot) (sym c.in-Radius.is)) in
    let is = c.in_ok-mask-in-Radius.ensures in
    on_ok_weaker c.add_mask.result
    (λ e. e ∙ ap (λ l. c.args.bits.now.items ++ l) (is ∙ ap₂ (λ w v. row_of (λ p. in_disc p centre w) v c.args.xs.now) whole level ∙ same)) c.add_mask.ensures
