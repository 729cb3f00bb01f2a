use Rattle.std.proofs.Common.{◌≡◌, ◌∙◌, ◌++◌, ◌∷◌, [], Bool, List, false, get_or, take, map, ap, sym, arith, append_assoc}
use Rattle.std.proofs.lemmas.List.{take_all}
use Rattle.edr_select.proofs.TallRows.{map_more}
use Rattle.edr_select.proofs.mask_rows.add_across.Goals as goal

pub loop-mask-preserved : goal.loop-mask-preserved
loop-mask-preserved c =
    let tall = c.args.tall.now in let k = c.loop-mask.mask-index in let y = c.args.y in let old = c.args.bits.now.items in
    let f : List Bool → Bool = λ mask. get_or mask y false in
    let here : c.is_set.result ≡ f (get_or tall k c.mask-item.result) = c.is_set.ensures ∙ ap f c.mask-item.is in
    c.in_ok-push.ensures.items ∙ ap (λ bs. bs ++ (c.is_set.result ∷ [])) c.loop-mask.invariant
    ∙ append_assoc old (map f (take k tall)) (c.is_set.result ∷ [])
    ∙ ap (λ bs. old ++ bs) (ap (λ b. map f (take k tall) ++ (b ∷ [])) here ∙ sym (map_more f tall k c.mask-item.result c.loop-mask-test.true))

pub returns : goal.returns
returns c =
    let tall = c.args.tall.now in
    c.loop-mask.invariant ∙ ap (λ ms. c.args.bits.now.items ++ map (λ (mask : List Bool). get_or mask c.args.y false) ms) (take_all c.loop-mask.mask-index tall (omega (arith, c.loop-mask-test.false)))
