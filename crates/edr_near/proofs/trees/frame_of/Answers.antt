use Rattle.std.proofs.Common.{◌≡◌, inl, inr, take, sym, subst, arith, Contains}
use Rattle.std.proofs.lemmas.List.{take_all, length-map}
use Rattle.std.proofs.lemmas.List.Elements.{Contains-push_cases}
use Rattle.std.specs.Arc.{arc_value}
use Rattle.edr_near.specs.Frames.{Holds}
use Rattle.edr_near.specs.Kept.{values_of}
use Rattle.edr_near.proofs.SharedItems.{taken_more}
use Rattle.edr_near.proofs.trees.frame_of.Goals as goal

pub loop-item-preserved : goal.loop-item-preserved
loop-item-preserved g c =
    let spot_of = g.T.Placed.spot_of in
    let shared = c.args.items.now in
    let k = c.loop-item.item-index in
    let s = c.item-item.result in
    let item = arc_value s in
    let all = take k (values_of shared) in
    let frame = c.with-frame.result in
    let own : Holds frame (spot_of item) = subst (λ x. Holds frame (spot_of x)) c.deref-in-loop-item.ensures (subst (Holds frame) c.spot-in-loop-item.ensures.spot c.with-frame.ensures.second) in (
      c.with-frame.ensures.frame,
      λ v there. elim (Contains-push_cases all item v (subst (λ l. Contains l v) (taken_more shared k s c.loop-item-test.true c.item-item.is) there)) [
        | inl old ↦ c.with-frame.ensures.first (spot_of v) (c.loop-item.invariant.1 v old)
        | inr is ↦ subst (λ x. Holds frame (spot_of x)) is own
      ],
    )

pub returns-clause-holds : goal.returns-clause-holds
returns-clause-holds g c v there =
    let shared = c.args.items.now in
    let k = c.loop-item.item-index in
    let all : take k (values_of shared) ≡ values_of shared =
    take_all k (values_of shared) (omega (arith, c.loop-item-test.false, length-map shared (λ x. arc_value x))) in
    c.loop-item.invariant.1 v (subst (λ l. Contains l v) (sym all) there)
