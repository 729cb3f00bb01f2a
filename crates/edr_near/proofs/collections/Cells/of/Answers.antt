use Rattle.std.proofs.Common.{◌≡◌, ◌⊎◌, ◌++◌, ◌∷◌, [], inl, inr, List, Contains, length, take, sym, ap, subst, arith}
use Rattle.std.specs.Prelude.{◌↔◌}
use Rattle.std.specs.Arc.{arc_value}
use Rattle.std.proofs.lemmas.List.{take_all, length-map}
use Rattle.std.proofs.lemmas.List.Elements.{Contains-append_left, Contains-push, Contains-push_cases}
use Rattle.edr_near.specs.Cells.{CellValue, Has}
use Rattle.edr_near.specs.Kept.{values_of}
use Rattle.edr_near.proofs.SharedItems.{taken_more}
use Rattle.edr_near.proofs.collections.Cells.of.Goals as goal

nothing : {V : Type 0} (cells : List (CellValue V)) → cells ≡ [] → (v : V) → Has cells v ↔ Contains [] v
nothing cells none v = (
  λ has. absurd (let there = has.there.1 in omega (arith, there, ap length none)),
  λ there. absurd (omega (arith, there.1)),
)

one_more : {V : Type 0} (old new : List (CellValue V)) (taken : List V) (item : V) → ((v : V) → Has old v ↔ Contains taken v) → ((v : V) → Has new v ↔ ((v ≡ item) ⊎ Has old v))
    → (v : V) → Has new v ↔ Contains (taken ++ item ∷ []) v
one_more old new taken item was put v = (
  λ has. elim ((put v).0 has) [
    | inl is ↦ subst (Contains (taken ++ item ∷ [])) (sym is) (Contains-push taken item)
    | inr had ↦ Contains-append_left taken (item ∷ []) v ((was v).0 had)
  ],
  λ there. elim (Contains-push_cases taken item v there) [
    | inl old ↦ (put v).1 (inr ((was v).1 old))
    | inr is ↦ (put v).1 (inl (sym is))
  ],
)

pub loop-item-init : goal.loop-item-init
loop-item-init g c = nothing c.empty-cells.result c.empty-cells.ensures

pub loop-item-preserved : goal.loop-item-preserved
loop-item-preserved g c v =
    let items = c.args.items.now in
    let k = c.loop-item.item-index in
    let s = c.item-item.result in
    subst (λ l. Has c.put.new.self v ↔ Contains l v) (sym (taken_more items k s c.loop-item-test.true c.item-item.is))
    (one_more c.loop-item.cells c.put.new.self (take k (values_of items)) (arc_value s) c.loop-item.invariant c.in_ok-put.ensures.put v)

pub returns : goal.returns
returns g c v =
    let items = c.args.items.now in
    subst (λ l. Has c.loop-item.cells v ↔ Contains l v)
    (take_all c.loop-item.item-index (values_of items) (omega (arith, c.loop-item-test.false, length-map items (λ x. arc_value x)))) (c.loop-item.invariant v)
