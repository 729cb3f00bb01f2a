use Rattle.std.proofs.Common.{◌≡◌, ℕ, false, List, Contains, Some, Ordering, Less, Equal, Greater, refl, sym, ap, ◌∙◌}
use Rattle.std.proofs.lemmas.Bool.{false≢true}
use Rattle.std.specs.Ordering.{nat_cmp, ordering_then, is_lt, is_gt}
use Rattle.edr_base.specs.declared.places.Spot.{Spot}
use Rattle.edr_base.specs.Names.{order}
use Rattle.edr_ids.specs.Ids.{AscendBy, item_of}
use Rattle.edr_ids.specs.ListLaws.{order_same, item_of-found}
use Rattle.edr_near.specs.Near as near
use Rattle.edr_near.specs.Near.{IsOneNearest}
use Rattle.edr_near.proofs.Nearest.{turned}
use Rattle.edr_near.proofs.laws.nearest_is_one.Goals as goal

tied : (o : Ordering) → is_lt o ≡ false → is_gt o ≡ false → o ≡ Equal
tied Less h k = absurd (false≢true (sym h))
tied Equal h k = refl
tied Greater h k = absurd (false≢true (sym k))

second_tied : (a b : Ordering) → ordering_then a b ≡ Equal → b ≡ Equal
second_tied Less b h = absurd (false≢true (sym (ap is_lt h)))
second_tied Equal b h = h
second_tied Greater b h = absurd (false≢true (sym (ap is_gt h)))

is_one : {V : Type 0} (a b : V) → Some a ≡ Some b → a ≡ b
is_one a b e = cc

found : {V : Type 0} (id_of : V → List ℕ) (items : List V) (item : V) → AscendBy id_of items → Contains items item → item_of id_of (id_of item) items ≡ Some item
found id_of items item up there = item_of-found id_of (id_of item) items there.0 item up there.1 (ap id_of there.2) ∙ ap Some there.2

one_nearest : {V : Type 0} (id_of : V → List ℕ) (spot_of : V → Spot) → IsOneNearest id_of spot_of
one_nearest id_of spot_of spot items one other up first second =
    let no_less = second.least one first.one in
    let no_more = sym (turned id_of spot_of spot other one) ∙ first.least other second.one in
    let distances = nat_cmp (near.distance_of id_of spot_of spot one) (near.distance_of id_of spot_of spot other) in
    let ids : order (id_of one) (id_of other) ≡ Equal = second_tied distances (order (id_of one) (id_of other)) (tied (near.compare id_of spot_of spot one other) no_less no_more) in
    let same = order_same (id_of one) (id_of other) ids in
    is_one one other (sym (found id_of items one up first.one) ∙ (ap (λ id. item_of id_of id items) same ∙ found id_of items other up second.one))

pub returns : goal.returns
returns g c = one_nearest g.T.Identified.id_of g.T.Placed.spot_of
