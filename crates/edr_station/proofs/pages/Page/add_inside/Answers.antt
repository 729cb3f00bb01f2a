use Rattle.std.proofs.Common.{ℕ, ◌+◌, ◌<◌, ◌++◌, ◌∷◌, [], List, length, sym, ap, ◌∙◌, rules, take, append_assoc}
use Rattle.edr_station.specs.Boxes.{places_from}
use Rattle.edr_station.proofs.SharedLists.{at_page}
use Rattle.edr_station.proofs.BoxLists.{places_more_yes, places_more_no}
use Rattle.edr_station.proofs.pages.Page.add_inside.Goals as goal
use Rattle.edr_station.proofs.pages.Page.add_inside.Goals.{then-is_inside+in_ok-push, else-is_inside}

pub loop-place-preserved : goal.loop-place-preserved
loop-place-preserved c =
    let place = c.loop-place.place in
    let first = c.args.first in
    let lo = c.args.lo in
    let hi = c.args.hi in
    let station = c.deref.result.now in
    let had = c.args.places.now.items in
    let inside : place < length c.self.inside.stations.items = search rules in
    let at = at_page c.args.self.now c.self.inside.stations.items place c.index.result.now station c.self.view_is inside c.index.ensures c.deref.ensures in
    let before = places_from first lo hi (take place c.args.self.now) in
    elim c.if-is_inside.branch [
      | then-is_inside+in_ok-push w ↦
          ap (λ v. v.items) w.places-is
          ∙ (w.in_ok-push.ensures.items
          ∙ (ap (λ (l : List ℕ). l ++ (first + place) ∷ []) c.loop-place.invariant
          ∙ (append_assoc had before ((first + place) ∷ [])
          ∙ ap (λ (l : List ℕ). had ++ l) (sym (places_more_yes first lo hi c.args.self.now place station at.0 at.1 (sym c.is_inside.ensures ∙ w.if-is_inside.true))))))
      | else-is_inside w ↦
          ap (λ v. v.items) w.places-is
          ∙ (c.loop-place.invariant
          ∙ ap (λ (l : List ℕ). had ++ l) (sym (places_more_no first lo hi c.args.self.now place station at.0 at.1 (sym c.is_inside.ensures ∙ w.if-is_inside.false))))
    ]
