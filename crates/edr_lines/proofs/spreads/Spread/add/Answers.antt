use Rattle.std.proofs.Common.{◌≡◌, ◌∙◌, Bool, List, Some, true, false, length, ap, sym, subst}
use Rattle.std.specs.Vec.{with_items}
use Rattle.std.proofs.lemmas.List.{with_items_is}
use Rattle.edr_lines.specs.Taken.{counts_of, either}
use Rattle.edr_lines.specs.Corridors.{CorridorValue}
use Rattle.edr_lines.specs.Boxes.{IsSpreadOf, SetAsked, SpreadValue, box_passes, some_asked, joined_extent}
use Rattle.edr_lines.proofs.BoxSpreads.{no_times, no_levels, no_nodes, nothing_added, box_added}
use Rattle.edr_lines.proofs.spreads.Spread.add.Goals as goal
use Rattle.edr_lines.proofs.spreads.Spread.add.Goals.{then-not-has_asked-via-then-not-has_asked, then-not-has_asked-via-else-not-has_asked+then-not-has_asked-2}

pub returns-in_default : goal.returns-in_default
returns-in_default c =
    let corridor = c.args.corridor.now in let box = c.args.taken.now in let n = counts_of c.args.axes.now in
    let times = c.requires.along.times in let levels = c.requires.along.levels in
    λ takes s. nothing_added corridor box n times levels takes c.args.self.now (no_nodes corridor box n times levels c.in_default.ensures) s

pub returns-then-not-has_asked : goal.returns-then-not-has_asked
returns-then-not-has_asked c =
    let corridor = c.args.corridor.now in let box = c.args.taken.now in let n = counts_of c.args.axes.now in
    let times = c.requires.along.times in let levels = c.requires.along.levels in
    elim c.then-not-has_asked.branch [
      | then-not-has_asked-via-then-not-has_asked w ↦
          (let none : some_asked corridor.times box.times ≡ false =
          sym (c.has_asked.ensures ∙ ap (λ (asked : List Bool). some_asked asked box.times) (c.deref.ensures.value ∙ ap (λ (v : CorridorValue). v.times) c.corridor.view_is)) ∙ w.if-not-has_asked.true in
          λ takes s. nothing_added corridor box n times levels takes c.args.self.now (no_times corridor box n times levels none) s)
      | then-not-has_asked-via-else-not-has_asked+then-not-has_asked-2 w ↦
          (let none : some_asked corridor.levels box.levels ≡ false =
          sym (w.has_asked-else-not-has_asked.ensures ∙ ap (λ (asked : List Bool). some_asked asked box.levels) (w.deref-else-not-has_asked.ensures.value ∙ ap (λ (v : CorridorValue). v.levels) c.corridor.view_is))
          ∙ w.if-not-has_asked-2.true in
          λ takes s. nothing_added corridor box n times levels takes c.args.self.now (no_levels corridor box n times levels none) s)
    ]

pub returns : goal.returns
returns c =
    let corridor = c.args.corridor.now in let box = c.args.taken.now in let n = counts_of c.args.axes.now in let old = c.args.self.now in
    let new : SpreadValue = record { times = c.set_asked.new.set; levels = c.set_asked-2.new.set; extent = Some c.joined.result } in
    let asked_times = ap (λ (v : CorridorValue). v.times) c.corridor.view_is in
    let asked_levels = ap (λ (v : CorridorValue). v.levels) c.corridor.view_is in
    let some_time : some_asked corridor.times box.times ≡ true =
    sym (c.has_asked.ensures ∙ ap (λ (asked : List Bool). some_asked asked box.times) (c.deref.ensures.value ∙ asked_times)) ∙ c.if-not-has_asked.false in
    let some_level : some_asked corridor.levels box.levels ≡ true =
    sym (c.has_asked-else-not-has_asked.ensures ∙ ap (λ (asked : List Bool). some_asked asked box.levels) (c.deref-else-not-has_asked.ensures.value ∙ asked_levels)) ∙ c.if-not-has_asked-2.false in
    let set_times : SetAsked corridor.times box.times old.times new.times =
    subst (λ (asked : List Bool). SetAsked asked box.times old.times new.times) (c.deref-2.ensures.value ∙ asked_times)
    (subst (λ (set : List Bool). SetAsked c.deref-2.result.now box.times set new.times) (c.deref_mut.ensures.value ∙ ap (λ (v : SpreadValue). v.times) c.self.view_is) c.set_asked.ensures) in
    let set_levels : SetAsked corridor.levels box.levels old.levels new.levels =
    subst (λ (asked : List Bool). SetAsked asked box.levels old.levels new.levels) (c.deref-3.ensures.value ∙ asked_levels)
    (subst (λ (set : List Bool). SetAsked c.deref-3.result.now box.levels set new.levels) (c.deref_mut-2.ensures.value ∙ ap (λ (v : SpreadValue). v.levels) c.self.view_is) c.set_asked-2.ensures) in
    let extent : new.extent ≡ Some (joined_extent old.extent c.in-Some.extent) =
    ap (λ e. Some e) (c.joined.ensures ∙ ap (λ (v : SpreadValue). joined_extent v.extent c.in-Some.extent) c.self.view_is) in
    let times_new = with_items_is c.self.inside.times new.times (c.set_asked.ensures.full ∙ ap (λ (set : List Bool). length set) c.deref_mut.ensures.value ∙ sym c.self.inside.times.ok.0) in
    let levels_new = with_items_is c.self.inside.levels new.levels (c.set_asked-2.ensures.full ∙ ap (λ (set : List Bool). length set) c.deref_mut-2.ensures.value ∙ sym c.self.inside.levels.ok.0) in
    λ takes s. subst (λ (ts : List Bool). IsSpreadOf n (either takes (box_passes corridor box)) (record { times = ts; levels = (with_items c.self.inside.levels new.levels).items; extent = new.extent })) (sym times_new)
    (subst (λ (ls : List Bool). IsSpreadOf n (either takes (box_passes corridor box)) (record { times = new.times; levels = ls; extent = new.extent })) (sym levels_new)
    (box_added corridor box n c.requires.along.times c.requires.along.levels some_time some_level c.in-Some.extent c.in-Some.ensures takes old new s set_times set_levels extent))
