use Rattle.std.proofs.Common.{◌-◌, sym, ap, ◌∙◌}
use Rattle.std.specs.Option.{option_map}
use Rattle.std.specs.Arc.{arc_value}
use Rattle.edr_station.specs.Shelves.{splice}
use Rattle.edr_station.proofs.SharedLists.{Shared}
use Rattle.edr_station.proofs.ForkLists.{at_fork, joined_is, splice_behind}
use Rattle.edr_station.proofs.shelves.Shelf.+spliced.Goals as goal

pub returns-in_ok-share-in-Sides-2 : goal.returns-in_ok-share-in-Sides-2
returns-in_ok-share-in-Sides-2 t c =
    let fork = c.deref-fork.result.now in
    let at = at_fork c.args.self.now c.self.inside.top c.in-Sides.fork fork c.self.view_is c.in-Sides.is c.deref-fork.ensures c.self.invariant in
    let put = option_map (λ (s : Shared). arc_value s) c.args.put in
    let n = c.len-before.result in
    joined_is c.balanced-else-place-before.result c.in_ok-share-in-Sides-2.field-0 fork.before c.in_ok-behind-in-Sides.behind
    (splice (c.args.place - n) (c.args.end - n) put fork.behind) (splice c.args.place c.args.end put c.args.self.now)
    c.balanced-else-place-before.ensures c.in_ok-share-in-Sides-2.ensures c.in_ok-behind-in-Sides.ensures
    (sym (ap (splice c.args.place c.args.end put) at.is ∙ splice_behind fork.before fork.behind n c.args.place c.args.end put c.len-before.ensures.len c.if-place-before.false c.requires.order))
