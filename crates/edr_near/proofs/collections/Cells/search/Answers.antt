use Rattle.std.proofs.Common.{◌≡◌, ◌<◌, ◌≤◌, ◌++◌, Contains, List, ℕ, None, Some, Option, IfSome, option_map, option_to_list, refl, sym, ap, ◌∙◌, subst, length, arith}
use Rattle.std.specs.Borrow.{Bor}
use Rattle.edr_near.specs.Near.{Nearest, distance_of}
use Rattle.edr_near.specs.Cells.{distances}
use Rattle.edr_near.specs.Search.{Searched, NextCell}
use Rattle.edr_near.proofs.Within.{distances_long}
use Rattle.edr_near.proofs.Searching.{begun, step, ends, items_are}
use Rattle.edr_near.proofs.collections.Cells.search.Goals as goal

two_maps : {V W : Type 0} (f : V → W) (best : Option (Bor V)) → option_map (λ b. f b.now) best ≡ option_map f (option_map (λ b. b.now) best)
two_maps f None = refl
two_maps f (Some b) = refl

pub loop-next-init : goal.loop-next-init
loop-next-init g c =
    let cells = c.args.self.now in
    subst (λ (n : List ℕ). Searched g.T.Identified.id_of g.T.Placed.spot_of c.args.spot.now cells (distances c.args.spot.now cells) None None n) (sym c.requires.empty)
    (begun g.T.Placed.spot_of c.args.spot.now c.requires.spot cells c.stand.ensures.cells g.T.Identified.id_of c.stand.ensures.fits)

pub loop-next-preserved : goal.loop-next-preserved
loop-next-preserved g c =
    let cells = c.args.self.now in
    let next = c.in-Some.next in
    let found = c.in-Some.ensures in
    let cell = c.in_ok-read.field-0.now in
    let best = option_map (λ b. b.now) c.loop-next.best in
    let answer = option_map (λ b. b.now) c.nearer-best.result in
    let inside : next.place < length cells = omega (arith, found.0.unread.inside, distances_long c.args.spot.now cells) in
    let items = items_are g.T.Placed.spot_of c.args.spot.now c.requires.spot cells c.stand.ensures.cells next.place cell inside ∙ ap (λ cell. cell.items) (sym (c.in_ok-read.ensures.cell cell)) in
    let limit = subst (λ d. IfSome d (λ (distance : ℕ). next.distance ≤ distance)) (two_maps (distance_of g.T.Identified.id_of g.T.Placed.spot_of c.args.spot.now) c.loop-next.best) found.1 in
    subst (λ (n : List ℕ). Searched g.T.Identified.id_of g.T.Placed.spot_of c.args.spot.now cells (distances c.args.spot.now cells) (Some next) answer n) (sym c.in_ok-read.ensures.read)
    (step g.T.Placed.spot_of c.args.spot.now c.requires.spot cells c.stand.ensures.cells g.T.Identified.id_of c.stand.ensures.fits c.loop-next.last next found.0
    best answer c.loop-next.numbers.items c.loop-next.invariant limit
    (subst (λ l. Nearest g.T.Identified.id_of g.T.Placed.spot_of c.args.spot.now (Contains (option_to_list best ++ l)) answer) (sym items) c.nearer-best.ensures))

pub returns : goal.returns
returns g c =
    let cells = c.args.self.now in
    ends g.T.Placed.spot_of c.args.spot.now c.requires.spot cells c.stand.ensures.cells g.T.Identified.id_of c.stand.ensures.fits c.loop-next.last
    (option_map (λ b. b.now) c.loop-next.best) c.loop-next.numbers.items c.loop-next.invariant
    (subst (λ d. NextCell (distances c.args.spot.now cells) c.loop-next.last d None) (two_maps (distance_of g.T.Identified.id_of g.T.Placed.spot_of c.args.spot.now) c.loop-next.best) c.in_default.ensures)
