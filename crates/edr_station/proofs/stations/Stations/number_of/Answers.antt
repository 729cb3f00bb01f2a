use Rattle.std.proofs.Common.{◌≡◌, ℕ, ◌+◌, ◌*◌, ◌^◌, ◌<◌, length, take, refl, sym, ap, ◌∙◌, subst, arith}
use Rattle.edr_station.specs.Stations.{StationsValue, nowhere, station_at}
use Rattle.edr_station.specs.Blocks.{blocks, blocks_of, first_block}
use Rattle.edr_station.specs.Shelves.{blocks_in}
use Rattle.edr_station.specs.Places.{AreKept}
use Rattle.edr_station.proofs.BlockNumbers.{blocks_scaled, number_of, number_below}
use Rattle.edr_station.proofs.stations.Stations.number_of.Goals as goal

record Stands (collection : StationsValue) (station parameter block before here : ℕ) : Type 0 where
  is : collection.parameters * before + parameter * here + block ≡ number_of collection.parameters collection.stations station parameter block
  below : collection.parameters * before + parameter * here + block < blocks collection.parameters collection.stations
  fits : blocks collection.parameters collection.stations < 2 ^ 64

-- of what is kept
stands : (view kept : StationsValue) (station parameter block before here : ℕ) → kept ≡ view → AreKept kept → station < length view.stations → parameter < view.parameters
    → block < blocks_of (station_at view.stations station) → before ≡ blocks_in (take station kept.stations) → here ≡ blocks_of (station_at kept.stations station)
    → Stands kept station parameter block before here
stands view kept station parameter block before here same stand s p b before_is here_is =
    let s' = subst (λ (v : StationsValue). station < length v.stations) (sym same) s in
    let p' = subst (λ (v : StationsValue). parameter < v.parameters) (sym same) p in
    let b' = subst (λ (v : StationsValue). block < blocks_of (station_at v.stations station)) (sym same) b in
    let low = number_below kept.parameters kept.stations station parameter block s' p' b' in
    let first : kept.parameters * before ≡ kept.parameters * blocks_in (take station kept.stations) = ap (λ n. kept.parameters * n) before_is in
    let next : parameter * here ≡ parameter * blocks_of (station_at kept.stations station) = ap (λ n. parameter * n) here_is in
    let total = blocks_scaled kept.parameters kept.stations in
    record { is = omega (arith, first, next); below = omega (arith, first, next, low, total); fits = stand.counted }

pub overflow_mul-first : goal.overflow_mul-first
overflow_mul-first c =
    let i : StationsValue = record { parameters = c.self.inside.parameters; stations = c.self.inside.shelf } in
    let here = blocks_of (station_at i.stations c.args.station) in
    let h = stands c.args.self.now i c.args.station c.args.parameter c.args.block c.blocks_before.result here c.self.view_is c.self.invariant.0 c.requires.station c.requires.parameter c.requires.block
    c.blocks_before.ensures refl in
    omega (arith, h.below, h.fits)

pub overflow_add-result : goal.overflow_add-result
overflow_add-result c =
    let i : StationsValue = record { parameters = c.self.inside.parameters; stations = c.self.inside.shelf } in
    let h = stands c.args.self.now i c.args.station c.args.parameter c.args.block c.blocks_before.result c.blocks-2.result c.self.view_is c.self.invariant.0 c.requires.station c.requires.parameter c.requires.block
    c.blocks_before.ensures (c.blocks-2.ensures ∙ ap blocks_of (c.at.ensures nowhere)) in
    omega (arith, h.below, h.fits)

pub overflow_add-result-2 : goal.overflow_add-result-2
overflow_add-result-2 c =
    let i : StationsValue = record { parameters = c.self.inside.parameters; stations = c.self.inside.shelf } in
    let h = stands c.args.self.now i c.args.station c.args.parameter c.args.block c.blocks_before.result c.blocks-2.result c.self.view_is c.self.invariant.0 c.requires.station c.requires.parameter c.requires.block
    c.blocks_before.ensures (c.blocks-2.ensures ∙ ap blocks_of (c.at.ensures nowhere)) in
    omega (arith, h.below, h.fits)

pub returns-clause-number : goal.returns-clause-number
returns-clause-number c =
    let i : StationsValue = record { parameters = c.self.inside.parameters; stations = c.self.inside.shelf } in
    let h = stands c.args.self.now i c.args.station c.args.parameter c.args.block c.blocks_before.result c.blocks-2.result c.self.view_is c.self.invariant.0 c.requires.station c.requires.parameter c.requires.block
    c.blocks_before.ensures (c.blocks-2.ensures ∙ ap blocks_of (c.at.ensures nowhere)) in
    h.is
    ∙ (ap (λ n. n + c.args.parameter * blocks_of (station_at i.stations c.args.station) + c.args.block) (sym (blocks_scaled i.parameters (take c.args.station i.stations)))
    ∙ ap (λ (v : StationsValue). first_block v c.args.station + c.args.parameter * blocks_of (station_at v.stations c.args.station) + c.args.block) c.self.view_is)

pub returns-clause-below : goal.returns-clause-below
returns-clause-below c =
    let i : StationsValue = record { parameters = c.self.inside.parameters; stations = c.self.inside.shelf } in
    let h = stands c.args.self.now i c.args.station c.args.parameter c.args.block c.blocks_before.result c.blocks-2.result c.self.view_is c.self.invariant.0 c.requires.station c.requires.parameter c.requires.block
    c.blocks_before.ensures (c.blocks-2.ensures ∙ ap blocks_of (c.at.ensures nowhere)) in
    subst (λ (v : StationsValue). i.parameters * c.blocks_before.result + c.args.parameter * c.blocks-2.result + c.args.block < blocks v.parameters v.stations) c.self.view_is h.below
