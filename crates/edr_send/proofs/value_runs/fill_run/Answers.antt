use Rattle.std.proofs.Common.{◌≡◌, List, length, ◌∙◌, ap, sym, subst, All}
use Rattle.std.specs.Prelude.{map}
use Rattle.std.specs.List.{range_with_len}
use Rattle.std.proofs.lemmas.Result.{on_ok_weaker}
use Rattle.std.proofs.lemmas.Simd.{map-map}
use Rattle.edr_chunk.specs.declared.shapes.GridShape.{GridShape}
use Rattle.edr_chunk.specs.declared.shapes.GridPlace.{GridPlace}
use Rattle.edr_chunk.specs.Grids as chunk
use Rattle.edr_chunk.specs.Grids.{value}
use Rattle.edr_chunk.specs.Tiles.{tiles, tile_of}
use Rattle.edr_select.specs.declared.plans.GridNode.{GridNode}
use Rattle.edr_send.specs.declared.slots.Slot.{Slot}
use Rattle.edr_select.specs.Samples.{ascending_once}
use Rattle.edr_select.specs.Listings.{place_at, tiles_of_range}
use Rattle.edr_send.specs.Filling.{grid_of, IsSlot, slot_tile, slot_number, slots_from, value_of}
use Rattle.edr_send.specs.Gathered.{places_of_range}
use Rattle.edr_send.proofs.Additions.{adds_same}
use Rattle.edr_send.proofs.SlotLists.{from_none, range_within, slots_are, slots_numbered, slots_length, slots_tiles, slots_values}
use Rattle.edr_send.proofs.value_runs.fill_run.Goals as goal

pub fill-requires-clause-slots : goal.fill-requires-clause-slots
fill-requires-clause-slots c =
    let shape : GridShape = c.args.shape in
    let places : List GridPlace = places_of_range c.args.cells.now c.args.parameter in
    let is : c.push_range.new.slots.items ≡ slots_from shape 0 places = from_none shape places c.clear.new.self.items c.push_range.new.slots.items c.clear.ensures.items c.in_ok-push_range.ensures in
    subst (λ (s : GridShape). All (IsSlot s) c.push_range.new.slots.items) c.requires.grid
    (subst (λ (l : List Slot). All (IsSlot shape) l) (sym is) (slots_are shape 0 places (range_within shape c.args.parameter c.args.cells.now c.requires.parameter c.requires.cells)))

pub fill-requires-clause-numbered : goal.fill-requires-clause-numbered
fill-requires-clause-numbered c =
    let shape : GridShape = c.args.shape in
    let places : List GridPlace = places_of_range c.args.cells.now c.args.parameter in
    let is : c.push_range.new.slots.items ≡ slots_from shape 0 places = from_none shape places c.clear.new.self.items c.push_range.new.slots.items c.clear.ensures.items c.in_ok-push_range.ensures in
    ap (map slot_number) is ∙ slots_numbered shape 0 places ∙ ap (range_with_len 0) (sym (slots_length shape 0 places) ∙ sym (ap length is))

pub returns-clause-values : goal.returns-clause-values
returns-clause-values c =
    let shape : GridShape = c.args.shape in
    let grid : chunk.Values = grid_of c.args.store.now.subject.held in
    let cells : List GridNode = c.args.cells.now in
    let places : List GridPlace = places_of_range cells c.args.parameter in
    let is : c.push_range.new.slots.items ≡ slots_from shape 0 places = from_none shape places c.clear.new.self.items c.push_range.new.slots.items c.clear.ensures.items c.in_ok-push_range.ensures in
    on_ok_weaker c.fill.result (λ e. e ∙ ap (map (value_of grid)) is ∙ slots_values shape grid 0 places ∙ map-map (value grid) (place_at c.args.parameter) cells) c.fill.ensures.values

pub returns-clause-reads : goal.returns-clause-reads
returns-clause-reads c =
    let shape : GridShape = c.args.shape in
    let grid : chunk.Values = grid_of c.args.store.now.subject.held in
    let cells : List GridNode = c.args.cells.now in
    let places : List GridPlace = places_of_range cells c.args.parameter in
    let slots : List Slot = c.push_range.new.slots.items in
    let is : slots ≡ slots_from shape 0 places = from_none shape places c.clear.new.self.items slots c.clear.ensures.items c.in_ok-push_range.ensures in
    adds_same c.fill.result (ascending_once (tiles grid.shape) (map slot_tile slots)) (ascending_once (tiles shape) (tiles_of_range shape cells c.args.parameter)) c.args.store.now.numbers c.fill.new.store.numbers
    (ap (λ (s : GridShape). ascending_once (tiles s) (map slot_tile slots)) (sym c.requires.grid)
    ∙ ap (λ (l : List Slot). ascending_once (tiles shape) (map slot_tile l)) is
    ∙ ap (ascending_once (tiles shape)) (slots_tiles shape 0 places ∙ map-map (tile_of shape) (place_at c.args.parameter) cells))
    c.fill.ensures.reads
