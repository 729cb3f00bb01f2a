use Rattle.std.proofs.Common.{rules, ◌≡◌, ◌++◌, ℕ, List, length, ◌∙◌, ap, sym, subst, All}
use Rattle.std.specs.Prelude.{map}
use Rattle.std.specs.List.{range_with_len}
use Rattle.edr_chunk.specs.declared.shapes.GridShape.{GridShape}
use Rattle.edr_chunk.specs.declared.shapes.GridPlace.{GridPlace}
use Rattle.edr_chunk.specs.Grids as chunk
use Rattle.edr_chunk.specs.Tiles.{tiles, tile_of}
use Rattle.edr_select.specs.Samples.{ascending_once}
use Rattle.edr_send.specs.declared.slots.Slot.{Slot}
use Rattle.edr_send.specs.Filling.{grid_of, IsSlot, slot_tile, slot_number, slots_from, value_of, Added}
use Rattle.edr_send.specs.Gathered.{places_of_coverages}
use Rattle.edr_send.proofs.Additions.{adds_begun}
use Rattle.edr_send.proofs.SlotLists.{from_none, slots_are, slots_numbered, slots_length, slots_tiles, slots_values}
use Rattle.edr_send.proofs.gathering.gather.Goals as goal

pub fill-requires-clause-slots : goal.fill-requires-clause-slots
fill-requires-clause-slots c =
    let shape : GridShape = c.args.listing.now.shape in
    let places : List GridPlace = places_of_coverages c.args.listing.now.parameters c.args.listing.now.coverages in
    let is : c.push_listing.new.slots.items ≡ slots_from shape 0 places = from_none shape places c.new-slots.result.items c.push_listing.new.slots.items c.new-slots.ensures.items c.in_ok-push_listing.ensures.slots in
    subst (λ (s : GridShape). All (IsSlot s) c.push_listing.new.slots.items) c.requires
    (subst (λ (l : List Slot). All (IsSlot shape) l) (sym is) (slots_are shape 0 places c.push_listing.ensures.within))

pub fill-requires-clause-numbered : goal.fill-requires-clause-numbered
fill-requires-clause-numbered c =
    let shape : GridShape = c.args.listing.now.shape in
    let places : List GridPlace = places_of_coverages c.args.listing.now.parameters c.args.listing.now.coverages in
    let is : c.push_listing.new.slots.items ≡ slots_from shape 0 places = from_none shape places c.new-slots.result.items c.push_listing.new.slots.items c.new-slots.ensures.items c.in_ok-push_listing.ensures.slots in
    ap (map slot_number) is ∙ slots_numbered shape 0 places ∙ ap (range_with_len 0) (sym (slots_length shape 0 places) ∙ sym (ap length is))

wanted_is : (grid : chunk.Values) (shape : GridShape) (places : List GridPlace) (slots : List Slot) → shape ≡ grid.shape → slots ≡ slots_from shape 0 places
    → ascending_once (tiles grid.shape) (map slot_tile slots) ≡ ascending_once (tiles shape) (map (tile_of shape) places)
wanted_is grid shape places slots e f =
    ap (λ (s : GridShape). ascending_once (tiles s) (map slot_tile slots)) (sym e)
    ∙ ap (λ (l : List Slot). ascending_once (tiles shape) (map slot_tile l)) f
    ∙ ap (ascending_once (tiles shape)) (slots_tiles shape 0 places)

pub returns-in_err-fill-clause-reads : goal.returns-in_err-fill-clause-reads
returns-in_err-fill-clause-reads c =
    let shape : GridShape = c.args.listing.now.shape in
    let grid : chunk.Values = grid_of c.args.store.now.subject.held in
    let places : List GridPlace = places_of_coverages c.args.listing.now.parameters c.args.listing.now.coverages in
    let is : c.push_listing.new.slots.items ≡ slots_from shape 0 places = from_none shape places c.new-slots.result.items c.push_listing.new.slots.items c.new-slots.ensures.items c.in_ok-push_listing.ensures.slots in
    adds_begun c.from_residual-in_err-fill.result (ascending_once (tiles shape) (map (tile_of shape) places)) c.args.store.now.numbers c.fill.new.store.numbers (search rules)
    (subst (λ (l : List ℕ). Added l c.args.store.now.numbers c.fill.new.store.numbers) (wanted_is grid shape places c.push_listing.new.slots.items c.requires is) c.fill.ensures.reads.begun)

pub returns-clause-values : goal.returns-clause-values
returns-clause-values c =
    let shape : GridShape = c.args.listing.now.shape in
    let grid : chunk.Values = grid_of c.args.store.now.subject.held in
    let places : List GridPlace = places_of_coverages c.args.listing.now.parameters c.args.listing.now.coverages in
    let is : c.push_listing.new.slots.items ≡ slots_from shape 0 places = from_none shape places c.new-slots.result.items c.push_listing.new.slots.items c.new-slots.ensures.items c.in_ok-push_listing.ensures.slots in
    record {
      starts = c.in_ok-push_listing.ensures.starts;
      values = c.in_ok-fill.ensures.values ∙ ap (map (value_of grid)) is ∙ slots_values shape grid 0 places;
    }

pub returns-clause-reads : goal.returns-clause-reads
returns-clause-reads c =
    let shape : GridShape = c.args.listing.now.shape in
    let grid : chunk.Values = grid_of c.args.store.now.subject.held in
    let places : List GridPlace = places_of_coverages c.args.listing.now.parameters c.args.listing.now.coverages in
    let is : c.push_listing.new.slots.items ≡ slots_from shape 0 places = from_none shape places c.new-slots.result.items c.push_listing.new.slots.items c.new-slots.ensures.items c.in_ok-push_listing.ensures.slots in
    let wanted = wanted_is grid shape places c.push_listing.new.slots.items c.requires is in
    record {
      all = c.in_ok-fill.ensures.reads.all ∙ ap (λ (l : List ℕ). c.args.store.now.numbers ++ l) wanted;
      begun = subst (λ (l : List ℕ). Added l c.args.store.now.numbers c.fill.new.store.numbers) wanted c.fill.ensures.reads.begun;
    }
