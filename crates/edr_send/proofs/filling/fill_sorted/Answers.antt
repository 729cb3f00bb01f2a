use Rattle.std.proofs.Common.{rules, ℕ, List, [], ◌∷◌, ◌++◌, length, take, drop, get_or, ◌∙◌, ap, sym, subst, refl, arith, Option, ℤ, append_assoc, append-nil}
use Rattle.std.specs.Prelude.{map}
use Rattle.std.specs.List.{slice_range}
use Rattle.std.proofs.lemmas.List.Elements.{All-get_or}
use Rattle.edr_chunk.specs.Grids as chunk
use Rattle.edr_chunk.specs.Tiles.{tiles, IsTile}
use Rattle.edr_edition.specs.Stores.{Held, HasTile, Subject, IsTileOf}
use Rattle.edr_select.specs.Samples.{ascending_once}
use Rattle.edr_send.specs.declared.slots.Slot.{Slot}
use Rattle.edr_send.specs.Filling.{grid_of, IsSlot, slot_tile, slot_number, value_of, seen_in, put_all}
use Rattle.edr_send.proofs.Ascending.{once_none}
use Rattle.edr_send.proofs.Additions.{adds_begun}
use Rattle.edr_send.proofs.Puts.{put_append, put_length}
use Rattle.edr_send.proofs.TileSteps.{has_tile, is_tile, tile_inside, take_on, tile_step, tile_rest, ahead_next, seen_same, lies_same}
use Rattle.edr_send.proofs.filling.fill_sorted.Goals as goal

abbrev no_slot : Slot
no_slot = record { tile = 0; number = 0; place = record { parameter = 0; t = 0; z = 0; y = 0; x = 0 } }

pub loop-at-init : goal.loop-at-init
loop-at-init c =
    let grid : chunk.Values = grid_of c.args.store.now.subject.held in
    record {
      high = omega arith;
      long = refl;
      subject = refl;
      ahead = λ i j d low high inside. absurd (omega arith);
      values = refl;
      reads = sym (ap (λ (l : List ℕ). c.args.store.now.numbers ++ l) (once_none (tiles grid.shape)) ∙ append-nil c.args.store.now.numbers);
    }

pub tile-requires : goal.tile-requires
tile-requires c =
    let held : Held = c.args.store.now.subject.held in
    let slot : Slot = get_or c.args.slots.now c.loop-at.at (record { tile = 0; number = 0; place = record { parameter = 0; t = 0; z = 0; y = 0; x = 0 } }) in
    subst (λ (s : Subject). HasTile s.held slot.tile) (sym c.loop-at.invariant.subject)
    (has_tile c.tiles_are_numbered.ensures held slot (All-get_or (IsSlot (grid_of held).shape) c.args.slots.now c.loop-at.at _ c.loop-at-test.true c.requires.slots))

pub returns-in_err-tile-clause-reads : goal.returns-in_err-tile-clause-reads
returns-in_err-tile-clause-reads c =
    let grid : chunk.Values = grid_of c.args.store.now.subject.held in
    let slots : List Slot = c.args.slots.now in
    let at : ℕ = c.loop-at.at in
    let inside = tile_inside c.tiles_are_numbered.ensures grid.shape (get_or slots at no_slot) (All-get_or (IsSlot grid.shape) slots at no_slot c.loop-at-test.true c.requires.slots) in
    adds_begun c.from_residual.result (ascending_once (tiles grid.shape) (map slot_tile slots)) c.args.store.now.numbers c.tile.new.self.numbers (search rules)
    (record {
      front = ascending_once (tiles grid.shape) (map slot_tile (take at slots));
      begins = (ascending_once (tiles grid.shape) (map slot_tile (drop at slots)), tile_rest (tiles grid.shape) slots at no_slot c.loop-at-test.true c.requires.ascending c.loop-at.invariant.ahead inside);
      grew = c.in_err-tile.ensures.unread ∙ c.loop-at.invariant.reads;
    })

pub fill_tile-at-requires-clause-lies : goal.fill_tile-at-requires-clause-lies
fill_tile-at-requires-clause-lies c =
    let held : Held = c.args.store.now.subject.held in
    let number : ℕ = slot_tile (get_or c.args.slots.now c.loop-at.at no_slot) in
    let is : IsTile (grid_of held) number c.in_ok-tile.tile =
    is_tile held number c.in_ok-tile.tile (subst (λ (s : Subject). IsTileOf s.held number c.in_ok-tile.tile) c.loop-at.invariant.subject c.in_ok-tile.ensures.tile) in
    lies_same (grid_of held) c.in_ok-tile.tile c.args.slots.now c.loop-at.at no_slot c.requires.slots is c.loop-at-test.true

pub loop-at-preserved : goal.loop-at-preserved
loop-at-preserved c =
    let held : Held = c.args.store.now.subject.held in
    let grid : chunk.Values = grid_of held in
    let slots : List Slot = c.args.slots.now in
    let at : ℕ = c.loop-at.at in
    let next : ℕ = c.fill_tile-at.result in
    let number : ℕ = slot_tile (get_or slots at no_slot) in
    let is : IsTile grid number c.in_ok-tile.tile =
    is_tile held number c.in_ok-tile.tile (subst (λ (s : Subject). IsTileOf s.held number c.in_ok-tile.tile) c.loop-at.invariant.subject c.in_ok-tile.ensures.tile) in
    let inside = tile_inside c.tiles_are_numbered.ensures grid.shape (get_or slots at no_slot) (All-get_or (IsSlot grid.shape) slots at no_slot c.loop-at-test.true c.requires.slots) in
    record {
      high = c.fill_tile-at.ensures.end;
      long = ap length c.fill_tile-at.ensures.values ∙ put_length slot_number (seen_in c.in_ok-tile.tile) (slice_range slots at next) c.loop-at.values ∙ c.loop-at.invariant.long;
      subject = c.tile.ensures.subject ∙ c.loop-at.invariant.subject;
      ahead = ahead_next slots at next c.requires.ascending c.fill_tile-at.ensures.after c.loop-at.invariant.ahead c.fill_tile-at.ensures.same c.fill_tile-at.ensures.other;
      values = c.fill_tile-at.ensures.values
          ∙ seen_same grid c.in_ok-tile.tile slots at next no_slot c.loop-at.values c.requires.slots is (omega (arith, c.fill_tile-at.ensures.after)) c.fill_tile-at.ensures.end c.fill_tile-at.ensures.same
          ∙ ap (λ (l : List (Option ℤ)). put_all slot_number (value_of grid) (slice_range slots at next) l) c.loop-at.invariant.values
          ∙ sym (put_append slot_number (value_of grid) (take at slots) (slice_range slots at next) c.args.values.now)
          ∙ ap (λ (l : List Slot). put_all slot_number (value_of grid) l c.args.values.now) (sym (take_on slots at next (omega (arith, c.fill_tile-at.ensures.after))));
      reads = c.in_ok-tile.ensures.read ∙ ap (λ (l : List ℕ). l ++ number ∷ []) c.loop-at.invariant.reads
          ∙ append_assoc c.args.store.now.numbers (ascending_once (tiles grid.shape) (map slot_tile (take at slots))) (number ∷ [])
          ∙ ap (λ (l : List ℕ). c.args.store.now.numbers ++ l)
          (sym (tile_step (tiles grid.shape) slots at next no_slot c.fill_tile-at.ensures.after c.fill_tile-at.ensures.end c.loop-at.invariant.ahead c.fill_tile-at.ensures.same inside));
    }
