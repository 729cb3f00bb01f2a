use Rattle.std.proofs.Common.{rules, ◌≡◌, ◌*◌, ◌<◌, ℕ, true, false, ap, sym, subst, ◌∙◌, arith}
use Rattle.std.specs.Prelude.{if◌then◌else◌}
use Rattle.edr_chunk.specs.declared.shapes.GridShape.{GridShape}
use Rattle.edr_chunk.specs.AllPlaces.{at}
use Rattle.edr_chunk.specs.Places.{Within}
use Rattle.edr_chunk.specs.Tiles.{tiles, tile_of, IsTile, value_in}
use Rattle.edr_edition.specs.Stores.{Held}
use Rattle.edr_send.specs.Filling.{grid_of}
use Rattle.edr_select.specs.Framings.{FrameValue, is_set}
use Rattle.edr_send.specs.Strips.{some_taken, shown, tile_across}
use Rattle.edr_send.proofs.StripReads.{has_number, lies_in, cell_filled, cell_blank}
use Rattle.edr_send.proofs.TakenTiles.{none_taken, some_place}
use Rattle.edr_send.proofs.TileSteps.{is_tile}
use Rattle.edr_send.proofs.strips.read_tile.Goals as goal

pub returns-then-not-has_taken-clause-here : goal.returns-then-not-has_taken-clause-here
returns-then-not-has_taken-clause-here c y x low high left right here =
    let frame : FrameValue = c.args.frame.now in
    let same_column : c.frame.inside.column ≡ frame.column = search rules in
    let same_columns : c.frame.inside.columns ≡ frame.columns = search rules in
    let none : some_taken frame c.args.strip.from c.args.strip.to c.max-left.result c.min-right.result ≡ false = search rules in
    c.requires.blank y x low high left right here
    ∙ cell_blank (grid_of c.args.store.now.subject.held) c.args.strip.layer.parameter c.args.strip.layer.t c.args.strip.layer.z y x frame
    (none_taken frame c.args.strip.from c.args.strip.to c.max-left.result c.min-right.result none y x low high (omega (arith, left, here)) (omega (arith, right, here)))

pub tile-requires : goal.tile-requires
tile-requires c =
    let held : Held = c.args.store.now.subject.held in
    let shape : GridShape = c.args.shape in
    let frame : FrameValue = c.args.frame.now in
    let first : ℕ = c.args.across * 64 in
    let is = c.requires.frame in
    let some : some_taken frame c.args.strip.from c.args.strip.to c.max-left.result c.min-right.result ≡ true = search rules in
    let place = some_place frame c.args.strip.from c.args.strip.to c.max-left.result c.min-right.result some in
    let same : c.args.shape ≡ shape = search rules in
    let number : c.tile_number-number.result ≡ tile_across shape c.args.strip.layer.parameter c.args.strip.layer.t c.args.strip.layer.z c.args.strip.from c.args.across =
    c.tile_number-number.ensures ∙ ap (λ (s : GridShape). tile_of s (at c.args.strip.layer.parameter c.args.strip.layer.t c.args.strip.layer.z c.args.strip.from first)) same in
    let within : Within shape (at c.args.strip.layer.parameter c.args.strip.layer.t c.args.strip.layer.z c.args.strip.from first) =
    record { parameter = c.requires.parameter; t = c.requires.t; z = c.requires.z; y = omega (arith, place.0, c.requires.rows.high, is.rows); x = omega (arith, c.requires.high, is.columns) } in
    has_number held c.tile_number-number.result
    (subst (λ (s : GridShape). c.tile_number-number.result < tiles s) c.requires.grid
    (subst (λ (k : ℕ). k < tiles shape) (sym number) ((c.tiles_are_numbered.ensures shape).below (at c.args.strip.layer.parameter c.args.strip.layer.t c.args.strip.layer.z c.args.strip.from first) within)))

pub fill_tile-requires-clause-lies : goal.fill_tile-requires-clause-lies
fill_tile-requires-clause-lies c y x low high left right =
    let held : Held = c.args.store.now.subject.held in
    let shape : GridShape = c.args.shape in
    let frame : FrameValue = c.args.frame.now in
    let is = c.requires.frame in
    let same_column : c.frame.inside.column ≡ frame.column = search rules in
    let same_columns : c.frame.inside.columns ≡ frame.columns = search rules in
    let same : c.args.shape ≡ shape = search rules in
    let number : c.tile_number-number.result ≡ tile_across shape c.args.strip.layer.parameter c.args.strip.layer.t c.args.strip.layer.z c.args.strip.from c.args.across =
    c.tile_number-number.ensures ∙ ap (λ (s : GridShape). tile_of s (at c.args.strip.layer.parameter c.args.strip.layer.t c.args.strip.layer.z c.args.strip.from (c.args.across * 64))) same in
    let tile : IsTile (grid_of held) (tile_across shape c.args.strip.layer.parameter c.args.strip.layer.t c.args.strip.layer.z c.args.strip.from c.args.across) c.in_ok-tile.tile =
    subst (λ (k : ℕ). IsTile (grid_of held) k c.in_ok-tile.tile) number (is_tile held c.tile_number-number.result c.in_ok-tile.tile c.in_ok-tile.ensures.tile) in
    lies_in (grid_of held) shape c.requires.grid c.args.strip.layer.parameter c.args.strip.layer.t c.args.strip.layer.z c.args.strip.from c.args.across c.in_ok-tile.tile tile y x
    (record { parameter = c.requires.parameter; t = c.requires.t; z = c.requires.z; y = omega (arith, high, c.requires.rows.high, is.rows); x = omega (arith, right, is.columns) })
    (omega (arith, low, high, c.requires.one)) (omega (arith, left, right))

pub returns-clause-here : goal.returns-clause-here
returns-clause-here c y x low high left right here =
    let held : Held = c.args.store.now.subject.held in
    let shape : GridShape = c.args.shape in
    let frame : FrameValue = c.args.frame.now in
    let is = c.requires.frame in
    let same_column : c.frame.inside.column ≡ frame.column = search rules in
    let same_columns : c.frame.inside.columns ≡ frame.columns = search rules in
    let same_frame : c.args.frame.now ≡ frame = search rules in
    let same : c.args.shape ≡ shape = search rules in
    let number : c.tile_number-number.result ≡ tile_across shape c.args.strip.layer.parameter c.args.strip.layer.t c.args.strip.layer.z c.args.strip.from c.args.across =
    c.tile_number-number.ensures ∙ ap (λ (s : GridShape). tile_of s (at c.args.strip.layer.parameter c.args.strip.layer.t c.args.strip.layer.z c.args.strip.from (c.args.across * 64))) same in
    let tile : IsTile (grid_of held) (tile_across shape c.args.strip.layer.parameter c.args.strip.layer.t c.args.strip.layer.z c.args.strip.from c.args.across) c.in_ok-tile.tile =
    subst (λ (k : ℕ). IsTile (grid_of held) k c.in_ok-tile.tile) number (is_tile held c.tile_number-number.result c.in_ok-tile.tile c.in_ok-tile.ensures.tile) in
    subst (λ (f : FrameValue). shown f c.args.strip.from c.fill_tile.new.values y x ≡ (if is_set f y x then value_in c.in_ok-tile.tile y x else shown f c.args.strip.from c.args.values.now y x)) same_frame
    (c.fill_tile.ensures.here y x low high (omega (arith, left, here)) (omega (arith, right, here)))
    ∙ cell_filled (grid_of held) shape c.requires.grid c.args.strip.layer.parameter c.args.strip.layer.t c.args.strip.layer.z c.args.strip.from c.args.across c.in_ok-tile.tile tile frame y x (shown frame c.args.strip.from c.args.values.now y x)
    (record { parameter = c.requires.parameter; t = c.requires.t; z = c.requires.z; y = omega (arith, high, c.requires.rows.high, is.rows); x = omega (arith, right, is.columns) })
    (omega (arith, low, high, c.requires.one)) here (c.requires.blank y x low high left right here)
