use Rattle.std.proofs.Common.{rules, ◌≡◌, ◌+◌, ◌-◌, ◌/◌, ◌<◌, ◌≤◌, ℕ, ap, sym, subst, ◌∙◌, arith}
use Rattle.std.specs.List.{flat_map, range_with_len}
use Rattle.edr_chunk.specs.declared.shapes.GridShape.{GridShape}
use Rattle.edr_chunk.specs.Grids as chunk
use Rattle.edr_chunk.specs.Tiles.{tiles}
use Rattle.edr_edition.specs.Stores.{Subject}
use Rattle.edr_select.specs.Samples.{ascending_once}
use Rattle.edr_select.specs.Listings.{tiles_of_range}
use Rattle.edr_send.specs.Filling.{grid_of}
use Rattle.edr_select.specs.Framings.{FrameValue, cell_at, strip_cells, taken, cell_value}
use Rattle.edr_send.specs.Strips.{shown, tile_read}
use Rattle.edr_send.proofs.Additions.{adds_begun, adds_all, added_on}
use Rattle.edr_send.proofs.StripValues.{tiles_more, strip_is}
use Rattle.edr_send.proofs.TakenTiles.{strip_tiles, reads_split, reads_more}
use Rattle.edr_send.proofs.strips.read_tiles.Goals as goal

pub loop-across-preserved : goal.loop-across-preserved
loop-across-preserved c =
    let shape : GridShape = c.args.shape in
    let frame : FrameValue = c.args.frame.now in
    let grid : chunk.Values = grid_of c.args.store.now.subject.held in
    let p : ℕ = c.args.strip.layer.parameter in
    let t : ℕ = c.args.strip.layer.t in
    let z : ℕ = c.args.strip.layer.z in
    let from : ℕ = c.args.strip.from in
    let to : ℕ = c.args.strip.to in
    let across : ℕ = c.loop-across.across in
    let first : ℕ = frame.column / 64 in
    let same_column : c.frame.inside.column ≡ frame.column = search rules in
    let low : first ≤ across = omega (arith, same_column) in
    record {
      filled = tiles_more grid frame p t z from to across c.loop-across.values c.read_tile.new.values c.loop-across.invariant.filled c.read_tile.ensures.long
          (subst (λ (s : Subject). (y x : ℕ) → from ≤ y → y < to → frame.column ≤ x → x < frame.column + frame.columns → x / 64 ≡ across
          → shown frame from c.read_tile.new.values y x ≡ cell_value (grid_of s.held) p (cell_at frame t z y x)) c.loop-across.invariant.subject c.in_ok-read_tile.ensures.here)
          c.read_tile.ensures.other;
      long = c.read_tile.ensures.long ∙ c.loop-across.invariant.long;
      subject = c.read_tile.ensures.subject ∙ c.loop-across.invariant.subject;
      reads = added_on (flat_map (tile_read shape frame p t z from to) (range_with_len first (across - first))) (tile_read shape frame p t z from to across)
          (flat_map (tile_read shape frame p t z from to) (range_with_len first (across + 1 - first))) c.args.store.now.numbers c.loop-across.store.numbers c.read_tile.new.store.numbers
          c.loop-across.invariant.reads c.in_ok-read_tile.ensures.read (reads_more shape frame p t z from to first across low);
    }

pub returns-in_err-read_tile-clause-reads : goal.returns-in_err-read_tile-clause-reads
returns-in_err-read_tile-clause-reads c =
    let shape : GridShape = c.args.shape in
    let frame : FrameValue = c.args.frame.now in
    let p : ℕ = c.args.strip.layer.parameter in
    let t : ℕ = c.args.strip.layer.t in
    let z : ℕ = c.args.strip.layer.z in
    let from : ℕ = c.args.strip.from in
    let to : ℕ = c.args.strip.to in
    let across : ℕ = c.loop-across.across in
    let first : ℕ = frame.column / 64 in
    let last : ℕ = (frame.column + frame.columns + 63) / 64 in
    let is = c.requires.frame in
    let same_column : c.frame.inside.column ≡ frame.column = search rules in
    let same_columns : c.frame.inside.columns ≡ frame.columns = search rules in
    let low : first ≤ across = omega (arith, same_column) in
    let high : across ≤ last = omega (arith, same_column, same_columns) in
    adds_begun c.from_residual.result (ascending_once (tiles shape) (tiles_of_range shape (taken (strip_cells frame t z from (to - from))) p)) c.args.store.now.numbers c.read_tile.new.store.numbers (search rules)
    (record {
      front = flat_map (tile_read shape frame p t z from to) (range_with_len first (across - first));
      begins = (
        flat_map (tile_read shape frame p t z from to) (range_with_len across (last - across)),
        strip_tiles shape frame p t z from to c.requires.rows.order c.requires.one (c.tiles_are_numbered.ensures shape) c.requires.parameter c.requires.t c.requires.z (omega (arith, c.requires.rows.high, is.rows)) is.columns
            ∙ reads_split shape frame p t z from to first across last low high,
      );
      grew = c.in_err-read_tile.ensures.unread ∙ c.loop-across.invariant.reads;
    })

pub returns-clause-values : goal.returns-clause-values
returns-clause-values c =
    let frame : FrameValue = c.args.frame.now in
    let same_column : c.frame.inside.column ≡ frame.column = search rules in
    let same_columns : c.frame.inside.columns ≡ frame.columns = search rules in
    let past : (frame.column + frame.columns + 63) / 64 ≤ c.loop-across.across = omega (arith, same_column, same_columns) in
    strip_is (grid_of c.args.store.now.subject.held) frame c.args.strip.layer.parameter c.args.strip.layer.t c.args.strip.layer.z c.args.strip.from c.args.strip.to c.loop-across.values c.loop-across.invariant.filled.long c.requires.rows.order
    (λ y x low high left right. c.loop-across.invariant.filled.here y x low high left right (omega (arith, past, right)))

pub returns-clause-reads : goal.returns-clause-reads
returns-clause-reads c =
    let shape : GridShape = c.args.shape in
    let frame : FrameValue = c.args.frame.now in
    let p : ℕ = c.args.strip.layer.parameter in
    let t : ℕ = c.args.strip.layer.t in
    let z : ℕ = c.args.strip.layer.z in
    let from : ℕ = c.args.strip.from in
    let to : ℕ = c.args.strip.to in
    let across : ℕ = c.loop-across.across in
    let first : ℕ = frame.column / 64 in
    let last : ℕ = (frame.column + frame.columns + 63) / 64 in
    let is = c.requires.frame in
    let same_column : c.frame.inside.column ≡ frame.column = search rules in
    let same_columns : c.frame.inside.columns ≡ frame.columns = search rules in
    let end : across ≡ last = omega (arith, same_column, same_columns) in
    adds_all _ (flat_map (tile_read shape frame p t z from to) (range_with_len first (across - first))) (ascending_once (tiles shape) (tiles_of_range shape (taken (strip_cells frame t z from (to - from))) p))
    c.args.store.now.numbers c.loop-across.store.numbers
    (ap (λ (k : ℕ). flat_map (tile_read shape frame p t z from to) (range_with_len first (k - first))) end
    ∙ sym (strip_tiles shape frame p t z from to c.requires.rows.order c.requires.one (c.tiles_are_numbered.ensures shape) c.requires.parameter c.requires.t c.requires.z (omega (arith, c.requires.rows.high, is.rows)) is.columns))
    c.loop-across.invariant.reads
