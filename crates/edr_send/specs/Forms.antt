-- What is sent of each form of reply; for private clauses.
use Rattle.std.specs.Prelude.{◌≡◌, ℕ, false, List, [], ◌∷◌, map, All}
use Rattle.edr_chunk.specs.Tiles.{tiles}
use Rattle.edr_edition.specs.Stores.{Held}
use Rattle.edr_select.specs.Samples.{ascending_once}
use Rattle.edr_select.specs.Listings.{ListingValue, coverage_of, tiles_of_range}
use Rattle.edr_select.specs.Framings.{FramingValue, frame_cells, taken, framed_coverage}
use Rattle.edr_select.specs.Stacks.{StackingValue, stack_cells, stacked_coverage}
use Rattle.edr_select.specs.Series.{SeriesReplyValue, series_coverage}
use Rattle.edr_select.specs.Series as series
use Rattle.edr_send.specs.Bands.{BandsRise}
use Rattle.edr_send.specs.Filling.{grid_of}
use Rattle.edr_send.specs.SentReplies.{SentReply}
use Rattle.edr_send.specs.SeriesTexts.{collection_of, blocks_in}

-- of so many chunks those of each parameter: ascending, each once
abbrev pub once_each : ℕ → (ℕ → List ℕ) → List ℕ → List (List ℕ)
once_each count chunks parameters = map (λ p. ascending_once count (chunks p)) parameters

-- ---- grids

-- a listing is read from a grid, and the tiles of the values of each coverage rise band by band
pub record IsRising (plan : ListingValue) (held : Held) : Type 0 where
  pub grid : plan.shape ≡ (grid_of held).shape
  pub bands : All (λ planned. BandsRise plan.shape planned.cells) plan.coverages

abbrev pub listing_sent : ListingValue → Held → SentReply
listing_sent plan held = record {
  many = plan.many;
  coverages = map (coverage_of (grid_of held) plan.parameters) plan.coverages;
  chunks = map (λ planned. once_each (tiles plan.shape) (tiles_of_range plan.shape planned.cells) plan.parameters) plan.coverages;
}

-- where all values were gathered before, no more tiles are opened
abbrev pub gathered_sent : ListingValue → Held → SentReply
gathered_sent plan held = record {
  many = plan.many;
  coverages = map (coverage_of (grid_of held) plan.parameters) plan.coverages;
  chunks = [];
}

abbrev pub framing_sent : FramingValue → Held → SentReply
framing_sent framing held = record {
  many = false;
  coverages = framed_coverage (grid_of held) framing ∷ [];
  chunks = once_each (tiles framing.shape) (tiles_of_range framing.shape (taken (frame_cells framing.frame))) framing.parameters ∷ [];
}

abbrev pub stacking_sent : StackingValue → Held → SentReply
stacking_sent stacking held = record {
  many = false;
  coverages = stacked_coverage (grid_of held) stacking ∷ [];
  chunks = once_each (tiles stacking.shape) (tiles_of_range stacking.shape (taken (stack_cells stacking.stack))) stacking.parameters ∷ [];
}

-- ---- stations

abbrev pub series_sent : SeriesReplyValue → Held → SentReply
series_sent reply held = record {
  many = reply.many;
  coverages = map (series_coverage (collection_of held).stations reply.parameters) reply.series;
  chunks = map (λ s. once_each (blocks_in (collection_of held)) (series.blocks_of_range s) reply.parameters) reply.series;
}
