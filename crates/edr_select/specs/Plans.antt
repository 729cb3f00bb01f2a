-- What a plan of a reply keeps, and when it stands for its query.
use Rattle.std.specs.Prelude.{◌≡◌, ℕ, ◌<◌, ◌^◌, List, length, All, Option, Some}
use Rattle.covjson_value.specs.declared.coverages.Parameter.{Parameter}
use Rattle.covjson_value.specs.declared.coverages.Document.{Document}
use Rattle.covjson_value.specs.declared.coverages.Document.TheVariants.{One}
use Rattle.edr_chunk.specs.declared.shapes.GridShape.{GridShape}
use Rattle.edr_chunk.specs.Grids as chunk
use Rattle.edr_chunk.specs.Tiles.{tiles}
use Rattle.edr_station.specs.Stations.{StationValue}
use Rattle.edr_station.specs.Blocks.{blocks}
use Rattle.edr_edition.specs.Values.{InstanceValue}
use Rattle.edr_edition.specs.Stores.{of_grid, of_stations, stations_of, Subject}
use Rattle.edr_query.specs.Values.{QueryValue}
use Rattle.edr_select.specs.declared.plans.Reply.{Reply}
use Rattle.edr_select.specs.declared.plans.Reply.TheVariants.{Listed, Framed, Stacked, Series}
use Rattle.edr_select.specs.Samples.{ascending_once}
use Rattle.edr_select.specs.Selections.{needed}
use Rattle.edr_select.specs.Documents.{document}
use Rattle.edr_select.specs.Listings.{listing_document, listing_tiles}
use Rattle.edr_select.specs.Framings.{framed_coverage, framed_tiles}
use Rattle.edr_select.specs.Stacks.{stacked_coverage, stacked_tiles}
use Rattle.edr_select.specs.Series.{SeriesReplyValue, series_document, reply_blocks, IsOfStation}

pub record PlanValue : Type 0 where
  pub query : QueryValue
  pub reply : Reply

-- a reply is that to a query over an instance of grids: it lies in the instance's shape, the document that it gives is the
-- query's, and so are its tiles
pub record IsOverGrid (sides : GridShape) (document_over : chunk.Values → Option Document) (tiles_read : List ℕ) (query : QueryValue) (subject : Subject) : Type 0 where
  pub instance : InstanceValue
  pub held : subject.held ≡ of_grid instance
  pub shape : sides ≡ instance.grid.shape
  pub document : document_over instance.grid ≡ Some (document subject query)
  pub chunks : ascending_once (tiles sides) tiles_read ≡ needed subject query

-- so it is over stations, whose blocks can be counted
pub record IsOverStations (reply : SeriesReplyValue) (query : QueryValue) (subject : Subject) : Type 0 where
  pub parameters : List Parameter
  pub stations : List StationValue
  pub held : subject.held ≡ of_stations parameters stations
  pub counted : blocks (length parameters) stations < 2 ^ 64
  pub asked : All (λ parameter. parameter < length parameters) reply.parameters
  pub each : All (IsOfStation (stations_of parameters stations)) reply.series
  pub document : series_document stations reply ≡ Some (document subject query)
  pub chunks : ascending_once (blocks (length parameters) stations) (reply_blocks reply) ≡ needed subject query

-- a reply is that to a query, over what is asked
abbrev pub IsReplyTo : Reply → QueryValue → Subject → Type 0
IsReplyTo (Listed listing) query subject = IsOverGrid listing.shape (λ grid. listing_document grid listing) (listing_tiles listing) query subject
IsReplyTo (Framed framing) query subject = IsOverGrid framing.shape (λ grid. Some (One (framed_coverage grid framing))) (framed_tiles framing) query subject
IsReplyTo (Stacked stacking) query subject = IsOverGrid stacking.shape (λ grid. Some (One (stacked_coverage grid stacking))) (stacked_tiles stacking) query subject
IsReplyTo (Series series) query subject = IsOverStations series query subject

-- the plan stands for its query in what is asked
abbrev pub StandsFor : PlanValue → Subject → Type 0
StandsFor plan subject = IsReplyTo plan.reply plan.query subject
