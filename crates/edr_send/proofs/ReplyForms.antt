-- What is sent of each form of a plan is the reply to its query.
use Rattle.std.proofs.Common.{◌≡◌, ℕ, zero, suc, ◌<◌, ◌≤◌, List, [], ◌∷◌, ◌++◌, length, get_or, All, Some, false, refl, ap, sym, ◌∙◌, subst, arith, append-nil}
use Rattle.std.specs.Prelude.{map}
use Rattle.std.specs.List.{flat_map}
use Rattle.std.proofs.lemmas.List.{length-map}
use Rattle.std.proofs.lemmas.List.Elements.{All-cons, All-nil, All-head}
use Rattle.covjson_value.specs.declared.coverages.Coverage.{Coverage}
use Rattle.covjson_value.specs.declared.coverages.Document.{Document}
use Rattle.covjson_value.specs.declared.coverages.Document.TheVariants.{One}
use Rattle.covjson_value.specs.Coverages.{IsValidDocument}
use Rattle.edr_base.specs.Limits.{AreSamples}
use Rattle.edr_chunk.specs.declared.shapes.GridShape.{GridShape}
use Rattle.edr_chunk.specs.Places.{Within, NumbersTellPlaces}
use Rattle.edr_chunk.specs.LawsOfPlaces.{TilesAreNumbered}
use Rattle.edr_chunk.specs.Tiles.{tile_shape, tiles, tile_of}
use Rattle.edr_station.specs.Stations.{StationsValue, AreStations}
use Rattle.edr_edition.specs.Values.{InstanceValue}
use Rattle.edr_edition.specs.Stores.{Held, of_grid, stations_of, IsHeld, Subject}
use Rattle.edr_select.specs.declared.plans.GridNode.{GridNode}
use Rattle.edr_select.specs.declared.plans.Reply.{Reply}
use Rattle.edr_select.specs.declared.plans.Reply.TheVariants.{Listed, Framed, Stacked, Series}
use Rattle.edr_select.specs.Samples.{ascending_once}
use Rattle.edr_select.specs.Selections.{needed}
use Rattle.edr_select.specs.Documents.{document}
use Rattle.edr_select.specs.Plans.{PlanValue, IsReplyTo, StandsFor, IsOverGrid, IsOverStations}
use Rattle.edr_select.specs.ReplyLaws.{Told, instance_samples, told_by, document_valid, framed_valid, stacked_valid}
use Rattle.edr_select.specs.Listings.{PlannedValue, ListingValue, IsListing, IsPlanned, place_at, range_over, coverage_of, listing_document, document_of, tiles_of_range, tiles_of_coverage, listing_tiles, NumbersRise}
use Rattle.edr_select.specs.Framings.{FramingValue, IsFraming, frame_cells, taken, framed_range, framed_coverage, framed_tiles}
use Rattle.edr_select.specs.Stacks.{StackingValue, IsStacking, stack_cells, stacked_range, stacked_coverage, stacked_tiles}
use Rattle.edr_select.specs.Series.{StationSeriesValue, SeriesReplyValue, IsSeriesReply, series_range, series_coverage, blocks_of_range, blocks_of_coverage, reply_blocks}
use Rattle.edr_send.specs.Bands.{BandsRise, Rises}
use Rattle.edr_send.specs.Filling.{grid_of}
use Rattle.edr_send.specs.Forms.{once_each, IsRising, listing_sent, gathered_sent, framing_sent, stacking_sent, series_sent}
use Rattle.edr_send.specs.Gathered.{places_of_coverages}
use Rattle.edr_send.specs.SentReplies.{SentReply, in_a_row, all_chunks, TellsChunks, IsReplyOf}
use Rattle.edr_send.specs.SeriesTexts as over_series
use Rattle.edr_send.specs.SeriesTexts.{collection_of, blocks_in}
use Rattle.edr_send.proofs.BlockNumbers.{parameters_parted, stations_parted}
use Rattle.edr_send.proofs.FormSteps.{few_told, once_steps, once_items, row_of_map, rows_of_map}
use Rattle.edr_send.proofs.FrameTiles as frames
use Rattle.edr_send.proofs.ReplyTexts.{tiles_are}
use Rattle.edr_send.proofs.RunSteps.{parameter_step}
use Rattle.edr_send.proofs.SeriesSteps.{item_next}
use Rattle.edr_send.proofs.SeriesValid as series_valid
use Rattle.edr_send.proofs.StackTiles as stacks

some_is : {a b : Document} → Some a ≡ Some b → a ≡ b
some_is e = cc

-- chunks are told of each coverage and of each of its ranges
all_told : {X : Type 0} (f : X → Coverage) (h : X → List (List ℕ)) (sent : SentReply) (xs : List X) → sent.coverages ≡ map f xs → sent.chunks ≡ map h xs
    → ((x : X) → length (h x) ≤ length (f x).ranges) → TellsChunks sent
all_told f h sent xs e k few =
    subst (λ (cs : List Coverage). TellsChunks (record { many = sent.many; coverages = cs; chunks = sent.chunks })) (sym e)
    (subst (λ (cs : List (List (List ℕ))). TellsChunks (record { many = sent.many; coverages = map f xs; chunks = cs })) (sym k)
    (record { coverages = omega (arith, length-map xs f, length-map xs h); ranges = few_told f h few xs }))

as_long : {A : Type 0} (n : ℕ) (b : ℕ → List ℕ) (r : ℕ → A) (ps : List ℕ) → length (once_each n b ps) ≤ length (map r ps)
as_long n b r ps = omega (arith, length-map ps (λ (p : ℕ). ascending_once n (b p)), length-map ps r)

-- ---- grids

module _ (shape : GridShape) (tiled : TilesAreNumbered shape) (numbered : NumbersTellPlaces (tile_shape shape)) (ps : List ℕ) (inside : All (λ p. p < shape.parameters) ps) (rise : NumbersRise ps) where
  -- the tiles of parameter after parameter are all tiles in ascending order
  tiles_once : (cells : List GridNode) → All (λ cell. Within shape (place_at 0 cell)) cells
      → in_a_row (once_each (tiles shape) (tiles_of_range shape cells) ps) ++ [] ≡ ascending_once (tiles shape) (flat_map (tiles_of_range shape cells) ps)
  tiles_once cells within =
      append-nil (in_a_row (once_each (tiles shape) (tiles_of_range shape cells) ps))
      ∙ row_of_map (λ (p : ℕ). ascending_once (tiles shape) (tiles_of_range shape cells p)) ps
      ∙ sym (once_steps (tiles shape) (tiles_of_range shape cells) ps 0 (λ i l. parameter_step shape tiled numbered ps i cells inside within rise l))

module _ (plan : PlanValue) (s : Subject) (held : IsHeld s.held) (stands : StandsFor plan s) (opened : List ℕ) where
  samples_of : (instance : InstanceValue) → s.held ≡ of_grid instance → AreSamples instance.grid.values
  samples_of instance e = instance_samples instance (subst (λ (h : Held). IsHeld h) e held)

  -- a framing
  module _ (framing : FramingValue) (is : plan.reply ≡ Framed framing) where
    framed_to : IsOverGrid framing.shape (λ grid. Some (One (framed_coverage grid framing))) (framed_tiles framing) plan.query s
    framed_to = subst (λ (r : Reply). IsReplyTo r plan.query s) is stands

    pub framing_reply : opened ≡ [] → TilesAreNumbered framing.shape → NumbersTellPlaces (tile_shape framing.shape) → IsFraming framing
        → IsReplyOf (framing_sent framing s.held) opened (document s plan.query) (needed s plan.query)
    framing_reply none tiled numbered framed = record {
      document_is = ap (λ (h : Held). Some (One (framed_coverage (grid_of h) framing))) framed_to.held ∙ framed_to.document;
      alone = λ one. refl;
      valid = subst IsValidDocument (some_is framed_to.document) (framed_valid framed_to.instance.grid framing framed (samples_of framed_to.instance framed_to.held));
      told = all_told (λ (f : FramingValue). framed_coverage (grid_of s.held) f) (λ (f : FramingValue). once_each (tiles f.shape) (tiles_of_range f.shape (taken (frame_cells f.frame))) f.parameters)
          (framing_sent framing s.held) (framing ∷ []) refl refl (λ f. as_long (tiles f.shape) (tiles_of_range f.shape (taken (frame_cells f.frame))) (framed_range (grid_of s.held) f.frame) f.parameters);
      chunks = ap (λ (l : List ℕ). l ++ all_chunks (framing_sent framing s.held)) none
          ∙ tiles_once framing.shape tiled numbered framing.parameters framed.parameters framed.parameters_rise (taken (frame_cells framing.frame))
          (frames.taken_within framing.shape tiled framing.frame framed.frame (let some = framed.shape.parameters in omega (arith, some)))
          ∙ framed_to.chunks;
    }

  -- a stacking
  module _ (stacking : StackingValue) (is : plan.reply ≡ Stacked stacking) where
    stacked_to : IsOverGrid stacking.shape (λ grid. Some (One (stacked_coverage grid stacking))) (stacked_tiles stacking) plan.query s
    stacked_to = subst (λ (r : Reply). IsReplyTo r plan.query s) is stands

    pub stacking_reply : opened ≡ [] → TilesAreNumbered stacking.shape → NumbersTellPlaces (tile_shape stacking.shape) → IsStacking stacking
        → IsReplyOf (stacking_sent stacking s.held) opened (document s plan.query) (needed s plan.query)
    stacking_reply none tiled numbered stacked = record {
      document_is = ap (λ (h : Held). Some (One (stacked_coverage (grid_of h) stacking))) stacked_to.held ∙ stacked_to.document;
      alone = λ one. refl;
      valid = subst IsValidDocument (some_is stacked_to.document) (stacked_valid stacked_to.instance.grid stacking stacked (samples_of stacked_to.instance stacked_to.held));
      told = all_told (λ (f : StackingValue). stacked_coverage (grid_of s.held) f) (λ (f : StackingValue). once_each (tiles f.shape) (tiles_of_range f.shape (taken (stack_cells f.stack))) f.parameters)
          (stacking_sent stacking s.held) (stacking ∷ []) refl refl (λ f. as_long (tiles f.shape) (tiles_of_range f.shape (taken (stack_cells f.stack))) (stacked_range (grid_of s.held) f.stack) f.parameters);
      chunks = ap (λ (l : List ℕ). l ++ all_chunks (stacking_sent stacking s.held)) none
          ∙ tiles_once stacking.shape tiled numbered stacking.parameters stacked.parameters stacked.parameters_rise (taken (stack_cells stacking.stack))
          (stacks.taken_within stacking.shape stacking.stack stacked.stack tiled 0 (let some = stacked.shape.parameters in omega (arith, some)))
          ∙ stacked_to.chunks;
    }

  -- a listing
  module _ (listing : ListingValue) (is : plan.reply ≡ Listed listing) where
    listed_to : IsOverGrid listing.shape (λ grid. listing_document grid listing) (listing_tiles listing) plan.query s
    listed_to = subst (λ (r : Reply). IsReplyTo r plan.query s) is stands

    pub listing_over : listing.shape ≡ (grid_of s.held).shape
    listing_over = listed_to.shape ∙ ap (λ (h : Held). (grid_of h).shape) (sym listed_to.held)

    pub listing_rising : (planned : PlannedValue) → Rises listing planned → IsRising listing s.held
    listing_rising planned rises = record {
      grid = listing_over;
      bands = subst (λ (cs : List PlannedValue). All (λ c. BandsRise listing.shape c.cells) cs) (sym rises.alone)
          (All-cons (λ (c : PlannedValue). BandsRise listing.shape c.cells) planned [] rises.bands (All-nil (λ (c : PlannedValue). BandsRise listing.shape c.cells)));
    }

    document_told : listing_document (grid_of s.held) listing ≡ Some (document s plan.query)
    document_told = ap (λ (h : Held). listing_document (grid_of h) listing) listed_to.held ∙ listed_to.document

    listed_valid : IsListing listing → IsValidDocument (document s plan.query)
    listed_valid lists = document_valid listed_to.instance.grid listing (document s plan.query) lists (samples_of listed_to.instance listed_to.held) listed_to.document

    pub listing_reply : (planned : PlannedValue) → Rises listing planned → opened ≡ [] → TilesAreNumbered listing.shape → NumbersTellPlaces (tile_shape listing.shape) → IsListing listing
        → IsReplyOf (listing_sent listing s.held) opened (document s plan.query) (needed s plan.query)
    listing_reply planned rises none tiled numbered lists = record {
      document_is = document_told;
      alone = λ one. length-map listing.coverages (coverage_of (grid_of s.held) listing.parameters) ∙ lists.alone one;
      valid = listed_valid lists;
      told = all_told (coverage_of (grid_of s.held) listing.parameters) chunks_in (listing_sent listing s.held) listing.coverages refl refl
          (λ c. as_long (tiles listing.shape) (tiles_of_range listing.shape c.cells) (range_over (grid_of s.held) c.cells) listing.parameters);
      chunks = ap (λ (l : List ℕ). l ++ all_chunks (listing_sent listing s.held)) none
          ∙ ap (λ (cs : List PlannedValue). flat_map in_a_row (map chunks_in cs)) rises.alone
          ∙ tiles_once listing.shape tiled numbered listing.parameters lists.parameters rises.parameters planned.cells within
          ∙ ap (ascending_once (tiles listing.shape)) (sym (append-nil (tiles_of_coverage listing.shape listing.parameters planned)) ∙ ap (flat_map (tiles_of_coverage listing.shape listing.parameters)) (sym rises.alone))
          ∙ listed_to.chunks;
    }
      where
        chunks_in : PlannedValue → List (List ℕ)
        chunks_in c = once_each (tiles listing.shape) (tiles_of_range listing.shape c.cells) listing.parameters

        within : All (λ cell. Within listing.shape (place_at 0 cell)) planned.cells
        within = (All-head (IsPlanned listing.shape listing.parameters) planned [] (subst (λ (cs : List PlannedValue). All (IsPlanned listing.shape listing.parameters) cs) rises.alone lists.coverages)).cells

    pub gathered_chunks : {numbers : List ℕ} → numbers ≡ ascending_once (tiles listing.shape) (map (tile_of listing.shape) (places_of_coverages listing.parameters listing.coverages)) → numbers ≡ needed s plan.query
    gathered_chunks all = all ∙ ap (ascending_once (tiles listing.shape)) (tiles_are listing) ∙ listed_to.chunks

    -- whose tiles were all opened before
    pub gathered_reply : opened ≡ ascending_once (tiles listing.shape) (map (tile_of listing.shape) (places_of_coverages listing.parameters listing.coverages)) → IsListing listing
        → IsReplyOf (gathered_sent listing s.held) opened (document s plan.query) (needed s plan.query)
    gathered_reply all lists = record {
      document_is = document_told;
      alone = λ one. length-map listing.coverages (coverage_of (grid_of s.held) listing.parameters) ∙ lists.alone one;
      valid = listed_valid lists;
      told = record { coverages = omega arith; ranges = λ i. none_told i };
      chunks = append-nil opened ∙ gathered_chunks all;
    }
      where
        none_told : (i : ℕ) {n : ℕ} → length (get_or {A = List (List ℕ)} [] i []) ≤ n
        none_told zero = omega arith
        none_told (suc i) = omega arith

  -- ---- stations

  module _ (reply : SeriesReplyValue) (is : plan.reply ≡ Series reply) where
    series_to : IsOverStations reply plan.query s
    series_to = subst (λ (r : Reply). IsReplyTo r plan.query s) is stands

    collection_is : collection_of s.held ≡ stations_of series_to.parameters series_to.stations
    collection_is = ap collection_of series_to.held

    pub series_over : over_series.IsReplyOver (collection_of s.held) reply
    series_over = subst (λ (collection : StationsValue). over_series.IsReplyOver collection reply) (sym collection_is) (record { counted = series_to.counted; asked = series_to.asked; each = series_to.each })

    pub series_reply : opened ≡ [] → IsSeriesReply reply → IsReplyOf (series_sent reply s.held) opened (document s plan.query) (needed s plan.query)
    series_reply none replies = record {
      document_is = document_told;
      alone = alone;
      valid = told.valid (series_valid.coverages_valid collection stand reply.parameters reply.series replies.series series_over.each);
      told = all_told cover chunks_in (series_sent reply s.held) reply.series refl refl
          (λ x. as_long n (blocks_of_range x) (series_range (over_series.station_of collection x) x.cells) reply.parameters);
      chunks = ap (λ (l : List ℕ). l ++ all_chunks (series_sent reply s.held)) none
          ∙ rows_of_map chunks_in (λ x. ascending_once n (blocks_of_coverage reply.parameters x)) reply.series
          (λ k d l. row_of_map (λ (p : ℕ). ascending_once n (blocks_of_range (get_or reply.series k d) p)) reply.parameters
          ∙ sym (once_items n (blocks_of_range (get_or reply.series k d)) reply.parameters (λ i e m. item_next n (blocks_of_range (get_or reply.series k d)) reply.parameters i e m
          (parameters_parted collection (get_or reply.series k d) (series_over.each k d l) reply.parameters i replies.parameters series_over.asked))))
          ∙ sym (once_items n (blocks_of_coverage reply.parameters) reply.series (λ i e m. item_next n (blocks_of_coverage reply.parameters) reply.series i e m
          (stations_parted collection reply.parameters series_over.asked reply.series series_over.each replies.rise i e)))
          ∙ ap (λ (c : StationsValue). ascending_once (blocks_in c) (reply_blocks reply)) collection_is
          ∙ series_to.chunks;
    }
      where
        collection : StationsValue
        collection = collection_of s.held

        n : ℕ
        n = blocks_in collection

        cover : StationSeriesValue → Coverage
        cover = series_coverage collection.stations reply.parameters

        chunks_in : StationSeriesValue → List (List ℕ)
        chunks_in x = once_each n (blocks_of_range x) reply.parameters

        stand : AreStations collection
        stand = subst (λ (c : StationsValue). AreStations c) (sym collection_is) (subst (λ (h : Held). IsHeld h) series_to.held held).1.are

        document_told : document_of reply.many (map cover reply.series) ≡ Some (document s plan.query)
        document_told = ap (λ (c : StationsValue). document_of reply.many (map (series_coverage c.stations reply.parameters) reply.series)) collection_is ∙ series_to.document

        alone : reply.many ≡ false → length (map cover reply.series) ≡ 1
        alone one = length-map reply.series cover ∙ replies.alone one

        told : Told reply.many (map cover reply.series) (document s plan.query)
        told = told_by reply.many (map cover reply.series) (document s plan.query) alone document_told
