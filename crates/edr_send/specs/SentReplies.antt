-- Replies as they are sent: the coverages with their ranges, and the chunks that are opened for each range; for private clauses.
use Rattle.std.specs.Prelude.{◌≡◌, ℕ, suc, ◌<◌, ◌≤◌, ◌++◌, Bool, false, List, [], ◌∷◌, length, map, take, drop, All, Some}
use Rattle.std.specs.List.{flat_map, slice_index_or}
use Rattle.covjson_value.specs.declared.coverages.NdArray.{NdArray}
use Rattle.covjson_value.specs.declared.coverages.Coverage.{Coverage}
use Rattle.covjson_value.specs.declared.coverages.Document.{Document}
use Rattle.covjson_value.specs.Coverages.{IsValid, IsValidDocument}
use Rattle.covjson_write.specs.Pieces.{coverages_from}
use Rattle.covjson_write.specs.Writers.{with_ranges}
use Rattle.edr_select.specs.Listings.{document_of}

pub record SentReply : Type 0 where
  pub many : Bool  -- whether it is a collection
  pub coverages : List Coverage
  pub chunks : List (List (List ℕ))  -- of each coverage, for each of its ranges, the numbers of the chunks in the order in which they are opened

-- ---- the ranges of a coverage, which is told by its number

abbrev pub ranges_in : Coverage → List NdArray
ranges_in coverage = coverage.ranges

abbrev pub ranges_at : SentReply → ℕ → List NdArray
ranges_at sent i = slice_index_or (map ranges_in sent.coverages) i []

abbrev pub range_at : SentReply → ℕ → ℕ → NdArray
range_at sent i j = slice_index_or (ranges_at sent i) j (record { values = [] })

-- ---- the chunks of a coverage, of one range of it, and of all coverages

abbrev pub chunks_of : SentReply → ℕ → List (List ℕ)
chunks_of sent i = slice_index_or sent.chunks i []

abbrev pub chunks_at : SentReply → ℕ → ℕ → List ℕ
chunks_at sent i j = slice_index_or (chunks_of sent i) j []

abbrev pub in_a_row : List (List ℕ) → List ℕ
in_a_row chunks = flat_map (λ numbers. numbers) chunks

abbrev pub all_chunks : SentReply → List ℕ
all_chunks sent = flat_map in_a_row sent.chunks

-- ---- what writers ask

-- there is such a range, with so many values
pub record HasRange (sent : SentReply) (i j count : ℕ) : Type 0 where
  pub coverage : i < length sent.coverages
  pub range : j < length (ranges_at sent i)
  pub values : length (range_at sent i j).values ≡ count

-- there is such a coverage, with so many ranges, each with so many values
pub record HasRanges (sent : SentReply) (i n count : ℕ) : Type 0 where
  pub coverage : i < length sent.coverages
  pub ranges : length (ranges_at sent i) ≡ n
  pub chunks : length (chunks_of sent i) ≤ n
  pub values : All (λ range. length range.values ≡ count) (ranges_at sent i)

-- a coverage is that of a number, whatever its ranges are
abbrev pub IsHeadOf : Coverage → SentReply → ℕ → Type 0
IsHeadOf head sent i = drop i sent.coverages ≡ with_ranges head (ranges_at sent i) ∷ drop (suc i) sent.coverages

-- the text of the coverage of a number, with its comma
abbrev pub text_at : SentReply → ℕ → List ℕ
text_at sent i = coverages_from i (take 1 (drop i sent.coverages))

-- chunks are told of no more coverages and ranges than there are
pub record TellsChunks (sent : SentReply) : Type 0 where
  pub coverages : length sent.chunks ≤ length sent.coverages
  pub ranges : (i : ℕ) → length (chunks_of sent i) ≤ length (ranges_at sent i)

-- the coverages are valid, and one where they are no collection
pub record CanBeSent (sent : SentReply) : Type 0 where
  pub valid : All IsValid sent.coverages
  pub alone : sent.many ≡ false → length sent.coverages ≡ 1
  pub told : TellsChunks sent

-- they give a document, and what was opened with what is opened then are the chunks that are wanted
pub record IsReplyOf (sent : SentReply) (opened : List ℕ) (document : Document) (wanted : List ℕ) : Type 0 where
  pub document_is : document_of sent.many sent.coverages ≡ Some document
  pub alone : sent.many ≡ false → length sent.coverages ≡ 1
  pub told : TellsChunks sent
  pub valid : IsValidDocument document
  pub chunks : opened ++ all_chunks sent ≡ wanted

-- of the numbers that are wanted all but the rest were added
pub record AddedBut (rest wanted old new : List ℕ) : Type 0 where
  pub front : List ℕ
  pub whole_is : wanted ≡ front ++ rest
  pub grew : new ≡ old ++ front
