-- What a writer of documents has written so far, and what may come next.
use Rattle.std.specs.Prelude.{ℕ, ◌+◌, Bool, true, false, if◌then◌else◌, ◌==◌, List, [], length}
use Rattle.covjson_value.specs.declared.coverages.NdArray.{NdArray}
use Rattle.covjson_value.specs.declared.coverages.Coverage.{Coverage}
use Rattle.covjson_value.specs.Coverages.{IsValid}
use Rattle.covjson_write.specs.declared.stages.Stage.{Stage}
use Rattle.covjson_write.specs.declared.stages.Stage.TheVariants.{Ready, Within, Open}
use Rattle.covjson_write.specs.Pieces.{head_of}
use Rattle.covjson_write.specs.declared.range_heads.RangeHead.{RangeHead}

pub record WriterValue : Type 0 where
  -- whether the document is a collection
  pub many : Bool
  -- whether a coverage was begun
  pub begun : Bool
  pub stage : Stage
  -- of the last coverage
  pub head : RangeHead
  -- how many of its ranges are whole
  pub ranges : ℕ
  -- how many values the open range has
  pub values : ℕ

-- a coverage with these ranges in place of its own
abbrev pub with_ranges : Coverage → List NdArray → Coverage
with_ranges head ranges = record { id = head.id; domain = head.domain; referencing = head.referencing; parameters = head.parameters; ranges = ranges }

-- a coverage that is valid with some ranges, whatever ranges it has now
pub record IsHead (head : Coverage) : Type 0 where
  pub ranges : List NdArray
  pub valid : IsValid (with_ranges head ranges)

-- nothing but the document's beginning is written
abbrev pub started : Bool → WriterValue
started many = record { many = many; begun = false; stage = Ready; head = record { keys = []; opening = []; count = 0 }; ranges = 0; values = 0 }

-- a coverage was begun
abbrev pub with_coverage : WriterValue → Coverage → WriterValue
with_coverage writer head = record { many = writer.many; begun = true; stage = Within; head = head_of head; ranges = 0; values = 0 }

-- its next range was begun
abbrev pub with_range : WriterValue → WriterValue
with_range writer = record { many = writer.many; begun = writer.begun; stage = Open; head = writer.head; ranges = writer.ranges; values = 0 }

-- values of that range were written
abbrev pub with_values : WriterValue → ℕ → WriterValue
with_values writer count = record { many = writer.many; begun = writer.begun; stage = writer.stage; head = writer.head; ranges = writer.ranges; values = writer.values + count }

-- that range is whole, and so is the coverage if it was its last
abbrev pub without_range : WriterValue → WriterValue
without_range writer = record {
  many = writer.many;
  begun = writer.begun;
  stage = if writer.ranges + 1 == length writer.head.keys then Ready else Within;
  head = writer.head;
  ranges = writer.ranges + 1;
  values = 0;
}
