-- The parameters and ranges of a coverage that were read.
use Rattle.std.specs.Prelude.{◌≡◌, List, length, All}
use Rattle.covjson_value.specs.declared.domains.Domain.{Domain}
use Rattle.covjson_value.specs.declared.coverages.Parameter.{Parameter}
use Rattle.covjson_value.specs.declared.coverages.NdArray.{NdArray}
use Rattle.covjson_value.specs.Coverages.{IsParameter, AscendById, IsRange}

-- for private clauses: parameters and ranges that a coverage may have over a domain
pub record AreValid (domain : Domain) (kept : List Parameter) (read : List NdArray) : Type 0 where
  pub parameters : All IsParameter kept
  pub ascending : AscendById kept
  pub as_many : length read ≡ length kept
  pub ranges : All (IsRange domain) read
