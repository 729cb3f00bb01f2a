-- All ranges of a coverage, each with its parameter, or the first check that fails, as a computation.
use Rattle.std.specs.Prelude.{List, [], ◌∷◌, codes, Bool, true, false, Ok}
use Rattle.serde_json.specs.Data.{Data, Members, no_members, member}
use Rattle.edr_base.specs.FirstThatApplies.{and_then, check}
use Rattle.covjson_value.specs.declared.coverages.NdArray.{NdArray}
use Rattle.covjson_value.specs.declared.coverages.Parameter.{Parameter}
use Rattle.covjson_checks.specs.declared.turned.ReadDomain.{ReadDomain}
use Rattle.covjson_checks.specs.declared.faults.Member.TheVariants.{Parameters, Ranges}
use Rattle.covjson_checks.specs.declared.faults.CovFault.TheVariants.{WrongCount}
use Rattle.covjson_checks.specs.Answers.{Answer}
use Rattle.covjson_checks.specs.Members.{need, object_at}
use Rattle.covjson_ranges.specs.RangeAnswers.{range_of}
use Rattle.covjson_read.specs.declared.collected.ReadRanges.{ReadRanges}
use Rattle.covjson_read.specs.ParameterAnswers.{parameter_of}

-- parameters and ranges together
abbrev pub both : List Parameter → List NdArray → ReadRanges
both kept found = record { parameters = kept; ranges = found }

-- each range in turn with the parameter of its name
abbrev pub ranges_from : ReadDomain → Data → Members → Answer ReadRanges
ranges_from read parameters no_members = Ok (record { parameters = []; ranges = [] })
ranges_from read parameters (member id d members) =
    and_then (need id Parameters parameters) (λ found.
    and_then (parameter_of id found) (λ parameter.
    and_then (range_of read d) (λ range.
    and_then (ranges_from read parameters members) (λ others.
    Ok (record { parameters = parameter ∷ others.parameters; ranges = range ∷ others.ranges })))))

abbrev pub has_members : Members → Bool
has_members no_members = false
has_members (member id d others) = true

-- the ranges, of which there are some
abbrev pub ranges_in : ReadDomain → Data → Data → Answer ReadRanges
ranges_in read parameters tree =
    and_then (need (codes "ranges") Ranges tree) (λ d.
    and_then (object_at Ranges d) (λ members.
    and_then (check (has_members members) (WrongCount Ranges 1 0)) (λ _.
    ranges_from read parameters members)))
