-- The ranges that are answered are some.
use Rattle.std.proofs.Common.{◌≡◌, ◌<◌, ◌∷◌, length, true, Result, Ok, Err, IfOk, codes, subst, arith}
use Rattle.serde_json.specs.Data.{Data, Members, no_members, member}
use Rattle.covjson_checks.specs.declared.faults.Member.TheVariants.{Parameters, Ranges}
use Rattle.covjson_checks.specs.declared.faults.CovFault.TheVariants.{WrongCount}
use Rattle.covjson_checks.specs.declared.faults.CovFault.{CovFault}
use Rattle.covjson_checks.specs.declared.turned.ReadDomain.{ReadDomain}
use Rattle.covjson_read.specs.declared.collected.ReadRanges.{ReadRanges}
use Rattle.edr_base.specs.FirstThatApplies.{check}
use Rattle.covjson_checks.specs.Answers.{GivesUnlessMemory}
use Rattle.covjson_checks.specs.Members.{need, object_at}
use Rattle.covjson_read.specs.ParameterAnswers.{parameter_of}
use Rattle.covjson_ranges.specs.RangeAnswers.{range_of}
use Rattle.covjson_read.specs.CollectedAnswers.{ranges_from, has_members, ranges_in}
use Rattle.edr_json.specs.AnswerLaws.{and_then_ok, check_ok}
use Rattle.covjson_read.proofs.RowAnswers.{same_ok}

-- where there are members there are parameters
some_from : (read : ReadDomain) (parameters : Data) (ms : Members) (r : ReadRanges) → has_members ms ≡ true → ranges_from read parameters ms ≡ Ok r → 0 < length r.parameters
some_from read parameters no_members r some h = cc
some_from read parameters (member id d ms) r some h =
    let f = and_then_ok (need id Parameters parameters) _ r h in
    let p = and_then_ok (parameter_of id f.0) _ r f.2 in
    let a = and_then_ok (range_of read d) _ r p.2 in
    let o = and_then_ok (ranges_from read parameters ms) _ r a.2 in
    let made : ReadRanges = record { parameters = p.0 ∷ o.0.parameters; ranges = a.0 ∷ o.0.ranges } in
    let same : made ≡ r = same_ok made r o.2 in
    subst (λ (q : ReadRanges). 0 < length q.parameters) same (omega arith)

-- there is a parameter at least
pub some_parameters : (read : ReadDomain) (parameters tree : Data) (r : ReadRanges) → ranges_in read parameters tree ≡ Ok r → 0 < length r.parameters
some_parameters read parameters tree r h =
    let a = and_then_ok (need (codes "ranges") Ranges tree) _ r h in
    let b = and_then_ok (object_at Ranges a.0) _ r a.2 in
    let k = and_then_ok (check (has_members b.0) (WrongCount Ranges 1 0)) _ r b.2 in
    some_from read parameters b.0 r (check_ok (has_members b.0) _ _ k.1) k.2

-- so has what a result gives
pub some_given : (read : ReadDomain) (parameters tree : Data) (result : Result ReadRanges CovFault) → GivesUnlessMemory (λ r. r) result (ranges_in read parameters tree)
    → IfOk result (λ r. 0 < length r.parameters)
some_given read parameters tree (Ok r) h = some_parameters read parameters tree r h
some_given read parameters tree (Err fault) h = tt
