-- For private clauses: spanned values by whole numbers.
use Rattle.std.specs.Prelude.{ℤ, unsigned_abs, List, Ok}
use Rattle.edr_base.specs.FirstThatApplies.{and_then, check}
use Rattle.covjson_checks.specs.declared.faults.Member.{Member}
use Rattle.covjson_checks.specs.declared.faults.CovFault.TheVariants.{NotWhole, OutOfRange}
use Rattle.covjson_checks.specs.Answers.{Answer}
use Rattle.covjson_domains.specs.AxisAnswers.{has_whole_steps, is_span_within, regular}

-- the values between whole numbers
abbrev pub spanned_between : Member → ℤ → ℤ → ℤ → Answer (List ℤ)
spanned_between m first last count =
    and_then (check (has_whole_steps first last count) (NotWhole m)) (λ _.
    and_then (check (is_span_within first last count) (OutOfRange m)) (λ _.
    Ok (regular first last (unsigned_abs count))))
