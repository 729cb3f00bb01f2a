use Rattle.std.proofs.Common.{rules, ◌≡◌, inl, Ok, sym}
use Rattle.edr_samples.specs.Trees.{list_view}
use Rattle.covjson_checks.specs.declared.faults.Member.TheVariants.{Values}
use Rattle.covjson_checks.specs.declared.faults.CovFault.TheVariants.{WrongType}
use Rattle.covjson_checks.specs.declared.members.Wanted.TheVariants.{NumbersOrNulls}
use Rattle.covjson_checks.specs.Members.{need_each}
use Rattle.covjson_checks.specs.FaultLaws.{fault_answers, stops_here, stops_after}
use Rattle.covjson_ranges.proofs.SampleLemmas.{samples_read}
use Rattle.covjson_ranges.proofs.ranges.samples_of.Goals as goal

pub returns-in-Ok : goal.returns-in-Ok
returns-in-Ok c = samples_read (list_view c.args.items) c.in-Ok.found.items c.in-Ok.ensures

pub returns-in_err-need_wholes-in-Err : goal.returns-in_err-need_wholes-in-Err
returns-in_err-need_wholes-in-Err c =
    let fault = c.in_err-need_wholes-in-Err.field-0.0 in
    let numbers : need_each NumbersOrNulls (WrongType Values) (list_view c.args.items) ≡ Ok tt = search rules in
    fault_answers _ _ fault _ (search rules) (stops_after _ _ fault tt numbers (stops_here _ _ fault (inl (sym c.in_err-need_wholes-in-Err.ensures))))
