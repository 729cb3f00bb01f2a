-- What is described by the refusal that is found is described by the first.
use Rattle.std.specs.Prelude.{ℕ, List, None, Some, Ok, Err, Result, IfOk, IfErr}
use Rattle.edr_edition.specs.Values.{EditionValue}
use Rattle.edr_query.specs.declared.pages.Page.{Page}
use Rattle.edr_select.specs.RefusalLaws.{found_first}
use Rattle.edr_describe.specs.declared.describing.DescribeFault.{DescribeFault}
use Rattle.edr_describe.specs.declared.describing.DescribeFault.TheVariants.{Refused, OutOfMemory}
use Rattle.edr_describe.specs.Describing.{MatchDescription, IsFoundText, IsFaultOf}

pub match_description : (edition : EditionValue) (page : Page) (result : Result (List ℕ) DescribeFault)
    → IfOk result (IsFoundText edition page) → IfErr result (IsFaultOf edition page) → MatchDescription result edition page
match_description edition page (Ok text) found fault = record { none = found_first edition page None found.none; text_is = found.is }
match_description edition page (Err (Refused refusal)) found fault = found_first edition page (Some refusal) fault
match_description edition page (Err OutOfMemory) found fault = tt
