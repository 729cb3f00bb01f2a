-- Rows of checks of axes and tuples: the form that is theirs.
use Rattle.std.specs.Prelude.{⊤, Option, None, Some, Result}
use Rattle.serde_json.specs.Data.{Data}
use Rattle.edr_base.specs.FirstThatApplies.{Check, Gives}
use Rattle.covjson_checks.specs.declared.faults.Member.{Member}
use Rattle.covjson_checks.specs.declared.faults.CovFault.{CovFault}
use Rattle.covjson_checks.specs.declared.faults.CovFault.TheVariants.{Missing}
use Rattle.covjson_domains.specs.declared.domain_types.Presence.{Presence}
use Rattle.covjson_domains.specs.DomainTypes.{IsNeeded}

-- the rows of an axis that is found; where it isn't, it is missing if a domain of the type needs it
abbrev pub IfFound : Presence → Member → Option Data → (Data → Result ⊤ CovFault → Type 0) → Result ⊤ CovFault → Type 0
IfFound wanted m None Rows = Check (¬ (IsNeeded wanted)) (Missing m) (Gives tt)
IfFound wanted m (Some axis) Rows = Rows axis
