-- A fault of the source has none inside.
use Rattle.std.proofs.Common.{ℕ, List, []}
use Rattle.std.specs.declared.option.Option.{Option}
use Rattle.std.specs.Prelude.{None, Some}
use Rattle.edr_feed.specs.declared.faults.FeedFault.TheVariants.{ReadFault}
use Rattle.edr_feed.specs.Feeds.{InnerStandsIn}

pub read_fault_inside : (left : Option (List ℕ)) → InnerStandsIn left ReadFault
read_fault_inside None = ([], tt)
read_fault_inside (Some bytes) = tt
