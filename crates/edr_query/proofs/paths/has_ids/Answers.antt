use Rattle.std.proofs.Common.{ap, ◌∙◌}
use Rattle.edr_query.specs.declared.addresses.Address.TheVariants.{Query}
use Rattle.edr_query.specs.Paths.{ids_of}
use Rattle.edr_query.proofs.IdLemmas.{two_ids}
use Rattle.edr_query.proofs.paths.has_ids.Goals as goal

pub returns-in-Some : goal.returns-in-Some
returns-in-Some c = two_ids c.are_parts-in-Some.result c.args.address.now _ _ _ _ c.bytes-in-Some.ensures c.bytes-in-Some-2.ensures (ap ids_of c.in-Query.is ∙ ap (λ i. ids_of (Query c.in-Query.kind c.in-Query.collection i)) c.in-Some.is) c.are_parts-in-Some.ensures

pub returns-in-Instance : goal.returns-in-Instance
returns-in-Instance c = two_ids c.are_parts.result c.args.address.now _ _ _ _ c.bytes.ensures c.bytes-in-Instance.ensures (ap ids_of c.in-Instance.is) c.are_parts.ensures

pub returns-in-Location : goal.returns-in-Location
returns-in-Location c = two_ids c.are_parts-in-Location.result c.args.address.now _ _ _ _ c.bytes-in-Location.ensures c.bytes-in-Location-2.ensures (ap ids_of c.in-Location.is) c.are_parts-in-Location.ensures
