use Rattle.std.proofs.Common.{subst}
use Rattle.std.specs.Prelude.{All}
use Rattle.edr_query.specs.declared.addresses.Address.{Address}
use Rattle.edr_query.specs.Paths.{parts_of, page_kind, IsPart}
use Rattle.edr_query.specs.Reads.{IsAllSaid}
use Rattle.edr_query.proofs.reading.page_of.Goals as goal

pub station_page-requires : goal.station_page-requires
station_page-requires c =
    let P : Address → Type 0 = λ a. All IsPart (parts_of a) in
    let Q : Address → Type 0 = λ a. IsAllSaid (page_kind a) c.args.parameters.now c.args.said in
    record { parts = subst P c.in-Location.is c.requires.parts; said = subst Q c.in-Location.is c.requires.said }

pub query_page-requires : goal.query_page-requires
query_page-requires c =
    let P : Address → Type 0 = λ a. All IsPart (parts_of a) in
    let Q : Address → Type 0 = λ a. IsAllSaid (page_kind a) c.args.parameters.now c.args.said in
    record { parts = subst P c.in-Query.is c.requires.parts; said = subst Q c.in-Query.is c.requires.said }

pub returns-in_default : goal.returns-in_default
returns-in_default c = c.description.ensures c.args.parameters.now
