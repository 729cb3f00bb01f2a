use Rattle.std.proofs.Common.{subst, sym, ◌∙◌}
use Rattle.std.specs.declared.option.Option.{Option}
use Rattle.edr_wkt.specs.declared.geometry.Geometry.{Geometry}
use Rattle.edr_query.specs.declared.parameters.Parameter.TheVariants as p
use Rattle.edr_query.specs.Parameters.{value_of, MaySay}
use Rattle.edr_query.specs.Queries.{IsGeometryText}
use Rattle.edr_query.proofs.CoordsLemmas.{taken_coords}
use Rattle.edr_query.proofs.coords.check_geometry.Goals as goal

pub returns-then-takes : goal.returns-then-takes
returns-then-takes c =
    let P : Option Geometry → Type 0 = λ o. MaySay IsGeometryText (value_of p.Coords c.args.parameters.now) o in
    taken_coords c.wkt_is_one.ensures c.args.page c.in-Some.kind _ c.args.parameters.now (sym c.in-Some.ensures) (subst P c.in-Some-coords.is c.requires) (sym c.takes.ensures ∙ c.if-takes.true)
