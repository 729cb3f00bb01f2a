use Rattle.std.proofs.Common.{List, [], ◌∷◌, ◌++◌, ap, ◌∙◌, arith}
use Rattle.edr_wkt.specs.declared.geometry.Polygon.{Polygon}
use Rattle.edr_wkt.proofs.BodyLemmas.{polygon-body_read}
use Rattle.edr_wkt.proofs.bodies.read_one_polygon.Goals as goal

pub returns-clause-read : goal.returns-clause-read
returns-clause-read c = polygon-body_read c.args.has_z c.args.has_m c.args.text.now _ _ _ _ _ c.in_ok-rings.ensures.read
    (c.of.ensures ∙ (c.in_ok-keep.ensures.kept (omega arith) ∙ ap (λ (l : List Polygon). l ++ record { rings = c.in_ok-rings.rings } ∷ []) c.new-polygons.ensures.items))
