use Rattle.edr_chunk.proofs.AllPlaceLaws.{grid_long}
use Rattle.edr_chunk.specs.Grids.{Values}
use Rattle.std.proofs.Common.{length, ap, sym, ◌∙◌}
use Rattle.edr_chunk.proofs.packed_grid.PackedGrid.shape.Goals as goal

pub returns-clause-whole : goal.returns-clause-whole
returns-clause-whole c =
    sym (ap (λ (g : Values). length g.values) c.self.view_is) ∙ grid_long c.self.inside.shape c.self.inside.kept.items
