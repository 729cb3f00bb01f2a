-- What is used of an instance.
use Rattle.std.proofs.Common.{ℕ, List, refl, ap, sym, subst, Some, None, IfSome, ℤ}
use Rattle.std.specs.declared.option.Option.{Option}
use Rattle.edr_axes.specs.Axes.{IsAxis}
use Rattle.covjson_value.specs.declared.domains.CoordinateName.{CoordinateName}
use Rattle.covjson_value.specs.declared.domains.CoordinateName.TheVariants.{T, Z, Y, X}
use Rattle.covjson_value.specs.declared.domains.Domain.{Domain}
use Rattle.covjson_value.specs.declared.domains.Domain.TheVariants.{Grid, Point, PointSeries, VerticalProfile, MultiPoint, Trajectory}
use Rattle.covjson_value.specs.declared.coverages.Parameter.{Parameter}
use Rattle.covjson_value.specs.declared.coverages.NdArray.{NdArray}
use Rattle.covjson_value.specs.declared.coverages.Referencing.{Referencing}
use Rattle.covjson_value.specs.Coverages.{IsNamedAxis}
use Rattle.edr_chunk.specs.declared.shapes.GridShape.{GridShape}
use Rattle.edr_edition.specs.Values.{InstanceValue}
use Rattle.edr_edition.specs.Instances.{IsTimedGrid, IsInstance, HasGrid, instance_of}
use Rattle.edr_select.specs.GridLaws.{IsGrid}

axis_if : (name : CoordinateName) (zs : Option (List ℤ)) → IfSome zs (IsNamedAxis name) → IfSome zs IsAxis
axis_if name None h = tt
axis_if name (Some values) h = h.ascending

of_domain : (iid : List ℕ) (id : Option (List ℕ)) (domain : Domain) (referencing : Referencing) (parameters : List Parameter) (ranges : List NdArray)
    → IsTimedGrid (record { id = id; domain = domain; referencing = referencing; parameters = parameters; ranges = ranges })
    → IsGrid (instance_of iid (record { id = id; domain = domain; referencing = referencing; parameters = parameters; ranges = ranges }))
of_domain iid id (Grid None zs ys xs) referencing parameters ranges t = cc (t.times)
of_domain iid id (Grid (Some ts) zs ys xs) referencing parameters ranges t = record {
  ts = (t.valid.axes T).ascending;
  zs = axis_if Z zs (t.valid.axes Z);
  ys = (t.valid.axes Y).ascending;
  xs = (t.valid.axes X).ascending;
  ids = t.valid.ascending;
  parameters = refl;
  times = refl;
  levels = refl;
  rows = refl;
  columns = refl;
}
of_domain iid id (Point ts z y x) referencing parameters ranges t = cc (t.grid)
of_domain iid id (PointSeries ts z y x) referencing parameters ranges t = cc (t.grid)
of_domain iid id (VerticalProfile ts z y x) referencing parameters ranges t = cc (t.grid)
of_domain iid id (MultiPoint ts has_z spots) referencing parameters ranges t = cc (t.grid)
of_domain iid id (Trajectory z has_z steps) referencing parameters ranges t = cc (t.grid)

-- an instance's axes and parameters, by its grid
pub grid_from : (i : InstanceValue) → HasGrid i → IsGrid i
grid_from i h = record {
  ts = h.ts.ascending;
  zs = axis_if Z i.zs h.zs;
  ys = h.ys.ascending;
  xs = h.xs.ascending;
  ids = h.ascending;
  parameters = ap (λ (shape : GridShape). shape.parameters) h.shape;
  times = ap (λ (shape : GridShape). shape.times) h.shape;
  levels = ap (λ (shape : GridShape). shape.levels) h.shape;
  rows = ap (λ (shape : GridShape). shape.rows) h.shape;
  columns = ap (λ (shape : GridShape). shape.columns) h.shape;
}

-- and by what it stands for
pub grid_of : (i : InstanceValue) → IsInstance i → IsGrid i
grid_of i h =
    let c = h.coverage in
    subst IsGrid (sym h.is) (of_domain i.id c.id c.domain c.referencing c.parameters c.ranges h.grid)
