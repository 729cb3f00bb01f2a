use Rattle.std.proofs.Common.{◌≡◌, ℕ, ℤ, List, Option, ap, sym, ◌∙◌}
use Rattle.covjson_value.specs.declared.coverages.Parameter.{Parameter}
use Rattle.covjson_value.specs.declared.coverages.Coverage.{Coverage}
use Rattle.covjson_value.specs.declared.domains.CoordinateName.TheVariants.{T, Z, Y, X}
use Rattle.covjson_value.specs.Domains.{axis_of}
use Rattle.covjson_value.specs.Samples.{values_or_none}
use Rattle.edr_chunk.specs.Grids.{Values}
use Rattle.edr_station.specs.Tallies.{tally_of}
use Rattle.edr_edition.specs.Values.{InstanceValue}
use Rattle.edr_edition.specs.Instances.{instance_of, shape_of, values_of}
use Rattle.edr_edition.proofs.instances.GridInstance.of.Goals as goal

-- part by part
same_instance : (id : List ℕ) (coverage : Coverage) (parameters : List Parameter) (ts : List ℤ) (zs : Option (List ℤ)) (ys xs : List ℤ) (grid : Values) → parameters ≡ coverage.parameters
    → ts ≡ values_or_none (axis_of coverage.domain T) → zs ≡ axis_of coverage.domain Z → ys ≡ values_or_none (axis_of coverage.domain Y) → xs ≡ values_or_none (axis_of coverage.domain X)
    → grid ≡ record { shape = shape_of coverage; values = values_of coverage.ranges }
    → ◌≡◌ {A = InstanceValue} (record { id = id; parameters = parameters; ts = ts; zs = zs; ys = ys; xs = xs; grid = grid }) (instance_of id coverage)
same_instance id coverage parameters ts zs ys xs grid a b c d e f = cc

pub invariant_of-result : goal.invariant_of-result
invariant_of-result c =
    let frame = c.frame_of-times.ensures in (
      record {
        id = c.requires.id;
        coverage = c.args.coverage;
        grid = c.requires.grid;
        is = same_instance c.args.id c.args.coverage _ _ _ _ _ c.in-Ok.made.0 (c.in_ok-parameters.ensures.ok ∙ frame.parameters) frame.times frame.levels frame.ys frame.xs c.in-Ok.ensures.grid;
      },
      c.in-Ok.ensures.tally ∙ ap (λ (grid : Values). tally_of grid.values) (sym c.in-Ok.ensures.grid),
    )
