use Rattle.std.proofs.Common.{◌≡◌, take, map}
use Rattle.edr_geometry.specs.Masks.{column_of}
use Rattle.edr_select.specs.Masks.{takes_spot}
use Rattle.edr_select.proofs.tall_masks.masks_of.Given as goal

abbrev pub invariant-loop-place : goal.invariant-loop-place
invariant-loop-place l = l.masks.items ≡ map (λ x. column_of (takes_spot l.shape) x l.instance.ys) (take l.place l.columns.xs)
