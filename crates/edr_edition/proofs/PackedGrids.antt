-- Grids that are packed range by range.
use Rattle.std.proofs.Common.{◌≡◌, ℕ, ◌+◌, ◌<◌, ℤ, List, length, take, get_or, ◌++◌, Option, sym, ap, ◌∙◌}
use Rattle.covjson_value.specs.declared.coverages.NdArray.{NdArray}
use Rattle.edr_chunk.specs.declared.shapes.GridShape.{GridShape}
use Rattle.edr_chunk.specs.Grids.{Values}
use Rattle.edr_chunk.specs.Tiles.{with_parameters}
use Rattle.edr_edition.specs.Instances.{values_of}
use Rattle.edr_edition.proofs.TallySteps.{values_more}

abbrev pub grid_of : GridShape → List (Option ℤ) → Values
grid_of shape values = record { shape = shape; values = values }

-- one range more
pub packer_step : (shape : GridShape) (old new : Values) (ranges : List NdArray) (i : ℕ) (d : NdArray) (values : List (Option ℤ))
    → old ≡ grid_of (with_parameters shape i) (values_of (take i ranges)) → i < length ranges → values ≡ (get_or ranges i d).values
    → new.shape ≡ with_parameters old.shape (old.shape.parameters + 1) → new.values ≡ old.values ++ values
    → new ≡ grid_of (with_parameters shape (i + 1)) (values_of (take (i + 1) ranges))
packer_step shape old new ranges i d values before inside is sides more =
    let shapes : new.shape ≡ with_parameters shape (i + 1) = sides ∙ ap (λ (g : Values). with_parameters g.shape (g.shape.parameters + 1)) before in
    let all : new.values ≡ values_of (take (i + 1) ranges) =
    more ∙ (ap (λ (g : Values). g.values ++ values) before ∙ (ap (λ vs. values_of (take i ranges) ++ vs) is ∙ sym (values_more ranges i d inside))) in
    ap (λ s. grid_of s new.values) shapes ∙ ap (grid_of (with_parameters shape (i + 1))) all
