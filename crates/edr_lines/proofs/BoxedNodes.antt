-- The nodes of a domain along axes, by their places.
use Rattle.std.proofs.Common.{◌≡◌, ℕ, List, [], ◌∷◌, ap, ◌∙◌, ℤ, None, Some}
use Rattle.std.specs.declared.option.Option.{Option}
use Rattle.std.specs.Prelude.{map, option_map}
use Rattle.std.specs.List.{flat_map}
use Rattle.std.proofs.lemmas.List.Folds.{flat_map-map}
use Rattle.edr_axes.specs.Axes.{value_at}
use Rattle.covjson_value.specs.declared.domains.Domain.TheVariants.{Grid}
use Rattle.covjson_value.specs.Samples.{node, nodes_of, values_or_absent}
use Rattle.edr_chunk.specs.AllPlaces.{at}
use Rattle.edr_edition.specs.Values.{InstanceValue}
use Rattle.edr_select.specs.Samples.{node_at}
use Rattle.edr_corridor.specs.Boxes.{level_at}
use Rattle.edr_select.specs.ListLaws.{flat_map_agree, map-map}
use Rattle.edr_select.specs.BoxLaws.{rows_of, planes_of, boxed}
use Rattle.edr_select.specs.NodeLaws.{levels_shown}

nodes_boxed : (tv zv : ℕ → Option ℤ) (yv xv : ℕ → ℤ) (ts zs ys xs : List ℕ)
    → flat_map (λ t. flat_map (λ z. flat_map (λ y. map (λ x. node t z y x) (map xv xs)) (map yv ys)) (map zv zs)) (map tv ts)
    ≡ boxed (λ t z y x. node (tv t) (zv z) (yv y) (xv x)) ts zs ys xs
nodes_boxed tv zv yv xv ts zs ys xs =
    flat_map-map (λ t. flat_map (λ z. flat_map (λ y. map (λ x. node t z y x) (map xv xs)) (map yv ys)) (map zv zs)) tv ts
    ∙ flat_map_agree (λ t. flat_map (λ z. flat_map (λ y. map (λ x. node (tv t) z y x) (map xv xs)) (map yv ys)) (map zv zs))
    (λ t. planes_of (λ z y x. node (tv t) (zv z) (yv y) (xv x)) zs ys xs) (λ t. planes t) ts
  where
    rows : (t z : ℕ) → flat_map (λ y. map (λ x. node (tv t) (zv z) y x) (map xv xs)) (map yv ys) ≡ rows_of (λ y x. node (tv t) (zv z) (yv y) (xv x)) ys xs
    rows t z =
        flat_map-map (λ y. map (λ x. node (tv t) (zv z) y x) (map xv xs)) yv ys
        ∙ flat_map_agree (λ y. map (λ x. node (tv t) (zv z) (yv y) x) (map xv xs)) (λ y. map (λ x. node (tv t) (zv z) (yv y) (xv x)) xs)
        (λ y. map-map (λ x. node (tv t) (zv z) (yv y) x) xv xs) ys

    planes : (t : ℕ) → flat_map (λ z. flat_map (λ y. map (λ x. node (tv t) z y x) (map xv xs)) (map yv ys)) (map zv zs) ≡ planes_of (λ z y x. node (tv t) (zv z) (yv y) (xv x)) zs ys xs
    planes t =
        flat_map-map (λ z. flat_map (λ y. map (λ x. node (tv t) z y x) (map xv xs)) (map yv ys)) zv zs
        ∙ flat_map_agree (λ z. flat_map (λ y. map (λ x. node (tv t) (zv z) y x) (map xv xs)) (map yv ys)) (λ z. rows_of (λ y x. node (tv t) (zv z) (yv y) (xv x)) ys xs)
        (rows t) zs

-- the nodes of some times, levels, rows and columns of a grid
pub nodes_over : (i : InstanceValue) (times levels rows columns : List ℕ) → (i.zs ≡ None → levels ≡ 0 ∷ [])
    → nodes_of (Grid (Some (map (value_at i.ts) times)) (option_map (λ zs. map (value_at zs) levels) i.zs) (map (value_at i.ys) rows) (map (value_at i.xs) columns))
    ≡ boxed (λ t z y x. node_at i (at 0 t z y x)) times levels rows columns
nodes_over i times levels rows columns one =
    ap (λ (ts : List (Option ℤ)). flat_map (λ t. flat_map (λ z. flat_map (λ y. map (λ x. node t z y x) (map (value_at i.xs) columns)) (map (value_at i.ys) rows))
    (values_or_absent (option_map (λ values. map (value_at values) levels) i.zs))) ts) (map-map Some (value_at i.ts) times)
    ∙ (ap (λ (zs : List (Option ℤ)). flat_map (λ t. flat_map (λ z. flat_map (λ y. map (λ x. node t z y x) (map (value_at i.xs) columns)) (map (value_at i.ys) rows)) zs)
    (map (λ t. Some (value_at i.ts t)) times)) (levels_shown i.zs levels one)
    ∙ nodes_boxed (λ t. Some (value_at i.ts t)) (level_at i.zs) (value_at i.ys) (value_at i.xs) times levels rows columns)
