-- Levels that are asked of an instance without any change nothing of what a trajectory selects.
use Rattle.std.proofs.Common.{◌≡◌, Bool, true, false, List, [], refl, ap, ap₂, sym, ◌∙◌, None, Some, ℤ}
use Rattle.std.specs.declared.option.Option.{Option}
use Rattle.std.specs.Prelude.{map, ◌&&◌}
use Rattle.std.specs.List.{filter, flat_map, list_any}
use Rattle.std.proofs.lemmas.Bool.{and_right}
use Rattle.std.proofs.lemmas.List.Elements.{filter_agree}
use Rattle.edr_base.specs.declared.places.Position.{Position}
use Rattle.edr_wkt.specs.declared.geometry.Geometry.{Geometry}
use Rattle.edr_wkt.specs.Geometries.{line_of}
use Rattle.edr_wkt.specs.Wkt.{has_z_of, has_m_of}
use Rattle.covjson_value.specs.declared.coverages.Document.{Document}
use Rattle.covjson_value.specs.Samples.{Node, same_node}
use Rattle.edr_edition.specs.Values.{InstanceValue, CollectionValue}
use Rattle.edr_edition.specs.Stores.{Subject}
use Rattle.edr_query.specs.declared.shapes.Shape.{Shape}
use Rattle.edr_query.specs.declared.shapes.Shape.TheVariants as at
use Rattle.edr_query.specs.Values.{QueryValue}
use Rattle.edr_select.specs.Checks.{grid_of}
use Rattle.edr_select.specs.Documents.{coverage_over, document, document_over}
use Rattle.edr_select.specs.Heads.{heads_of_route, heads_on_grid, is_some_stored}
use Rattle.edr_select.specs.Lines.{is_along_if, is_inside, step_of, without_repeats, turns, is_some_node, route_over}
use Rattle.edr_select.specs.ListLaws.{each-flat_map_in, each-map_in, filter_none}
use Rattle.edr_select.specs.Samples.{Stored, samples_in}
use Rattle.edr_select.specs.Selections.{is_asked, takes, picked}
use Rattle.edr_select.specs.Wanted.{takes_time, takes_level, is_along}
use Rattle.edr_lines.proofs.LineGrids.{filter_nothing}

-- the query without levels
abbrev pub without : QueryValue → QueryValue
without q = record q { levels = None }

turns_alike : (has : Bool) (zs : Option (List ℤ)) (taken other : ℤ → Bool) → zs ≡ None → turns has zs taken ≡ turns has zs other
turns_alike true zs taken other e = refl
turns_alike false None taken other e = refl
turns_alike false (Some values) taken other e = cc

none_stored : (asked : Stored → Bool) (samples : List Stored) → is_some_stored (filter (λ x. asked x && false) samples) ≡ false
none_stored asked samples = ap is_some_stored (filter_agree (λ x. asked x && false) (λ x. false) (λ x. and_right (asked x) false refl) samples ∙ filter_none samples)

module _ (c : CollectionValue) (q : QueryValue) (i : InstanceValue) (line : Geometry) (shape : q.shape ≡ at.Trajectory line) (none : i.zs ≡ None) where
  abbrev s : Subject
  s = grid_of c i

  abbrev route : QueryValue → List (List Node)
  route k = route_over i k (has_z_of line) (has_m_of line) (line_of line)

  -- ---- where the vertices have no levels

  abbrev lists : List (Option ℤ) → List (List Node)
  lists zs =
      filter is_some_node
      (flat_map (λ t. map (λ z. without_repeats (map (step_of i (has_z_of line) (has_m_of line) t z) (filter (is_inside i (has_z_of line) (has_m_of line)) (line_of line)))) zs)
      (turns (has_m_of line) (Some i.ts) (λ t. takes_time q.times (Some t))))

  same_route : route q ≡ route (without q)
  same_route = ap lists (turns_alike (has_z_of line) i.zs (λ l. takes_level q.levels (Some l)) (λ l. takes_level None (Some l)) none)

  -- what is picked along some lists of nodes, and its document
  abbrev picked_along : List (List Node) → List Stored
  picked_along nodes = filter (λ (x : Stored). is_asked q.parameters x.sample.parameter && list_any (list_any (same_node x.sample.at)) nodes) (samples_in s)

  picked_is : picked s q ≡ picked_along (route q)
  picked_is = ap (λ (k : Shape). filter (λ (x : Stored). is_asked q.parameters x.sample.parameter && takes s q k x) (samples_in s)) shape

  picked_without : picked s (without q) ≡ picked_along (route (without q))
  picked_without = ap (λ (k : Shape). filter (λ (x : Stored). is_asked q.parameters x.sample.parameter && takes s (without q) k x) (samples_in s)) shape

  pub same_picks : picked s q ≡ picked s (without q)
  same_picks = picked_is ∙ (ap picked_along same_route ∙ sym picked_without)

  abbrev document_along : List Stored → List (List Node) → Document
  document_along picks nodes = document_over (coverage_over s q picks) (heads_of_route (has_z_of line) nodes)

  document_is : document s q ≡ document_along (picked s q) (route q)
  document_is = ap (λ (k : Shape). document_over (coverage_over s q (picked s q)) (heads_on_grid i q k (picked s q))) shape

  document_without : document s (without q) ≡ document_along (picked s (without q)) (route (without q))
  document_without = ap (λ (k : Shape). document_over (coverage_over s q (picked s (without q))) (heads_on_grid i (without q) k (picked s (without q)))) shape

  pub same_document : document s q ≡ document s (without q)
  same_document = document_is ∙ (ap₂ document_along same_picks same_route ∙ sym document_without)

  -- ---- where they have levels, each is outside

  outside : has_z_of line ≡ true → (v : Position) → is_inside i (has_z_of line) (has_m_of line) v ≡ false
  outside own v =
      ap₂ (λ b (zs : Option (List ℤ)). is_along i.ys v.y && (is_along i.xs v.x && (is_along_if (has_m_of line) (Some i.ts) v.m && is_along_if b zs v.z))) own none
      ∙ and_right (is_along i.ys v.y) (is_along i.xs v.x && (is_along_if (has_m_of line) (Some i.ts) v.m && false))
      (and_right (is_along i.xs v.x) (is_along_if (has_m_of line) (Some i.ts) v.m && false) (and_right (is_along_if (has_m_of line) (Some i.ts) v.m) false refl))

  no_route : has_z_of line ≡ true → route q ≡ []
  no_route own =
      ap (λ (vs : List Position). filter is_some_node
      (flat_map (λ t. map (λ z. without_repeats (map (step_of i (has_z_of line) (has_m_of line) t z) vs)) (turns (has_z_of line) i.zs (λ l. takes_level q.levels (Some l))))
      (turns (has_m_of line) (Some i.ts) (λ t. takes_time q.times (Some t)))))
      (filter_agree (is_inside i (has_z_of line) (has_m_of line)) (λ v. false) (outside own) (line_of line) ∙ filter_none (line_of line))
      ∙ filter_nothing is_some_node
      (flat_map (λ t. map (λ z. []) (turns (has_z_of line) i.zs (λ l. takes_level q.levels (Some l)))) (turns (has_m_of line) (Some i.ts) (λ t. takes_time q.times (Some t))))
      (each-flat_map_in (λ nodes. is_some_node nodes ≡ false) (λ t. map (λ z. []) (turns (has_z_of line) i.zs (λ l. takes_level q.levels (Some l))))
      (turns (has_m_of line) (Some i.ts) (λ t. takes_time q.times (Some t)))
      (λ t mt. each-map_in (λ nodes. is_some_node nodes ≡ false) (λ z. []) (turns (has_z_of line) i.zs (λ l. takes_level q.levels (Some l))) (λ z mz. refl)))

  pub none_selected : has_z_of line ≡ true → is_some_stored (picked s q) ≡ false
  none_selected own = ap is_some_stored (picked_is ∙ ap picked_along (no_route own)) ∙ none_stored (λ (x : Stored). is_asked q.parameters x.sample.parameter) (samples_in s)
