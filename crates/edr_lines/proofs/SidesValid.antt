-- The coverage over the sides of a test of nodes, with what is found at their nodes, is valid over a grid of samples.
use Rattle.std.proofs.Common.{◌≡◌, Bool, true, false, cond, List, [], ◌∷◌, sym, ◌∙◌, subst, None, Some, IfSome}
use Rattle.std.specs.Prelude.{◌&&◌, map, option_map, unwrap_or}
use Rattle.std.specs.List.{find, slice_index_or}
use Rattle.std.proofs.lemmas.List.{length-map}
use Rattle.std.proofs.lemmas.List.Elements.{All-map}
use Rattle.covjson_value.specs.declared.domains.Domain.{Domain}
use Rattle.covjson_value.specs.declared.coverages.Parameter.{Parameter}
use Rattle.covjson_value.specs.declared.coverages.NdArray.{NdArray}
use Rattle.edr_base.specs.Limits.{IsSample, HasSample}
use Rattle.covjson_value.specs.Coverages.{IsReferencing, IsRange, IsValid}
use Rattle.covjson_value.specs.Samples.{nodes_of, is_of}
use Rattle.edr_chunk.specs.Places.{number}
use Rattle.edr_edition.specs.Values.{InstanceValue}
use Rattle.edr_edition.specs.Instances.{HasGrid}
use Rattle.edr_edition.specs.Stores.{of_grid, Subject}
use Rattle.edr_query.specs.Values.{QueryValue}
use Rattle.edr_select.specs.Samples.{Stored}
use Rattle.edr_select.specs.Selections.{picked}
use Rattle.edr_select.specs.Heads.{without_id}
use Rattle.edr_select.specs.Documents.{same_station, coverage_over, value_in}
use Rattle.edr_select.specs.Planned.{parameters_at}
use Rattle.edr_select.specs.Stacks.{SidesValue}
use Rattle.edr_select.specs.ListLaws.{Each, Member}
use Rattle.edr_select.specs.ParameterLaws.{parameters_are}
use Rattle.edr_select.specs.HeadLaws.{coverage_with}
use Rattle.edr_select.specs.ReplyLaws.{sample_at}
use Rattle.edr_lines.specs.Plans.{axes_of, domain_over}
use Rattle.edr_lines.specs.Taken.{counts_of, NodeTest, AreSidesOf}
use Rattle.edr_lines.proofs.LineGrids.{grid_from}
use Rattle.edr_lines.proofs.TestedPicks.{SelectsBy, each_pick}
use Rattle.edr_lines.proofs.StackCoverages.{asked_places}
use Rattle.edr_lines.proofs.StackCounts.{count_nodes}
use Rattle.edr_lines.proofs.StackValid.{counted, head_valid}

-- what is found is a sample, or there is none
found_sample : (t : Stored → Bool) (picks : List Stored) → Each (λ (x : Stored). IfSome x.sample.value IsSample) picks
    → IfSome (unwrap_or (option_map (λ (x : Stored). x.sample.value) (find t picks)) None) IsSample
found_sample t [] h = tt
found_sample t (x ∷ picks) h =
    elim (t x) as (λ b. IfSome (unwrap_or (option_map (λ (y : Stored). y.sample.value) (cond b (Some x) (find t picks))) None) IsSample)
    [ true ↦ h.0 | false ↦ found_sample t picks h.1 ]

module _ (s : Subject) (q : QueryValue) (i : InstanceValue) (held : s.held ≡ of_grid i) (h : HasGrid i) (referencing : IsReferencing s.collection.referencing) (takes : NodeTest)
    (selects : SelectsBy s q i takes) (sides : SidesValue) (are : AreSidesOf (counts_of (axes_of i)) takes sides) where
  abbrev domain : Domain
  domain = domain_over i sides

  picks_are_samples : Each (λ (x : Stored). IfSome x.sample.value IsSample) (picked s q)
  picks_are_samples =
      each_pick s q i held (grid_from i h) takes selects (λ (x : Stored). IfSome x.sample.value IsSample) (λ a within. sample_at i.grid.values (number i.grid.shape a) h.samples)

  abbrev range_of : Parameter → NdArray
  range_of p = record { values = map (value_in (picked s q) None p.id) (nodes_of domain) }

  range_valid : (p : Parameter) → IsRange domain (range_of p)
  range_valid p = record {
    count = length-map (nodes_of domain) (value_in (picked s q) None p.id) ∙ (count_nodes s q i held (grid_from i h) takes selects sides are ∙ sym (counted s q i h referencing takes sides are));
    samples = All-map HasSample (value_in (picked s q) None p.id) (nodes_of domain)
        (λ k d l. found_sample (λ (x : Stored). same_station x.station None && is_of p.id (slice_index_or (nodes_of domain) k d) x.sample) (picked s q) picks_are_samples);
  }

  pub coverage_valid : Member (asked_places q i) → IsValid (coverage_over s q (picked s q) (without_id domain))
  coverage_valid some =
      let v = (head_valid s q i h referencing takes sides are some).valid in
      subst (λ (ps : List Parameter). IsValid (coverage_with s domain ps (map range_of ps))) (sym (parameters_are s q i held)) (record {
        id = v.id;
        axes = v.axes;
        tuples = v.tuples;
        referencing = v.referencing;
        vertical = v.vertical;
        some = v.some;
        parameters = v.parameters;
        ascending = v.ascending;
        as_many = length-map (parameters_at i.parameters (asked_places q i)) range_of;
        ranges = All-map (IsRange domain) range_of (parameters_at i.parameters (asked_places q i)) (λ k d l. range_valid (slice_index_or (parameters_at i.parameters (asked_places q i)) k d));
      })
