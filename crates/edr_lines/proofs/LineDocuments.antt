-- The document of a query along a line that selects something is valid.
use Rattle.std.proofs.Common.{◌≡◌, Bool, true, false, List, refl, ap, sym, ◌∙◌, subst, None, Some, ℤ}
use Rattle.std.specs.declared.option.Option.{Option}
use Rattle.std.specs.Prelude.{◌&&◌, ◌||◌, not, is_some}
use Rattle.std.proofs.lemmas.Bool.{false≢true, and_right}
use Rattle.edr_wkt.specs.declared.geometry.Geometry.{Geometry}
use Rattle.edr_wkt.specs.Wkt.{has_z_of}
use Rattle.covjson_value.specs.Coverages.{IsValidDocument}
use Rattle.edr_edition.specs.Values.{InstanceValue, CollectionValue}
use Rattle.edr_edition.specs.Stores.{Subject}
use Rattle.edr_query.specs.declared.shapes.Shape.{Shape}
use Rattle.edr_query.specs.declared.shapes.Shape.TheVariants as at
use Rattle.edr_query.specs.Queries as queries
use Rattle.edr_query.specs.Queries.{coords_of, box_of}
use Rattle.edr_query.specs.Values.{QueryValue}
use Rattle.edr_select.specs.Checks.{grid_of}
use Rattle.edr_select.specs.Documents.{document}
use Rattle.edr_select.specs.Heads.{is_some_stored}
use Rattle.edr_select.specs.Refusals.{asks_levels}
use Rattle.edr_select.specs.Selections.{picked}
use Rattle.edr_select.specs.Steps.{lacks_levels}
use Rattle.edr_lines.specs.Asked.{IsAlong, IsAskedAlong}
use Rattle.edr_lines.specs.DocumentLaws.{CorridorDocumentsAreValid, LineDocumentsAreValid}
use Rattle.edr_lines.proofs.TrajectoryLevels.{without, same_picks, same_document, none_selected}
use Rattle.edr_lines.proofs.TrajectoryPlans.{valid_where_some}

module _ (c : CollectionValue) (q : QueryValue) (i : InstanceValue) (line : Geometry) (along : IsAskedAlong c q i) (shape : q.shape ≡ at.Trajectory line)
    (some : is_some_stored (picked (grid_of c i) q) ≡ true) where
  abbrev s : Subject
  s = grid_of c i

  -- with an axis of levels none is lacking
  with_levels : (values : List ℤ) → i.zs ≡ Some values → IsValidDocument (document s q)
  with_levels values e =
      valid_where_some c q i line along shape (ap (λ (zs : Option (List ℤ)). asks_levels q && not (is_some zs)) e ∙ and_right (asks_levels q) false refl) some

  along_without : IsAskedAlong c (without q) i
  along_without = record {
    is_collection = along.is_collection;
    kind = along.kind;
    instance_is = along.instance_is;
    along = along.along;
    shape = along.shape;
    grid = along.grid;
  }

  none_lacking : has_z_of line ≡ false → lacks_levels (without q) i ≡ false
  none_lacking flat =
      ap (λ (k : Shape). (queries.has_z (coords_of k) || queries.has_levels (box_of k)) && not (is_some i.zs)) shape ∙ ap (λ b. (b || false) && not (is_some i.zs)) flat

  -- and without one those that are asked change nothing
  without_levels : i.zs ≡ None → IsValidDocument (document s q)
  without_levels none = own (has_z_of line) refl
    where
      own : (b : Bool) → has_z_of line ≡ b → IsValidDocument (document s q)
      own true e = absurd (false≢true (sym (none_selected c q i line shape none e) ∙ some))
      own false e =
          subst IsValidDocument (sym (same_document c q i line shape none))
          (valid_where_some c (without q) i line along_without shape (none_lacking e) (sym (ap is_some_stored (same_picks c q i line shape none)) ∙ some))

  pub trajectory_valid : IsValidDocument (document s q)
  trajectory_valid = over i.zs refl
    where
      over : (zs : Option (List ℤ)) → i.zs ≡ zs → IsValidDocument (document s q)
      over None e = without_levels e
      over (Some values) e = with_levels values e

pub line_documents_are_valid : CorridorDocumentsAreValid → LineDocumentsAreValid
line_documents_are_valid corridors c q i along some = of_shape q.shape refl along.along
  where
    of_shape : (k : Shape) → q.shape ≡ k → IsAlong k → IsValidDocument (document (grid_of c i) q)
    of_shape (at.Position geometry) e h = absurd h
    of_shape (at.Radius geometry within) e h = absurd h
    of_shape (at.Area geometry) e h = absurd h
    of_shape (at.Cube lo hi levels) e h = absurd h
    of_shape (at.Trajectory geometry) e h = trajectory_valid c q i geometry along e some
    of_shape (at.Corridor geometry width height) e h = corridors c q i along geometry width height e some
    of_shape (at.Location id) e h = absurd h
