use Rattle.std.proofs.Common.{◌≡◌, ℕ, Bool, true, false, List, [], ◌∷◌, ◌++◌, map, Option, Some, None, codes, refl, ap, sym, ◌∙◌, append-nil}
use Rattle.serde_json.specs.Data.{Data, array, item, no_items}
use Rattle.serde_json.specs.View.{view, items_of}
use Rattle.serde_json.specs.declared.value.Value.{Value}
use Rattle.covjson_value.specs.declared.domains.CoordinateName.TheVariants.{T, Z, Y, X}
use Rattle.covjson_value.specs.Domains.{has_coordinate}
use Rattle.covjson_value.specs.Puts.{system_with}
use Rattle.covjson_value.specs.Trees.{item_if, connection_data, system_data, text_if_some, horizontal_data, vertical_data, temporal_data}
use Rattle.covjson_value.proofs.domain_trees.push_systems.Goals as goal
use Rattle.covjson_value.proofs.domain_trees.push_systems.Goals.{then-has+in_ok-vertical+in_ok-push_connection-2, else-has}

named_is : (name : Option (List ℕ)) (kind : List ℕ) → system_with (codes "id") name kind ≡ system_data name kind
named_is None kind = refl
named_is (Some text) kind = refl

-- one item, where it is given
abbrev given_item : Bool → Data → List Data
given_item false d = []
given_item true d = d ∷ []

listed : (levels times : Bool) (horizontal vertical temporal : Data)
    → array (items_of (horizontal ∷ (given_item levels vertical ++ given_item times temporal))) ≡ array (item horizontal (item_if levels vertical (item_if times temporal no_items)))
listed false false horizontal vertical temporal = refl
listed false true horizontal vertical temporal = refl
listed true false horizontal vertical temporal = refl
listed true true horizontal vertical temporal = refl

horizontal_pushed : (old new : List Value) (system : Data) (name : Option (List ℕ)) (crs : List ℕ) → old ≡ [] → map view new ≡ map view old ++ connection_data (X ∷ Y ∷ []) system ∷ []
    → system ≡ system_with (codes "id") name (codes "ProjectedCRS") → name ≡ text_if_some crs → map view new ≡ horizontal_data crs ∷ []
horizontal_pushed old new system name crs empty pushed is named =
    pushed ∙ ap (λ vs. map view vs ++ connection_data (X ∷ Y ∷ []) system ∷ []) empty
    ∙ ap (λ d. connection_data (X ∷ Y ∷ []) d ∷ []) (is ∙ ap (λ n. system_with (codes "id") n (codes "ProjectedCRS")) named ∙ named_is (text_if_some crs) (codes "ProjectedCRS"))

vertical_pushed : (levels : Bool) (horizontal system : Data) (old new : List Value) (name vertical : Option (List ℕ)) → true ≡ levels → map view old ≡ horizontal ∷ [] → map view new ≡ map view old ++ connection_data (Z ∷ []) system ∷ []
    → system ≡ system_with (codes "id") name (codes "VerticalCRS") → name ≡ vertical → map view new ≡ horizontal ∷ given_item levels (vertical_data vertical)
vertical_pushed levels horizontal system old new name vertical given before pushed is named =
    pushed ∙ ap (λ ds. ds ++ connection_data (Z ∷ []) system ∷ []) before
    ∙ ap (λ d. horizontal ∷ connection_data (Z ∷ []) d ∷ []) (is ∙ ap (λ n. system_with (codes "id") n (codes "VerticalCRS")) named ∙ named_is vertical (codes "VerticalCRS"))
    ∙ ap (λ b. horizontal ∷ given_item b (vertical_data vertical)) given

vertical_left : (levels : Bool) (horizontal vertical : Data) (views : List Data) → false ≡ levels → views ≡ horizontal ∷ [] → views ≡ horizontal ∷ given_item levels vertical
vertical_left levels horizontal vertical views given before = before ∙ ap (λ b. horizontal ∷ given_item b vertical) given

temporal_pushed : (times : Bool) (horizontal system : Data) (given : List Data) (old new : List Value) → true ≡ times → map view old ≡ horizontal ∷ given → map view new ≡ map view old ++ connection_data (T ∷ []) system ∷ []
    → system ≡ system_with (codes "calendar") (Some (codes "Gregorian")) (codes "TemporalRS") → map view new ≡ horizontal ∷ (given ++ given_item times temporal_data)
temporal_pushed times horizontal system given old new there before pushed is =
    pushed ∙ ap (λ ds. ds ++ connection_data (T ∷ []) system ∷ []) before
    ∙ ap (λ d. horizontal ∷ (given ++ connection_data (T ∷ []) d ∷ [])) is ∙ ap (λ b. horizontal ∷ (given ++ given_item b temporal_data)) there

temporal_left : (times : Bool) (horizontal temporal : Data) (given : List Data) → false ≡ times → horizontal ∷ given ≡ horizontal ∷ (given ++ given_item times temporal)
temporal_left times horizontal temporal given there =
    ap (λ ds. horizontal ∷ ds) (sym (append-nil given)) ∙ ap (λ b. horizontal ∷ (given ++ given_item b temporal)) there

pub returns-in_ok-push_connection-3 : goal.returns-in_ok-push_connection-3
returns-in_ok-push_connection-3 c =
    let before = horizontal_pushed _ c.push_connection.new.items.items _ _ c.args.referencing.now.crs c.requires.empty c.in_ok-push_connection.ensures c.in_ok-horizontal.ensures c.name_of.ensures in
    let levels : map view c.if-has.items.items ≡ horizontal_data c.args.referencing.now.crs ∷ given_item (has_coordinate c.args.domain.now Z) (vertical_data c.args.referencing.now.vertical) =
    elim c.if-has.branch [
      | then-has+in_ok-vertical+in_ok-push_connection-2 w ↦ ap (λ v. map view v.items) w.items-is
          ∙ vertical_pushed _ _ _ c.push_connection.new.items.items _ _ _ (sym w.if-has.true ∙ c.has.ensures) before w.in_ok-push_connection-2.ensures w.in_ok-vertical.ensures w.name_where_given-name.ensures
      | else-has w ↦ ap (λ v. map view v.items) w.items-is ∙ vertical_left _ _ _ _ (sym w.if-has.false ∙ c.has.ensures) before
    ] in
    ap (λ ds. array (items_of ds)) (temporal_pushed _ _ _ _ c.if-has.items.items _ (sym c.if-has-2.true ∙ c.has-2.ensures) levels c.in_ok-push_connection-3.ensures c.in_ok-temporal.ensures)
    ∙ listed (has_coordinate c.args.domain.now Z) (has_coordinate c.args.domain.now T) (horizontal_data c.args.referencing.now.crs) (vertical_data c.args.referencing.now.vertical) temporal_data

pub returns-else-has-2 : goal.returns-else-has-2
returns-else-has-2 c =
    let before = horizontal_pushed _ c.push_connection.new.items.items _ _ c.args.referencing.now.crs c.requires.empty c.in_ok-push_connection.ensures c.in_ok-horizontal.ensures c.name_of.ensures in
    let levels : map view c.if-has.items.items ≡ horizontal_data c.args.referencing.now.crs ∷ given_item (has_coordinate c.args.domain.now Z) (vertical_data c.args.referencing.now.vertical) =
    elim c.if-has.branch [
      | then-has+in_ok-vertical+in_ok-push_connection-2 w ↦ ap (λ v. map view v.items) w.items-is
          ∙ vertical_pushed _ _ _ c.push_connection.new.items.items _ _ _ (sym w.if-has.true ∙ c.has.ensures) before w.in_ok-push_connection-2.ensures w.in_ok-vertical.ensures w.name_where_given-name.ensures
      | else-has w ↦ ap (λ v. map view v.items) w.items-is ∙ vertical_left _ _ _ _ (sym w.if-has.false ∙ c.has.ensures) before
    ] in
    ap (λ ds. array (items_of ds)) (levels ∙ temporal_left _ _ temporal_data _ (sym c.if-has-2.false ∙ c.has-2.ensures))
    ∙ listed (has_coordinate c.args.domain.now Z) (has_coordinate c.args.domain.now T) (horizontal_data c.args.referencing.now.crs) (vertical_data c.args.referencing.now.vertical) temporal_data
