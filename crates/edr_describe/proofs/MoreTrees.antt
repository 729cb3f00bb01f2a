-- Lists of trees, one more at a time.
use Rattle.std.proofs.Common.{◌≡◌, ℕ, ◌+◌, ◌<◌, List, [], ◌∷◌, ◌++◌, length, map, take, sym, ap, ◌∙◌}
use Rattle.std.specs.List.{slice_index_or}
use Rattle.std.proofs.lemmas.List.{take_more, map-append}
use Rattle.serde_json.specs.declared.value.Value.{Value}
use Rattle.serde_json.specs.Data.{Data}
use Rattle.serde_json.specs.View.{view}

-- the views of trees and of one tree more
pub trees_more : {V : Type 0} (data_of : V → Data) (values : List V) (place : ℕ) (d : V) (trees : List Value) (tree : Value)
    → map view trees ≡ map data_of (take place values) → place < length values → view tree ≡ data_of (slice_index_or values place d)
    → map view (trees ++ (tree ∷ [])) ≡ map data_of (take (place + 1) values)
trees_more data_of values place d trees tree before inside is =
    map-append view trees (tree ∷ [])
    ∙ (ap (λ (l : List Data). l ++ (view tree ∷ [])) before
    ∙ (ap (λ (x : Data). map data_of (take place values) ++ (x ∷ [])) is
    ∙ (sym (map-append data_of (take place values) (slice_index_or values place d ∷ []))
    ∙ ap (map data_of) (sym (take_more values place d inside)))))
