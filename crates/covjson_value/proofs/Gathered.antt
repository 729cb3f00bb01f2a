-- The views of values that a loop puts into a list, one for each element of another list.
use Rattle.std.proofs.Common.{◌≡◌, ℕ, ◌+◌, ◌<◌, ◌∷◌, [], ◌++◌, List, length, map, take, get_or, Result, OnOk, sym, ap, ◌∙◌}
use Rattle.std.proofs.lemmas.List.{map_more}
use Rattle.std.proofs.lemmas.Result.{on_ok_weaker}
use Rattle.serde_json.specs.Data.{Data, Members, put}
use Rattle.serde_json.specs.View.{view}
use Rattle.serde_json.specs.declared.value.Value.{Value}

-- one more of them
pub views_more : {X : Type 0} (f : X → Data) (xs : List X) (i : ℕ) (d : X) (before after : List Value) (tree : Data) → i < length xs → map view before ≡ map f (take i xs) → tree ≡ f (get_or xs i d) → map view after ≡ map view before ++ tree ∷ [] → map view after ≡ map f (take (i + 1) xs)
views_more f xs i d before after tree inside held is pushed =
    pushed
    ∙ ap (λ ds. ds ++ tree ∷ []) held
    ∙ ap (λ y. map f (take i xs) ++ y ∷ []) is
    ∙ sym (map_more f xs i d inside)

-- and an equal tree for the one that a member was put with
pub put_gathered : {T E : Type 0} (r : Result T E) (key : List ℕ) (tree gathered : Data) (before after : Members) → tree ≡ gathered → OnOk r (after ≡ put key tree before) → OnOk r (after ≡ put key gathered before)
put_gathered r key tree gathered before after is = on_ok_weaker r (λ h. h ∙ ap (λ d. put key d before) is)

-- the same of the one that was pushed
pub push_gathered : {T E : Type 0} (r : Result T E) (tree gathered : Data) (before after : List Value) → tree ≡ gathered → OnOk r (map view after ≡ map view before ++ tree ∷ []) → OnOk r (map view after ≡ map view before ++ gathered ∷ [])
push_gathered r tree gathered before after is = on_ok_weaker r (λ h. h ∙ ap (λ d. map view before ++ d ∷ []) is)
