-- Tests of the items of a list, one after another.
use Rattle.std.specs.Prelude.{◌&&◌}
use Rattle.std.proofs.Common.{◌≡◌, ℕ, ◌+◌, ◌≤◌, ◌<◌, List, length, get_or, drop, map, Bool, true, false, sym, ap, ◌∙◌}
use Rattle.std.proofs.lemmas.List.{drop_more, at_drop_all}
use Rattle.serde_json.specs.Data.{Data, Items, no_items, item}
use Rattle.serde_json.specs.View.{items_of}
use Rattle.edr_samples.specs.Trees.{tree_view, items_view}
use Rattle.edr_samples.specs.declared.trees.Tree.{Tree}

-- `all` is the test of each item, of things that are seen as data
module _ {X : Type 0} (seen : X → Data) (test : Data → Bool) (all : Items → Bool) (each : (d : Data) (ds : Items) → all (item d ds) ≡ (test d && all ds)) (xs : List X) (i : ℕ) (whole : Bool) where
  from_here : (x : X) → i < length xs → x ≡ get_or xs i x → all (items_of (map seen (drop i xs))) ≡ (test (seen x) && all (items_of (map seen (drop (i + 1) xs))))
  from_here x inside is =
      ap (λ (ys : List X). all (items_of (map seen ys))) (drop_more xs i x inside)
      ∙ each (seen (get_or xs i x)) (items_of (map seen (drop (i + 1) xs)))
      ∙ ap (λ (y : X). test (seen y) && all (items_of (map seen (drop (i + 1) xs)))) (sym is)

  -- where an item passes, all do where those behind it do
  pub seen_passes : (x : X) → i < length xs → x ≡ get_or xs i x → true ≡ test (seen x) → all (items_of (map seen (drop i xs))) ≡ whole → all (items_of (map seen (drop (i + 1) xs))) ≡ whole
  seen_passes x inside is passes before = ap (λ b. b && all (items_of (map seen (drop (i + 1) xs)))) passes ∙ sym (from_here x inside is) ∙ before

  -- where one fails, not all pass
  pub seen_fails : (x : X) → i < length xs → x ≡ get_or xs i x → false ≡ test (seen x) → all (items_of (map seen (drop i xs))) ≡ whole → false ≡ whole
  seen_fails x inside is fails before = ap (λ b. b && all (items_of (map seen (drop (i + 1) xs)))) fails ∙ sym (from_here x inside is) ∙ before

-- of trees
module _ (test : Data → Bool) (all : Items → Bool) (each : (d : Data) (ds : Items) → all (item d ds) ≡ (test d && all ds)) (xs : List Tree) (i : ℕ) (whole : Bool) where
  pub item_passes : (x : Tree) → i < length xs → x ≡ get_or xs i x → true ≡ test (tree_view x) → all (items_view (drop i xs)) ≡ whole → all (items_view (drop (i + 1) xs)) ≡ whole
  item_passes = seen_passes tree_view test all each xs i whole

  pub item_fails : (x : Tree) → i < length xs → x ≡ get_or xs i x → false ≡ test (tree_view x) → all (items_view (drop i xs)) ≡ whole → false ≡ whole
  item_fails = seen_fails tree_view test all each xs i whole

-- behind the last item all have passed
pub seen_passed : {X : Type 0} (seen : X → Data) (all : Items → Bool) → all no_items ≡ true → (xs : List X) (i : ℕ) (whole : Bool) → length xs ≤ i
    → all (items_of (map seen (drop i xs))) ≡ whole → true ≡ whole
seen_passed seen all none xs i whole past before =
    sym none ∙ sym (at_drop_all (λ (rest : List _). all (items_of (map seen rest))) xs i past) ∙ before

pub items_passed : (all : Items → Bool) → all no_items ≡ true → (xs : List Tree) (i : ℕ) (whole : Bool) → length xs ≤ i → all (items_view (drop i xs)) ≡ whole → true ≡ whole
items_passed = seen_passed tree_view
