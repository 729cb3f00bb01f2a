-- Items that are looked at one after another until one passes a test.
use Rattle.std.specs.Prelude.{◌||◌, if◌then◌else◌}
use Rattle.std.proofs.Common.{◌≡◌, ℕ, ◌+◌, ◌≤◌, ◌<◌, List, length, get_or, drop, Bool, true, false, Option, Some, None, sym, ap, ◌∙◌}
use Rattle.std.proofs.lemmas.List.{drop_more, at_drop_all}
use Rattle.serde_json.specs.Data.{Data, Items, item}
use Rattle.edr_samples.specs.Trees.{tree_view, items_view}
use Rattle.edr_samples.specs.declared.trees.Tree.{Tree}
use Rattle.covjson_read.specs.SystemAnswers.{first_that}

-- ---- the first that passes

module _ (test : Data → Bool) (xs : List Tree) (i : ℕ) (whole : Option Data) (before : first_that test (items_view (drop i xs)) ≡ whole) where
  abbrev first_from : Tree → Bool → Option Data
  first_from x passes = if passes then Some (tree_view x) else first_that test (items_view (drop (i + 1) xs))

  first_here : (x : Tree) → i < length xs → x ≡ get_or xs i x → whole ≡ first_from x (test (tree_view x))
  first_here x inside is =
      sym before ∙ ap (λ (ys : List Tree). first_that test (items_view ys)) (drop_more xs i x inside) ∙ ap (λ (y : Tree). first_from y (test (tree_view y))) (sym is)

  pub first_found : (x : Tree) → i < length xs → x ≡ get_or xs i x → true ≡ test (tree_view x) → Some (tree_view x) ≡ whole
  first_found x inside is passes = ap (first_from x) passes ∙ sym (first_here x inside is)

  pub first_later : (x : Tree) → i < length xs → x ≡ get_or xs i x → false ≡ test (tree_view x) → first_that test (items_view (drop (i + 1) xs)) ≡ whole
  first_later x inside is fails = ap (first_from x) fails ∙ sym (first_here x inside is)

  pub first_nowhere : length xs ≤ i → None ≡ whole
  first_nowhere past = sym (at_drop_all (λ (rest : List Tree). first_that test (items_view rest)) xs i past) ∙ before

-- ---- whether one passes

module _ (test : Data → Bool) (any : Items → Bool) (each : (d : Data) (ds : Items) → any (item d ds) ≡ (test d || any ds)) (xs : List Tree) (i : ℕ) (whole : Bool) (before : any (items_view (drop i xs)) ≡ whole) where
  any_here : (x : Tree) → i < length xs → x ≡ get_or xs i x → whole ≡ (test (tree_view x) || any (items_view (drop (i + 1) xs)))
  any_here x inside is =
      sym before ∙ ap (λ (ys : List Tree). any (items_view ys)) (drop_more xs i x inside) ∙ each (tree_view (get_or xs i x)) (items_view (drop (i + 1) xs))
      ∙ ap (λ (y : Tree). test (tree_view y) || any (items_view (drop (i + 1) xs))) (sym is)

  pub any_found : (x : Tree) → i < length xs → x ≡ get_or xs i x → true ≡ test (tree_view x) → true ≡ whole
  any_found x inside is passes = ap (λ b. b || any (items_view (drop (i + 1) xs))) passes ∙ sym (any_here x inside is)

  pub any_later : (x : Tree) → i < length xs → x ≡ get_or xs i x → false ≡ test (tree_view x) → any (items_view (drop (i + 1) xs)) ≡ whole
  any_later x inside is fails = ap (λ b. b || any (items_view (drop (i + 1) xs))) fails ∙ sym (any_here x inside is)
