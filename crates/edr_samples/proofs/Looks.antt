-- A map of trees beside the members that it stands for.
use Rattle.std.proofs.Common.{◌≡◌, ℕ, List, [], ◌∷◌, Option, Some, None, option_map, String, Global, Ordering, Less, Equal, Greater, string_bytes, nat_cmp, is_eq, cond, Bor, refl}
use Rattle.std.specs.Cmp.Lexicographic.{slice_cmp}
use Rattle.std.specs.Map.{lookup}
use Rattle.std.specs.Ordering.{match_ordering}
use Rattle.std.specs.BTreeMap.{is_at}
use Rattle.serde_json.specs.Data.{Data}
use Rattle.serde_json.specs.Find.{get_member}
use Rattle.edr_samples.specs.Trees.{tree_view, members_view}
use Rattle.edr_samples.specs.declared.trees.Tree.{Tree}

found_or : (o : Ordering) (t : Tree) (rest : Option Tree) (d : Option Data) → option_map tree_view rest ≡ d
    → option_map tree_view (cond (is_eq o) (Some t) rest) ≡ match_ordering o d (Some (tree_view t)) d
found_or Less t rest d e = e
found_or Equal t rest d e = refl
found_or Greater t rest d e = e

pub view-lookup : (name : List ℕ) (es : List (String Global × Tree)) → option_map tree_view (lookup (is_at (λ k. slice_cmp nat_cmp name (string_bytes k))) es) ≡ get_member name (members_view es)
view-lookup name [] = refl
view-lookup name (e ∷ es) = found_or (slice_cmp nat_cmp name (string_bytes e.0)) e.1 _ _ (view-lookup name es)

pub view_of_ref : (r : Option (Bor Tree)) → option_map (λ x. tree_view x.now) r ≡ option_map tree_view (option_map (λ x. x.now) r)
view_of_ref None = refl
view_of_ref (Some x) = refl
