-- Laws of trees that were read.
use Rattle.std.specs.Prelude.{IfSome}
use Rattle.std.proofs.Common.{◌≡◌, ℕ, zero, suc, List, IsUtf8, Option, Some, None, option_and_then, refl, subst}
use Rattle.std.proofs.lemmas.Str.{IsUtf8-nil}
use Rattle.std.specs.declared.cmp.Ordering.{Ordering}
use Rattle.std.specs.declared.cmp.Ordering.TheVariants.{Less, Equal, Greater}
use Rattle.std.specs.Ordering.{match_ordering}
use Rattle.serde_json.specs.Data.{Data, null, boolean, number, string, array, object, Items, no_items, item, Members, no_members, member}
use Rattle.serde_json.specs.Find.{get, get_member, as_str}
use Rattle.edr_json.specs.Trees.{text_or_empty, item_at}
use Rattle.edr_json.specs.ReadTrees.{IsTree, AreTrees, NameTrees}
use Rattle.edr_base.specs.Names.{order}

-- a member that is found is the one here, or one of the rest
found_by : (P : Data → Type 0) (o : Ordering) (here : Data) (rest : Option Data) (d : Data) → P here → (rest ≡ Some d → P d) → match_ordering o rest (Some here) rest ≡ Some d → P d
found_by P Less here rest d is later h = later h
found_by P Equal here rest d is later h = let same : here ≡ d = cc in subst P same is
found_by P Greater here rest d is later h = later h

-- what a member of such a tree is, is such a tree
pub named_tree : (key : List ℕ) (members : Members) (d : Data) → NameTrees members → get_member key members ≡ Some d → IsTree d
named_tree key no_members d trees h = cc
named_tree key (member name e members) d trees h =
    found_by IsTree (order key name) e (get_member key members) d trees.1 (named_tree key members d trees.2) h

pub tree_at : (key : List ℕ) (tree d : Data) → IsTree tree → get key tree ≡ Some d → IsTree d
tree_at key null d is h = cc
tree_at key (boolean b) d is h = cc
tree_at key (number n) d is h = cc
tree_at key (string s) d is h = cc
tree_at key (array ds) d is h = cc
tree_at key (object members) d is h = named_tree key members d is.0 h

-- and so is each item of a list
pub tree_of_item : (ds : Items) (place : ℕ) (d : Data) → AreTrees ds → item_at ds place ≡ Some d → IsTree d
tree_of_item no_items place d are h = cc
tree_of_item (item e ds) zero d are h = let same : e ≡ d = cc in subst IsTree same are.0
tree_of_item (item e ds) (suc place) d are h = tree_of_item ds place d are.1 h

-- the text of such a tree is UTF-8
pub text_utf8 : (d : Data) → IsTree d → IfSome (as_str d) IsUtf8
text_utf8 null is = tt
text_utf8 (boolean b) is = tt
text_utf8 (number n) is = tt
text_utf8 (string s) is = is
text_utf8 (array ds) is = tt
text_utf8 (object _) is = tt

-- and so is the text of what was found there, or the empty text
pub text_or_empty_utf8 : (found : Option Data) → IfSome found IsTree → IsUtf8 (text_or_empty found)
text_or_empty_utf8 None is = IsUtf8-nil
text_or_empty_utf8 (Some null) is = IsUtf8-nil
text_or_empty_utf8 (Some (boolean b)) is = IsUtf8-nil
text_or_empty_utf8 (Some (number n)) is = IsUtf8-nil
text_or_empty_utf8 (Some (string s)) is = is
text_or_empty_utf8 (Some (array ds)) is = IsUtf8-nil
text_or_empty_utf8 (Some (object _)) is = IsUtf8-nil

-- what is found of a member is such a tree
found_in : (key : List ℕ) (tree : Data) (found : Option Data) → get key tree ≡ found → IsTree tree → IfSome found IsTree
found_in key tree None h is = tt
found_in key tree (Some d) h is = tree_at key tree d is h

pub found_tree : (key : List ℕ) (tree : Data) → IsTree tree → IfSome (get key tree) IsTree
found_tree key tree is = found_in key tree (get key tree) refl is

-- where something is found in a tree that is found, likewise
pub then_found_tree : (key : List ℕ) (found : Option Data) → IfSome found IsTree → IfSome (option_and_then (get key) found) IsTree
then_found_tree key None is = tt
then_found_tree key (Some tree) is = found_tree key tree is
