-- What a text is read to is such a tree.
use Rattle.std.proofs.Common.{◌≡◌, ℕ, suc, ◌<◌, ◌^◌, length, Option, Some, None, option_map, option_and_then, refl, sym, ap, ◌∙◌, subst, arith}
use Rattle.std.specs.List.Sorted.{IsStrictlySortedBy}
use Rattle.json.specs.Json as json
use Rattle.json.specs.Lex.{tokens}
use Rattle.serde_json.specs.Data.{Data, null, boolean, number, string, array, object, Items, no_items, item, Members, no_members, put}
use Rattle.serde_json.specs.Read.{number_of, of_json, of_items, of_members, max_depth}
use Rattle.edr_json.specs.ReadTrees.{IsTree, AreTrees, NameTrees, NamesAscend, TextsHaveTrees}
use Rattle.edr_json.proofs.Lexemes.{tokens_are, tokens_counted}
use Rattle.edr_json.specs.Trees.{count_items}
use Rattle.edr_json.proofs.Grammar.{count, ValueIs, ItemsAre, MembersAre, last_value}
use Rattle.edr_json.proofs.Puts.{put_ascends, put_trees}

-- what was found under a function
mapped : {A B : Type 0} (f : A → B) (o : Option A) (b : B) → option_map f o ≡ Some b → (a : A) × (o ≡ Some a) × (f a ≡ b)
mapped f None b h = cc
mapped f (Some a) b h = (a, refl, cc)

-- and what was found first
first : {A B : Type 0} (o : Option A) (next : A → Option B) (b : B) → option_and_then next o ≡ Some b → (a : A) × (o ≡ Some a) × (next a ≡ Some b)
first None next b h = cc
first (Some a) next b h = (a, refl, h)

-- there are as many items as in the text
same_count : (js : json.Items) (ds : Items) → of_items js ≡ Some ds → count_items ds ≡ count js
same_count json.no_items ds h = let same : no_items ≡ ds = cc in ap count_items (sym same)
same_count (json.item j js) ds h =
    let f = first (of_json j) _ ds h in
    let m = mapped (item f.0) (of_items js) ds f.2 in
    ap count_items (sym m.2) ∙ ap suc (same_count js m.0 m.1)

none_ascend : NamesAscend no_members
unfolding IsStrictlySortedBy
none_ascend = tt

module _ (n : ℕ) (few : n < 2 ^ 64) where
  mutual
    tree_of : (j : json.Json) (d : Data) → ValueIs n j → of_json j ≡ Some d → IsTree d
    tree_of json.null d is h = let same : null ≡ d = cc in subst IsTree same tt
    tree_of (json.boolean b) d is h = let same : boolean b ≡ d = cc in subst IsTree same tt
    tree_of (json.number s) d is h = let m = mapped number (number_of s) d h in subst IsTree m.2 tt
    tree_of (json.string s) d is h = let same : string s ≡ d = cc in subst IsTree same is
    tree_of (json.array js) d is h =
        let m = mapped array (of_items js) d h in
        let counted = same_count js m.0 m.1 in
        let within = is.1 in
        subst IsTree m.2 (trees_of js m.0 is.0 m.1, omega (arith, few))
    tree_of (json.object ms) d is h = let m = mapped object (of_members ms no_members) d h in subst IsTree m.2 (named_trees_of ms no_members m.0 is tt none_ascend m.1)

    trees_of : (js : json.Items) (ds : Items) → ItemsAre n js → of_items js ≡ Some ds → AreTrees ds
    trees_of json.no_items ds is h = let same : no_items ≡ ds = cc in subst AreTrees same tt
    trees_of (json.item j js) ds is h =
        let f = first (of_json j) _ ds h in
        let m = mapped (item f.0) (of_items js) ds f.2 in
        subst AreTrees m.2 (tree_of j f.0 is.0 f.1, trees_of js m.0 is.1 m.1)

    named_trees_of : (ms : json.Members) (found members : Members) → MembersAre n ms → NameTrees found → NamesAscend found → of_members ms found ≡ Some members → NameTrees members × NamesAscend members
    named_trees_of json.no_members found members is trees ascend h =
        let same : found ≡ members = cc in
        (subst NameTrees same trees, subst NamesAscend same ascend)
    named_trees_of (json.member k j ms) found members is trees ascend h =
        let f = first (of_json j) _ members h in
        named_trees_of ms (put k f.0 found) members is.2 (put_trees k f.0 found is.0 (tree_of j f.0 is.1 f.1) trees) (put_ascends k f.0 found ascend) f.2

pub texts_have_trees : TextsHaveTrees
texts_have_trees text tree few h =
    let f = first (option_and_then (λ p. json.if_last p.0 p.1) (json.value max_depth (tokens text))) of_json tree h.tree_is in
    tree_of (length text) few f.0 tree (last_value (length text) max_depth (tokens text) f.0 (tokens_are text h.utf8) (tokens_counted text) f.1) f.2
