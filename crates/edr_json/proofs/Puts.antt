-- What is put among members whose names ascend leaves them so.
use Rattle.std.proofs.Common.{◌≡◌, ℕ, List, IsUtf8, refl, ap, ◌∙◌}
use Rattle.std.specs.declared.cmp.Ordering.{Ordering}
use Rattle.std.specs.declared.cmp.Ordering.TheVariants.{Less, Equal, Greater}
use Rattle.std.specs.Ordering.{nat_cmp, match_ordering, ordering_reverse}
use Rattle.std.specs.Cmp.Lexicographic.{slice_cmp}
use Rattle.std.specs.List.{AllByRecursion}
use Rattle.std.specs.List.Sorted.{IsStrictlySortedBy}
use Rattle.std.proofs.lemmas.Cmp.{nat_list_cmp_total}
use Rattle.serde_json.specs.Data.{Data, Members, no_members, member, put}
use Rattle.edr_json.specs.Trees.{names_of}
use Rattle.edr_json.specs.ReadTrees.{IsTree, NameTrees, NamesAscend}

-- what holds of each choice holds of the one that is taken
by_order : (P : Members → Type 0) (o : Ordering) (less equal greater : Members) → P less → P equal → P greater → P (match_ordering o less equal greater)
by_order P Less less equal greater one two three = one
by_order P Equal less equal greater one two three = two
by_order P Greater less equal greater one two three = three

-- names that are above one
abbrev Above : List ℕ → Members → Type 0
Above name members = AllByRecursion (λ other. slice_cmp nat_cmp name other ≡ Less) (names_of members)

-- names above a greater one are above a lesser
above_more : (low name : List ℕ) (members : Members) → slice_cmp nat_cmp low name ≡ Less → Above name members → Above low members
above_more low name no_members below above = tt
above_more low name (member other d members) below above =
    (nat_list_cmp_total.trans low name other below above.0, above_more low name members below above.1)

-- what is put at a name above it leaves all names above it
above_put : (low key : List ℕ) (d : Data) (members : Members) → slice_cmp nat_cmp low key ≡ Less → Above low members → Above low (put key d members)
above_put low key d no_members below above = (below, tt)
above_put low key d (member name e members) below above =
    let P : Members → Type 0 = λ ms. Above low ms in
    by_order P (slice_cmp nat_cmp key name) _ _ _ (below, above) (above.0, above.1) (above.0, above_put low key d members below above.1)

-- the names ascend after a put, by the order of the name that is put and the first
put_by : (key name : List ℕ) (d e : Data) (ms : Members) (o : Ordering) → slice_cmp nat_cmp key name ≡ o → NamesAscend (member name e ms) → NamesAscend (put key d ms)
    → NamesAscend (match_ordering o (member key d (member name e ms)) (member name d ms) (member name e (put key d ms)))
unfolding IsStrictlySortedBy
put_by key name d e ms Less is ascend rest = ((is, above_more key name ms is ascend.0), ascend)
put_by key name d e ms Equal is ascend rest = ascend
put_by key name d e ms Greater is ascend rest =
    let below : slice_cmp nat_cmp name key ≡ Less = nat_list_cmp_total.antisymm name key ∙ ap ordering_reverse is in
    (above_put name key d ms below ascend.0, rest)

pub put_ascends : (key : List ℕ) (d : Data) (members : Members) → NamesAscend members → NamesAscend (put key d members)
unfolding IsStrictlySortedBy
put_ascends key d no_members ascend = (tt, tt)
put_ascends key d (member name e members) ascend = put_by key name d e members (slice_cmp nat_cmp key name) refl ascend (put_ascends key d members ascend.1)

-- and what is put leaves trees of trees
pub put_trees : (key : List ℕ) (d : Data) (members : Members) → IsUtf8 key → IsTree d → NameTrees members → NameTrees (put key d members)
put_trees key d no_members utf8 tree trees = (utf8, tree, tt)
put_trees key d (member name e members) utf8 tree trees =
    by_order NameTrees (slice_cmp nat_cmp key name) _ _ _ (utf8, tree, trees) (trees.0, tree, trees.2) (trees.0, trees.1, put_trees key d members utf8 tree trees.2)
