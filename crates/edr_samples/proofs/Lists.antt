-- Lists that grow at their end, samples among the tokens, and a member that is put.
use Rattle.std.proofs.Common.{◌≡◌, ℕ, ℤ, List, [], ◌∷◌, ◌++◌, map, Option, Some, None, String, Vec, BTreeMap, Global, Ordering, Less, Equal, Greater, string_bytes, string_cmp, refl, ap, ◌∙◌, rules}
use Rattle.std.specs.BTreeMap.{insert_entry}
use Rattle.std.specs.Ordering.{match_ordering}
use Rattle.json.specs.Token as json
use Rattle.json.specs.Json.{value, after_end_array, parse_map}
use Rattle.json.proofs.Grammar.{value_is}
use Rattle.serde_json.specs.Data.{Data, array, object, Items, item, no_items, put}
use Rattle.serde_json.specs.Read.{of_json, converted}
use Rattle.serde_json.specs.View.{items_of}
use Rattle.edr_samples.specs.Tokens.{sample_data, IsSample}
use Rattle.edr_samples.specs.Trees.{tree_view, items_view, members_view}
use Rattle.edr_samples.specs.Turns.{items_onto}
use Rattle.edr_samples.specs.declared.trees.Tree.{Tree, Samples, Items as ItemsOf, Object, the_lemmas}

-- ---- what each kind of tree stands for

pub view-Samples : (v : List (Option ℤ)) → tree_view (Samples v) ≡ array (items_of (map sample_data v))
view-Samples v = search (rules, the_lemmas)

pub view-Items : (v : Vec Tree Global) → tree_view (ItemsOf v) ≡ array (items_view v.items)
view-Items v = search (rules, the_lemmas)

pub view-Object : (m : BTreeMap (String Global) Tree) → tree_view (Object m) ≡ object (members_view m.entries)
view-Object m = search (rules, the_lemmas)

-- ---- items

pub items_onto-no_items : (ds : List Data) → items_onto ds no_items ≡ items_of ds
items_onto-no_items [] = refl
items_onto-no_items (d ∷ ds) = ap (item d) (items_onto-no_items ds)

items_push : (ds : List Data) (d : Data) (rest : Items) → items_onto ds (item d rest) ≡ items_onto (ds ++ d ∷ []) rest
items_push [] d rest = refl
items_push (e ∷ ds) d rest = ap (item e) (items_push ds d rest)

pub one_more_item : (ds : List Data) (d : Data) (r : Option (Items × List json.Token)) → parse_map (items_onto ds) (parse_map (item d) r) ≡ parse_map (items_onto (ds ++ d ∷ [])) r
one_more_item ds d None = refl
one_more_item ds d (Some p) = ap (λ is. Some (is, p.1)) (items_push ds d p.0)

pub none_mapped : {A B : Type 0} (f : A → B) (r : Option (A × List json.Token)) → parse_map f r ≡ None → r ≡ None
none_mapped f None e = refl
none_mapped f (Some p) e = absurd (cc)

-- ---- a token that is a sample

pub sample_goes_on : (t : json.Token) (x : Option ℤ) (rest : List json.Token) → IsSample t x → after_end_array (t ∷ rest) ≡ None
sample_goes_on (json.number s) (Some z) rest h = refl
sample_goes_on (json.number s) None rest h = absurd h
sample_goes_on json.null None rest h = refl
sample_goes_on json.null (Some z) rest h = absurd h
sample_goes_on json.begin_object x rest h = absurd h
sample_goes_on json.end_object x rest h = absurd h
sample_goes_on json.begin_array x rest h = absurd h
sample_goes_on json.end_array x rest h = absurd h
sample_goes_on (json.key s) x rest h = absurd h
sample_goes_on (json.string s) x rest h = absurd h
sample_goes_on (json.boolean b) x rest h = absurd h
sample_goes_on json.bad x rest h = absurd h

pub sample_read : (depth : ℕ) (t : json.Token) (x : Option ℤ) (rest : List json.Token) → IsSample t x → converted of_json (value depth (t ∷ rest)) ≡ Some (sample_data x, rest)
sample_read depth (json.number s) (Some z) rest h = ap (converted of_json) (value_is depth _) ∙ rw h
sample_read depth (json.number s) None rest h = absurd h
sample_read depth json.null None rest h = ap (converted of_json) (value_is depth _)
sample_read depth json.null (Some z) rest h = absurd h
sample_read depth json.begin_object x rest h = absurd h
sample_read depth json.end_object x rest h = absurd h
sample_read depth json.begin_array x rest h = absurd h
sample_read depth json.end_array x rest h = absurd h
sample_read depth (json.key s) x rest h = absurd h
sample_read depth (json.string s) x rest h = absurd h
sample_read depth (json.boolean b) x rest h = absurd h
sample_read depth json.bad x rest h = absurd h

-- where a value is read, no bracket closes the list
pub value_goes_on : (depth : ℕ) (ts : List json.Token) (x : Data × List json.Token) → converted of_json (value depth ts) ≡ Some x → after_end_array ts ≡ None
value_goes_on depth [] x h = refl
value_goes_on depth (json.begin_object ∷ ts) x h = refl
value_goes_on depth (json.end_object ∷ ts) x h = refl
value_goes_on depth (json.begin_array ∷ ts) x h = refl
value_goes_on depth (json.end_array ∷ ts) x h = let none : converted of_json (value depth (json.end_array ∷ ts)) ≡ None = ap (converted of_json) (value_is depth _) in cc
value_goes_on depth (json.key s ∷ ts) x h = refl
value_goes_on depth (json.string s ∷ ts) x h = refl
value_goes_on depth (json.number s ∷ ts) x h = refl
value_goes_on depth (json.boolean b ∷ ts) x h = refl
value_goes_on depth (json.null ∷ ts) x h = refl
value_goes_on depth (json.bad ∷ ts) x h = refl

-- ---- members

abbrev Entry : Type 0
Entry = String Global × Tree

members_view-match_ordering : (o : Ordering) (a b c : List Entry) → members_view (match_ordering o a b c) ≡ match_ordering o (members_view a) (members_view b) (members_view c)
members_view-match_ordering Less a b c = refl
members_view-match_ordering Equal a b c = refl
members_view-match_ordering Greater a b c = refl

pub members_view-insert_entry : (es : List Entry) (k : String Global) (v : Tree) → members_view (insert_entry string_cmp es k v) ≡ put (string_bytes k) (tree_view v) (members_view es)
members_view-insert_entry [] k v = refl
members_view-insert_entry (e ∷ es) k v = members_view-match_ordering (string_cmp k e.0) _ _ _ ∙ rw (members_view-insert_entry es k v)
