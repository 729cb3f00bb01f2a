-- Laws of trees of JSON.
use Rattle.std.proofs.Common.{◌≡◌, ℕ, suc, ◌<◌, ◌+◌, ◌++◌, ℤ, List, [], ◌∷◌, length, map, get_or, drop, All, Option, Some, None, refl, ap, append_assoc}
use Rattle.std.proofs.lemmas.List.{drop_more}
use Rattle.std.proofs.lemmas.List.Elements.{All-head, All-tail}
use Rattle.serde_json.specs.Data.{Data, null, boolean, number, string, array, object, Items, Members, Num}
use Rattle.serde_json.specs.Find.{get, as_array, as_object, as_str, as_number, as_integer}
use Rattle.serde_json.specs.View.{items_of}
use Rattle.edr_samples.specs.Trees.{tree_view, items_view, members_view}
use Rattle.edr_samples.specs.declared.trees.Tree.{Tree}
use Rattle.std.specs.Prelude.{String}
use Rattle.std.specs.declared.alloc.Global.{Global}
use Rattle.edr_json.specs.Trees.{EachStands, count_items, count_members, text_or_empty, whole_of}

-- what is taken for a list is one
pub as_array_some : (d : Data) (ds : Items) → as_array d ≡ Some ds → d ≡ array ds
as_array_some null ds h = cc
as_array_some (boolean b) ds h = cc
as_array_some (number n) ds h = cc
as_array_some (string s) ds h = cc
as_array_some (array es) ds h = cc
as_array_some (object ms) ds h = cc

-- what is taken for an object is one
pub as_object_some : (d : Data) (ms : Members) → as_object d ≡ Some ms → d ≡ object ms
as_object_some null ms h = cc
as_object_some (boolean b) ms h = cc
as_object_some (number n) ms h = cc
as_object_some (string s) ms h = cc
as_object_some (array es) ms h = cc
as_object_some (object ns) ms h = cc

-- what is taken for a text is one
pub as_str_some : (d : Data) (s : List ℕ) → as_str d ≡ Some s → d ≡ string s
as_str_some null s h = cc
as_str_some (boolean b) s h = cc
as_str_some (number n) s h = cc
as_str_some (string t) s h = cc
as_str_some (array es) s h = cc
as_str_some (object ns) s h = cc

-- a text that isn't empty is that of a member
pub text_is : (o : Option Data) (b : ℕ) (bs : List ℕ) → text_or_empty o ≡ b ∷ bs → o ≡ Some (string (b ∷ bs))
text_is None b bs h = cc
text_is (Some null) b bs h = cc
text_is (Some (boolean x)) b bs h = cc
text_is (Some (number n)) b bs h = cc
text_is (Some (string s)) b bs h = cc
text_is (Some (array ds)) b bs h = cc
text_is (Some (object ms)) b bs h = cc

-- values of the rest, after those that were found, are values of all
pub stands_more : {V : Type 0} (R : Data → V → Type 0) (xs : List Tree) (i : ℕ) (x : Tree) (found new : List V) (v : V)
    → i < length xs → x ≡ get_or xs i x → R (tree_view x) v → new ≡ found ++ v ∷ []
    → ((rest : List V) → EachStands R (items_view (drop i xs)) rest → EachStands R (items_view xs) (found ++ rest))
    → (rest : List V) → EachStands R (items_view (drop (i + 1) xs)) rest → EachStands R (items_view xs) (new ++ rest)
stands_more R xs i x found new v h is r pushed before rest s =
    let here : R (tree_view (get_or xs i x)) v = rw (← is) r in
    rw (pushed, append_assoc found (v ∷ []) rest) (before (v ∷ rest) (rw (drop_more xs i x h) (here, s)))

-- what has a member is an object
pub member_of_object : (key : List ℕ) (d v : Data) → get key d ≡ Some v → (ms : Members) × (as_object d ≡ Some ms)
member_of_object key null v h = cc
member_of_object key (boolean b) v h = cc
member_of_object key (number n) v h = cc
member_of_object key (string s) v h = cc
member_of_object key (array ds) v h = cc
member_of_object key (object ms) v h = (ms, refl)

-- as many members as entries
pub count_members_view : (ms : List (String Global × Tree)) → count_members (members_view ms) ≡ length ms
count_members_view [] = refl
count_members_view (m ∷ ms) = ap suc (count_members_view ms)

-- as many items as there are things that are seen as them
pub count_seen : {V : Type 0} (seen : V → Data) (vs : List V) → count_items (items_of (map seen vs)) ≡ length vs
count_seen seen [] = refl
count_seen seen (v ∷ vs) = ap suc (count_seen seen vs)

-- a whole number is a number
pub whole_is_number : (d : Data) (v : ℤ) → whole_of d ≡ Some v → (n : Num) × (as_number d ≡ Some n) × (as_integer n ≡ Some v)
whole_is_number null v h = cc
whole_is_number (boolean b) v h = cc
whole_is_number (number n) v h = (n, refl, h)
whole_is_number (string s) v h = cc
whole_is_number (array ds) v h = cc
whole_is_number (object ms) v h = cc

-- where what is written of each value stands for it, the items stand for the list
pub each_written : {V : Type 0} (R : Data → V → Type 0) (P : V → Type 0) (written : V → Data) → ((v : V) → P v → R (written v) v)
    → (values : List V) → All P values → EachStands R (items_of (map written values)) values
each_written R P written one [] h = tt
each_written R P written one (v ∷ vs) h = (one v (All-head P v vs h), each_written R P written one vs (All-tail P v vs h))
