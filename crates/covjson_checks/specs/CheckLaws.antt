-- Laws of checks of trees.
use Rattle.std.specs.Prelude.{Result, IfOk, ⊤}
use Rattle.std.proofs.Common.{◌≡◌, if◌then◌else◌, subst, ℕ, suc, ◌+◌, ◌≤◌, ◌<◌, ◌++◌, ℤ, pos, negsuc, List, [], ◌∷◌, length, get_or, drop, map, All, Bool, true, false, Option, Some, Ok, Err, refl, sym, ap, ◌∙◌, append_assoc, unsigned_abs, bytes_eq, arith}
use Rattle.std.proofs.lemmas.List.{drop_more}
use Rattle.std.proofs.lemmas.List.Elements.{All-cons, All-nil, All-head, All-tail}
use Rattle.std.proofs.lemmas.Bool.{leb-true, le-leb, and_from}
use Rattle.std.proofs.Math.Dec.{leb}
use Rattle.std.proofs.lemmas.Slice.Eq.{bytes_eq-Decides}
use Rattle.serde_json.specs.Data.{Data, null, boolean, number, string, array, object, Items, no_items, item, Members, Num}
use Rattle.serde_json.specs.View.{items_of}
use Rattle.edr_samples.specs.Trees.{tree_view, items_view}
use Rattle.edr_samples.specs.declared.trees.Tree.{Tree}
use Rattle.serde_json.specs.Find.{get, as_array, as_object, as_str, as_number, as_integer}
use Rattle.edr_base.specs.FirstThatApplies.{and_then, or_fault}
use Rattle.edr_json.specs.Trees.{EachStands, StandsForWhole, whole_of}
use Rattle.edr_json.specs.AnswerLaws.{and_then_ok, or_fault_ok, and_then_given, or_fault_given}
use Rattle.edr_json.specs.TreeLaws.{as_array_some, as_object_some, as_str_some, member_of_object}
use Rattle.covjson_value.specs.Trees.{integer}
use Rattle.covjson_checks.specs.declared.faults.Member.{Member}
use Rattle.covjson_checks.specs.declared.faults.CovFault.{CovFault}
use Rattle.covjson_checks.specs.declared.faults.CovFault.TheVariants.{OutOfRangeAt}
use Rattle.covjson_checks.specs.declared.members.Wanted.{Wanted}
use Rattle.covjson_checks.specs.Answers.{Answer, each, each_from, onto, GivesUnlessMemory}
use Rattle.covjson_checks.specs.Members.{list_at, object_at, text_at, whole_within, is_wanted, all_wanted}

-- a datum that is taken for a list is one
pub list_ok : (m : Member) (d : Data) (ds : Items) → list_at m d ≡ Ok ds → d ≡ array ds
list_ok m d ds h = as_array_some d ds (or_fault_ok (as_array d) _ ds h)

-- and for an object
pub object_ok : (m : Member) (d : Data) (ms : Members) → object_at m d ≡ Ok ms → d ≡ object ms
object_ok m d ms h = as_object_some d ms (or_fault_ok (as_object d) _ ms h)

-- and for a text
pub text_ok : (m : Member) (d : Data) (s : List ℕ) → text_at m d ≡ Ok s → d ≡ string s
text_ok m d s h = as_str_some d s (or_fault_ok (as_str d) _ s h)

-- an answer for each item is one item by item
pub each_stands : {V : Type 0} (f : Data → Answer V) (R : Data → V → Type 0) → ((d : Data) (v : V) → f d ≡ Ok v → R d v)
    → (ds : Items) (vs : List V) → each f ds ≡ Ok vs → EachStands R ds vs
each_stands f R one no_items [] h = tt
each_stands f R one no_items (v ∷ vs) h = cc
each_stands f R one (item d ds) vs h =
    let a = and_then_ok (f d) _ vs h in
    let b = and_then_ok (each f ds) _ vs a.2 in
    let e : a.0 ∷ b.0 ≡ vs = cc in
    rw (← e) (one d a.0 a.1, each_stands f R one ds b.0 b.1)

-- and so is one by places
pub from_stands : {V : Type 0} (f : ℕ → Data → Answer V) (R : Data → V → Type 0) → ((place : ℕ) (d : Data) (v : V) → f place d ≡ Ok v → R d v)
    → (place : ℕ) (ds : Items) (vs : List V) → each_from f place ds ≡ Ok vs → EachStands R ds vs
from_stands f R one place no_items [] h = tt
from_stands f R one place no_items (v ∷ vs) h = cc
from_stands f R one place (item d ds) vs h =
    let a = and_then_ok (f place d) _ vs h in
    let b = and_then_ok (each_from f (suc place) ds) _ vs a.2 in
    let e : a.0 ∷ b.0 ≡ vs = cc in
    rw (← e) (one place d a.0 a.1, from_stands f R one (suc place) ds b.0 b.1)

-- and what holds of the answer for an item holds of each
pub from_all : {V : Type 0} (f : ℕ → Data → Answer V) (P : V → Type 0) → ((place : ℕ) (d : Data) (v : V) → f place d ≡ Ok v → P v)
    → (place : ℕ) (ds : Items) (vs : List V) → each_from f place ds ≡ Ok vs → All P vs
from_all f P one place no_items [] h = All-nil P
from_all f P one place no_items (v ∷ vs) h = cc
from_all f P one place (item d ds) vs h =
    let a = and_then_ok (f place d) _ vs h in
    let b = and_then_ok (each_from f (suc place) ds) _ vs a.2 in
    let e : a.0 ∷ b.0 ≡ vs = cc in
    let Q : List _ → Type 0 = λ xs. All P xs in
    subst Q e (All-cons P a.0 b.0 (one place d a.0 a.1) (from_all f P one (suc place) ds b.0 b.1))

-- a test that was passed gives the value
pub passed : (b : Bool) (z v : ℤ) (f : CovFault) → (if b then Ok z else Err f) ≡ Ok v → (b ≡ true) × (z ≡ v)
passed true z v f h = (refl, cc)
passed false z v f h = cc

-- what is taken for a number is held whole as that number is
some_number : (d : Data) (n : Num) → as_number d ≡ Some n → whole_of d ≡ as_integer n
some_number null n h = cc
some_number (boolean b) n h = cc
some_number (number m) n h = cc
some_number (string t) n h = cc
some_number (array es) n h = cc
some_number (object ns) n h = cc

-- a whole number within its limit stands there, and is within it
pub whole_within_stands : (m : Member) (limit place : ℕ) (d : Data) (v : ℤ) → whole_within m limit place d ≡ Ok v → StandsForWhole d v × (unsigned_abs v ≤ limit)
whole_within_stands m limit place d v h =
    let a = and_then_ok (or_fault (as_number d) _) _ v h in
    let b = and_then_ok (or_fault (as_integer a.0) _) _ v a.2 in
    let p = passed (leb (unsigned_abs b.0) limit) b.0 v (OutOfRangeAt m place) b.2 in
    let whole = or_fault_ok (as_integer a.0) _ b.0 b.1 in
    let held = some_number d a.0 (or_fault_ok (as_number d) _ a.0 a.1) in
    let small = leb-true (unsigned_abs b.0) limit p.0 in
    (held ∙ whole ∙ ap Some p.1, rw (← p.1) small)

-- what a value of the answer tells holds of the result
pub if_gives : {T U : Type 0} (r : Result T CovFault) (seen : T → U) (a : Answer U) (P : T → Type 0) → ((x : T) → a ≡ Ok (seen x) → P x)
    → GivesUnlessMemory seen r a → IfOk r P
if_gives (Ok x) seen a P tells h = tells x h
if_gives (Err f) seen a P tells h = tt

-- the answer for an item, before those for the others
pub first_given : {V : Type 0} (first : Answer V) (rest : Answer (List V)) (v : V) (vs : List V) → first ≡ Ok v → rest ≡ Ok vs
    → and_then first (λ x. and_then rest (λ xs. Ok (x ∷ xs))) ≡ Ok (v ∷ vs)
first_given first rest v vs h k = and_then_given first _ v _ h (and_then_given rest _ vs _ k refl)

-- a value more, after what was found or before the rest
pub onto_more : {V : Type 0} (found : List V) (v : V) (rest : Answer (List V)) → onto (found ++ v ∷ []) rest ≡ onto found (and_then rest (λ vs. Ok (v ∷ vs)))
onto_more found v (Ok vs) = ap Ok (append_assoc found (v ∷ []) vs)
onto_more found v (Err f) = refl

-- things that are seen as data
module _ {V X : Type 0} (answer_of : Data → Answer V) (seen : X → Data) (xs : List X) where
  -- the answer to the items from a place on, by that to the item there
  from_seen : (i : ℕ) (x : X) (here : Answer V) → i < length xs → x ≡ get_or xs i x → here ≡ answer_of (seen x)
      → each answer_of (items_of (map seen (drop i xs))) ≡ and_then here (λ v. and_then (each answer_of (items_of (map seen (drop (i + 1) xs)))) (λ vs. Ok (v ∷ vs)))
  from_seen i x here h is read =
      let rest = each answer_of (items_of (map seen (drop (i + 1) xs))) in
      let first : answer_of (seen (get_or xs i x)) ≡ here = ap (λ (y : X). answer_of (seen y)) (sym is) ∙ sym read in
      ap (λ (ys : List X). each answer_of (items_of (map seen ys))) (drop_more xs i x h) ∙ ap (λ a. and_then a (λ v. and_then rest (λ vs. Ok (v ∷ vs)))) first

  -- after the value of the item at a place the answer to the rest is one shorter
  pub seen_more : (i : ℕ) (x : X) (found new : List V) (v : V) (all : Answer (List V)) → i < length xs
      → x ≡ get_or xs i x → Ok v ≡ answer_of (seen x) → new ≡ found ++ v ∷ [] → onto found (each answer_of (items_of (map seen (drop i xs)))) ≡ all
      → onto new (each answer_of (items_of (map seen (drop (i + 1) xs)))) ≡ all
  seen_more i x found new v all h is read pushed before =
      let rest = each answer_of (items_of (map seen (drop (i + 1) xs))) in
      rw pushed (onto_more found v rest ∙ ap (λ a. onto found a) (sym (from_seen i x (Ok v) h is read)) ∙ before)

  -- the fault of the item at a place is the answer
  pub seen_stops : (i : ℕ) (x : X) (found : List V) (f : CovFault) (all : Answer (List V)) → i < length xs
      → x ≡ get_or xs i x → Err f ≡ answer_of (seen x) → onto found (each answer_of (items_of (map seen (drop i xs)))) ≡ all → all ≡ Err f
  seen_stops i x found f all h is read before =
      sym before ∙ ap (λ a. onto found a) (from_seen i x (Err f) h is read)

-- of trees
pub each_more : {V : Type 0} (answer_of : Data → Answer V) (xs : List Tree) (i : ℕ) (x : Tree) (found new : List V) (v : V) (all : Answer (List V)) → i < length xs
    → x ≡ get_or xs i x → Ok v ≡ answer_of (tree_view x) → new ≡ found ++ v ∷ [] → onto found (each answer_of (items_view (drop i xs))) ≡ all
    → onto new (each answer_of (items_view (drop (i + 1) xs))) ≡ all
each_more answer_of xs = seen_more answer_of tree_view xs

pub each_stops : {V : Type 0} (answer_of : Data → Answer V) (xs : List Tree) (i : ℕ) (x : Tree) (found : List V) (f : CovFault) (all : Answer (List V)) → i < length xs
    → x ≡ get_or xs i x → Err f ≡ answer_of (tree_view x) → onto found (each answer_of (items_view (drop i xs))) ≡ all → all ≡ Err f
each_stops answer_of xs = seen_stops answer_of tree_view xs

-- things that are seen as data, by their places
module _ {V X : Type 0} (answer_at : ℕ → Data → Answer V) (seen : X → Data) (xs : List X) where
  -- the answer to the items from a place on, by that to the item there
  at_seen : (i : ℕ) (x : X) (here : Answer V) → i < length xs → x ≡ get_or xs i x → here ≡ answer_at i (seen x)
      → each_from answer_at i (items_of (map seen (drop i xs)))
      ≡ and_then here (λ v. and_then (each_from answer_at (i + 1) (items_of (map seen (drop (i + 1) xs)))) (λ vs. Ok (v ∷ vs)))
  at_seen i x here h is read =
      let ds = items_of (map seen (drop (i + 1) xs)) in
      let after : suc i ≡ i + 1 = omega arith in
      let first : answer_at i (seen (get_or xs i x)) ≡ here = ap (λ (y : X). answer_at i (seen y)) (sym is) ∙ sym read in
      ap (λ (ys : List X). each_from answer_at i (items_of (map seen ys))) (drop_more xs i x h)
      ∙ ap (λ (a : Answer V). and_then a (λ v. and_then (each_from answer_at (suc i) ds) (λ vs. Ok (v ∷ vs)))) first
      ∙ ap (λ (n : ℕ). and_then here (λ v. and_then (each_from answer_at n ds) (λ vs. Ok (v ∷ vs)))) after

  -- after the value of the item at a place the answer to the rest is one shorter
  pub at_more : (i : ℕ) (x : X) (found new : List V) (v : V) (all : Answer (List V)) → i < length xs
      → x ≡ get_or xs i x → Ok v ≡ answer_at i (seen x) → new ≡ found ++ v ∷ [] → onto found (each_from answer_at i (items_of (map seen (drop i xs)))) ≡ all
      → onto new (each_from answer_at (i + 1) (items_of (map seen (drop (i + 1) xs)))) ≡ all
  at_more i x found new v all h is read pushed before =
      let rest = each_from answer_at (i + 1) (items_of (map seen (drop (i + 1) xs))) in
      rw pushed (onto_more found v rest ∙ ap (λ a. onto found a) (sym (at_seen i x (Ok v) h is read)) ∙ before)

  -- the fault of the item at a place is the answer
  pub at_stops : (i : ℕ) (x : X) (found : List V) (f : CovFault) (all : Answer (List V)) → i < length xs
      → x ≡ get_or xs i x → Err f ≡ answer_at i (seen x) → onto found (each_from answer_at i (items_of (map seen (drop i xs)))) ≡ all → all ≡ Err f
  at_stops i x found f all h is read before =
      sym before ∙ ap (λ a. onto found a) (at_seen i x (Err f) h is read)

-- of trees
pub from_more : {V : Type 0} (answer_at : ℕ → Data → Answer V) (xs : List Tree) (i : ℕ) (x : Tree) (found new : List V) (v : V) (all : Answer (List V)) → i < length xs
    → x ≡ get_or xs i x → Ok v ≡ answer_at i (tree_view x) → new ≡ found ++ v ∷ [] → onto found (each_from answer_at i (items_view (drop i xs))) ≡ all
    → onto new (each_from answer_at (i + 1) (items_view (drop (i + 1) xs))) ≡ all
from_more answer_at xs = at_more answer_at tree_view xs

pub from_stops : {V : Type 0} (answer_at : ℕ → Data → Answer V) (xs : List Tree) (i : ℕ) (x : Tree) (found : List V) (f : CovFault) (all : Answer (List V)) → i < length xs
    → x ≡ get_or xs i x → Err f ≡ answer_at i (tree_view x) → onto found (each_from answer_at i (items_view (drop i xs))) ≡ all → all ≡ Err f
from_stops answer_at xs = at_stops answer_at tree_view xs

-- and the check that it is one passes
pub object_given : (m : Member) (key : List ℕ) (d v : Data) → get key d ≡ Some v → (ms : Members) × (object_at m d ≡ Ok ms)
object_given m key d v h = let held = member_of_object key d v h in (held.0, or_fault_given (as_object d) _ held.0 held.1)

-- a whole number within the limit is taken
pub whole_within_given : (m : Member) (limit place : ℕ) (d : Data) (v : ℤ) → whole_of d ≡ Some v → unsigned_abs v ≤ limit → whole_within m limit place d ≡ Ok v
whole_within_given m limit place null v h small = cc
whole_within_given m limit place (boolean b) v h small = cc
whole_within_given m limit place (number n) v h small = rw (h, le-leb (unsigned_abs v) limit small)
whole_within_given m limit place (string s) v h small = cc
whole_within_given m limit place (array ds) v h small = cc
whole_within_given m limit place (object ms) v h small = cc

-- where each item stands for a value, there is an answer for each
pub each_given : {V : Type 0} (f : Data → Answer V) (R : Data → V → Type 0) (P : V → Type 0) → ((d : Data) (v : V) → R d v → P v → f d ≡ Ok v)
    → (ds : Items) (vs : List V) → EachStands R ds vs → All P vs → each f ds ≡ Ok vs
each_given f R P one no_items [] stand all = refl
each_given f R P one no_items (v ∷ vs) stand all = absurd stand
each_given f R P one (item d ds) [] stand all = absurd stand
each_given f R P one (item d ds) (v ∷ vs) stand all =
    first_given (f d) (each f ds) v vs (one d v stand.0 (All-head P v vs all)) (each_given f R P one ds vs stand.1 (All-tail P v vs all))

-- and by places
pub from_given : {V : Type 0} (f : ℕ → Data → Answer V) (R : Data → V → Type 0) (P : V → Type 0) → ((place : ℕ) (d : Data) (v : V) → R d v → P v → f place d ≡ Ok v)
    → (place : ℕ) (ds : Items) (vs : List V) → EachStands R ds vs → All P vs → each_from f place ds ≡ Ok vs
from_given f R P one place no_items [] stand all = refl
from_given f R P one place no_items (v ∷ vs) stand all = absurd stand
from_given f R P one place (item d ds) [] stand all = absurd stand
from_given f R P one place (item d ds) (v ∷ vs) stand all =
    first_given (f place d) (each_from f (suc place) ds) v vs (one place d v stand.0 (All-head P v vs all))
    (from_given f R P one (suc place) ds vs stand.1 (All-tail P v vs all))

-- where the answer for a value is given by the item alone
pub each_answers : {V : Type 0} (f : Data → Answer V) (R : Data → V → Type 0) → ((d : Data) (v : V) → R d v → f d ≡ Ok v)
    → (ds : Items) (vs : List V) → EachStands R ds vs → each f ds ≡ Ok vs
each_answers f R one ds vs stand = each_given f R (λ v. ⊤) (λ d v here any. one d v here) ds vs stand (λ place other inside. tt)

-- and where each value's item is what is wanted, all of them are
pub all_wanted_given : {V : Type 0} (wanted : Wanted) (R : Data → V → Type 0) → ((d : Data) (v : V) → R d v → is_wanted wanted d ≡ true)
    → (ds : Items) (vs : List V) → EachStands R ds vs → all_wanted wanted ds ≡ true
all_wanted_given wanted R one no_items [] stand = refl
all_wanted_given wanted R one no_items (v ∷ vs) stand = absurd stand
all_wanted_given wanted R one (item d ds) [] stand = absurd stand
all_wanted_given wanted R one (item d ds) (v ∷ vs) stand =
    and_from (is_wanted wanted d) _ (one d v stand.0) (all_wanted_given wanted R one ds vs stand.1)

-- what is written of a whole number stands for it
pub whole_written : (value : ℤ) → StandsForWhole (integer value) value
whole_written (pos n) = refl
whole_written (negsuc n) = refl

-- where a name is that of one kind of several, it is the name of the kind that is chosen
this_or_other : {K : Type 0} (key_of : K → List ℕ) (b : Bool) (name : List ℕ) (this kind : K) (others : Option K) → (b ≡ true → name ≡ key_of this) → (others ≡ Some kind → name ≡ key_of kind)
    → (if b then Some this else others) ≡ Some kind → name ≡ key_of kind
this_or_other key_of true name this kind others here later h = let same : this ≡ kind = cc in here refl ∙ ap key_of same
this_or_other key_of false name this kind others here later h = later h

-- a kind that is chosen by its name among others has that name
pub named_one : {K : Type 0} (key_of : K → List ℕ) (name : List ℕ) (this kind : K) (others : Option K) → (others ≡ Some kind → name ≡ key_of kind)
    → (if bytes_eq name (key_of this) then Some this else others) ≡ Some kind → name ≡ key_of kind
named_one key_of name this kind others later h = this_or_other key_of (bytes_eq name (key_of this)) name this kind others ((bytes_eq-Decides name (key_of this)).0) later h
