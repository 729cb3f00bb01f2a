-- Objects of exactly some members.
use Rattle.std.proofs.Common.{◌≡◌, ℕ, suc, ◌==◌, ◌&&◌, Bool, true, false, not, true≢false, List, [], ◌∷◌, length, bytes_eq, Option, None, Some, inl, inr, ◌⊎◌, ⊎_elim, refl, sym, ap, ◌∙◌, subst, arith, eqb-true}
use Rattle.std.specs.Prelude.{IsPermutation}
use Rattle.std.proofs.lemmas.Bool.{and_parts, not-true}
use Rattle.std.specs.List.{AllByRecursion}
use Rattle.std.specs.declared.cmp.Ordering.{Ordering}
use Rattle.std.specs.declared.cmp.Ordering.TheVariants.{Less, Equal, Greater}
use Rattle.std.specs.Ordering.{nat_cmp, match_ordering}
use Rattle.std.specs.Cmp.Lexicographic.{slice_cmp}
use Rattle.std.proofs.lemmas.Slice.Eq.{bytes_eq-Decides}
use Rattle.std.proofs.lemmas.Map.Lookups.{exact_bytes}
use Rattle.std.proofs.lemmas.Cmp.{nat_list_cmp_total, tied_itself}
use Rattle.std.proofs.lemmas.List.Elements.{All-from_recursion, recursion_from_All}
use Rattle.std.proofs.lemmas.List.Sorted.{IsPermutation-refl, IsPermutation-sym, IsPermutation-cons, IsPermutation-trans, IsPermutation-middle, All-permutation, length_permutation}
use Rattle.serde_json.specs.Data.{Data, null, boolean, number, string, array, object, Members, no_members, member}
use Rattle.serde_json.specs.Find.{get, get_member}
use Rattle.edr_json.specs.Trees.{count_members, has_members}
use Rattle.edr_feed.specs.Forms.{named_values, IsObjectOf}

-- ---- lists of members

abbrev pub Named : Type 0
Named = List ℕ × Data

-- the member is one of these
abbrev pub Among : Named → List Named → Type 0
Among m [] = ⊥
Among m (x ∷ xs) = (x ≡ m) ⊎ Among m xs

-- none of these has that name
abbrev pub lacks : List ℕ → List Named → Bool
lacks key [] = true
lacks key (m ∷ these) = not (bytes_eq key m.0) && lacks key these

-- no two have one name
abbrev pub differ : List Named → Bool
differ [] = true
differ (m ∷ these) = lacks m.0 these && differ these

-- what holds of each holds of one of them
one_of : (P : Named → Type 0) (xs : List Named) (m : Named) → AllByRecursion P xs → Among m xs → P m
one_of P [] m all among = absurd among
one_of P (x ∷ xs) m all (inl same) = subst P same all.0
one_of P (x ∷ xs) m all (inr later) = one_of P xs m all.1 later

-- and what holds of any one holds of each
each_of : (P : Named → Type 0) (xs : List Named) → ((m : Named) → Among m xs → P m) → AllByRecursion P xs
each_of P [] any = tt
each_of P (x ∷ xs) any = (any x (inl refl), each_of P xs (λ m later. any m (inr later)))

-- one of these is one of them in another order
pub moved : (xs ys : List Named) → IsPermutation xs ys → (m : Named) → Among m xs → Among m ys
moved xs ys order m among =
    let P : Named → Type 0 = λ x. Among x ys in
    let all = All-from_recursion P ys (each_of P ys (λ x here. here)) in
    one_of P xs m (recursion_from_All P xs (All-permutation P ys xs (IsPermutation-sym xs ys order) all)) among

-- each of these has another name
other_names : (key : List ℕ) (these : List Named) → lacks key these ≡ true → AllByRecursion (λ (m : Named). bytes_eq key m.0 ≡ false) these
other_names key [] lack = tt
other_names key (m ∷ these) lack =
    let parts = and_parts (not (bytes_eq key m.0)) (lacks key these) lack in
    (not-true (bytes_eq key m.0) parts.0, other_names key these parts.1)

other_name : (key : List ℕ) (these : List Named) → lacks key these ≡ true → (m : Named) → Among m these → bytes_eq key m.0 ≡ false
other_name key these lack m among = one_of (λ (x : Named). bytes_eq key x.0 ≡ false) these m (other_names key these lack) among

same_name : (key : List ℕ) → bytes_eq key key ≡ true
same_name key = (bytes_eq-Decides key key).1 refl

-- so none has that name
not_lacked : (key : List ℕ) (d : Data) (xs : List Named) → lacks key xs ≡ true → Among (key, d) xs → ⊥
not_lacked key d xs lack among = true≢false (sym (same_name key) ∙ other_name key xs lack (key, d) among)

-- of members with names that differ, one has a name
one_value : (key : List ℕ) (d e : Data) (xs : List Named) → differ xs ≡ true → Among (key, d) xs → Among (key, e) xs → d ≡ e
one_value key d e [] apart a b = absurd a
one_value key d e (x ∷ xs) apart (inl a) (inl b) = ap (λ (m : Named). m.1) (sym a ∙ b)
one_value key d e (x ∷ xs) apart (inl a) (inr b) =
    let lack = (and_parts (lacks x.0 xs) (differ xs) apart).0 in
    absurd (not_lacked key e xs (subst (λ (m : Named). lacks m.0 xs ≡ true) a lack) b)
one_value key d e (x ∷ xs) apart (inr a) (inl b) =
    let lack = (and_parts (lacks x.0 xs) (differ xs) apart).0 in
    absurd (not_lacked key d xs (subst (λ (m : Named). lacks m.0 xs ≡ true) b lack) a)
one_value key d e (x ∷ xs) apart (inr a) (inr b) = one_value key d e xs (and_parts (lacks x.0 xs) (differ xs) apart).1 a b

-- the others, where one is taken out
record Without (m : Named) (xs : List Named) : Type 0 where
  pub others : List Named
  pub order : IsPermutation (m ∷ others) xs
  pub as_many : length xs ≡ suc (length others)
  pub left : (x : Named) → bytes_eq m.0 x.0 ≡ false → Among x xs → Among x others

not_itself : (m x : Named) → bytes_eq m.0 x.0 ≡ false → m ≡ x → ⊥
not_itself m x apart same = true≢false (sym (same_name m.0) ∙ ap (λ (y : Named). bytes_eq m.0 y.0) same ∙ apart)

without : (m : Named) (xs : List Named) → Among m xs → Without m xs
without m [] among = absurd among
without m (x ∷ xs) (inl same) = record {
  others = xs;
  order = subst (λ (y : Named). IsPermutation (y ∷ xs) (x ∷ xs)) same (IsPermutation-refl (x ∷ xs));
  as_many = refl;
  left = λ y apart among. ⊎_elim (λ here. absurd (not_itself m y apart (sym same ∙ here))) (λ later. later) among;
}
without m (x ∷ xs) (inr later) =
    let rest = without m xs later in
    record {
      others = x ∷ rest.others;
      order =
          IsPermutation-trans (m ∷ x ∷ rest.others) (x ∷ m ∷ rest.others) (x ∷ xs)
          (IsPermutation-sym (x ∷ m ∷ rest.others) (m ∷ x ∷ rest.others) (IsPermutation-middle (x ∷ []) m rest.others))
          (IsPermutation-cons x (m ∷ rest.others) xs rest.order);
      as_many = ap suc rest.as_many;
      left = λ y apart among. ⊎_elim (λ here. inl here) (λ behind. inr (rest.left y apart behind)) among;
    }

-- as many as those that differ in name, and each of these is among them: then these are all
exactly : (these xs : List Named) → differ these ≡ true → ((m : Named) → Among m these → Among m xs) → length xs ≡ length these → IsPermutation these xs
exactly [] [] apart held count = IsPermutation-refl []
exactly [] (x ∷ xs) apart held count = absurd (omega (arith, count))
exactly (m ∷ these) xs apart held count =
    let parts = and_parts (lacks m.0 these) (differ these) apart in
    let rest = without m xs (held m (inl refl)) in
    let fewer = exactly these rest.others parts.1
    (λ x among. rest.left x (other_name m.0 these parts.0 x among) (held x (inr among)))
    (omega (arith, count, rest.as_many)) in
    IsPermutation-trans (m ∷ these) (m ∷ rest.others) xs (IsPermutation-cons m these rest.others fewer) rest.order

-- ---- members of an object

counted : (ms : Members) → count_members ms ≡ length (named_values ms)
counted no_members = refl
counted (member name d ms) = ap suc (counted ms)

among_by : (o : Ordering) (key name : List ℕ) (here : Data) (rest : Option Data) (xs : List Named) (d : Data) → slice_cmp nat_cmp key name ≡ o
    → (rest ≡ Some d → Among (key, d) xs) → match_ordering o rest (Some here) rest ≡ Some d → Among (key, d) ((name, here) ∷ xs)
among_by Less key name here rest xs d order later found = inr (later found)
among_by Equal key name here rest xs d order later found =
    let same = exact_bytes key name order in
    let value : here ≡ d = cc in
    inl (λ i. (sym same i, value i))
among_by Greater key name here rest xs d order later found = inr (later found)

-- what is found by a name is a member of that name
found_among : (key : List ℕ) (ms : Members) (d : Data) → get_member key ms ≡ Some d → Among (key, d) (named_values ms)
found_among key no_members d found = cc
found_among key (member name here ms) d found =
    among_by (slice_cmp nat_cmp key name) key name here (get_member key ms) (named_values ms) d refl (found_among key ms d) found

later_found : (o : Ordering) (here : Data) (rest : Option Data) → ((e : Data) × (rest ≡ Some e)) → (e : Data) × (match_ordering o rest (Some here) rest ≡ Some e)
later_found Less here rest h = h
later_found Equal here rest h = (here, refl)
later_found Greater here rest h = h

-- and by the name of a member something is found
among_found : (key : List ℕ) (ms : Members) (d : Data) → Among (key, d) (named_values ms) → (e : Data) × (get_member key ms ≡ Some e)
among_found key no_members d among = absurd among
among_found key (member name here ms) d (inl same) =
    let order : slice_cmp nat_cmp key name ≡ Equal = subst (λ (k : List ℕ). slice_cmp nat_cmp key k ≡ Equal) (sym (ap (λ (m : Named). m.0) same)) (tied_itself nat_list_cmp_total key) in
    (here, rw order refl)
among_found key (member name here ms) d (inr later) =
    later_found (slice_cmp nat_cmp key name) here (get_member key ms) (among_found key ms d later)

-- ---- objects

-- each of these is found by its name
abbrev pub Finds : Data → List Named → Type 0
Finds d these = AllByRecursion (λ (m : Named). get m.0 d ≡ Some m.1) these

-- an object that has as many members as these, where each of these is found, is the object of these
pub object_is : (these : List Named) (d : Data) → differ these ≡ true → has_members (length these) d ≡ true → Finds d these → IsObjectOf these d
object_is these null apart count finds = cc
object_is these (boolean b) apart count finds = cc
object_is these (number n) apart count finds = cc
object_is these (string s) apart count finds = cc
object_is these (array ds) apart count finds = cc
object_is these (object ms) apart count finds = record {
  members = ms;
  is = refl;
  in_some_order = exactly these (named_values ms) apart
      (λ m among. found_among m.0 ms m.1 (one_of (λ (x : Named). get_member x.0 ms ≡ Some x.1) these m finds among))
      (sym (counted ms) ∙ eqb-true (count_members ms) (length these) count);
}

-- it has as many members
pub object_counts : (these : List Named) (d : Data) → IsObjectOf these d → (n : ℕ) → has_members n d ≡ (length these == n)
object_counts these d h n =
    let order = h.in_some_order in
    ap (has_members n) h.is ∙ ap (λ (k : ℕ). k == n) (counted h.members ∙ length_permutation these (named_values h.members) order)

found_only : (these : List Named) (ms : Members) → IsPermutation these (named_values ms) → differ these ≡ true → (m : Named) → Among m these → get_member m.0 ms ≡ Some m.1
found_only these ms order apart m among =
    let found = among_found m.0 ms m.1 (moved these (named_values ms) order m among) in
    let back = moved (named_values ms) these (IsPermutation-sym these (named_values ms) order) (m.0, found.0) (found_among m.0 ms found.0 found.1) in
    found.1 ∙ ap Some (one_value m.0 found.0 m.1 these apart back among)

-- and each of these is found
pub object_finds : (these : List Named) (d : Data) → differ these ≡ true → IsObjectOf these d → Finds d these
object_finds these d apart h =
    subst (λ (x : Data). Finds x these) (sym h.is)
    (each_of (λ (m : Named). get_member m.0 h.members ≡ Some m.1) these (found_only these h.members h.in_some_order apart))

nothing_by : (these : List Named) (ms : Members) (key : List ℕ) (o : Option Data) → IsPermutation these (named_values ms) → lacks key these ≡ true → get_member key ms ≡ o → o ≡ None
nothing_by these ms key None order lack found = refl
nothing_by these ms key (Some d) order lack found =
    absurd (not_lacked key d these lack (moved (named_values ms) these (IsPermutation-sym these (named_values ms) order) (key, d) (found_among key ms d found)))

-- and nothing by another name
pub object_lacks : (these : List Named) (d : Data) → IsObjectOf these d → (key : List ℕ) → lacks key these ≡ true → get key d ≡ None
object_lacks these d h key lack =
    ap (get key) h.is ∙ nothing_by these h.members key (get_member key h.members) h.in_some_order lack refl
