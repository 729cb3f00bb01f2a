-- Texts of members, and lines of one member.
use Rattle.std.proofs.Common.{◌≡◌, ℕ, suc, Bool, true, false, true≢false, not, ◌&&◌, List, [], ◌∷◌, length, bytes_eq, Option, None, Some, inl, inr, refl, sym, ap, ◌∙◌, subst, arith, option_map, option_and_then, eqb-true}
use Rattle.std.proofs.lemmas.Slice.Eq.{bytes_eq-Decides}
use Rattle.std.proofs.lemmas.List.Sorted.{IsPermutation-refl, length_permutation}
use Rattle.serde_json.specs.Data.{Data, null, boolean, number, string, array, object, Members, no_members, member}
use Rattle.serde_json.specs.Find.{get, as_str}
use Rattle.edr_feed.specs.declared.faults.LineFault.{LineFault}
use Rattle.edr_feed.specs.declared.faults.LineFault.TheVariants.{LineTooLong, NotJson, NotFeedLine, Cov, Change, OutOfMemory}
use Rattle.edr_feed.specs.Forms.{named_values, IsObjectOf, HasJust, HasOutline}
use Rattle.edr_feed.specs.FormParts.{HasText, HasTextIfGiven, Lacks, IsNoEntry, line_of}
use Rattle.edr_json.specs.Trees.{count_members, is_count, has_members}
use Rattle.edr_feed.proofs.FormMembers.{Among, moved, object_is, object_counts, object_finds, object_lacks}

-- ---- texts

text_of : (o : Option Data) (text : List ℕ) → option_and_then as_str o ≡ Some text → o ≡ Some (string text)
text_of None text h = cc
text_of (Some null) text h = cc
text_of (Some (boolean b)) text h = cc
text_of (Some (number n)) text h = cc
text_of (Some (string s)) text h = cc
text_of (Some (array ds)) text h = cc
text_of (Some (object ms)) text h = cc

-- the member is that text
pub text_is : (key : List ℕ) (d : Data) (text : List ℕ) → HasText key d text → get key d ≡ Some (string text)
text_is key d text h = text_of (get key d) text h

pub is_text : (key : List ℕ) (d : Data) (text : List ℕ) → get key d ≡ Some (string text) → HasText key d text
is_text key d text h = ap (option_and_then as_str) h

-- ---- one value

pub same_text : (key : List ℕ) (d : Data) (one other : List ℕ) → HasText key d one → HasText key d other → one ≡ other
same_text key d one other p q = cc

strings : (one other : Option (List ℕ)) → option_map string one ≡ option_map string other → one ≡ other
strings None None h = refl
strings None (Some b) h = cc
strings (Some a) None h = cc
strings (Some a) (Some b) h = cc

pub same_given : (key : List ℕ) (d : Data) (one other : Option (List ℕ)) → HasTextIfGiven key d one → HasTextIfGiven key d other → one ≡ other
same_given key d one other p q = strings one other (sym p ∙ q)

pub same_tree : (key : List ℕ) (d one other : Data) → get key d ≡ Some one → get key d ≡ Some other → one ≡ other
same_tree key d one other p q = cc

pub counts_same : (o : Option Members) (n m : ℕ) → is_count n o ≡ true → is_count m o ≡ true → n ≡ m
counts_same None n m p q = cc
counts_same (Some ms) n m p q = sym (eqb-true (count_members ms) n p) ∙ eqb-true (count_members ms) m q

-- ---- lines of one member

named : (name : List ℕ) (d value : Data) (ms : Members) → d ≡ object ms → Among (name, value) (named_values ms) → length (named_values ms) ≡ 1 → d ≡ line_of name value
named name d value no_members is among count = absurd among
named name d value (member n e no_members) is (inl same) count =
    is ∙ (λ i. object (member (same i).0 (same i).1 no_members))
named name d value (member n e no_members) is (inr later) count = absurd later
named name d value (member n e (member m f ms)) is among count = absurd (omega (arith, count))

-- an object of one member is that line
pub just_is : (name : List ℕ) (d value : Data) → IsObjectOf ((name, value) ∷ []) d → d ≡ line_of name value
just_is name d value h =
    let order = h.in_some_order in
    named name d value h.members h.is (moved ((name, value) ∷ []) (named_values h.members) order (name, value) (inl refl))
    (length_permutation ((name, value) ∷ []) (named_values h.members) order)

pub line_is : (name : List ℕ) (d value : Data) → has_members 1 d ≡ true → get name d ≡ Some value → d ≡ line_of name value
line_is name d value count found = just_is name d value (object_is ((name, value) ∷ []) d refl count (found, tt))

pub just_line : (name : List ℕ) (value : Data) → IsObjectOf ((name, value) ∷ []) (line_of name value)
just_line name value = record { members = member name value no_members; is = refl; in_some_order = IsPermutation-refl ((name, value) ∷ []) }

same_member : (n m : List ℕ) (d e : Data) → line_of n d ≡ line_of m e → (n ≡ m) × (d ≡ e)
same_member n m d e h = (cc, cc)

-- what is asked of the member of a line
pub just_value : (name : List ℕ) (value : Data) (P : Data → Type 0) → HasJust name P (line_of name value) → P value
just_value name value P h =
    let same = same_member name name value h.0 (just_is name (line_of name value) h.0 h.1) in
    subst P (sym same.1) h.2

-- a line has no member of another name
pub just_other : (name other : List ℕ) (value : Data) (P : Data → Type 0) → bytes_eq other name ≡ false → HasJust other P (line_of name value) → ⊥
just_other name other value P apart h =
    let same = same_member name other value h.0 (just_is other (line_of name value) h.0 h.1) in
    true≢false (sym ((bytes_eq-Decides other name).1 (sym same.0)) ∙ apart)

-- the member of a line is found
pub just_found : (name : List ℕ) (d : Data) (P : Data → Type 0) → HasJust name P d → (value : Data) × (get name d ≡ Some value)
just_found name d P h = (h.0, (object_finds ((name, h.0) ∷ []) d refl h.1).0)

-- such a line has one member, and none of another name
pub just_counts : (name : List ℕ) (d : Data) (P : Data → Type 0) → HasJust name P d → has_members 1 d ≡ true
just_counts name d P h = object_counts ((name, h.0) ∷ []) d h.1 1

pub just_lacks : (name key : List ℕ) (d : Data) (P : Data → Type 0) → bytes_eq key name ≡ false → HasJust name P d → get key d ≡ None
just_lacks name key d P apart h = object_lacks ((name, h.0) ∷ []) d h.1 key (ap (λ (b : Bool). not b && true) apart)

-- ---- what is lacking

-- a tree without a part that each outline has is no entry
pub no_entry_by : {T : Type 0} (IsFound : T → Type 0) (tree : Data) (fault : LineFault) → Lacks IsFound fault → (HasOutline tree → (found : T) × IsFound found) → IsNoEntry tree fault
no_entry_by IsFound tree LineTooLong none some = absurd none
no_entry_by IsFound tree NotJson none some = absurd none
no_entry_by IsFound tree NotFeedLine none some = λ outline. let found = some outline in none found.0 found.1
no_entry_by IsFound tree (Cov fault) none some = absurd none
no_entry_by IsFound tree (Change fault) none some = absurd none
no_entry_by IsFound tree OutOfMemory none some = tt
