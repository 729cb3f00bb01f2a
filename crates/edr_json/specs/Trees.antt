-- What is asked of trees of JSON (RFC 8259) everywhere.
use Rattle.std.specs.Prelude.{◌≡◌, ℕ, suc, zero, ◌==◌, ℤ, ⊤, Bool, false, bytes_eq, codes, List, [], ◌∷◌, Option, None, Some, option_and_then}
use Rattle.serde_json.specs.Data.{Data, null, boolean, number, string, array, object, Items, no_items, item, Members, no_members, member, Num}
use Rattle.serde_json.specs.Find.{get, as_object, as_str, as_number, as_integer, as_u64}

-- a text, a number, an object
abbrev pub IsText : Data → Type 0
IsText d = (text : List ℕ) × (d ≡ string text)

abbrev pub IsNumber : Data → Type 0
IsNumber d = (n : Num) × (d ≡ number n)

abbrev pub IsObject : Data → Type 0
IsObject d = (members : Members) × (d ≡ object members)

-- the text of what was found, or the empty text
abbrev pub text_or_empty : Option Data → List ℕ
text_or_empty None = codes ""
text_or_empty (Some null) = codes ""
text_or_empty (Some (boolean b)) = codes ""
text_or_empty (Some (number n)) = codes ""
text_or_empty (Some (string s)) = s
text_or_empty (Some (array ds)) = codes ""
text_or_empty (Some (object ms)) = codes ""

-- the text of the member of a name, where it is one
abbrev pub text_in : List ℕ → Data → Option (List ℕ)
text_in name d = option_and_then as_str (get name d)

abbrev pub count_members : Members → ℕ
count_members no_members = 0
count_members (member name d members) = suc (count_members members)

abbrev pub is_count : ℕ → Option Members → Bool
is_count n None = false
is_count n (Some members) = count_members members == n

-- an object of that many members
abbrev pub has_members : ℕ → Data → Bool
has_members n d = is_count n (as_object d)

-- the number that is held as a whole number of 64 bits
abbrev pub whole_of : Data → Option ℤ
whole_of d = option_and_then as_integer (as_number d)

-- the number that is held as a whole number from 0
abbrev pub natural_of : Data → Option ℕ
natural_of d = option_and_then as_u64 (as_number d)

-- the datum is that text
abbrev pub is_text : List ℕ → Option (List ℕ) → Bool
is_text text None = false
is_text text (Some found) = bytes_eq found text

-- each item stands for the value at its place, and there are as many
abbrev pub EachStands : {V : Type 0} → (Data → V → Type 0) → Items → List V → Type 0
EachStands R no_items [] = ⊤
EachStands R no_items (v ∷ vs) = ⊥
EachStands R (item d ds) [] = ⊥
EachStands R (item d ds) (v ∷ vs) = R d v × EachStands R ds vs

-- a number that is held whole
abbrev pub StandsForWhole : Data → ℤ → Type 0
StandsForWhole d value = whole_of d ≡ Some value

abbrev pub count_items : Items → ℕ
count_items no_items = 0
count_items (item d ds) = suc (count_items ds)

-- the item at a place
abbrev pub item_at : Items → ℕ → Option Data
item_at no_items place = None
item_at (item d ds) zero = Some d
item_at (item d ds) (suc place) = item_at ds place

-- the names of members
abbrev pub names_of : Members → List (List ℕ)
names_of no_members = []
names_of (member name d members) = name ∷ names_of members

-- and what they name
abbrev pub values_of : Members → Items
values_of no_members = no_items
values_of (member name d members) = item d (values_of members)
