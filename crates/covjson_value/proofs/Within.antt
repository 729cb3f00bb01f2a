-- Plain JSON, no deeper than a number: how it is put together.
use Rattle.std.proofs.Common.{◌≡◌, ℕ, suc, ◌<◌, ◌≤◌, ◌^◌, ℤ, pos, negsuc, unsigned_abs, Bool, true, false, List, [], ◌∷◌, map, All, Option, Some, None, IfSome, IsUtf8, Ordering, Less, Greater, nat_cmp, ap, ◌∙◌, arith}
use Rattle.std.specs.Ordering.{ordering_reverse}
use Rattle.std.proofs.lemmas.Cmp.{nat_list_cmp_total}
use Rattle.std.proofs.lemmas.List.Elements.{All-head, All-tail}
use Rattle.std.specs.Cmp.Lexicographic.{slice_cmp}
use Rattle.std.specs.List.{AllByRecursion, zip}
use Rattle.std.specs.List.Sorted.{IsStrictlySortedBy}
use Rattle.json.proofs.Printed.Utf8.{are_ascii, IsUtf8-are_ascii}
use Rattle.serde_json.specs.Data.{Data, string, array, object, Items, no_items, item, Members, no_members, member, depth, items_depth, members_depth}
use Rattle.serde_json.specs.View.{items_of}
use Rattle.covjson_value.specs.Trees.{member_if, item_if, array_of, array_if_some, members_in_order, integer}
use Rattle.covjson_value.specs.Plain.{AreAbove, IsPlain, ArePlain, IsOrdered}

-- plain, and no deeper than n
pub record IsWithin (n : ℕ) (d : Data) : Type 0 where
  pub plain : IsPlain d
  pub shallow : depth d ≤ n

pub record AreWithin (n : ℕ) (ds : Items) : Type 0 where
  pub plain : ArePlain ds
  pub shallow : items_depth ds ≤ n

-- the same of members, with names above one
pub record AreAboveWithin (n : ℕ) (low : List ℕ) (ms : Members) : Type 0 where
  pub ordered : IsOrdered ms
  pub above : AreAbove low ms
  pub shallow : members_depth ms ≤ n

-- ---- leaves

pub text_within : (n : ℕ) (text : List ℕ) → IsUtf8 text → IsWithin n (string text)
text_within n text h = record { plain = h; shallow = omega arith }

pub word_within : (n : ℕ) (text : List ℕ) → are_ascii text ≡ true → IsWithin n (string text)
word_within n text h = text_within n text (IsUtf8-are_ascii text h)

pub integer_within : (n : ℕ) (value : ℤ) → unsigned_abs value < 2 ^ 63 → IsWithin n (integer value)
integer_within n (pos m) h = record { plain = omega (arith, h); shallow = omega arith }
integer_within n (negsuc m) h = record { plain = omega (arith, h); shallow = omega arith }

pub count_within : (n count : ℕ) → count < 2 ^ 64 → IsWithin n (integer (pos count))
count_within n count h = record { plain = h; shallow = omega arith }

-- what is within a depth is within a greater one
pub within_more : (n more : ℕ) (d : Data) → n ≤ more → IsWithin n d → IsWithin more d
within_more n more d less h = record { plain = h.plain; shallow = omega (arith, h.shallow, less) }

-- ---- arrays

pub array_within : (n : ℕ) (ds : Items) → AreWithin n ds → IsWithin (suc n) (array ds)
array_within n ds h = record { plain = h.plain; shallow = omega (arith, h.shallow) }

pub none_within : (n : ℕ) → AreWithin n no_items
none_within n = record { plain = tt; shallow = omega arith }

pub item_within : (n : ℕ) (d : Data) (ds : Items) → IsWithin n d → AreWithin n ds → AreWithin n (item d ds)
item_within n d ds h hs = record { plain = (h.plain, hs.plain); shallow = omega (arith, h.shallow, hs.shallow) }

pub item_if_within : (n : ℕ) (test : Bool) (d : Data) (ds : Items) → IsWithin n d → AreWithin n ds → AreWithin n (item_if test d ds)
item_if_within n false d ds h hs = hs
item_if_within n true d ds h hs = item_within n d ds h hs

module _ {V : Type 0} (n : ℕ) (P : V → Type 0) (data_of : V → Data) (each : (v : V) → P v → IsWithin n (data_of v)) where
  items_within : (vs : List V) → All P vs → AreWithin n (items_of (map data_of vs))
  items_within [] h = none_within n
  items_within (v ∷ vs) h = item_within n (data_of v) (items_of (map data_of vs)) (each v (All-head P v vs h)) (items_within vs (All-tail P v vs h))

  pub array_of_within : (vs : List V) → All P vs → IsWithin (suc n) (array_of data_of vs)
  array_of_within vs h = array_within n (items_of (map data_of vs)) (items_within vs h)

  pub array_if_some_within : (vs : List V) → All P vs → IfSome (array_if_some (map data_of vs)) (IsWithin (suc n))
  array_if_some_within [] h = tt
  array_if_some_within (v ∷ vs) h = array_of_within (v ∷ vs) h

-- ---- objects

pub object_within : (n : ℕ) (ms : Members) → AreAboveWithin n [] ms → IsWithin (suc n) (object ms)
object_within n ms h = record { plain = h.ordered; shallow = omega (arith, h.shallow) }

pub no_members_within : (n : ℕ) (low : List ℕ) → AreAboveWithin n low no_members
no_members_within n low = record { ordered = tt; above = tt; shallow = omega arith }

flip : (k l : List ℕ) (o : Ordering) → slice_cmp nat_cmp k l ≡ o → slice_cmp nat_cmp l k ≡ ordering_reverse o
flip k l o e = nat_list_cmp_total.antisymm l k ∙ ap ordering_reverse e

above_above : (high key low : List ℕ) → slice_cmp nat_cmp high key ≡ Greater → slice_cmp nat_cmp key low ≡ Greater → slice_cmp nat_cmp high low ≡ Greater
above_above high key low a b = flip low high Less (nat_list_cmp_total.trans low key high (flip key low Greater b) (flip high key Greater a))

AreAbove-lower : (low key : List ℕ) (ms : Members) → slice_cmp nat_cmp key low ≡ Greater → AreAbove key ms → AreAbove low ms
AreAbove-lower low key no_members h above = tt
AreAbove-lower low key (member high d ms) h above = (above_above high key low above.0 h, AreAbove-lower low key ms h above.1)

-- a member before those above it
pub member_within : (n : ℕ) (low key : List ℕ) (d : Data) (ms : Members) → IsUtf8 key → slice_cmp nat_cmp key low ≡ Greater → IsWithin n d → AreAboveWithin n key ms → AreAboveWithin n low (member key d ms)
member_within n low key d ms u up h hs =
    record { ordered = (u, h.plain, hs.above, hs.ordered); above = (up, AreAbove-lower low key ms up hs.above); shallow = omega (arith, h.shallow, hs.shallow) }

-- the same for a name of ASCII
pub named_within : (n : ℕ) (low key : List ℕ) (d : Data) (ms : Members) → are_ascii key ≡ true → slice_cmp nat_cmp key low ≡ Greater → IsWithin n d → AreAboveWithin n key ms → AreAboveWithin n low (member key d ms)
named_within n low key d ms ascii up h hs = member_within n low key d ms (IsUtf8-are_ascii key ascii) up h hs

pub member_if_within : (n : ℕ) (low key : List ℕ) (given : Option Data) (ms : Members) → are_ascii key ≡ true → slice_cmp nat_cmp key low ≡ Greater → IfSome given (IsWithin n) → AreAboveWithin n key ms
    → AreAboveWithin n low (member_if key given ms)
member_if_within n low key None ms ascii up h hs = record { ordered = hs.ordered; above = AreAbove-lower low key ms up hs.above; shallow = hs.shallow }
member_if_within n low key (Some d) ms ascii up h hs = named_within n low key d ms ascii up h hs

-- an object by its first member
pub first_within : (n : ℕ) (key : List ℕ) (d : Data) (ms : Members) → IsUtf8 key → IsWithin n d → AreAboveWithin n key ms → IsWithin (suc n) (object (member key d ms))
first_within n key d ms u h hs = record { plain = (u, h.plain, hs.above, hs.ordered); shallow = omega (arith, h.shallow, hs.shallow) }

-- an object of one member
pub alone_within : (n : ℕ) (key : List ℕ) (d : Data) → IsUtf8 key → IsWithin n d → IsWithin (suc n) (object (member key d no_members))
alone_within n key d u h = first_within n key d no_members u h (no_members_within n key)

-- ---- objects of many members

abbrev Below : List ℕ → List ℕ → Type 0
Below low key = slice_cmp nat_cmp low key ≡ Less

zip_above : (n : ℕ) (low : List ℕ) (keys : List (List ℕ)) (ds : List Data) → AllByRecursion (Below low) keys → IsStrictlySortedBy (slice_cmp nat_cmp) keys → All IsUtf8 keys → All (IsWithin n) ds
    → AreAboveWithin n low (members_in_order (zip keys ds))
unfolding IsStrictlySortedBy
zip_above n low [] ds below sorted us hs = no_members_within n low
zip_above n low (key ∷ keys) [] below sorted us hs = no_members_within n low
zip_above n low (key ∷ keys) (d ∷ ds) below sorted us hs =
    member_within n low key d (members_in_order (zip keys ds)) (All-head IsUtf8 key keys us) (flip low key Less below.0) (All-head (IsWithin n) d ds hs)
    (zip_above n key keys ds sorted.0 sorted.1 (All-tail IsUtf8 key keys us) (All-tail (IsWithin n) d ds hs))

-- an object whose names ascend
pub zip_within : (n : ℕ) (keys : List (List ℕ)) (ds : List Data) → IsStrictlySortedBy (slice_cmp nat_cmp) keys → All IsUtf8 keys → All (IsWithin n) ds → IsWithin (suc n) (object (members_in_order (zip keys ds)))
unfolding IsStrictlySortedBy
zip_within n [] ds sorted us hs = object_within n no_members (no_members_within n [])
zip_within n (key ∷ keys) [] sorted us hs = object_within n no_members (no_members_within n [])
zip_within n (key ∷ keys) (d ∷ ds) sorted us hs =
    first_within n key d (members_in_order (zip keys ds)) (All-head IsUtf8 key keys us) (All-head (IsWithin n) d ds hs)
    (zip_above n key keys ds sorted.0 sorted.1 (All-tail IsUtf8 key keys us) (All-tail (IsWithin n) d ds hs))
