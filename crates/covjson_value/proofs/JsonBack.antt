-- The text of plain JSON is UTF-8, and is read back as what was written.
use Rattle.std.proofs.Common.{◌≡◌, ℕ, suc, ◌≤◌, pos, negsuc, List, [], ◌∷◌, Bool, true, false, max, Option, Some, Greater, refl, sym, ap, ap₂, ◌∙◌, arith, append-nil, IsUtf8, option_and_then, option_map}
use Rattle.std.specs.Prelude.{⊤}
use Rattle.std.specs.Ordering.{nat_cmp}
use Rattle.std.specs.Cmp.Lexicographic.{slice_cmp}
use Rattle.json.specs.Token.{Token}
use Rattle.json.specs.Lex.{tokens}
use Rattle.json.specs.Json as json
use Rattle.json.specs.Tree as tree
use Rattle.json.specs.Print.{quoted}
use Rattle.json.proofs.Printed.Utf8.{IsUtf8-are_ascii, IsUtf8-quoted, IsUtf8-boolean}
use Rattle.std.proofs.lemmas.Str.{IsUtf8-from_ascii, IsUtf8-nil, IsUtf8-append}
use Rattle.std.proofs.lemmas.Fmt.{IsAscii-decimal, IsAscii-signed}
use Rattle.json.proofs.Printed.Trees.{value-json_tokens, ArePrintable-json_tokens}
use Rattle.json.proofs.Printed.Tokens.{tokens-print}
use Rattle.json.proofs.Printed.Decimals.{IsNumber-decimal, IsNumber-signed_decimal}
use Rattle.serde_json.specs.Data.{Num, unsigned, negative, float, Data, null, boolean, number, string, array, object, Items, no_items, item, Members, no_members, member, put, depth, items_depth, members_depth}
use Rattle.serde_json.specs.Read.{read, max_depth, number_of, of_json, of_items, of_members}
use Rattle.serde_json.specs.Written.{outline, items_outline, members_outline, compact_text, items_text, members_text, comma_if, number_text}
use Rattle.serde_json.proofs.Texts.{print-outline}
use Rattle.serde_json.proofs.Numbers.{number_of-decimal, number_of-negative}
use Rattle.covjson_value.specs.Plain.{IsWhole, AreAbove, IsPlain, ArePlain, IsOrdered}

-- ---- members that were read, and those that follow

abbrev joined : Members → Members → Members
joined no_members ms = ms
joined (member k d ls) ms = member k d (joined ls ms)

joined-none : (ms : Members) → joined ms no_members ≡ ms
joined-none no_members = refl
joined-none (member k d ms) = ap (member k d) (joined-none ms)

joined-later : (found : Members) (k : List ℕ) (d : Data) (ms : Members) → joined (joined found (member k d no_members)) ms ≡ joined found (member k d ms)
joined-later no_members k d ms = refl
joined-later (member l e found) k d ms = ap (member l e) (joined-later found k d ms)

-- the name is above each that was found
abbrev IsPast : List ℕ → Members → Type 0
IsPast k no_members = ⊤
IsPast k (member l d ms) = (slice_cmp nat_cmp k l ≡ Greater) × IsPast k ms

abbrev ArePast : Members → Members → Type 0
ArePast found no_members = ⊤
ArePast found (member k d ms) = IsPast k found × ArePast found ms

put_past : (k : List ℕ) (d : Data) (found : Members) → IsPast k found → put k d found ≡ joined found (member k d no_members)
put_past k d no_members h = refl
put_past k d (member l e found) h = rw h.0 (ap (member l e) (put_past k d found h.1))

IsPast-joined : (q k : List ℕ) (d : Data) (found : Members) → IsPast q found → slice_cmp nat_cmp q k ≡ Greater → IsPast q (joined found (member k d no_members))
IsPast-joined q k d no_members h above = (above, tt)
IsPast-joined q k d (member l e found) h above = (h.0, IsPast-joined q k d found h.1 above)

ArePast-joined : (found : Members) (k : List ℕ) (d : Data) (ms : Members) → ArePast found ms → AreAbove k ms → ArePast (joined found (member k d no_members)) ms
ArePast-joined found k d no_members h above = tt
ArePast-joined found k d (member l e ms) h above = (IsPast-joined l k d found h.0 above.0, ArePast-joined found k d ms h.1 above.1)

none_past : (ms : Members) → ArePast no_members ms
none_past no_members = tt
none_past (member k d ms) = (tt, none_past ms)

-- ---- what an outline is read as

number_back : (n : Num) → IsWhole n → number_of (number_text n) ≡ Some n
number_back (unsigned n) h = number_of-decimal n h
number_back (negative (pos n)) h = absurd h
number_back (negative (negsuc n)) h = number_of-negative n h
number_back (float x) h = absurd h

mutual
  back : (d : Data) → IsPlain d → of_json (outline d) ≡ Some d
  back null h = refl
  back (boolean b) h = refl
  back (number n) h = ap (option_map number) (number_back n h)
  back (string s) h = refl
  back (array ds) h = ap (option_map array) (items_back ds h)
  back (object ms) h = ap (option_map object) (members_back ms no_members h (none_past ms))

  items_back : (ds : Items) → ArePlain ds → of_items (items_outline ds) ≡ Some ds
  items_back no_items h = refl
  items_back (item d ds) h = rw (back d h.0, items_back ds h.1)

  members_back : (ms found : Members) → IsOrdered ms → ArePast found ms → of_members (members_outline ms) found ≡ Some (joined found ms)
  members_back no_members found h past = ap Some (sym (joined-none found))
  members_back (member k d ms) found h past =
      ap (option_and_then (λ e. of_members (members_outline ms) (put k e found))) (back d h.1)
      ∙ ap (of_members (members_outline ms)) (put_past k d found past.0)
      ∙ members_back ms (joined found (member k d no_members)) h.3 (ArePast-joined found k d ms past.1 h.2)
      ∙ ap Some (joined-later found k d ms)

-- ---- its depth and its numbers

mutual
  depth-outline : (d : Data) → tree.depth (outline d) ≡ depth d
  depth-outline null = refl
  depth-outline (boolean b) = refl
  depth-outline (number n) = refl
  depth-outline (string s) = refl
  depth-outline (array ds) = ap suc (items_depth-outline ds)
  depth-outline (object ms) = ap suc (members_depth-outline ms)

  items_depth-outline : (ds : Items) → tree.items_depth (items_outline ds) ≡ items_depth ds
  items_depth-outline no_items = refl
  items_depth-outline (item d ds) = ap₂ max (depth-outline d) (items_depth-outline ds)

  members_depth-outline : (ms : Members) → tree.members_depth (members_outline ms) ≡ members_depth ms
  members_depth-outline no_members = refl
  members_depth-outline (member k d ms) = ap₂ max (depth-outline d) (members_depth-outline ms)

number_numbers : (n : Num) → IsWhole n → tree.HasNumbers (json.number (number_text n))
number_numbers (unsigned n) h = IsNumber-decimal n h
number_numbers (negative (pos n)) h = absurd h
number_numbers (negative (negsuc n)) h = IsNumber-signed_decimal (negsuc n) h
number_numbers (float x) h = absurd h

mutual
  numbers-outline : (d : Data) → IsPlain d → tree.HasNumbers (outline d)
  numbers-outline null h = tt
  numbers-outline (boolean b) h = tt
  numbers-outline (number n) h = number_numbers n h
  numbers-outline (string s) h = tt
  numbers-outline (array ds) h = items_numbers-outline ds h
  numbers-outline (object ms) h = members_numbers-outline ms h

  items_numbers-outline : (ds : Items) → ArePlain ds → tree.ItemsHaveNumbers (items_outline ds)
  items_numbers-outline no_items h = tt
  items_numbers-outline (item d ds) h = (numbers-outline d h.0, items_numbers-outline ds h.1)

  members_numbers-outline : (ms : Members) → IsOrdered ms → tree.MembersHaveNumbers (members_outline ms)
  members_numbers-outline no_members h = tt
  members_numbers-outline (member k d ms) h = (numbers-outline d h.1, members_numbers-outline ms h.3)

-- the text of a value, read
abbrev finish : Option (json.Json × List Token) → Option Data
finish o = option_and_then of_json (option_and_then (λ p. json.if_last p.0 p.1) o)

pub read-compact_text : (d : Data) → IsPlain d → depth d ≤ max_depth → read (compact_text d) ≡ Some d
read-compact_text d h shallow =
    let ts = tree.json_tokens (outline d) in
    let same : tokens (compact_text d) ≡ ts = ap tokens (sym (print-outline d)) ∙ tokens-print ts (ArePrintable-json_tokens (outline d) (numbers-outline d h)) in
    ap finish (ap (json.value max_depth) (same ∙ sym (append-nil ts)) ∙ value-json_tokens (outline d) max_depth [] (omega (arith, depth-outline d)))
    ∙ back d h

-- ---- the text is UTF-8

number_utf8 : (n : Num) → IsWhole n → IsUtf8 (number_text n)
number_utf8 (unsigned n) h = IsUtf8-from_ascii _ (IsAscii-decimal n h)
number_utf8 (negative (pos n)) h = absurd h
number_utf8 (negative (negsuc n)) h = IsUtf8-from_ascii _ (IsAscii-signed (negsuc n) h)
number_utf8 (float x) h = absurd h

comma_utf8 : (later : Bool) → IsUtf8 (comma_if later)
comma_utf8 true = IsUtf8-are_ascii (44 ∷ []) refl
comma_utf8 false = IsUtf8-nil

mutual
  pub IsUtf8-compact_text : (d : Data) → IsPlain d → IsUtf8 (compact_text d)
  IsUtf8-compact_text null h = IsUtf8-are_ascii _ refl
  IsUtf8-compact_text (boolean b) h = IsUtf8-boolean b
  IsUtf8-compact_text (number n) h = number_utf8 n h
  IsUtf8-compact_text (string s) h = IsUtf8-quoted s h
  IsUtf8-compact_text (array ds) h = IsUtf8-append (91 ∷ []) _ (IsUtf8-are_ascii (91 ∷ []) refl) (IsUtf8-items false ds h)
  IsUtf8-compact_text (object ms) h = IsUtf8-append (123 ∷ []) _ (IsUtf8-are_ascii (123 ∷ []) refl) (IsUtf8-members false ms h)

  IsUtf8-items : (later : Bool) (ds : Items) → ArePlain ds → IsUtf8 (items_text later ds)
  IsUtf8-items later no_items h = IsUtf8-are_ascii (93 ∷ []) refl
  IsUtf8-items later (item d ds) h = IsUtf8-append _ _ (comma_utf8 later) (IsUtf8-append _ _ (IsUtf8-compact_text d h.0) (IsUtf8-items true ds h.1))

  IsUtf8-members : (later : Bool) (ms : Members) → IsOrdered ms → IsUtf8 (members_text later ms)
  IsUtf8-members later no_members h = IsUtf8-are_ascii (125 ∷ []) refl
  IsUtf8-members later (member k d ms) h =
      IsUtf8-append _ _ (comma_utf8 later) (IsUtf8-append (quoted k) _ (IsUtf8-quoted k h.0) (IsUtf8-append (58 ∷ []) _ (IsUtf8-are_ascii (58 ∷ []) refl)
      (IsUtf8-append _ _ (IsUtf8-compact_text d h.1) (IsUtf8-members true ms h.3))))
