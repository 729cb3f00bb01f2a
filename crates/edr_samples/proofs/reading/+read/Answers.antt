use Rattle.std.proofs.Common.{◌≡◌, ℕ, List, ◌-◌, ◌<◌, [], ◌∷◌, ◌++◌, length, map, Some, None, string_bytes, sym, ap, ap₂, ◌∙◌, arith, rules}
use Rattle.std.proofs.lemmas.List.{map-append}
use Rattle.json.specs.Token.{Token}
use Rattle.json.specs.Json.{parse_map, after_end_array, read_key, items, members, value}
use Rattle.json.specs.Reads.{token_of}
use Rattle.json.specs.declared.token.Token.{Token as TokenOf}
use Rattle.json.specs.declared.token.Token.TheVariants.{BeginArray}
use Rattle.json.proofs.Grammar.{value_is, value-begin_array, value-begin_object, read_key-shorter}
use Rattle.serde_json.specs.Data.{null, boolean, number, string, array, object, put}
use Rattle.serde_json.specs.Read.{of_json, of_items, of_members, converted}
use Rattle.serde_json.specs.View.{number_view}
use Rattle.edr_samples.proofs.Turns.{converted-array, converted-object, item_read, item_refused, items_over, member_read, member_refused, key_refused, members_over}
use Rattle.edr_samples.specs.Tokens.{sample_data}
use Rattle.edr_samples.specs.Codes.{sample_of}
use Rattle.edr_samples.specs.Trees.{tree_view, members_view}
use Rattle.edr_samples.specs.Turns.{items_onto}
use Rattle.edr_samples.specs.declared.trees.Tree.{Text, Number, Bool, Null, the_lemmas}
use Rattle.edr_samples.proofs.Lists.{view-Samples, view-Object, items_onto-no_items, one_more_item, none_mapped, sample_read, members_view-insert_entry}
use Rattle.edr_samples.proofs.reading.+read.Goals as goal

pub next_tree-returns-in_default-clause-not_json : goal.next_tree-returns-in_default-clause-not_json
next_tree-returns-in_default-clause-not_json t c refused =
    let empty : c.args.reader.now ≡ [] = grind arith in
    ap (converted of_json) (ap (value c.args.depth) empty ∙ value_is c.args.depth [])

-- ---- a value whose first token was taken

pub tree_from-returns-then-depth-eq0-clause-not_json : goal.tree_from-returns-then-depth-eq0-clause-not_json
unfolding value
tree_from-returns-then-depth-eq0-clause-not_json t c never =
    let none : c.args.depth ≡ 0 = omega arith in
    ap (converted of_json) (ap₂ value none (ap (λ k. token_of k ∷ c.args.reader.now) c.in-BeginArray.is))

pub tree_from-returns-then-depth-eq0-2-clause-not_json : goal.tree_from-returns-then-depth-eq0-2-clause-not_json
unfolding value
tree_from-returns-then-depth-eq0-2-clause-not_json t c never =
    let none : c.args.depth ≡ 0 = omega arith in
    ap (converted of_json) (ap₂ value none (ap (λ k. token_of k ∷ c.args.reader.now) c.in-BeginObject.is))

pub tree_from-returns-in_err-members_from-in-BeginObject-clause-not_json : goal.tree_from-returns-in_err-members_from-in-BeginObject-clause-not_json
tree_from-returns-in_err-members_from-in-BeginObject-clause-not_json t c refused =
    let ts = c.args.reader.now in
    let opened = ap (converted of_json) (ap (λ k. value c.args.depth (token_of k ∷ ts)) c.in-BeginObject.is ∙ value-begin_object c.args.depth ts (omega arith)) ∙ converted-object (members (value (c.args.depth - 1)) (length ts) ts) in
    opened ∙ ap (parse_map object) (c.members_from.ensures.not_json (grind arith))

pub tree_from-returns-in_ok-from_str-in-String-clause-ok : goal.tree_from-returns-in_ok-from_str-in-String-clause-ok
tree_from-returns-in_ok-from_str-in-String-clause-ok t c =
    let text = c.in_ok-from_str-in-String.field-0 in
    let seen : tree_view (Text text) ≡ string c.in-String.text.now = search (rules, the_lemmas) in
    ap (converted of_json) (ap (λ k. value c.args.depth (token_of k ∷ c.args.reader.now)) c.in-String.is ∙ value_is c.args.depth _) ∙ ap (λ d. Some (d, c.args.reader.now)) (sym seen)

pub tree_from-returns-in-Some-clause-ok : goal.tree_from-returns-in-Some-clause-ok
tree_from-returns-in-Some-clause-ok t c =
    let seen : tree_view (Number c.in-Some.number) ≡ number (number_view c.in-Some.number) = search (rules, the_lemmas) in
    ap (converted of_json) (ap (λ k. value c.args.depth (token_of k ∷ c.args.reader.now)) c.in-Number.is ∙ value_is c.args.depth _) ∙ rw (← c.in-Some.ensures, seen)

pub tree_from-returns-in-None-clause-not_json : goal.tree_from-returns-in-None-clause-not_json
tree_from-returns-in-None-clause-not_json t c refused =
    ap (converted of_json) (ap (λ k. value c.args.depth (token_of k ∷ c.args.reader.now)) c.in-Number.is ∙ value_is c.args.depth _) ∙ rw (← c.in-None.ensures)

pub tree_from-returns-in-Bool-clause-ok : goal.tree_from-returns-in-Bool-clause-ok
tree_from-returns-in-Bool-clause-ok t c =
    let seen : tree_view (Bool c.in-Bool.b) ≡ boolean c.in-Bool.b = search (rules, the_lemmas) in
    ap (converted of_json) (ap (λ k. value c.args.depth (token_of k ∷ c.args.reader.now)) c.in-Bool.is ∙ value_is c.args.depth _) ∙ ap (λ d. Some (d, c.args.reader.now)) (sym seen)

pub tree_from-returns-in-Null-clause-ok : goal.tree_from-returns-in-Null-clause-ok
tree_from-returns-in-Null-clause-ok t c =
    let seen : tree_view Null ≡ null = search (rules, the_lemmas) in
    ap (converted of_json) (ap (λ k. value c.args.depth (token_of k ∷ c.args.reader.now)) c.in-Null.is ∙ value_is c.args.depth _) ∙ ap (λ d. Some (d, c.args.reader.now)) (sym seen)

pub tree_from-returns-in-EndObject-clause-not_json : goal.tree_from-returns-in-EndObject-clause-not_json
tree_from-returns-in-EndObject-clause-not_json t c refused =
    let none : value c.args.depth (token_of c.args.token ∷ c.args.reader.now) ≡ None = rw (value_is c.args.depth (token_of c.args.token ∷ c.args.reader.now)) (grind (arith, c.in-EndObject.is)) in
    ap (converted of_json) none

opened_list : (depth : ℕ) (token : TokenOf) (ts : List Token) → (depth ≡ 0 → ⊥) → token ≡ BeginArray
    → converted of_json (value depth (token_of token ∷ ts)) ≡ parse_map array (converted of_items (items (value (depth - 1)) (length ts) ts))
opened_list depth token ts some is =
    ap (converted of_json) (ap (λ k. value depth (token_of k ∷ ts)) is ∙ value-begin_array depth ts (omega (arith, some))) ∙ converted-array (items (value (depth - 1)) (length ts) ts)

pub tree_from-returns-else-depth-eq0-clause-ok : goal.tree_from-returns-else-depth-eq0-clause-ok
tree_from-returns-else-depth-eq0-clause-ok t c =
    let opened = opened_list c.args.depth c.args.token c.args.reader.now c.if-depth-eq0.false c.in-BeginArray.is in
    rw (← opened) at c.list_from.ensures.ok

pub tree_from-returns-else-depth-eq0-clause-not_json : goal.tree_from-returns-else-depth-eq0-clause-not_json
tree_from-returns-else-depth-eq0-clause-not_json t c refused =
    opened_list c.args.depth c.args.token c.args.reader.now c.if-depth-eq0.false c.in-BeginArray.is ∙ ap (parse_map array) (c.list_from.ensures.not_json refused)

pub tree_from-returns-in_ok-members_from-in-BeginObject-clause-ok : goal.tree_from-returns-in_ok-members_from-in-BeginObject-clause-ok
tree_from-returns-in_ok-members_from-in-BeginObject-clause-ok t c =
    let ts = c.args.reader.now in
    let opened = ap (converted of_json) (ap (λ k. value c.args.depth (token_of k ∷ ts)) c.in-BeginObject.is ∙ value-begin_object c.args.depth ts (omega arith)) ∙ converted-object (members (value (c.args.depth - 1)) (length ts) ts) in
    let found = c.in_ok-members_from-in-BeginObject in
    opened ∙ ap (parse_map object) found.ensures.ok ∙ ap (λ d. Some (d, c.members_from.new.reader)) (sym (view-Object found.field-0))

-- ---- a list

pub list_from-returns-in_default-clause-not_json : goal.list_from-returns-in_default-clause-not_json
list_from-returns-in_default-clause-not_json t c refused =
    let p = value c.args.depth in
    let l = c.samples in
    let going : (after_end_array l.reader ≡ None) × (c.take_end_array.new.self ≡ l.reader) = grind arith in
    let empty : l.reader ≡ [] = sym going.1 ∙ grind arith in
    let none : converted of_json (p l.reader) ≡ None = ap (λ ts. converted of_json (p ts)) empty ∙ ap (converted of_json) (value_is c.args.depth []) in
    l.invariant.2 ∙ ap (parse_map (items_onto (map sample_data l.samples))) (item_refused p l.invariant.0 l.reader going.0 none)

pub list_from-samples-preserved : goal.list_from-samples-preserved
list_from-samples-preserved t c =
    let p = value c.args.depth in
    let l = c.samples in
    let n = l.invariant.0 in
    let before = map sample_data l.samples in
    let going : (after_end_array l.reader ≡ None) × (c.take_end_array.new.self ≡ l.reader) = grind arith in
    let x = sample_of c.in-Some-code_in.code in
    let r = c.next.new.self in
    let taken : l.reader ≡ token_of c.in-Some.token ∷ r = sym going.1 ∙ search rules in
    let less : length r < length l.reader = rw taken (omega arith) in
    let read : converted of_json (p l.reader) ≡ Some (sample_data x, r) = ap (λ ts. converted of_json (p ts)) taken ∙ sample_read c.args.depth (token_of c.in-Some.token) x r c.in-Some-code_in.ensures in
    let turn = item_read p n l.reader r (sample_data x) (omega (arith, l.invariant.1)) going.0 read in
    let added : c.push.new.self ≡ l.samples ++ x ∷ [] = search rules in
    let pushed : map sample_data c.push.new.self ≡ before ++ sample_data x ∷ [] = ap (map sample_data) added ∙ map-append sample_data l.samples _ in (
      n - 1,
      omega (arith, l.invariant.1),
      l.invariant.2 ∙ ap (parse_map (items_onto before)) turn ∙ one_more_item before (sample_data x) _
          ∙ ap (λ ds. parse_map (items_onto ds) (converted of_items (items p (n - 1) r))) (sym pushed),
      omega (arith, l.invariant.3),
    )

pub list_from-returns-clause-ok : goal.list_from-returns-clause-ok
list_from-returns-clause-ok t c =
    let p = value c.args.depth in
    let l = c.samples in
    let r = c.take_end_array.new.self in
    ap (parse_map array) (l.invariant.2 ∙ ap (parse_map (items_onto (map sample_data l.samples))) (items_over p l.invariant.0 l.reader r l.invariant.1 (grind arith)))
    ∙ ap (λ ds. Some (array ds, r)) (items_onto-no_items (map sample_data l.samples))
    ∙ ap (λ d. Some (d, r)) (sym (view-Samples l.samples))

-- ---- a list that isn't packed

pub mixed_from-returns-in_err-first-clause-not_json : goal.mixed_from-returns-in_err-first-clause-not_json
mixed_from-returns-in_err-first-clause-not_json t c refused n enough =
    let p = value c.args.depth in
    let ts = token_of c.args.token ∷ c.args.reader.now in
    item_refused p n ts (c.requires c.args.reader.now) (c.first_from.ensures.not_json (grind arith))

pub mixed_from-items-init : goal.mixed_from-items-init
mixed_from-items-init t c =
    let p = value c.args.depth in
    let before = map sample_data c.args.samples.now in
    let ts = token_of c.args.token ∷ c.args.reader.now in
    let first = c.in_ok-first.first in
    let done = c.in_ok-first.ensures in
    let r = c.first_from.new.reader in
    let pushed : map tree_view c.push.new.self.items ≡ before ++ tree_view first ∷ [] =
    ap (map tree_view) c.in_ok-push.ensures.items ∙ map-append tree_view c.in_ok-found.found.items _ ∙ ap (λ ds. ds ++ tree_view first ∷ []) (c.in_ok-found.ensures ∙ ap (map sample_data) c.codes.ensures) in (
      done.shorter,
      λ n enough. (
        n - 1,
        omega (arith, done.shorter, enough),
        ap (parse_map (items_onto before)) (item_read p n ts r (tree_view first) (omega (arith, enough)) (c.requires c.args.reader.now) done.ok)
            ∙ one_more_item before (tree_view first) _
            ∙ ap (λ ds. parse_map (items_onto ds) (converted of_items (items p (n - 1) r))) (sym pushed),
      ),
    )

pub mixed_from-returns-in_err-item-clause-not_json : goal.mixed_from-returns-in_err-item-clause-not_json
mixed_from-returns-in_err-item-clause-not_json t c refused n enough =
    let p = value c.args.depth in
    let l = c.items in
    let i = l.invariant.1 n enough in
    let going : (after_end_array l.reader ≡ None) × (c.take_end_array.new.self ≡ l.reader) = grind arith in
    let none = item_refused p i.0 l.reader going.0 (rw (← going.1) (c.next_tree.ensures.not_json (grind arith))) in
    none_mapped (items_onto (map sample_data c.args.samples.now)) _ (i.2 ∙ ap (parse_map (items_onto (map tree_view l.found.items))) none)

pub mixed_from-items-preserved : goal.mixed_from-items-preserved
mixed_from-items-preserved t c =
    let p = value c.args.depth in
    let l = c.items in
    let before = map tree_view l.found.items in
    let going : (after_end_array l.reader ≡ None) × (c.take_end_array.new.self ≡ l.reader) = grind arith in
    let done = c.in_ok-item.ensures in
    let v = c.in_ok-item.item in
    let r = c.next_tree.new.reader in
    let less : length r < length l.reader = rw (← going.1) done.shorter in
    let pushed : map tree_view c.push-in-items.new.self.items ≡ before ++ tree_view v ∷ [] = ap (map tree_view) c.in_ok-push-2.ensures.items ∙ map-append tree_view l.found.items _ in (
      omega (arith, l.invariant.0),
      λ n enough.
          let i = l.invariant.1 n enough in (
            i.0 - 1,
            omega (arith, i.1),
            i.2 ∙ ap (parse_map (items_onto before)) (item_read p i.0 l.reader r (tree_view v) (omega (arith, i.1)) going.0 (rw (← going.1) done.ok))
                ∙ one_more_item before (tree_view v) _
                ∙ ap (λ ds. parse_map (items_onto ds) (converted of_items (items p (i.0 - 1) r))) (sym pushed),
          ),
    )

pub mixed_from-returns-clause-ok : goal.mixed_from-returns-clause-ok
mixed_from-returns-clause-ok t c n enough =
    let p = value c.args.depth in
    let l = c.items in
    let i = l.invariant.1 n enough in
    let r = c.take_end_array.new.self in
    i.2 ∙ ap (parse_map (items_onto (map tree_view l.found.items))) (items_over p i.0 l.reader r i.1 (grind arith))
    ∙ ap (λ ds. Some (ds, r)) (items_onto-no_items (map tree_view l.found.items))

-- ---- an object

pub members_from-members-init : goal.members_from-members-init
members_from-members-init t c =
    let all = members (value c.args.depth) (length c.args.reader.now) c.args.reader.now in
    (length c.args.reader.now, omega arith, ap (λ es. converted (λ ms. of_members ms (members_view es)) all) (sym c.new-found.ensures.empty), omega arith)

pub members_from-returns-in_err-name-clause-not_json : goal.members_from-returns-in_err-name-clause-not_json
members_from-returns-in_err-name-clause-not_json t c refused =
    let p = value c.args.depth in
    let l = c.members in
    l.invariant.2 ∙ key_refused p (members_view l.found.entries) l.invariant.0 l.reader c.in_err-name.ensures.1

pub members_from-returns-in_err-member-clause-not_json : goal.members_from-returns-in_err-member-clause-not_json
members_from-returns-in_err-member-clause-not_json t c refused =
    let p = value c.args.depth in
    let l = c.members in
    let k = c.in-Some.name.now in
    let s = c.next_name.new.reader in
    let named : read_key l.reader ≡ Some (Some k, s) = grind arith in
    l.invariant.2 ∙ member_refused p (members_view l.found.entries) l.invariant.0 k l.reader s named (c.next_tree.ensures.not_json (grind arith))

pub members_from-members-preserved : goal.members_from-members-preserved
members_from-members-preserved t c =
    let p = value c.args.depth in
    let l = c.members in
    let n = l.invariant.0 in
    let old = members_view l.found.entries in
    let k = c.in-Some.name.now in
    let s = c.next_name.new.reader in
    let named : read_key l.reader ≡ Some (Some k, s) = grind arith in
    let done = c.in_ok-member.ensures in
    let v = c.in_ok-member.member in
    let r = c.next_tree.new.reader in
    let less = read_key-shorter l.reader (Some k) s named in
    let lesser = done.shorter in
    let copied : string_bytes c.in_ok-key.key ≡ k = search rules in
    let inserted : members_view c.insert.new.self.entries ≡ put k (tree_view v) old =
    ap members_view c.in_ok-insert.ensures.entries ∙ members_view-insert_entry l.found.entries c.in_ok-key.key v ∙ ap (λ name. put name (tree_view v) old) copied in (
      n - 1,
      omega (arith, l.invariant.1),
      l.invariant.2 ∙ member_read p old n k l.reader s r (tree_view v) (omega (arith, l.invariant.1)) named done.ok
          ∙ ap (λ found. converted (λ ms. of_members ms found) (members p (n - 1) r)) (sym inserted),
      omega (arith, l.invariant.3),
    )

pub members_from-returns-clause-ok : goal.members_from-returns-clause-ok
members_from-returns-clause-ok t c =
    let p = value c.args.depth in
    let l = c.members in
    l.invariant.2 ∙ members_over p (members_view l.found.entries) l.invariant.0 l.reader c.next_name.new.reader l.invariant.1 (grind arith)
