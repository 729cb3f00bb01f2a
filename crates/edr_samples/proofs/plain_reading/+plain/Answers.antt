use Rattle.std.proofs.Common.{◌≡◌, ◌-◌, ◌<◌, [], ◌∷◌, ◌++◌, length, map, Some, None, string_bytes, sym, ap, ◌∙◌, arith, rules}
use Rattle.std.proofs.lemmas.List.{map-append}
use Rattle.json.specs.Token.{begin_array, begin_object, end_array}
use Rattle.json.specs.Json.{parse_map, after_end_array, read_key, items, members, value}
use Rattle.json.proofs.Grammar.{value-begin_array, value-begin_object, read_key-shorter}
use Rattle.serde_json.specs.Data.{array, object, put}
use Rattle.serde_json.specs.Read.{of_json, of_items, of_members, converted}
use Rattle.edr_samples.proofs.Turns.{converted-array, converted-object, item_read, items_over, member_read, members_over}
use Rattle.edr_samples.specs.Tokens.{sample_data}
use Rattle.edr_samples.specs.Codes.{sample_of}
use Rattle.edr_samples.specs.Trees.{tree_view, members_view}
use Rattle.edr_samples.specs.Turns.{items_onto}
use Rattle.edr_samples.proofs.Lists.{view-Samples, view-Object, items_onto-no_items, one_more_item, sample_goes_on, sample_read, value_goes_on, members_view-insert_entry}
use Rattle.edr_samples.proofs.plain_reading.+plain.Goals as goal

pub next_tree-returns-else-not-take_begin_array-clause-tree : goal.next_tree-returns-else-not-take_begin_array-clause-tree
next_tree-returns-else-not-take_begin_array-clause-tree t c =
    let depth = c.args.depth in
    let ts = c.take_begin_array.new.self in
    let is : c.args.plain.now ≡ begin_array ∷ ts = c.take_begin_array.ensures c.if-not-take_begin_array.false in
    let opened = ap (converted of_json) (ap (value depth) is ∙ value-begin_array depth ts (omega arith)) ∙ converted-array (items (value (depth - 1)) (length ts) ts) in
    rw (← opened) at c.list_from.ensures.list

pub next_tree-returns-in_ok-members_from-in-123-clause-tree : goal.next_tree-returns-in_ok-members_from-in-123-clause-tree
next_tree-returns-in_ok-members_from-in-123-clause-tree t c =
    let depth = c.args.depth in
    let ts = c.take_begin_object.new.self in
    let is : c.args.plain.now ≡ begin_object ∷ ts = c.take_begin_object.ensures c.if-not-take_begin_object.false in
    let opened = ap (converted of_json) (ap (value depth) is ∙ value-begin_object depth ts (omega arith)) ∙ converted-object (members (value (depth - 1)) (length ts) ts) in
    let found = c.in_ok-members_from-in-123 in
    opened ∙ ap (parse_map object) found.ensures.object ∙ ap (λ d. Some (d, c.members_from.new.plain)) (sym (view-Object found.field-0))

pub list_from-samples-preserved : goal.list_from-samples-preserved
list_from-samples-preserved t c =
    let p = value c.args.depth in
    let l = c.samples in
    let n = l.invariant.0 in
    let before = map sample_data l.samples in
    let found = c.in-Some.ensures in
    let x = sample_of c.in-Some.code in
    let r = c.take_code.new.self in
    let same : c.take_end_array.new.self ≡ l.plain = grind arith in
    let taken : l.plain ≡ found.0 ∷ r = sym same ∙ found.2 in
    let less : length r < length l.plain = rw taken (omega arith) in
    let going : after_end_array l.plain ≡ None = ap after_end_array taken ∙ sample_goes_on found.0 x r found.1 in
    let read : converted of_json (p l.plain) ≡ Some (sample_data x, r) = ap (λ ts. converted of_json (p ts)) taken ∙ sample_read c.args.depth found.0 x r found.1 in
    let turn = item_read p n l.plain r (sample_data x) (omega (arith, l.invariant.1)) going read in
    let added : c.push.new.self ≡ l.samples ++ x ∷ [] = search rules in
    let pushed : map sample_data c.push.new.self ≡ before ++ sample_data x ∷ [] = ap (map sample_data) added ∙ map-append sample_data l.samples _ in (
      n - 1,
      omega (arith, l.invariant.1),
      l.invariant.2 ∙ ap (parse_map (items_onto before)) turn ∙ one_more_item before (sample_data x) _
          ∙ ap (λ ds. parse_map (items_onto ds) (converted of_items (items p (n - 1) r))) (sym pushed),
      omega (arith, l.invariant.3),
    )

pub list_from-returns-clause-list : goal.list_from-returns-clause-list
list_from-returns-clause-list t c =
    let p = value c.args.depth in
    let l = c.samples in
    let r = c.take_end_array.new.self in
    let closed : l.plain ≡ end_array ∷ r = grind arith in
    ap (parse_map array) (l.invariant.2 ∙ ap (parse_map (items_onto (map sample_data l.samples))) (items_over p l.invariant.0 l.plain r l.invariant.1 (ap after_end_array closed)))
    ∙ ap (λ ds. Some (array ds, r)) (items_onto-no_items (map sample_data l.samples))
    ∙ ap (λ d. Some (d, r)) (sym (view-Samples l.samples))

pub mixed_from-items-init : goal.mixed_from-items-init
mixed_from-items-init t c = (
  omega arith,
  λ n enough. (
    n,
    enough,
    ap (λ ds. parse_map (items_onto ds) (converted of_items (items (value c.args.depth) n c.args.plain.now))) (sym (c.in-Ok.ensures ∙ ap (map sample_data) c.codes.ensures)),
  ),
)

pub mixed_from-items-preserved : goal.mixed_from-items-preserved
mixed_from-items-preserved t c =
    let p = value c.args.depth in
    let l = c.items in
    let before = map tree_view l.found.items in
    let same : c.take_end_array.new.self ≡ l.plain = grind arith in
    let done = c.in_ok-item.ensures in
    let v = c.in_ok-item.item in
    let r = c.next_tree.new.plain in
    let read : converted of_json (p l.plain) ≡ Some (tree_view v, r) = rw (← same) done.tree in
    let going = value_goes_on c.args.depth l.plain _ read in
    let less : length r < length l.plain = rw (← same) done.shorter in
    let pushed : map tree_view c.push.new.self.items ≡ before ++ tree_view v ∷ [] = ap (map tree_view) c.in-Ok-push.ensures.items ∙ map-append tree_view l.found.items _ in (
      omega (arith, l.invariant.0),
      λ n enough.
          let i = l.invariant.1 n enough in (
            i.0 - 1,
            omega (arith, i.1),
            i.2 ∙ ap (parse_map (items_onto before)) (item_read p i.0 l.plain r (tree_view v) (omega (arith, i.1)) going read)
                ∙ one_more_item before (tree_view v) _
                ∙ ap (λ ds. parse_map (items_onto ds) (converted of_items (items p (i.0 - 1) r))) (sym pushed),
          ),
    )

pub mixed_from-returns-clause-list : goal.mixed_from-returns-clause-list
mixed_from-returns-clause-list t c n enough =
    let p = value c.args.depth in
    let l = c.items in
    let i = l.invariant.1 n enough in
    let r = c.take_end_array.new.self in
    let closed : l.plain ≡ end_array ∷ r = grind arith in
    i.2 ∙ ap (parse_map (items_onto (map tree_view l.found.items))) (items_over p i.0 l.plain r i.1 (ap after_end_array closed))
    ∙ ap (λ ds. Some (ds, r)) (items_onto-no_items (map tree_view l.found.items))

pub members_from-members-init : goal.members_from-members-init
members_from-members-init t c =
    let all = members (value c.args.depth) (length c.args.plain.now) c.args.plain.now in
    (length c.args.plain.now, omega arith, ap (λ es. converted (λ ms. of_members ms (members_view es)) all) (sym c.new-found.ensures.empty), omega arith)

pub members_from-members-preserved : goal.members_from-members-preserved
members_from-members-preserved t c =
    let p = value c.args.depth in
    let l = c.members in
    let n = l.invariant.0 in
    let old = members_view l.found.entries in
    let k = c.in-Some.name.now in
    let s = c.next_key.new.self in
    let named : read_key l.plain ≡ Some (Some k, s) = grind arith in
    let done = c.in_ok-member.ensures in
    let v = c.in_ok-member.member in
    let r = c.next_tree.new.plain in
    let less = read_key-shorter l.plain (Some k) s named in
    let lesser = done.shorter in
    let copied : string_bytes c.in-Ok.key ≡ k = search rules in
    let inserted : members_view c.insert.new.self.entries ≡ put k (tree_view v) old =
    ap members_view c.in-Ok-insert.ensures.entries ∙ members_view-insert_entry l.found.entries c.in-Ok.key v ∙ ap (λ name. put name (tree_view v) old) copied in (
      n - 1,
      omega (arith, l.invariant.1),
      l.invariant.2 ∙ member_read p old n k l.plain s r (tree_view v) (omega (arith, l.invariant.1)) named done.tree
          ∙ ap (λ found. converted (λ ms. of_members ms found) (members p (n - 1) r)) (sym inserted),
      omega (arith, l.invariant.3),
    )

pub members_from-returns-clause-object : goal.members_from-returns-clause-object
members_from-returns-clause-object t c =
    let p = value c.args.depth in
    let l = c.members in
    l.invariant.2 ∙ members_over p (members_view l.found.entries) l.invariant.0 l.plain c.next_key.new.self l.invariant.1 (grind arith)
