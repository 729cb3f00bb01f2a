use Rattle.std.proofs.Common.{rules, ◌≡◌, ◌<◌, ℕ, List, length, ◌∙◌, ap, sym, subst, None, All}
use Rattle.std.specs.Prelude.{map}
use Rattle.std.specs.List.Sorted.{IsNonDecreasingBy}
use Rattle.std.proofs.lemmas.List.Sorted.{IsNonDecreasingBy-from_sort_by_key, All-permutation, IsPermutation-map}
use Rattle.std.proofs.lemmas.Result.{on_ok_weaker}
use Rattle.edr_chunk.specs.Grids as chunk
use Rattle.edr_chunk.specs.Tiles.{tiles}
use Rattle.edr_select.specs.Samples.{ascending_once}
use Rattle.edr_send.specs.declared.slots.Slot.{Slot}
use Rattle.edr_send.specs.Filling.{grid_of, IsSlot, slot_tile, slot_number, value_of, put_all}
use Rattle.edr_send.proofs.Ascending.{once_permuted}
use Rattle.edr_send.proofs.Additions.{adds_same}
use Rattle.edr_send.proofs.Puts.{numbers_below, put_numbered, put_length, written_back}
use Rattle.edr_send.proofs.filling.fill.Goals as goal

pub fill_sorted-requires-clause-slots : goal.fill_sorted-requires-clause-slots
fill_sorted-requires-clause-slots c =
    let shape = (grid_of c.args.store.now.subject.held).shape in
    let same : c.deref.result.now ≡ c.sort_unstable_by_key.new.self.items = search rules in
    subst (λ (l : List Slot). All (IsSlot shape) l) (sym same)
    (All-permutation (IsSlot shape) c.args.slots.now.items c.sort_unstable_by_key.new.self.items c.sort_unstable_by_key.ensures.permutation c.requires.slots)

pub fill_sorted-requires-clause-ascending : goal.fill_sorted-requires-clause-ascending
fill_sorted-requires-clause-ascending c =
    let same : c.deref.result.now ≡ c.sort_unstable_by_key.new.self.items = search rules in
    subst (λ (l : List Slot). IsNonDecreasingBy slot_tile l) (sym same)
    (IsNonDecreasingBy-from_sort_by_key slot_tile _ c.sort_unstable_by_key.ensures.sorted (λ a r q k. search rules))

pub fill_sorted-requires-clause-inside : goal.fill_sorted-requires-clause-inside
fill_sorted-requires-clause-inside c =
    let same : c.deref.result.now ≡ c.sort_unstable_by_key.new.self.items = search rules in
    let long : length c.deref_mut.result.now ≡ length c.args.slots.now.items = search rules in
    subst (λ (l : List Slot). All (λ slot. slot_number slot < length c.deref_mut.result.now) l) (sym same)
    (subst (λ (n : ℕ). All (λ slot. slot_number slot < n) c.sort_unstable_by_key.new.self.items) (sym long)
    (All-permutation (λ slot. slot_number slot < length c.args.slots.now.items) c.args.slots.now.items c.sort_unstable_by_key.new.self.items c.sort_unstable_by_key.ensures.permutation
    (numbers_below slot_number c.args.slots.now.items c.requires.numbered)))

pub returns-clause-values : goal.returns-clause-values
returns-clause-values c =
    let grid : chunk.Values = grid_of c.args.store.now.subject.held in
    let same : c.deref.result.now ≡ c.sort_unstable_by_key.new.self.items = search rules in
    let long : length c.deref_mut.result.now ≡ length c.args.slots.now.items = search rules in
    let whole : c.resize.new.self.items ≡ c.deref_mut.result.now = search rules in
    let count : c.resize.new.self.len ≡ length c.resize.new.self.items = search rules in
    on_ok_weaker c.fill_sorted.result (λ e.
    let back : length c.fill_sorted.new.values ≡ length c.resize.new.self.items =
    ap length e ∙ put_length slot_number (value_of grid) c.deref.result.now c.deref_mut.result.now ∙ ap length (sym whole) in
    written_back c.resize.new.self.len c.fill_sorted.new.values c.resize.new.self.items back count
    ∙ e ∙ ap (λ (l : List Slot). put_all slot_number (value_of grid) l c.deref_mut.result.now) same
    ∙ put_numbered slot_number (value_of grid) None c.args.slots.now.items c.sort_unstable_by_key.new.self.items c.deref_mut.result.now c.sort_unstable_by_key.ensures.permutation c.requires.numbered long)
    c.fill_sorted.ensures.values

pub returns-clause-reads : goal.returns-clause-reads
returns-clause-reads c =
    let n : ℕ = tiles (grid_of c.args.store.now.subject.held).shape in
    let same : c.deref.result.now ≡ c.sort_unstable_by_key.new.self.items = search rules in
    adds_same c.fill_sorted.result (ascending_once n (map slot_tile c.deref.result.now)) (ascending_once n (map slot_tile c.args.slots.now.items)) c.args.store.now.numbers c.fill_sorted.new.store.numbers
    (ap (λ (l : List Slot). ascending_once n (map slot_tile l)) same
    ∙ sym (once_permuted n (map slot_tile c.args.slots.now.items) (map slot_tile c.sort_unstable_by_key.new.self.items)
    (IsPermutation-map slot_tile c.args.slots.now.items c.sort_unstable_by_key.new.self.items c.sort_unstable_by_key.ensures.permutation)))
    c.fill_sorted.ensures.reads
