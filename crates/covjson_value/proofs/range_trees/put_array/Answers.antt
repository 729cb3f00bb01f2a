use Rattle.std.proofs.Common.{◌≡◌, ℕ, ◌<◌, List, [], ◌∷◌, length, map, Result, OnOk, arith, rules}
use Rattle.serde_json.specs.Data.{Members, array, put}
use Rattle.serde_json.specs.View.{view, items_of, members_view}
use Rattle.serde_json.specs.declared.value.Value.{Value}
use Rattle.serde_json.proofs.Views.{view-Array}
use Rattle.covjson_value.specs.Puts.{put_if}
use Rattle.covjson_value.specs.Trees.{array_if_some}
use Rattle.covjson_value.proofs.Gathered.{put_gathered}
use Rattle.covjson_value.proofs.range_trees.put_array.Goals as goal

put_filled : {T E : Type 0} (r : Result T E) (key : List ℕ) (items : List Value) (before after : Members) → 0 < length items → OnOk r (after ≡ put key (array (items_of (map view items))) before)
    → OnOk r (after ≡ put_if key (array_if_some (map view items)) before)
put_filled r key [] before after some h = absurd (omega (arith, some))
put_filled r key (v ∷ vs) before after some h = h

pub returns-else-is_empty : goal.returns-else-is_empty
returns-else-is_empty c =
    let some : 0 < length c.args.items.items = search rules in
    let members = members_view c.args.members.now.entries in
    put_filled c.put_tree.result c.args.key.now c.args.items.items members _ some
    (put_gathered c.put_tree.result c.args.key.now _ _ members _ (view-Array c.args.items) c.put_tree.ensures)
