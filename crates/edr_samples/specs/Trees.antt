-- The data that a tree stands for: that of the JSON library.
use Rattle.std.specs.Prelude.{List, map, String, string_bytes}
use Rattle.std.specs.declared.alloc.Global.{Global}
use Rattle.serde_json.specs.Data.{Data, null, boolean, number, string, array, object, Items, Members}
use Rattle.serde_json.specs.View.{number_view, items_of, members_of}
use Rattle.edr_samples.specs.Tokens.{sample_data}
use Rattle.edr_samples.specs.declared.trees.List.{List as ListOf}
use Rattle.edr_samples.specs.declared.trees.List.TheVariants.{Samples, Items as ItemsOf}
use Rattle.edr_samples.specs.declared.trees.Tree.{Tree, fold-Tree}
use Rattle.edr_samples.specs.declared.trees.Tree.TheOpen.{Tree-F}

-- one level, with each tree inside already seen as its data
abbrev pub view_step : Tree-F Data → Data
view_step Tree-F.Null = null
view_step (Tree-F.Bool b) = boolean b
view_step (Tree-F.Number x) = number (number_view x)
view_step (Tree-F.Text s) = string (string_bytes s)
view_step (Tree-F.Samples samples) = array (items_of (map sample_data samples))
view_step (Tree-F.Items v) = array (items_of v.items)
view_step (Tree-F.Object m) = object (members_of m.entries)

abbrev pub tree_view : Tree → Data
tree_view = fold-Tree Data view_step

abbrev pub items_view : List Tree → Items
items_view trees = items_of (map tree_view trees)

abbrev pub members_view : List (String Global × Tree) → Members
members_view members = members_of (map (λ m. (m.0, tree_view m.1)) members)

-- the items of a list, whichever form it has
abbrev pub list_view : ListOf → Items
list_view (Samples samples) = items_of (map sample_data samples.now)
list_view (ItemsOf v) = items_view v.now.items
