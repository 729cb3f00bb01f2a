-- What is known of every tree that was read from a text (RFC 8259).
use Rattle.std.specs.Prelude.{⊤, ℕ, ◌<◌, ◌^◌, List, length, IsUtf8}
use Rattle.edr_base.specs.Names.{Ascend}
use Rattle.serde_json.specs.Data.{Data, null, boolean, number, string, array, object, Items, no_items, item, Members, no_members, member}
use Rattle.edr_json.specs.Trees.{names_of, count_items}
use Rattle.edr_json.specs.Json.{IsJson}

-- the name of each member is below those after it, byte by byte
abbrev pub NamesAscend : Members → Type 0
NamesAscend members = Ascend (names_of members)

-- its texts are UTF-8, the names of members too; the names of each object ascend, and the items of each list can be counted
abbrev mutual
  pub IsTree : Data → Type 0
  IsTree null = ⊤
  IsTree (boolean b) = ⊤
  IsTree (number n) = ⊤
  IsTree (string text) = IsUtf8 text
  IsTree (array ds) = AreTrees ds × (count_items ds < 2 ^ 64)
  IsTree (object members) = NameTrees members × NamesAscend members

  pub AreTrees : Items → Type 0
  AreTrees no_items = ⊤
  AreTrees (item d ds) = IsTree d × AreTrees ds

  pub NameTrees : Members → Type 0
  NameTrees no_members = ⊤
  NameTrees (member name d members) = IsUtf8 name × IsTree d × NameTrees members

-- what a text is read to is such a tree, where the bytes of the text can be counted
abbrev pub TextsHaveTrees : Type 0
TextsHaveTrees = (text : List ℕ) (tree : Data) → length text < 2 ^ 64 → IsJson text tree → IsTree tree
