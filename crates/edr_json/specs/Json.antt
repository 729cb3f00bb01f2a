-- Texts of JSON (RFC 8259), and their trees.
use Rattle.std.specs.Prelude.{◌≡◌, ℕ, List, Some, IsUtf8}
use Rattle.serde_json.specs.Data.{Data}
use Rattle.serde_json.specs.Read.{read}

-- the text is JSON of this tree (RFC 8259)
pub record IsJson (text : List ℕ) (tree : Data) : Type 0 where
  pub utf8 : IsUtf8 text
  pub tree_is : read text ≡ Some tree

-- the text is no JSON
abbrev pub IsNoJson : List ℕ → Type 0
IsNoJson text = (tree : Data) → ¬ (IsJson text tree)

-- a text is JSON of one tree at most
abbrev pub TextsHaveOneTree : Type 0
TextsHaveOneTree = (text : List ℕ) (tree other : Data) → IsJson text tree → IsJson text other → tree ≡ other
