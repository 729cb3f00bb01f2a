-- Plain JSON: numbers are whole and within 64 bits, texts are UTF-8, and the names of an object ascend.
use Rattle.std.specs.Prelude.{◌≡◌, ℕ, ◌<◌, ◌≤◌, ◌^◌, pos, negsuc, List, Some, IsUtf8, ⊤}
use Rattle.std.specs.Ordering.{nat_cmp}
use Rattle.std.specs.declared.cmp.Ordering.TheVariants.{Greater}
use Rattle.std.specs.Cmp.Lexicographic.{slice_cmp}
use Rattle.serde_json.specs.Data.{Num, unsigned, negative, float, Data, null, boolean, number, string, array, object, Items, no_items, item, Members, no_members, member, depth}
use Rattle.serde_json.specs.Read.{read, max_depth}
use Rattle.serde_json.specs.Written.{compact_text}
use Rattle.covjson_value.specs.declared.coverages.Coverage.{Coverage}
use Rattle.covjson_value.specs.Coverages.{IsValid}
use Rattle.covjson_value.specs.Trees.{coverage_data}

-- the integers that a reader holds as integers
abbrev pub IsWhole : Num → Type 0
IsWhole (unsigned n) = n < 2 ^ 64
IsWhole (negative (pos n)) = ⊥
IsWhole (negative (negsuc n)) = n < 2 ^ 63
IsWhole (float x) = ⊥

-- each of these names is above the one given
abbrev pub AreAbove : List ℕ → Members → Type 0
AreAbove key no_members = ⊤
AreAbove key (member other d ms) = (slice_cmp nat_cmp other key ≡ Greater) × AreAbove key ms

abbrev mutual
  pub IsPlain : Data → Type 0
  IsPlain null = ⊤
  IsPlain (boolean b) = ⊤
  IsPlain (number n) = IsWhole n
  IsPlain (string text) = IsUtf8 text
  IsPlain (array ds) = ArePlain ds
  IsPlain (object ms) = IsOrdered ms

  pub ArePlain : Items → Type 0
  ArePlain no_items = ⊤
  ArePlain (item d ds) = IsPlain d × ArePlain ds

  pub IsOrdered : Members → Type 0
  IsOrdered no_members = ⊤
  IsOrdered (member key d ms) = IsUtf8 key × IsPlain d × AreAbove key ms × IsOrdered ms

-- ---- laws

-- the text of a plain tree is UTF-8, and what is read in it is that tree, where it isn't nested too deep to be read
abbrev pub PlainTextsReadBack : Type 0
PlainTextsReadBack = (tree : Data) → IsPlain tree → depth tree ≤ max_depth → IsUtf8 (compact_text tree) × (read (compact_text tree) ≡ Some tree)

-- how deep the tree of a coverage is nested at most
abbrev pub coverage_depth : ℕ
coverage_depth = 6

-- the tree of a valid coverage is plain, and no deeper
abbrev pub CoveragesArePlain : Type 0
CoveragesArePlain = (coverage : Coverage) → IsValid coverage → IsPlain (coverage_data coverage) × (depth (coverage_data coverage) ≤ coverage_depth)
