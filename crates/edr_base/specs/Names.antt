-- Names and blanks.
use Rattle.std.specs.Prelude.{◌≡◌, ◌≢◌, ℕ, ◌≤◌, ◌==◌, ◌||◌, Bool, List, length, map, All, IsUtf8}
use Rattle.std.specs.Char.{to_ascii_lowercase}
use Rattle.std.specs.declared.cmp.Ordering.{Ordering}
use Rattle.std.specs.Ordering.{nat_cmp}
use Rattle.std.specs.Cmp.Lexicographic.{slice_cmp}
use Rattle.std.specs.List.Sorted.{IsStrictlySortedBy}
use Rattle.edr_base.specs.Limits.{name_limit}

-- a space, a tab, a line feed or a carriage return
abbrev pub is_blank : ℕ → Bool
is_blank byte = byte == 32 || (byte == 9 || (byte == 10 || byte == 13))

-- a byte of a name: no control byte, and no comma
pub record IsNameByte (byte : ℕ) : Type 0 where
  pub printed : (32 ≤ byte) × (byte ≢ 127)
  pub no_comma : byte ≢ 44

-- a name, such as the id of a collection or of a parameter
pub record IsName (text : List ℕ) : Type 0 where
  pub length_in : (1 ≤ length text) × (length text ≤ name_limit)
  pub bytes : All IsNameByte text
  pub utf8 : IsUtf8 text

-- the letters of a word, in any case
abbrev pub IsAnyCase : List ℕ → List ℕ → Type 0
IsAnyCase letters word = map to_ascii_lowercase letters ≡ map to_ascii_lowercase word

-- texts are compared byte by byte, and then by their lengths
abbrev pub order : List ℕ → List ℕ → Ordering
order = slice_cmp nat_cmp

-- each text is below those after it
abbrev pub Ascend : List (List ℕ) → Type 0
Ascend = IsStrictlySortedBy order
