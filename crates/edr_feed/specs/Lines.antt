-- The lines of a feed.
use Rattle.std.specs.Prelude.{◌==◌, ℕ, nat_le, if◌then◌else◌, IsTrue, List, [], ◌∷◌, ◌++◌, length, take}
use Rattle.std.specs.List.{list_all, flat_map}
use Rattle.edr_base.specs.Limits.{feed_limit}
use Rattle.edr_base.specs.Names.{is_blank}

-- a byte before the first line of some
abbrev pub onto_first : ℕ → List (List ℕ) → List (List ℕ)
onto_first byte [] = (byte ∷ []) ∷ []
onto_first byte (line ∷ lines) = (byte ∷ line) ∷ lines

-- the bytes cut at each line feed, which belongs to no line; what follows the last one is the last line
abbrev pub lines_of : List ℕ → List (List ℕ)
lines_of [] = [] ∷ []
lines_of (byte ∷ bytes) = if byte == 10 then [] ∷ lines_of bytes else onto_first byte (lines_of bytes)

-- the lines that a line feed ends
abbrev pub ended_lines : List ℕ → List (List ℕ)
ended_lines bytes = all_but_last (lines_of bytes)
  where
    all_but_last : List (List ℕ) → List (List ℕ)
    all_but_last [] = []
    all_but_last (line ∷ []) = []
    all_but_last (line ∷ next ∷ lines) = line ∷ all_but_last (next ∷ lines)

-- the lines of a feed that are read: all of them, or of a feed beyond the limit those that end within it
abbrev pub read_lines : List ℕ → List (List ℕ)
read_lines bytes = if nat_le (length bytes) feed_limit then lines_of bytes else ended_lines (take feed_limit bytes)

-- lines, each with its line feed
abbrev pub joined : List (List ℕ) → List ℕ
joined lines = flat_map (λ line. line ++ 10 ∷ []) lines

-- a line of blanks only
abbrev pub IsBlank : List ℕ → Type 0
IsBlank line = IsTrue (list_all is_blank line)
