-- The version of the programs, and the line that tells it.
use Rattle.std.specs.Prelude.{ℕ, ◌++◌, List, codes}

abbrev pub version : List ℕ
version = codes "1.0.0"

-- the name of a program, and the version
abbrev pub version_line : List ℕ → List ℕ
version_line name = name ++ (codes " " ++ (version ++ codes "\n"))
