-- For private clauses: what the calls that read tags and dims answer.
use Rattle.std.specs.Prelude.{◌≡◌, ℕ, Bool, List, ◌++◌}
use Rattle.edr_wkt.specs.declared.headings.Kind.{Kind}
use Rattle.edr_wkt.specs.Grammar.{IsMark}
use Rattle.edr_wkt.specs.Headings.{tag_text, IsHeading}
use Rattle.edr_base.specs.Names.{IsAnyCase}

abbrev pub BeginsWithLetters : List ℕ → List ℕ → List ℕ → Type 0
BeginsWithLetters text word rest = (letters : List ℕ) × IsAnyCase letters word × (text ≡ letters ++ rest)

abbrev pub HasNoLetters : List ℕ → List ℕ → Type 0
HasNoLetters text word = (rest : List ℕ) → ¬ (BeginsWithLetters text word rest)

abbrev pub BeginsWithKind : List ℕ → Kind → List ℕ → Type 0
BeginsWithKind text kind rest = BeginsWithLetters text (tag_text kind) rest

abbrev pub HasNoKind : List ℕ → Type 0
HasNoKind text = (kind : Kind) → HasNoLetters text (tag_text kind)

-- a heading, and the bracket behind it
abbrev pub BeginsWithHeading : List ℕ → Kind → Bool → Bool → List ℕ → Type 0
BeginsWithHeading text kind has_z has_m inside = (body : List ℕ) × IsHeading kind has_z has_m text body × IsMark 40 body inside

abbrev pub HasNoHeading : List ℕ → Type 0
HasNoHeading text = (kind : Kind) (has_z has_m : Bool) (inside : List ℕ) → ¬ (BeginsWithHeading text kind has_z has_m inside)
