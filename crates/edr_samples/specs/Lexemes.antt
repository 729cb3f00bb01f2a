-- What stands at the front of a text of JSON, and what is left. Only private clauses cite it.
use Rattle.std.specs.Prelude.{◌≡◌, ℕ, ℤ, List, ◌∷◌, Option, Some}
use Rattle.json.specs.Token.{Token, number}
use Rattle.json.specs.Lex.{Lexeme, token, between, lex}
use Rattle.serde_json.specs.Find.{of_integer}
use Rattle.serde_json.specs.Read.{number_of}
use Rattle.edr_samples.specs.Tokens.{IsSample}

-- the text begins with the lexeme, and `rest` is left
abbrev pub Gives : List ℕ → Lexeme → List ℕ → Type 0
Gives text lexeme rest = lex between text ≡ lexeme ∷ lex between rest

-- it begins with that whole number
abbrev pub GivesWhole : List ℕ → ℤ → List ℕ → Type 0
GivesWhole text z rest = (s : List ℕ) × (number_of s ≡ Some (of_integer z)) × Gives text (token (number s)) rest

-- it begins with that sample
abbrev pub GivesSample : List ℕ → Option ℤ → List ℕ → Type 0
GivesSample text sample rest = (t : Token) × IsSample t sample × Gives text (token t) rest
