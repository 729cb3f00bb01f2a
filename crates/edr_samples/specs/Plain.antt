-- The tokens that a text still gives, by what may stand where it goes on. Only private clauses cite it.
use Rattle.std.specs.Prelude.{ℕ, List}
use Rattle.json.specs.Token.{Token}
use Rattle.json.specs.Lex.{between, lex, punctuate}
use Rattle.json.specs.Lex as lexer
use Rattle.edr_samples.specs.declared.plain.Place.{Place}
use Rattle.edr_samples.specs.declared.plain.Place.TheVariants.{Fresh, AfterValue, AfterComma}

abbrev pub place_of : Place → lexer.Place
place_of Fresh = lexer.fresh
place_of AfterValue = lexer.after_value
place_of AfterComma = lexer.after_comma

abbrev pub tokens_at : Place → List ℕ → List Token
tokens_at place rest = punctuate (place_of place) (lex between rest)
