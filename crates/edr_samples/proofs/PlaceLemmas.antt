-- Which tokens lexemes become, by where they stand.
use Rattle.std.proofs.Common.{◌≡◌, ℕ, ℤ, Bool, true, false, List, [], ◌∷◌, Option, Some, None, refl, ap, ◌∙◌}
use Rattle.json.specs.Token.{Token, begin_object, end_object, begin_array, end_array, key, string, number, boolean, null, bad}
use Rattle.json.specs.Lex.{Lexeme, token, comma, colon, Place, fresh, after_value, after_comma, after_key, begins_colon, may_begin, may_close, if_allowed, place_token, punctuate}
use Rattle.edr_samples.specs.Tokens.{IsSample}

allowed : (b : Bool) (t : Token) (k : Place → List Token) (next : Place) → b ≡ true → if_allowed b t k next ≡ t ∷ k next
allowed b t k next e = ap (λ x. if_allowed x t k next) e

module _ (p : Place) (ls : List Lexeme) where
  pub open_list : may_begin p ≡ true → punctuate p (token begin_array ∷ ls) ≡ begin_array ∷ punctuate fresh ls
  unfolding punctuate
  open_list may = allowed (may_begin p) begin_array (λ n. punctuate n ls) fresh may

  pub open_object : may_begin p ≡ true → punctuate p (token begin_object ∷ ls) ≡ begin_object ∷ punctuate fresh ls
  unfolding punctuate
  open_object may = allowed (may_begin p) begin_object (λ n. punctuate n ls) fresh may

  pub close_list : may_close p ≡ true → punctuate p (token end_array ∷ ls) ≡ end_array ∷ punctuate after_value ls
  unfolding punctuate
  close_list may = allowed (may_close p) end_array (λ n. punctuate n ls) after_value may

  pub close_object : may_close p ≡ true → punctuate p (token end_object ∷ ls) ≡ end_object ∷ punctuate after_value ls
  unfolding punctuate
  close_object may = allowed (may_close p) end_object (λ n. punctuate n ls) after_value may

  pub a_number : (s : List ℕ) → may_begin p ≡ true → punctuate p (token (number s) ∷ ls) ≡ number s ∷ punctuate after_value ls
  unfolding punctuate
  a_number s may = allowed (may_begin p) (number s) (λ n. punctuate n ls) after_value may

  pub a_null : may_begin p ≡ true → punctuate p (token null ∷ ls) ≡ null ∷ punctuate after_value ls
  unfolding punctuate
  a_null may = allowed (may_begin p) null (λ n. punctuate n ls) after_value may

  pub a_text : (s : List ℕ) → begins_colon ls ≡ false → may_begin p ≡ true → punctuate p (token (string s) ∷ ls) ≡ string s ∷ punctuate after_value ls
  unfolding punctuate
  a_text s none may = ap (λ b. place_token p (string s) b (λ n. punctuate n ls)) none ∙ allowed (may_begin p) (string s) (λ n. punctuate n ls) after_value may

  pub a_name : (s : List ℕ) → may_begin p ≡ true → punctuate p (token (string s) ∷ colon ∷ ls) ≡ key s ∷ punctuate fresh ls
  unfolding punctuate
  a_name s may = allowed (may_begin p) (key s) (λ n. punctuate n (colon ∷ ls)) after_key may

  pub a_sample : (t : Token) (x : Option ℤ) → IsSample t x → may_begin p ≡ true → punctuate p (token t ∷ ls) ≡ t ∷ punctuate after_value ls
  a_sample (number s) (Some z) h may = a_number s may
  a_sample (number s) None h may = absurd h
  a_sample null None h may = a_null may
  a_sample null (Some z) h may = absurd h
  a_sample begin_object x h may = absurd h
  a_sample end_object x h may = absurd h
  a_sample begin_array x h may = absurd h
  a_sample end_array x h may = absurd h
  a_sample (key s) x h may = absurd h
  a_sample (string s) x h may = absurd h
  a_sample (boolean b) x h may = absurd h
  a_sample bad x h may = absurd h

pub behind_comma : (ls : List Lexeme) → punctuate after_value (comma ∷ ls) ≡ punctuate after_comma ls
unfolding punctuate
behind_comma ls = refl

pub at_end : (p : Place) → may_close p ≡ true → punctuate p [] ≡ []
unfolding punctuate
at_end fresh may = refl
at_end after_value may = refl
at_end after_comma may = cc
at_end after_key may = cc
