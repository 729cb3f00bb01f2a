-- A token is taken from a text: the tokens that it gives before and after.
use Rattle.std.proofs.Common.{◌≡◌, ℕ, ℤ, ◌+◌, ◌-◌, ◌<◌, true, false, List, ◌∷◌, ◌++◌, length, take, drop, Option, Some, inl, inr, ◌⊎◌, sym, ap, ◌∙◌, subst, arith, take-append-drop, drop-drop}
use Rattle.std.specs.List.{prefix_len}
use Rattle.json.specs.Token.{Token, string, key, number, null, begin_array, end_array, begin_object, end_object}
use Rattle.json.specs.Word.{head}
use Rattle.json.specs.Lex.{Place, fresh, after_value, after_comma, begins_colon, may_begin, may_close, token, between, lex, punctuate}
use Rattle.json.specs.Run.{is_plain}
use Rattle.serde_json.specs.Find.{of_integer}
use Rattle.serde_json.specs.Read.{number_of}
use Rattle.edr_samples.specs.Tokens.{IsSample}
use Rattle.edr_samples.specs.Lexemes.{Gives, GivesWhole, GivesSample}
use Rattle.edr_samples.proofs.LexemeLemmas.{at_byte, lex-comma, lex-colon, lex-begin_array, lex-end_array, lex-begin_object, lex-end_object, lex-text, escape-plain}
use Rattle.edr_samples.proofs.PlaceLemmas.{open_list, open_object, close_list, close_object, a_number, a_null, a_text, a_name, a_sample, behind_comma}

module _ (d : List ℕ) where
  -- ---- marks

  pub comma_passed : (end at next : ℕ) → lex between (drop at d) ≡ lex between (drop end d) → at < length d → head (drop at d) ≡ 44 → lex between (drop next d) ≡ lex between (drop (at + 1) d)
      → punctuate after_comma (lex between (drop next d)) ≡ punctuate after_value (lex between (drop end d))
  comma_passed end at next blanks inside is more =
      ap (punctuate after_comma) more ∙ sym (ap (punctuate after_value) (sym blanks ∙ ap (lex between) (at_byte d at 44 inside is) ∙ lex-comma _) ∙ behind_comma _)

  module _ (p : Place) (at : ℕ) (inside : at < length d) where
    pub list_opened : (next : ℕ) → may_begin p ≡ true → head (drop at d) ≡ 91 → lex between (drop next d) ≡ lex between (drop (at + 1) d)
        → punctuate p (lex between (drop at d)) ≡ begin_array ∷ punctuate fresh (lex between (drop next d))
    list_opened next may is more =
        ap (punctuate p) (ap (lex between) (at_byte d at 91 inside is) ∙ lex-begin_array _) ∙ open_list p _ may ∙ ap (λ ls. begin_array ∷ punctuate fresh ls) (sym more)

    pub object_opened : (next : ℕ) → may_begin p ≡ true → head (drop at d) ≡ 123 → lex between (drop next d) ≡ lex between (drop (at + 1) d)
        → punctuate p (lex between (drop at d)) ≡ begin_object ∷ punctuate fresh (lex between (drop next d))
    object_opened next may is more =
        ap (punctuate p) (ap (lex between) (at_byte d at 123 inside is) ∙ lex-begin_object _) ∙ open_object p _ may ∙ ap (λ ls. begin_object ∷ punctuate fresh ls) (sym more)

    pub list_closed : (ts : List Token) → may_close p ≡ true → head (drop at d) ≡ 93 → ts ≡ punctuate after_value (lex between (drop (at + 1) d)) → punctuate p (lex between (drop at d)) ≡ end_array ∷ ts
    list_closed ts may is more =
        ap (punctuate p) (ap (lex between) (at_byte d at 93 inside is) ∙ lex-end_array _) ∙ close_list p _ may ∙ ap (λ r. end_array ∷ r) (sym more)

    pub object_closed : (ts : List Token) → may_close p ≡ true → head (drop at d) ≡ 125 → ts ≡ punctuate after_value (lex between (drop (at + 1) d)) → punctuate p (lex between (drop at d)) ≡ end_object ∷ ts
    object_closed ts may is more =
        ap (punctuate p) (ap (lex between) (at_byte d at 125 inside is) ∙ lex-end_object _) ∙ close_object p _ may ∙ ap (λ r. end_object ∷ r) (sym more)

-- ---- values

module _ (p : Place) (may : may_begin p ≡ true) (text rest : List ℕ) (ts : List Token) (more : ts ≡ punctuate after_value (lex between rest)) where
  pub sample_taken : (x : Option ℤ) → GivesSample text x rest → (t : Token) × IsSample t x × (punctuate p (lex between text) ≡ t ∷ ts)
  sample_taken x g = (g.0, g.1, ap (punctuate p) g.2 ∙ a_sample p _ g.0 x g.1 may ∙ ap (λ r. g.0 ∷ r) (sym more))

  pub whole_taken : (z : ℤ) → GivesWhole text z rest → (s : List ℕ) × (number_of s ≡ Some (of_integer z)) × (punctuate p (lex between text) ≡ number s ∷ ts)
  whole_taken z g = (g.0, g.1, ap (punctuate p) g.2 ∙ a_number p _ g.0 may ∙ ap (λ r. number g.0 ∷ r) (sym more))

  pub null_taken : Gives text (token null) rest → punctuate p (lex between text) ≡ null ∷ ts
  null_taken g = ap (punctuate p) g ∙ a_null p _ may ∙ ap (λ r. null ∷ r) (sym more)

-- ---- texts

-- no colon stands at these marks
no_colon : (x : ℕ) (r : List ℕ) → (x ≡ 44) ⊎ ((x ≡ 93) ⊎ (x ≡ 125)) → begins_colon (lex between (x ∷ r)) ≡ false
no_colon x r (inl e) = ap (λ b. begins_colon (lex between (b ∷ r))) e ∙ ap begins_colon (lex-comma r)
no_colon x r (inr (inl e)) = ap (λ b. begins_colon (lex between (b ∷ r))) e ∙ ap begins_colon (lex-end_array r)
no_colon x r (inr (inr e)) = ap (λ b. begins_colon (lex between (b ∷ r))) e ∙ ap begins_colon (lex-end_object r)

module _ (d : List ℕ) where
  -- a text between quotes with nothing to escape
  pub text_given : (from end : ℕ) → from < length d → head (drop from d) ≡ 34 → end ≡ from + 1 + prefix_len is_plain (drop (from + 1) d) → end < length d → head (drop end d) ≡ 34
      → Gives (drop from d) (token (string (take (end - (from + 1)) (drop (from + 1) d)))) (drop (end + 1) d)
  text_given from end inside opens is within closes =
      let body = drop (from + 1) d in
      let n = prefix_len is_plain body in
      let count : end - (from + 1) ≡ n = omega arith in
      let place : from + 1 + n ≡ end = omega arith in
      let behind : drop n body ≡ 34 ∷ drop (end + 1) d = drop-drop n (from + 1) d ∙ ap (λ k. drop k d) place ∙ at_byte d end 34 within closes in
      let parts : body ≡ take n body ++ 34 ∷ drop (end + 1) d = sym (take-append-drop n body) ∙ ap (λ r. take n body ++ r) behind in
      subst (λ k. Gives (drop from d) (token (string (take k body))) (drop (end + 1) d)) (sym count)
      (ap (lex between) (at_byte d from 34 inside opens ∙ ap (λ r. 34 ∷ r) parts) ∙ lex-text (take n body) (drop (end + 1) d) (escape-plain body))

  module _ (p : Place) (may : may_begin p ≡ true) (text s rest : List ℕ) (g : Gives text (token (string s)) rest) (end : ℕ) (blanks : lex between (drop end d) ≡ lex between rest) (inside : end < length d) where
    pub text_taken : (x : ℕ) (ts : List Token) → head (drop end d) ≡ x → (x ≡ 44) ⊎ ((x ≡ 93) ⊎ (x ≡ 125)) → ts ≡ punctuate after_value (lex between (drop end d))
        → punctuate p (lex between text) ≡ string s ∷ ts
    text_taken x ts is which more =
        let none : begins_colon (lex between rest) ≡ false = ap begins_colon (sym blanks ∙ ap (lex between) (at_byte d end x inside is)) ∙ no_colon x _ which in
        ap (punctuate p) g ∙ a_text p _ s none may ∙ ap (λ r. string s ∷ r) (ap (punctuate after_value) (sym blanks) ∙ sym more)

    pub name_taken : (next : ℕ) → head (drop end d) ≡ 58 → lex between (drop next d) ≡ lex between (drop (end + 1) d)
        → punctuate p (lex between text) ≡ key s ∷ punctuate fresh (lex between (drop next d))
    name_taken next is more =
        let colon_next = sym blanks ∙ ap (lex between) (at_byte d end 58 inside is) ∙ lex-colon _ in
        ap (punctuate p) (g ∙ ap (λ ls. token (string s) ∷ ls) colon_next) ∙ a_name p _ s may ∙ ap (λ ls. key s ∷ punctuate fresh ls) (sym more)
