-- The first refusal of a head.
use Rattle.std.proofs.Common.{◌≡◌, true, false, reverse, List, [], ◌∷◌, ◌++◌, ℕ, ap, sym, ◌∙◌}
use Rattle.std.proofs.lemmas.Bool.{cond-true, cond-false}
use Rattle.std.proofs.lemmas.List.{reverse-append, reverse-reverse}
use Rattle.httparse.specs.Grammar.{is_ows, skip_ows, trim_ows}
use Rattle.edr_http.specs.Checks.{Applies, RefusalIsOne}
use Rattle.edr_base.specs.RefusalLaws.{first_once}

-- ---- one refusal is the least of a head

pub refusal_one : RefusalIsOne
refusal_one head one other p q = first_once (Applies head) one other p q

-- ---- blanks at the ends of a text

pub trimmed : (text front all : List ℕ) → front ≡ skip_ows text → reverse all ≡ skip_ows (reverse front) → all ≡ trim_ows text
unfolding trim_ows
trimmed text front all e f = sym (reverse-reverse all) ∙ ap reverse (f ∙ ap (λ w. skip_ows (reverse w)) e)

-- the first byte is a blank, or it isn't
pub skip_yes : (text rest : List ℕ) (byte : ℕ) → text ≡ byte ∷ rest → is_ows byte ≡ true → skip_ows text ≡ skip_ows rest
skip_yes text rest byte e blank = ap skip_ows e ∙ cond-true _ _ _ blank

pub skip_no : (text rest : List ℕ) (byte : ℕ) → text ≡ byte ∷ rest → is_ows byte ≡ false → skip_ows text ≡ text
skip_no text rest byte e other = ap skip_ows e ∙ (cond-false _ _ _ other ∙ sym e)

-- the same of the last
turned : (text rest : List ℕ) (byte : ℕ) → text ≡ rest ++ byte ∷ [] → reverse text ≡ byte ∷ reverse rest
turned text rest byte e = ap reverse e ∙ reverse-append rest (byte ∷ [])

pub drop_yes : (text rest : List ℕ) (byte : ℕ) → text ≡ rest ++ byte ∷ [] → is_ows byte ≡ true → skip_ows (reverse text) ≡ skip_ows (reverse rest)
drop_yes text rest byte e blank = skip_yes (reverse text) (reverse rest) byte (turned text rest byte e) blank

pub drop_no : (text rest : List ℕ) (byte : ℕ) → text ≡ rest ++ byte ∷ [] → is_ows byte ≡ false → skip_ows (reverse text) ≡ reverse text
drop_no text rest byte e other = skip_no (reverse text) (reverse rest) byte (turned text rest byte e) other
