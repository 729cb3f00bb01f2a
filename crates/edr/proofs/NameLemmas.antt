-- Whether a word is UTF-8.
use Rattle.std.proofs.Common.{◌≡◌, ℕ, true, false, List, sym, refl}
use Rattle.std.specs.Prelude.{IsUtf8}
use Rattle.std.specs.Str.{is_utf8}
use Rattle.std.proofs.lemmas.Str.{IsUtf8-from_is_utf8, is_utf8-from_IsUtf8}
use Rattle.std.specs.Prelude.{Bool}

decided : (b c : Bool) → (b ≡ true → c ≡ true) → (c ≡ true → b ≡ true) → b ≡ c
decided true c f g = sym (f refl)
decided false true f g = g refl
decided false false f g = refl

pub named : (b : Bool) (word : List ℕ) → (b ≡ true → IsUtf8 word) → (IsUtf8 word → b ≡ true) → b ≡ is_utf8 word
named b word f g = decided b (is_utf8 word) (λ e. is_utf8-from_IsUtf8 word (f e)) (λ e. g (IsUtf8-from_is_utf8 word e))
