-- An item of a list that is begun with its first one, put where the axis is there that it tells of.
use Rattle.std.proofs.Common.{◌≡◌, ℕ, Bool, true, false, List, ◌++◌, Option, None, Some, option_map, Result, IfOk, OnOk, refl, ap, ◌∙◌}
use Rattle.std.specs.Prelude.{◌||◌, is_some}
use Rattle.std.proofs.lemmas.Result.{IfOk-weaker, on_ok_weaker}
use Rattle.covjson_write.specs.HeadTexts.{item_before, item_text}

pub given_put : {T E V : Type 0} (r : Result T E) (text_of : V → List ℕ) (given : Option V) (value : V) (later : Bool) (begin start new : List ℕ) → Some value ≡ given
    → OnOk r (new ≡ start ++ (item_before later begin ++ text_of value)) → OnOk r (new ≡ start ++ item_text later begin (option_map text_of given))
given_put r text_of given value later begin start new is put = on_ok_weaker r (λ p. p ∙ ap (λ v. start ++ item_text later begin (option_map text_of v)) is) put

is_more : {V : Type 0} (given : Option V) (value : V) (later : Bool) → Some value ≡ given → true ≡ (later || is_some given)
is_more given value false is = ap is_some is
is_more given value true is = refl

-- some items stand by then
pub some_stand : {E V : Type 0} (r : Result Bool E) (given : Option V) (value : V) (later : Bool) → Some value ≡ given
    → IfOk r (λ more. more ≡ true) → IfOk r (λ more. more ≡ (later || is_some given))
some_stand r given value later is stands = IfOk-weaker r (λ more. more ≡ true) (λ more. more ≡ (later || is_some given)) (λ more p. p ∙ is_more given value later is) stands

-- what is there has a value
pub told : {B V : Type 0} (seen : B → V) (found : Option B) (given : Option V) → is_some found ≡ true → option_map seen found ≡ given → (value : V) × (Some value ≡ given)
told seen None given some is = absurd (cc some)
told seen (Some b) given some is = (seen b, is)
