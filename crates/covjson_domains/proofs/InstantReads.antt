-- The instant that is read of a text is the one that is computed.
use Rattle.std.proofs.Common.{◌≡◌, ℕ, ℤ, List, Option, None, Some, MatchOption, refl, sym}
use Rattle.edr_axes.specs.InstantGrammar.{IsInstant}
use Rattle.edr_axes.specs.InstantComputed.{instant_of, InstantsAreRead}

-- where no instant is found, none is computed
none_computed : (o : Option ℤ) → ((time : ℤ) → ¬ (o ≡ Some time)) → None ≡ o
none_computed None h = refl
none_computed (Some time) h = absurd (h time refl)

-- what is found is what is computed
pub instant_found : InstantsAreRead → (text : List ℕ) (o : Option ℤ) → MatchOption o ((t : ℤ) → ¬ (IsInstant text t)) (λ t. IsInstant text t) → o ≡ instant_of text
instant_found instants text None h = none_computed (instant_of text) (λ time e. h time ((instants text time).0 e))
instant_found instants text (Some time) h = sym ((instants text time).1 h)
