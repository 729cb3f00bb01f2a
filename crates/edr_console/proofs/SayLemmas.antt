-- Texts that are written one behind another, and the line of what stands behind the last publish, where there is one.
use Rattle.std.proofs.Common.{◌≡◌, ◌==◌, ℕ, true, false, List, [], ◌∷◌, ◌++◌, refl, Ok, Err}
use Rattle.std.specs.declared.option.Option.{Option}
use Rattle.std.specs.Prelude.{Result, IsErr}
use Rattle.edr_base.specs.Calls.{Front, Writes}
use Rattle.edr_base.specs.KnownBytes.{writes_stop}
use Rattle.edr_console.specs.Saying.{behind_line, behind_lines}

-- the first of two texts wasn't written whole
pub stopped_first : {T E : Type 0} (r : Result T E) (a b : Option (List ℕ)) (xs ys : List ℕ) → IsErr r → Front xs a b → Writes r (xs ++ ys) a b
stopped_first (Ok x) a b xs ys stopped front = absurd (cc stopped)
stopped_first {T} (Err e) a b xs ys stopped front = writes_stop T e a b xs ys front

pub behind_some : (behind : ℕ) → (behind == 0) ≡ false → behind_lines behind ≡ behind_line behind ∷ []
behind_some behind some = rw some refl

pub behind_none : (behind : ℕ) → (behind == 0) ≡ true → behind_lines behind ≡ []
behind_none behind none = rw none refl
