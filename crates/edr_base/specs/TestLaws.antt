-- What a test says: its property holds where it answers true, and fails where it answers false.
use Rattle.std.proofs.Common.{◌≡◌, Bool, true, false, sym, ◌∙◌}
use Rattle.std.specs.Prelude.{IsTrue, ◌↔◌}
use Rattle.std.proofs.lemmas.Bool.{false≢true}

pub holds : (b : Bool) (P : Type 0) → (IsTrue b ↔ P) → b ≡ true → P
holds b P h e = h.0 e

pub fails : (b : Bool) (P : Type 0) → (IsTrue b ↔ P) → b ≡ false → ¬ P
fails b P h e p = false≢true (sym e ∙ h.1 p)
