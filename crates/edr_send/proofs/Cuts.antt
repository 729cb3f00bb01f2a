-- What stands behind a coverage and behind a range.
use Rattle.std.proofs.Common.{◌≡◌, ℕ, suc, ◌+◌, ◌<◌, Bool, true, false, eqb, ap, arith}
use Rattle.std.specs.Prelude.{◌==◌, if◌then◌else◌}
use Rattle.std.proofs.lemmas.Bool.{eq-eqb, ne_eqb}
use Rattle.covjson_write.specs.declared.stages.Stage.TheVariants.{Ready, Within}
use Rattle.covjson_write.specs.Pieces.{is_later}

pub later_next : (i : ℕ) → is_later (i + 1) ≡ true
later_next i = ap is_later (next i)
  where
    next : (n : ℕ) → n + 1 ≡ suc n
    next n = omega arith

-- ---- where a writer stands behind a range

pub stage_within : (a b : ℕ) → a < b → (if a == b then Ready else Within) ≡ Within
stage_within a b l = ap (λ (c : Bool). if c then Ready else Within) (differ a b l)
  where
    differ : (a b : ℕ) → a < b → eqb a b ≡ false
    differ a b l = ne_eqb a b (λ e. omega arith)

pub stage_ready : (a b : ℕ) → a ≡ b → (if a == b then Ready else Within) ≡ Ready
stage_ready a b e = ap (λ (c : Bool). if c then Ready else Within) (eq-eqb a b e)
