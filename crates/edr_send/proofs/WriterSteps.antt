-- What two calls in a row do to a writer and to the sink that they are lent.
use Rattle.std.proofs.Common.{◌≡◌, ◌≤◌, ℕ, arith, ◌∙◌}
use Rattle.edr_base.specs.Outside.{Beside}
use Rattle.edr_base.specs.Calls.{SinkLent}

pub lent_on : {x y z : Beside} {a b c : ℕ} → SinkLent x y a b → SinkLent y z b c → SinkLent x z a c
lent_on {a = a} {b = b} {c = c} f g = record { same = g.same ∙ f.same; later = through a b c f.later g.later }
  where
    through : (a b c : ℕ) → a ≤ b → b ≤ c → a ≤ c
    through a b c f g = omega arith

-- where a loop ends
pub all_met : (at end : ℕ) → at ≤ end → end ≤ at → at ≡ end
all_met at end low high = omega arith
