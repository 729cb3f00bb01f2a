-- What a lent sink tells beside what is written, and that by it the sink below is known.
use Rattle.std.specs.Prelude.{◌≡◌, ℕ, false, List, [], ◌∷◌, None}
use Rattle.std.proofs.Common.{ap}
use Rattle.edr_base.specs.Outside.{Beside, LentSink}

-- the sinks that are lent, from the uppermost down, where one is lent over a sink that tells this
abbrev pub held_of : Beside → ℕ → List LentSink
held_of below name =
    record { name = name; idle = below.idle; asked = below.asked; incoming = below.incoming; left = below.left; bottom = below.bottom } ∷ below.held

-- what the sink below tells, and in `held` besides which reference it is
abbrev pub lent_beside : Beside → ℕ → Beside
lent_beside below name = record below { held = held_of below name }

-- ---- laws

-- which reference the uppermost is
name_of : List LentSink → ℕ
name_of [] = 0
name_of (lent ∷ more) = lent.name

-- what the sink below the uppermost tells
below_of : List LentSink → Beside
below_of [] = record { idle = false; asked = None; incoming = None; left = None; bottom = None; held = [] }
below_of (lent ∷ more) =
    record { idle = lent.idle; asked = lent.asked; incoming = lent.incoming; left = lent.left; bottom = lent.bottom; held = more }

-- which reference it is, and what the sink below tells, are known by `held`
pub held_name : (a b : Beside) (n m : ℕ) → held_of a n ≡ held_of b m → n ≡ m
unfolding name_of
held_name a b n m e = ap name_of e

pub held_below : (a b : Beside) (n m : ℕ) → held_of a n ≡ held_of b m → a ≡ b
unfolding below_of
held_below a b n m e = ap below_of e
