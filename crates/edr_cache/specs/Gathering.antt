-- What a sink tells that gathers what it hands on.
use Rattle.std.specs.Prelude.{◌≡◌, ℕ, ◌-◌, ◌≤◌, ◌<◌, Bool, true, false, List, [], ◌∷◌, length, take, Option, None, Some, option_map, unwrap_or}
use Rattle.edr_base.specs.Outside.{Beside, LentSink}
use Rattle.edr_cache.specs.Limits.{kept_limit}

-- what was written to the sink inside before the layer's own first byte, by what was written since and what it has now
abbrev pub below_known : List ℕ → Option (List ℕ) → Option (List ℕ)
below_known since known = option_map (λ bytes. take (length bytes - length since) bytes) known

-- it is told before the sinks that are lent
abbrev pub told_below : Option (List ℕ) → LentSink
told_below below = record { name = 0; idle = false; asked = None; incoming = None; left = None; bottom = below }

abbrev pub gathering_beside : Beside → Option (List ℕ) → Beside
gathering_beside inside below = record {
  idle = inside.idle;
  asked = inside.asked;
  incoming = inside.incoming;
  left = inside.left;
  bottom = Some (unwrap_or below []);
  held = told_below below ∷ inside.held;
}

-- an array whose first bytes are all that was written, where that isn't too long
pub record IsGathered (over : Bool) (used : ℕ) (array written : List ℕ) : Type 0 where
  pub within : used ≤ kept_limit
  pub same : over ≡ false → take used array ≡ written
  pub more : over ≡ true → kept_limit < length written
