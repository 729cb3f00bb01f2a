-- Doors that may be closed; for private clauses.
use Rattle.std.specs.Prelude.{◌≡◌, ◌⊎◌, ℕ, ◌<◌, Bool, true}

-- a door may be handed back: it is ended, and so are all connections that it handed out
module _ {A : Type 0} (given finished faults : A → ℕ) (over : A → Bool) where
  pub record MayClose (door : A) : Type 0 where
    pub ended : (over door ≡ true) ⊎ (0 < faults door)
    pub served : finished door ≡ given door
