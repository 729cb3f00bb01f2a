-- What a store ends as, once a body that it lent was given back.
use Rattle.std.specs.Prelude.{◌≡◌, List, ⊤}
use Rattle.std.specs.Borrow.{Fml, MutBor, follows_so}
use mathlib.Core.Option.{none}
use Rattle.edr_cache.specs.Pairs.{Pair, Held, held}
use Rattle.edr_cache.specs.contracts.kept.Kept.{the_row}

-- it ends with these pairs, and its capacity
abbrev pub EndsAs : MutBor Held → List Pair → Fml
EndsAs store pairs = follows_so the_row the_row store.ghost_name none (λ _ _. ⊤) (λ after. after ≡ held pairs store.now.capacity)
