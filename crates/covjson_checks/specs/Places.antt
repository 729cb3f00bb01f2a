-- Items of a list, by their places.
use Rattle.std.specs.Prelude.{◌≡◌, ◌⊎◌, ℕ, zero, suc, Bool, if◌then◌else◌, Some, Result, Err}
use Rattle.serde_json.specs.Data.{Data, Items, no_items, item}
use Rattle.edr_base.specs.FirstThatApplies.{IsFirstPlace}
use Rattle.edr_json.specs.Trees.{item_at}

-- the datum is one of the items
abbrev pub IsAmong : Data → Items → Type 0
IsAmong d items = (place : ℕ) × (item_at items place ≡ Some d)

-- each of the items is so
abbrev pub EachItem : (Data → Type 0) → Items → Type 0
EachItem Is items = (d : Data) → IsAmong d items → Is d

-- none of them is
abbrev pub NoItem : (Data → Type 0) → Items → Type 0
NoItem Is items = EachItem (λ d. ¬ (Is d)) items

-- the item at a place is so
abbrev pub IsSoAt : (Data → Type 0) → Items → ℕ → Type 0
IsSoAt Is items place = (d : Data) × (item_at items place ≡ Some d) × Is d

-- the datum is the first item that is so
pub record IsFirstItem (Is : Data → Type 0) (items : Items) (datum : Data) : Type 0 where
  pub place : ℕ
  pub here : item_at items place ≡ Some datum
  pub first : IsFirstPlace (IsSoAt Is items) place

-- the datum stands for a value that is so
abbrev pub HasValue : {V : Type 0} → (Data → V → Type 0) → (V → Type 0) → Data → Type 0
HasValue {V} StandsFor Is d = (value : V) × StandsFor d value × Is value

-- a row over the items of a list: each is so, and the next rows follow; or the fault is that of the first place whose item isn't
abbrev pub CheckEach : {F T : Type 0} → (Data → Type 0) → (ℕ → F) → Items → (Result T F → Type 0) → Result T F → Type 0
CheckEach Is fault items Next answer =
    (EachItem Is items × Next answer) ⊎ ((d : Data) × (first : IsFirstItem (λ other. ¬ (Is other)) items d) × (answer ≡ Err (fault first.place)))

-- the place of the first item that doesn't pass a test, and how many items there are where each does
abbrev pub failing_place : (Data → Bool) → Items → ℕ
failing_place test no_items = zero
failing_place test (item d ds) = if test d then suc (failing_place test ds) else zero
