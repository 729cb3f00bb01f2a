-- For private clauses: what the calls that read a piece answer.
use Rattle.std.specs.Prelude.{◌≡◌, ℕ, ℤ, Bool, false, not, ◌≤◌, List, [], ◌∷◌, length, map, min}
use Rattle.std.specs.List.{sum_by}
use Rattle.edr_base.specs.Limits.{position_limit}
use Rattle.edr_base.specs.declared.places.Position.{Position}
use Rattle.edr_base.specs.NumberParts.{IsSplit}
use Rattle.edr_base.specs.Names.{is_blank}
use Rattle.edr_wkt.specs.Grammar.{is_end, IsMark, IsNumber, IsNumberIf, IsPosition, IsMember, AreItems}
use Rattle.edr_wkt.specs.Kept.{kept_number, kept, counted}

abbrev pub not_blank : ℕ → Bool
not_blank c = not (is_blank c)

-- the text has no byte but blanks
abbrev pub HasNoMark : List ℕ → Type 0
HasNoMark text = (mark : ℕ) (rest : List ℕ) → is_blank mark ≡ false → ¬ (IsMark mark text rest)

-- the first byte that is no blank, and what stands behind it
abbrev pub BeginsWithMark : List ℕ → ℕ → List ℕ → Type 0
BeginsWithMark text mark rest = (is_blank mark ≡ false) × IsMark mark text rest

-- a word behind blanks, and what stands behind it
abbrev pub BeginsWithWord : List ℕ → List ℕ → List ℕ → Type 0
BeginsWithWord text word rest = (blanks : List ℕ) × (front : List ℕ) × IsSplit not_blank text blanks front × IsSplit is_end front word rest

abbrev pub HasNoNumber : List ℕ → Type 0
HasNoNumber text = (value : ℤ) (rest : List ℕ) → ¬ (IsNumber text value rest)

-- a number, as it is kept
abbrev pub BeginsWithNumber : List ℕ → ℤ → List ℕ → Type 0
BeginsWithNumber text read rest = (value : ℤ) × IsNumber text value rest × (read ≡ kept_number value)

abbrev pub HasNoNumberIf : Bool → List ℕ → Type 0
HasNoNumberIf has text = (value : ℤ) (rest : List ℕ) → ¬ (IsNumberIf has text value rest)

abbrev pub BeginsWithNumberIf : Bool → List ℕ → ℤ → List ℕ → Type 0
BeginsWithNumberIf has text read rest = (value : ℤ) × IsNumberIf has text value rest × (read ≡ kept_number value)

abbrev pub HasNoPosition : Bool → Bool → List ℕ → Type 0
HasNoPosition has_z has_m text = (p : Position) (rest : List ℕ) → ¬ (IsPosition has_z has_m text p rest)

abbrev pub BeginsWithPosition : Bool → Bool → List ℕ → Position → List ℕ → Type 0
BeginsWithPosition has_z has_m text read rest = (p : Position) × IsPosition has_z has_m text p rest × (read ≡ kept p)

abbrev pub HasNoMember : Bool → Bool → Bool → List ℕ → Type 0
HasNoMember multi has_z has_m text = (p : Position) (rest : List ℕ) → ¬ (IsMember multi has_z has_m text p rest)

abbrev pub BeginsWithMember : Bool → Bool → Bool → List ℕ → Position → List ℕ → Type 0
BeginsWithMember multi has_z has_m text read rest = (p : Position) × IsMember multi has_z has_m text p rest × (read ≡ kept p)

abbrev pub HasNoClosed : Bool → Bool → List ℕ → Type 0
HasNoClosed has_z has_m text = (p : Position) (rest : List ℕ) → ¬ (AreItems (IsPosition has_z has_m) text (p ∷ []) rest)

abbrev pub BeginsWithClosed : Bool → Bool → List ℕ → Position → List ℕ → Type 0
BeginsWithClosed has_z has_m text read rest = (p : Position) × AreItems (IsPosition has_z has_m) text (p ∷ []) rest × (read ≡ kept p)

-- the positions of a list, as they are kept, how many there are, up to four, and how many there are with those before, up to one beyond the limit
pub record ArePositions (multi has_z has_m : Bool) (text : List ℕ) (before after : ℕ) (read : List Position) (len : ℕ) (rest : List ℕ) : Type 0 where
  pub positions : List Position
  pub are_items : AreItems (IsMember multi has_z has_m) text positions rest
  pub len_is : len ≡ min (length positions) 4
  pub after_is : after ≡ counted before (length positions)
  pub read_is : after ≤ position_limit → read ≡ map kept positions

-- the text has no such list at its front
abbrev pub HasNoItems : {A : Type 0} → (List ℕ → A → List ℕ → Type 0) → List ℕ → Type 0
HasNoItems {A} Item text = (xs : List A) (rest : List ℕ) → ¬ (AreItems Item text xs rest)

abbrev pub HasNoItem : {A : Type 0} → (List ℕ → A → List ℕ → Type 0) → List ℕ → Type 0
HasNoItem {A} Item text = (x : A) (rest : List ℕ) → ¬ (Item text x rest)

-- an item of so many positions, as it is kept, and how many positions there are with those before, up to one beyond the limit
pub record IsRead {A B : Type 0} (Item : List ℕ → A → List ℕ → Type 0) (size : A → ℕ) (keep : A → B) (text : List ℕ) (before after : ℕ) (read : B) (rest : List ℕ) : Type 0 where
  pub item : A
  pub is_item : Item text item rest
  pub after_is : after ≡ counted before (size item)
  pub read_is : after ≤ position_limit → read ≡ keep item

-- the same of the items of a list
pub record AreRead {A B : Type 0} (Item : List ℕ → A → List ℕ → Type 0) (size : A → ℕ) (keep : A → B) (text : List ℕ) (before after : ℕ) (read : List B) (rest : List ℕ) : Type 0 where
  pub items : List A
  pub are_items : AreItems Item text items rest
  pub after_is : after ≡ counted before (sum_by size items)
  pub read_is : after ≤ position_limit → read ≡ map keep items
