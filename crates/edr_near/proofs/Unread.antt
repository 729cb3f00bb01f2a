-- The first of the cells from one number up to another that weren't read.
use Rattle.std.proofs.Common.{◌≡◌, ◌⊎◌, ℕ, ◌+◌, ◌-◌, ◌/◌, ◌%◌, ◌^◌, ◌<◌, ◌≤◌, ◌∷◌, false, inl, inr, List, [], length, get_or, Option, Some, None, Ordering, Less, IfSome, IsSomeAnd, nat_lt, nat_le, if◌then◌else◌, sym, ap, ap₂, ◌∙◌, subst, arith}
use Rattle.std.proofs.lemmas.Bool.{false≢true, cases_Bool, leb-true, leb-false, ltb-true, ltb-false}
use Rattle.std.proofs.Math.Nat.{eq-or-lt_of_le}
use Rattle.std.specs.Ordering.{nat_cmp, ordering_then}
use Rattle.edr_base.specs.Names.{order}
use Rattle.edr_base.specs.declared.places.Spot.{Spot}
use Rattle.edr_ids.specs.ListLaws.{keys_ascend}
use Rattle.edr_near.specs.declared.candidates.Candidate.{Candidate}
use Rattle.edr_near.specs.Squares.{IsSpot, square_distance}
use Rattle.edr_near.specs.Cells.{CellValue, AreCells, key_of, cell_key, distances, distance_at}
use Rattle.edr_near.specs.Search.{rank, rank_of, rank_at, is_read, IsUnread, FirstUnread, first_of, unless_read, IsFrom, AreNoNearer, AreBehind, IsFirstBetween}
use Rattle.edr_near.proofs.Searching.{distance_is}

lt-or-ge : (a b : ℕ) → (a < b) ⊎ (b ≤ a)
lt-or-ge a b = elim (cases_Bool (nat_lt a b)) [
  | inl less ↦ inl (ltb-true a b less)
  | inr more ↦ inr (ltb-false a b more)
]

-- ---- squares in the order of their keys

less_first : (a b : ℕ) (rest : Ordering) → ordering_then (nat_cmp a b) rest ≡ Less → (a < b) ⊎ ((a ≡ b) × (rest ≡ Less))
less_first a b rest h = grind (arith, h)

key_from : (c r c' r' : ℕ) → order (key_of c r) (key_of c' r') ≡ Less → IsFrom c r c' r'
key_from c r c' r' h = elim (less_first (c / 256) (c' / 256) (order (c % 256 ∷ r / 256 ∷ r % 256 ∷ []) (c' % 256 ∷ r' / 256 ∷ r' % 256 ∷ [])) h) [
  | inl less ↦ inl (omega (arith, less))
  | inr same ↦ elim (less_first (c % 256) (c' % 256) (order (r / 256 ∷ r % 256 ∷ []) (r' / 256 ∷ r' % 256 ∷ [])) same.1) [
    | inl less ↦ inl (omega (arith, same.0, less))
    | inr still ↦ elim (less_first (r / 256) (r' / 256) (order (r % 256 ∷ []) (r' % 256 ∷ [])) still.1) [
      | inl less ↦ inr (omega (arith, same.0, still.0), omega (arith, less))
      | inr again ↦ elim (less_first (r % 256) (r' % 256) (order [] []) again.1) [
        | inl less ↦ inr (omega (arith, same.0, still.0), omega (arith, again.0, less))
        | inr none ↦ inr (omega (arith, same.0, still.0), omega (arith, again.0, none.0))
      ]
    ]
  ]
]

module _ {V : Type 0} (spot_of : V → Spot) (spot : Spot) (spot_in : IsSpot spot) (cells : List (CellValue V)) (are : AreCells spot_of cells) where
  from_to : (low high : ℕ) (d : CellValue V) → low ≤ high → high < length cells
      → IsFrom (get_or cells low d).column (get_or cells low d).row (get_or cells high d).column (get_or cells high d).row
  from_to low high d le inside = elim (eq-or-lt_of_le le) [
    | inl same ↦ inr (ap (λ n. (get_or cells n d).column) same, (let e = ap (λ n. (get_or cells n d).row) same in omega (arith, e)))
    | inr less ↦ key_from _ _ _ _ (keys_ascend cell_key cells are.ascending low high d less inside)
  ]

  -- what is no farther than any square between two is no farther than the cells between theirs
  pub no_nearer : (low high distance first_column first_row last_column last_row : ℕ) → low < high → high ≤ length cells
      → ((d : CellValue V) → first_column ≡ (get_or cells low d).column) → ((d : CellValue V) → first_row ≡ (get_or cells low d).row)
      → ((d : CellValue V) → last_column ≡ (get_or cells (high - 1) d).column) → ((d : CellValue V) → last_row ≡ (get_or cells (high - 1) d).row)
      → ((column row : ℕ) → IsFrom first_column first_row column row → IsFrom column row last_column last_row → distance ≤ square_distance column row spot)
      → AreNoNearer (distances spot cells) low high distance
  no_nearer low high distance first_column first_row last_column last_row order inside fc fr lc lr least number from to =
      let d : CellValue V = record { column = 0; row = 0; items = [] } in
      let cell = get_or cells number d in
      let number_in : number < length cells = omega (arith, to, inside) in
      let begins : IsFrom first_column first_row cell.column cell.row =
      subst (λ c. IsFrom c first_row cell.column cell.row) (sym (fc d)) (subst (λ r. IsFrom (get_or cells low d).column r cell.column cell.row) (sym (fr d)) (from_to low number d from number_in)) in
      let ends : IsFrom cell.column cell.row last_column last_row =
      subst (λ c. IsFrom cell.column cell.row c last_row) (sym (lc d)) (subst (λ r. IsFrom cell.column cell.row (get_or cells (high - 1) d).column r) (sym (lr d)) (from_to number (high - 1) d (omega (arith, to)) (omega (arith, order, inside)))) in
      let le = least cell.column cell.row begins ends in
      omega (arith, le, distance_is spot_of spot spot_in cells are number d number_in)

module _ (ds : List ℕ) where
  -- cells that are all farther than a candidate are read behind it
  pub behind : (found : Candidate) (low high distance : ℕ) → found.place < 2 ^ 64 → found.distance < distance → AreNoNearer ds low high distance → AreBehind ds low high (Some found)
  behind found low high distance fits less none number from to = (let le = none number from to in omega (arith, fits, less, le))

  module _ (last : Option Candidate) where
    -- nothing between is read before a candidate
    pub none_between : (low high : ℕ) (found : Option Candidate) → IfSome found (IsUnread ds last) → AreBehind ds low high found → IsFirstBetween ds last low high found found
    none_between low high None unread beyond = absurd beyond
    none_between low high (Some found) unread beyond = record { unread = unread; given = omega arith; first = λ number from to _. beyond number from to }

    -- one cell
    same_rank : (candidate : Candidate) (place : ℕ) → candidate.place ≡ place → candidate.distance ≡ distance_at ds place → rank_of candidate ≡ rank_at ds place
    same_rank candidate place is far = ap₂ rank far is

    pub one_between : (candidate : Candidate) (low high : ℕ) → candidate.place ≡ low → candidate.distance ≡ distance_at ds low → low < length ds → high ≡ low + 1
        → (found result : Option Candidate) → IfSome found (IsUnread ds last) → result ≡ unless_read last found candidate → IsFirstBetween ds last low high found result
    one_between candidate low high is far inside one found result unread chosen =
        subst (IsFirstBetween ds last low high found) (sym chosen) (elim (cases_Bool (is_read last (rank_of candidate))) [
          | inl read ↦ subst (IsFirstBetween ds last low high found) (sym (ap (λ b. if b then found else Some (first_of found candidate)) read)) (record {
            unread = unread;
            given = kept_of found;
            first = λ number from to not_read. absurd (false≢true (sym not_read ∙ (ap (λ n. is_read last (rank_at ds n)) (only number from to) ∙ (ap (is_read last) (sym same) ∙ read))));
          })
          | inr not_read ↦ subst (IsFirstBetween ds last low high found) (sym (ap (λ b. if b then found else Some (first_of found candidate)) not_read)) (of_two not_read found unread)
        ])
      where
        same : rank_of candidate ≡ rank_at ds low
        same = same_rank candidate low is far

        only : (number : ℕ) → low ≤ number → number < high → number ≡ low
        only number from to = omega (arith, from, to, one)

        here : is_read last (rank_of candidate) ≡ false → IsUnread ds last candidate
        here not_read = record { inside = subst (λ n. n < length ds) (sym is) inside; distance = far ∙ ap (distance_at ds) (sym is); unread = not_read }

        kept_of : (found : Option Candidate) → IfSome found (λ (c : Candidate). IsSomeAnd found (λ (f : Candidate). rank_of f ≤ rank_of c))
        kept_of None = tt
        kept_of (Some f) = omega arith

        reaches : (c : Candidate) → rank_of c ≤ rank_of candidate → (number : ℕ) → low ≤ number → number < high → rank_of c ≤ rank_at ds number
        reaches c le number from to = subst (λ n. rank_of c ≤ rank_at ds n) (sym (only number from to)) (let h : rank_of c ≤ rank_at ds low = omega (arith, same, le) in h)

        of_two : is_read last (rank_of candidate) ≡ false → (found : Option Candidate) → IfSome found (IsUnread ds last) → IsFirstBetween ds last low high found (Some (first_of found candidate))
        of_two not_read None unread = record { unread = here not_read; given = tt; first = λ number from to _. reaches candidate (omega arith) number from to }
        of_two not_read (Some f) unread = elim (cases_Bool (nat_le (rank_of f) (rank_of candidate))) [
          | inl less ↦ subst (λ c. IsFirstBetween ds last low high (Some f) (Some c)) (sym (ap (λ b. if b then f else candidate) less)) (record {
            unread = unread;
            given = omega arith;
            first = λ number from to _. reaches f (leb-true (rank_of f) (rank_of candidate) less) number from to;
          })
          | inr more ↦ subst (λ c. IsFirstBetween ds last low high (Some f) (Some c)) (sym (ap (λ b. if b then f else candidate) more)) (record {
            unread = here not_read;
            given = (let lt = leb-false (rank_of f) (rank_of candidate) more in omega (arith, lt));
            first = λ number from to _. reaches candidate (omega arith) number from to;
          })
        ]

    -- what is first in one part, and then in another
    lower : (first result : Option Candidate) (at : ℕ) → IfSome first (λ (c : Candidate). IsSomeAnd result (λ (r : Candidate). rank_of r ≤ rank_of c)) → IsSomeAnd first (λ c. rank_of c ≤ at) → IsSomeAnd result (λ r. rank_of r ≤ at)
    lower None result at given le = absurd le
    lower (Some c) None at given le = absurd given
    lower (Some c) (Some r) at given le = omega (arith, given, le)

    still_given : (found first result : Option Candidate) → IfSome found (λ (c : Candidate). IsSomeAnd first (λ (f : Candidate). rank_of f ≤ rank_of c))
        → IfSome first (λ (c : Candidate). IsSomeAnd result (λ (r : Candidate). rank_of r ≤ rank_of c)) → IfSome found (λ (c : Candidate). IsSomeAnd result (λ (r : Candidate). rank_of r ≤ rank_of c))
    still_given None first result h k = tt
    still_given (Some c) first result h k = lower first result (rank_of c) k h

    pub both_between : (low high a b c e : ℕ) → ((number : ℕ) → low ≤ number → number < high → ((a ≤ number) × (number < b)) ⊎ ((c ≤ number) × (number < e)))
        → (found first result : Option Candidate) → IsFirstBetween ds last a b found first → IsFirstBetween ds last c e first result → IsFirstBetween ds last low high found result
    both_between low high a b c e covers found first result one other = record {
      unread = other.unread;
      given = still_given found first result one.given other.given;
      first = λ number from to unread. elim (covers number from to) [
        | inl in_one ↦ lower first result (rank_at ds number) other.given (one.first number in_one.0 in_one.1 unread)
        | inr in_other ↦ other.first number in_other.0 in_other.1 unread
      ];
    }

    -- two halves, whichever is looked at first
    pub halves : (low middle high : ℕ) (found first result : Option Candidate) → IsFirstBetween ds last low middle found first → IsFirstBetween ds last middle high first result
        → IsFirstBetween ds last low high found result
    halves low middle high found first result = both_between low high low middle middle high (λ number from to. elim (lt-or-ge number middle) [
      | inl less ↦ inl (from, less)
      | inr more ↦ inr (more, to)
    ]) found first result

    pub halves_back : (low middle high : ℕ) (found first result : Option Candidate) → IsFirstBetween ds last middle high found first → IsFirstBetween ds last low middle first result
        → IsFirstBetween ds last low high found result
    halves_back low middle high found first result = both_between low high middle high low middle (λ number from to. elim (lt-or-ge number middle) [
      | inl less ↦ inr (from, less)
      | inr more ↦ inl (more, to)
    ]) found first result

    -- of all cells
    pub first_of_all : (end : ℕ) (result : Option Candidate) → IsFirstBetween ds last 0 end None result → FirstUnread ds last end result
    first_of_all end None is = λ number inside. elim (cases_Bool (is_read last (rank_at ds number))) [
      | inl read ↦ read
      | inr unread ↦ absurd (is.first number (omega arith) inside unread)
    ]
    first_of_all end (Some first) is = record { unread = is.unread; first = λ number inside unread. is.first number (omega arith) inside unread }
