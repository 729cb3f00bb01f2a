-- A search through cells: one more that is read, and its end.
use Rattle.std.proofs.Common.{◌≡◌, ◌⊎◌, ℕ, ◌+◌, ◌*◌, ◌^◌, ◌<◌, ◌≤◌, ◌&&◌, nat_lt, nat_le, eqb, true, false, inl, inr, List, [], ◌∷◌, ◌++◌, length, get_or, Contains, Option, Some, None, option_map, option_to_list, IfSome, IsSomeAnd, if◌then◌else◌, refl, sym, ap, ap₂, ◌∙◌, subst, arith}
use Rattle.std.proofs.lemmas.Bool.{false≢true, cases_Bool, leb-true, leb-false, le-leb, lt-ltb, ltb-true, eq-eqb, eqb-true, eqb-false}
use Rattle.std.proofs.lemmas.List.{get_or-map}
use Rattle.std.proofs.lemmas.List.Elements.{All-get_or, All-contains, Contains-append_cases, Contains-get_or}
use Rattle.std.proofs.lemmas.List.Sums.{sum_by-append, sum_by-cons}
use Rattle.edr_base.specs.declared.places.Spot.{Spot}
use Rattle.edr_near.specs.declared.candidates.Candidate.{Candidate}
use Rattle.edr_near.specs.Squares.{IsSpot, square_distance}
use Rattle.edr_near.specs.Near.{Nearest, distance_of}
use Rattle.edr_near.specs.Cells.{CellValue, IsIn, IsCell, AreCells, Has, distances, distance_at}
use Rattle.edr_near.specs.Looks.{times_in}
use Rattle.edr_near.specs.Search.{rank, rank_of, rank_at, is_read, IsFirst, items_at, IsFound, Searched, NextCell, IsSearched}
use Rattle.edr_near.proofs.Nearest.{nearest_more, only_one, farther}
use Rattle.edr_near.proofs.Within.{square_within, distances_long}

-- ---- ranks

rank_same : (d d' n p : ℕ) → n < 2 ^ 64 → p < 2 ^ 64 → d * 2 ^ 64 + n ≡ d' * 2 ^ 64 + p → n ≡ p
rank_same d d' n p h k e = omega (arith, h, k, e)

pub rank_below : (d d' n p : ℕ) → p < 2 ^ 64 → d * 2 ^ 64 + n ≤ d' * 2 ^ 64 + p → d ≤ d'
rank_below d d' n p h e = omega (arith, h, e)

-- what was read up to the last one was read up to a later one
still_read : (last : Option Candidate) (next : Candidate) (at : ℕ) → is_read last (rank_of next) ≡ false → is_read last at ≡ true → is_read (Some next) at ≡ true
still_read None next at unread read = absurd (false≢true read)
still_read (Some last) next at unread read =
    le-leb at (rank_of next) (omega (arith, leb-true at (rank_of last) read, leb-false (rank_of next) (rank_of last) unread))

-- ---- counts

one_times : (n number : ℕ) → times_in (n ∷ []) number ≡ (if eqb n number then 1 else 0)
one_times n number = sum_by-cons (λ x. if eqb x number then 1 else 0) n [] ∙ omega arith

more_times : (numbers : List ℕ) (n number : ℕ) → times_in (numbers ++ n ∷ []) number ≡ times_in numbers number + (if eqb n number then 1 else 0)
more_times numbers n number =
    sum_by-append (λ x. if eqb x number then 1 else 0) numbers (n ∷ []) ∙ ap (λ k. times_in numbers number + k) (one_times n number)

none_in : (numbers : List ℕ) → ((number : ℕ) → times_in numbers number ≡ 0) → numbers ≡ []
none_in [] h = refl
none_in (n ∷ numbers) h =
    let once : ◌≡◌ {A = ℕ} (if eqb n n then 1 else 0) 1 = ap (λ b. if b then 1 else 0) (eq-eqb n n refl) in
    let count = h n in
    let first = sum_by-cons (λ x. if eqb x n then 1 else 0) n numbers in
    absurd (omega (arith, once, count, first))

-- ---- the items of a cell

no_cell : {V : Type 0} → CellValue V
no_cell = record { column = 0; row = 0; items = [] }

module _ {V : Type 0} (spot_of : V → Spot) (spot : Spot) (spot_in : IsSpot spot) (cells : List (CellValue V)) (are : AreCells spot_of cells) where
  pub items_are : (number : ℕ) (d : CellValue V) → number < length cells → items_at cells number ≡ (get_or cells number d).items
  items_are number d inside = get_or-map (λ (cell : CellValue V). cell.items) cells number d [] inside

  pub distance_is : (number : ℕ) (d : CellValue V) → number < length cells
      → distance_at (distances spot cells) number ≡ square_distance (get_or cells number d).column (get_or cells number d).row spot
  distance_is number d inside = get_or-map (λ (cell : CellValue V). square_distance cell.column cell.row spot) cells number d 0 inside

  is_cell : (number : ℕ) → number < length cells → IsCell spot_of (get_or cells number no_cell)
  is_cell number inside = All-get_or (IsCell spot_of) cells number no_cell inside are.each

  -- no item is nearer than the square of its cell
  pub within_cell : (id_of : V → List ℕ) (number : ℕ) (item : V) → number < length cells → Contains (items_at cells number) item
      → distance_at (distances spot cells) number ≤ distance_of id_of spot_of spot item
  within_cell id_of number item inside there =
      let cell = get_or cells number no_cell in
      let is = is_cell number inside in
      let stands : Contains cell.items item = subst (λ items. Contains items item) (items_are number no_cell inside) there in
      let le = square_within spot_of cell.column cell.row item spot spot_in (All-contains (IsIn spot_of cell.column cell.row) cell.items item is.inside stands) in
      omega (arith, le, distance_is number no_cell inside)

  -- a cell has an item
  pub some_item : (number : ℕ) → number < length cells → (item : V) × Contains (items_at cells number) item
  some_item number inside =
      let cell = get_or cells number no_cell in
      first_of cell.items (items_at cells number) (sym (items_are number no_cell inside)) (is_cell number inside).some
    where
      first_of : (items same : List V) → items ≡ same → 0 < length items → (item : V) × Contains same item
      first_of [] same is some = absurd (omega (arith, some))
      first_of (item ∷ items) same is some = (item, subst (λ (l : List V). Contains l item) is (0, omega arith, refl))

  long : length (distances spot cells) ≡ length cells
  long = distances_long spot cells

  pub has_it : (number : ℕ) (item : V) → number < length cells → Contains (items_at cells number) item → Has cells item
  has_it number item inside there = record {
    cell = get_or cells number no_cell;
    there = Contains-get_or cells number no_cell inside;
    stands = subst (λ items. Contains items item) (items_are number no_cell inside) there;
  }

  pub at_number : (item : V) → Has cells item → (number : ℕ) × (number < length cells) × Contains (items_at cells number) item
  at_number item has =
      let number = has.there.0 in
      let inside = has.there.1 in
      (number, inside, subst (λ items. Contains items item) (sym (items_are number has.cell inside ∙ ap (λ (cell : CellValue V). cell.items) has.there.2)) has.stands)

  -- ---- one more cell is read

  module _ (id_of : V → List ℕ) (fits : length cells < 2 ^ 64) where
    abbrev ds : List ℕ
    ds = distances spot cells

    module _ (last : Option Candidate) (next : Candidate) (first : IsFirst ds last (length ds) next) where
      next_inside : next.place < length cells
      next_inside = omega (arith, first.unread.inside, long)

      next_rank : rank_at ds next.place ≡ rank_of next
      next_rank = ap (λ d. rank d next.place) (sym first.unread.distance)

      read_here : is_read (Some next) (rank_at ds next.place) ≡ true
      read_here = le-leb (rank_at ds next.place) (rank_of next) (omega (arith, next_rank))

      -- what is read now was read, or it is this one
      read_more : (number : ℕ) → number < length ds → is_read (Some next) (rank_at ds number) ≡ true → (is_read last (rank_at ds number) ≡ true) ⊎ (number ≡ next.place)
      read_more number inside now = elim (cases_Bool (is_read last (rank_at ds number))) [
        | inl was ↦ inl was
        | inr unread ↦
            (let low = first.first number inside unread in
            let high = leb-true (rank_at ds number) (rank_of next) now in
            inr (rank_same (distance_at ds number) next.distance number next.place (omega (arith, inside, long, fits)) (omega (arith, next_inside, fits)) (omega (arith, low, high))))
      ]

      no_farther : (number : ℕ) → number < length ds → is_read (Some next) (rank_at ds number) ≡ true → distance_at ds number ≤ next.distance
      no_farther number inside now =
          rank_below (distance_at ds number) next.distance number next.place (omega (arith, next_inside, fits)) (leb-true (rank_at ds number) (rank_of next) now)

      same_read : (number : ℕ) → number < length ds → ((number ≡ next.place) → ⊥) → is_read (Some next) (rank_at ds number) ≡ is_read last (rank_at ds number)
      same_read number inside apart = elim (cases_Bool (is_read last (rank_at ds number))) [
        | inl was ↦ still_read last next (rank_at ds number) first.unread.unread was ∙ sym was
        | inr unread ↦ elim (cases_Bool (is_read (Some next) (rank_at ds number))) [
          | inl now ↦ elim (read_more number inside now) [
            | inl was ↦ absurd (false≢true (sym unread ∙ was))
            | inr here ↦ absurd (apart here)
          ]
          | inr not_now ↦ not_now ∙ sym unread
        ]
      ]

      found_more : (item : V) → IsFound cells ds (Some next) item → IsFound cells ds last item ⊎ Contains (items_at cells next.place) item
      found_more item found = elim (read_more found.number found.inside found.was_read) [
        | inl was ↦ inl (record { number = found.number; inside = found.inside; was_read = was; stands = found.stands })
        | inr here ↦ inr (subst (λ n. Contains (items_at cells n) item) here found.stands)
      ]

      found_still : (item : V) → IsFound cells ds last item → IsFound cells ds (Some next) item
      found_still item found = record {
        number = found.number;
        inside = found.inside;
        was_read = still_read last next (rank_at ds found.number) first.unread.unread found.was_read;
        stands = found.stands;
      }

      found_new : (item : V) → Contains (items_at cells next.place) item → IsFound cells ds (Some next) item
      found_new item there = record { number = next.place; inside = first.unread.inside; was_read = read_here; stands = there }

      each_more : (numbers : List ℕ) → ((number : ℕ) → times_in numbers number ≡ (if nat_lt number (length ds) && is_read last (rank_at ds number) then 1 else 0))
          → (number : ℕ) → times_in (numbers ++ next.place ∷ []) number ≡ (if nat_lt number (length ds) && is_read (Some next) (rank_at ds number) then 1 else 0)
      each_more numbers each number = more_times numbers next.place number ∙ elim (cases_Bool (eqb next.place number)) [
        | inl same ↦
            (let is : next.place ≡ number = eqb-true next.place number same in
            let inside : nat_lt number (length ds) ≡ true = lt-ltb number (length ds) (subst (λ n. n < length ds) is first.unread.inside) in
            let unread : is_read last (rank_at ds number) ≡ false = subst (λ n. is_read last (rank_at ds n) ≡ false) is (ap (is_read last) next_rank ∙ first.unread.unread) in
            let now : is_read (Some next) (rank_at ds number) ≡ true = subst (λ n. is_read (Some next) (rank_at ds n) ≡ true) is read_here in
            let before : times_in numbers number ≡ 0 = each number ∙ ap₂ (λ a b. if a && b then 1 else 0) inside unread in
            let after : ◌≡◌ {A = ℕ} (if nat_lt number (length ds) && is_read (Some next) (rank_at ds number) then 1 else 0) 1 = ap₂ (λ a b. if a && b then 1 else 0) inside now in
            ap₂ (λ n b. n + (if b then 1 else 0)) before same ∙ sym after)
        | inr differ ↦
            (let apart : (number ≡ next.place) → ⊥ = λ e. eqb-false next.place number differ (sym e) in
            let plus : times_in numbers number + (if eqb next.place number then 1 else 0) ≡ times_in numbers number + 0 = ap (λ b. times_in numbers number + (if b then 1 else 0)) differ in
            plus ∙ (omega arith ∙ (each number ∙ same_each number apart)))
      ]
        where
          same_each : (number : ℕ) → ((number ≡ next.place) → ⊥)
              → ◌≡◌ {A = ℕ} (if nat_lt number (length ds) && is_read last (rank_at ds number) then 1 else 0) (if nat_lt number (length ds) && is_read (Some next) (rank_at ds number) then 1 else 0)
          same_each number apart = elim (cases_Bool (nat_lt number (length ds))) [
            | inl inside ↦ ap (λ b. if nat_lt number (length ds) && b then 1 else 0) (sym (same_read number (ltb-true number (length ds) inside) apart))
            | inr beyond ↦ ap (λ b. if b && is_read last (rank_at ds number) then 1 else 0) beyond ∙ sym (ap (λ b. if b && is_read (Some next) (rank_at ds number) then 1 else 0) beyond)
          ]

      pub step : (best answer : Option V) (numbers : List ℕ) → Searched id_of spot_of spot cells ds last best numbers
          → IfSome (option_map (distance_of id_of spot_of spot) best) (λ distance. next.distance ≤ distance)
          → Nearest id_of spot_of spot (Contains (option_to_list best ++ items_at cells next.place)) answer
          → Searched id_of spot_of spot cells ds (Some next) answer (numbers ++ next.place ∷ [])
      step best answer numbers was limit is =
          let near = nearest_more id_of spot_of spot (IsFound cells ds last) (IsFound cells ds (Some next)) (items_at cells next.place) found_still found_new found_more best answer was.nearest is in
          record { nearest = near; within = within best answer was.within limit is; each = each_more numbers was.each }
        where
          within : (best answer : Option V)
              → ((number : ℕ) → number < length ds → is_read last (rank_at ds number) ≡ true → IsSomeAnd best (λ item. distance_at ds number ≤ distance_of id_of spot_of spot item))
              → IfSome (option_map (distance_of id_of spot_of spot) best) (λ distance. next.distance ≤ distance)
              → Nearest id_of spot_of spot (Contains (option_to_list best ++ items_at cells next.place)) answer
              → (number : ℕ) → number < length ds → is_read (Some next) (rank_at ds number) ≡ true → IsSomeAnd answer (λ item. distance_at ds number ≤ distance_of id_of spot_of spot item)
          within None None was limit is number inside now = (let some = some_item next.place next_inside in absurd (is some.0 some.1))
          within (Some b) None was limit is number inside now = absurd (is b (0, omega arith, refl))
          within None (Some item) was limit is number inside now =
              let le = no_farther number inside now in
              let near = within_cell id_of next.place item next_inside is.one in
              omega (arith, le, near, first.unread.distance)
          within (Some b) (Some item) was limit is number inside now = elim (Contains-append_cases (b ∷ []) (items_at cells next.place) item is.one) [
            | inl same ↦ subst (λ x. distance_at ds number ≤ distance_of id_of spot_of spot x) (only_one b item same) (elim (read_more number inside now) [
              | inl old ↦ was number inside old
              | inr here ↦ (let le = no_farther number inside now in omega (arith, le, limit))
            ])
            | inr there ↦
                (let le = no_farther number inside now in
                let near = within_cell id_of next.place item next_inside there in
                omega (arith, le, near, first.unread.distance))
          ]

    -- ---- the end

    pub ends : (last : Option Candidate) (best : Option V) (numbers : List ℕ) → Searched id_of spot_of spot cells ds last best numbers
        → NextCell ds last (option_map (distance_of id_of spot_of spot) best) None → IsSearched id_of spot_of spot cells best numbers
    ends last None numbers was over =
        let none : (number : ℕ) → number < length ds → ⊥ = λ number inside.
        elim (cases_Bool (is_read last (rank_at ds number))) [
          | inl read ↦ (let some = some_item number (omega (arith, inside, long)) in was.nearest some.0 (record { number = number; inside = inside; was_read = read; stands = some.1 }))
          | inr unread ↦ over number inside unread
        ] in
        record {
          nearest = λ item has. let at = at_number item has in none at.0 (omega (arith, at.1, long));
          each = none_in numbers (λ number. was.each number ∙ elim (cases_Bool (nat_lt number (length ds))) [
            | inl inside ↦ absurd (none number (ltb-true number (length ds) inside))
            | inr beyond ↦ ap (λ b. if b && is_read last (rank_at ds number) then 1 else 0) beyond
          ]);
        }
    ends last (Some best) numbers was over = record {
      nearest = record {
        one = has_it was.nearest.one.number best (omega (arith, was.nearest.one.inside, long)) was.nearest.one.stands;
        least = λ item has.
            let at = at_number item has in
            let inside : at.0 < length ds = omega (arith, at.1, long) in
            elim (cases_Bool (is_read last (rank_at ds at.0))) [
              | inl read ↦ was.nearest.least item (record { number = at.0; inside = inside; was_read = read; stands = at.2 })
              | inr unread ↦
                  (let less = over at.0 inside unread in
                  let near = within_cell id_of at.0 item at.1 at.2 in
                  farther id_of spot_of spot item best (omega (arith, less, near)))
            ];
      };
      each = λ number. was.each number ∙ elim (cases_Bool (nat_lt number (length ds))) [
        | inl inside ↦ ap (λ b. if nat_lt number (length ds) && b then 1 else 0) (same number (ltb-true number (length ds) inside))
        | inr beyond ↦ ap (λ b. if b && is_read last (rank_at ds number) then 1 else 0) beyond
            ∙ sym (ap (λ b. if b && nat_le (distance_at ds number) (distance_of id_of spot_of spot best) then 1 else 0) beyond)
      ];
    }
      where
        same : (number : ℕ) → number < length ds → is_read last (rank_at ds number) ≡ nat_le (distance_at ds number) (distance_of id_of spot_of spot best)
        same number inside = elim (cases_Bool (is_read last (rank_at ds number))) [
          | inl read ↦ read ∙ sym (le-leb (distance_at ds number) (distance_of id_of spot_of spot best) (was.within number inside read))
          | inr unread ↦ unread ∙ sym (not_le (distance_at ds number) (distance_of id_of spot_of spot best) (over number inside unread))
        ]
          where
            not_le : (a b : ℕ) → b < a → nat_le a b ≡ false
            not_le a b h = grind (arith, h)

    -- before any cell is read
    pub begun : Searched id_of spot_of spot cells ds None None []
    begun = record {
      nearest = λ item found. false≢true found.was_read;
      within = λ number inside read. absurd (false≢true read);
      each = λ number. elim (cases_Bool (nat_lt number (length ds))) [
        | inl inside ↦ sym (ap (λ b. if b && false then 1 else 0) inside)
        | inr beyond ↦ sym (ap (λ b. if b && false then 1 else 0) beyond)
      ];
    }
