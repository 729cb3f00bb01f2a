-- The truth values of a row, and what they say of its nodes.
use Rattle.std.proofs.Common.{◌≡◌, ℕ, ◌+◌, ◌-◌, ◌<◌, ◌≤◌, Bool, true, false, List, [], ◌∷◌, ◌++◌, length, get_or, take, drop, refl, ap, ap₂, sym, ◌∙◌, arith, inl, inr, ℤ, pos, ◌≤ℤ◌, replicate, subst, suc, get_or-take, get_or-drop, length-drop, append_assoc}
use Rattle.std.specs.Prelude.{◌&&◌}
use Rattle.std.proofs.lemmas.Bool.{cases_lt}
use Rattle.std.proofs.lemmas.Int.{ints}
use Rattle.std.proofs.Math.Seq.{drop-append_seam}
use Rattle.std.proofs.lemmas.List.{take_all, get_or-map, length-map, map_more}
use Rattle.edr_base.specs.declared.places.Spot.{Spot}
use Rattle.edr_base.specs.Boxes.{is_between, in_box}
use Rattle.edr_axes.specs.Axes.{value_at, IsAxis}
use Rattle.edr_axes.specs.AxisLaws.{ascending_far}
use Rattle.edr_geometry.specs.Masks as row
use Rattle.edr_geometry.specs.Masks.{IsSet, NoneSet}
use Rattle.edr_edition.specs.Values.{InstanceValue}
use Rattle.edr_query.specs.declared.shapes.Shape.{Shape}
use Rattle.edr_select.specs.Choices.{takes_node}
use Rattle.edr_select.specs.Masks.{IsArea, takes_spot, NoneIn, ColumnsValue, LiesInColumns, Takes, IsTakenRow, bits_at}
use Rattle.edr_select.proofs.MaskReach.{takes_is}

-- tests that agree give one row
pub row_agrees : (t u : Spot → Bool) (y : ℤ) (xs : List ℤ) → ((spot : Spot) → t spot ≡ u spot) → row.row_of t y xs ≡ row.row_of u y xs
row_agrees t u y [] same = refl
row_agrees t u y (x ∷ xs) same = ap₂ (λ b bs. b ∷ bs) (same (row.spot_at y x)) (row_agrees t u y xs same)

-- one truth value more behind those that stood there
pub one_more : (old bits new done next : List Bool) (b : Bool) → bits ≡ old ++ done → new ≡ bits ++ b ∷ [] → done ++ b ∷ [] ≡ next → new ≡ old ++ next
one_more old bits new done next b was pushed here = pushed ∙ ap (λ l. l ++ b ∷ []) was ∙ append_assoc old done (b ∷ []) ∙ ap (λ l. old ++ l) here

-- those behind others
pub behind_is : (bits old row : List Bool) (start : ℕ) → start ≡ length old → bits ≡ old ++ row → take (length bits - start) (drop start bits) ≡ row
behind_is bits old row start stood is =
    take_all (length bits - start) (drop start bits) (omega (arith, length-drop start bits)) ∙ ap₂ (λ n l. drop n l) stood is ∙ drop-append_seam old row

-- one place more
pub row_more : (t : Spot → Bool) (y : ℤ) (xs : List ℤ) (k : ℕ) (old bits new : List Bool) (b : Bool) → k < length xs → bits ≡ old ++ row.row_of t y (take k xs) → new ≡ bits ++ b ∷ []
    → b ≡ t (row.spot_at y (value_at xs k)) → new ≡ old ++ row.row_of t y (take (k + 1) xs)
row_more t y xs k old bits new b inside was pushed here =
    one_more old bits new (row.row_of t y (take k xs)) (row.row_of t y (take (k + 1) xs)) b was pushed
    (ap (λ v. row.row_of t y (take k xs) ++ v ∷ []) here ∙ sym (map_more (λ x. t (row.spot_at y x)) xs k (pos 0) inside))

-- a row of which each place passes
all_pass : (t : Spot → Bool) (y : ℤ) (xs : List ℤ) → ((k : ℕ) → k < length xs → t (row.spot_at y (value_at xs k)) ≡ true) → row.row_of t y xs ≡ replicate (length xs) true
all_pass t y [] h = refl
all_pass t y (x ∷ xs) h = ap₂ (λ b bs. b ∷ bs) (h 0 (omega arith)) (all_pass t y xs (λ k l. h (suc k) (omega (arith, l))))

-- an x is_between two that lie is_between bounds lies there too
between_ends : (low high first x last : ℤ) (rows : Bool) → first ≤ℤ x → x ≤ℤ last → (is_between low high first && rows) ≡ true → (is_between low high last && rows) ≡ true → (is_between low high x && rows) ≡ true
between_ends low high first x last rows from to one other = grind (arith, ints)

ascends_to : (xs : List ℤ) → IsAxis xs → (j k : ℕ) → j ≤ k → k < length xs → value_at xs j ≤ℤ value_at xs k
ascends_to xs axis j k before inside = elim (cases_lt j k) [
  | inl lt ↦ (let far = ascending_far xs axis.ascending j k lt inside in omega (arith, ints, far))
  | inr ge ↦ (let same : j ≡ k = omega arith in subst (λ n. value_at xs j ≤ℤ value_at xs n) same (omega (arith, ints)))
]

-- where the first and the last place of an axis are in a box, all are
pub row_in_box : (lo hi : Spot) (y : ℤ) (xs : List ℤ) → IsAxis xs → in_box (row.spot_at y (value_at xs 0)) lo hi ≡ true → in_box (row.spot_at y (value_at xs (length xs - 1))) lo hi ≡ true
    → row.row_of (λ p. in_box p lo hi) y xs ≡ replicate (length xs) true
row_in_box lo hi y xs axis first last =
    all_pass (λ p. in_box p lo hi) y xs (λ k inside.
    between_ends lo.x hi.x (value_at xs 0) (value_at xs k) (value_at xs (length xs - 1)) (is_between lo.y hi.y y)
    (ascends_to xs axis 0 k (omega arith) inside) (ascends_to xs axis k (length xs - 1) (omega (arith, inside)) (omega (arith, inside))) first last)

-- lists of one length with the same at each place
pub same_bits : (bits mask : List Bool) → length bits ≡ length mask → ((k : ℕ) → k < length mask → get_or bits k false ≡ get_or mask k false) → bits ≡ mask
same_bits [] [] long h = refl
same_bits [] (b ∷ mask) long h = absurd (omega (arith, long))
same_bits (a ∷ bits) [] long h = absurd (omega (arith, long))
same_bits (a ∷ bits) (b ∷ mask) long h = ap₂ (λ c l. c ∷ l) (h 0 (omega arith)) (same_bits bits mask (omega (arith, long)) (λ k l. h (suc k) (omega (arith, l))))

module _ (i : InstanceValue) (shape : Shape) (area : IsArea shape) (columns : ColumnsValue) (lies : LiesInColumns i shape columns) where
  abbrev w : ℕ
  w = length columns.xs

  column_value : (k : ℕ) → k < w → value_at columns.xs k ≡ value_at i.xs (columns.left + k)
  column_value k inside = ap (λ vs. value_at vs k) lies.values ∙ get_or-take w (drop columns.left i.xs) k (pos 0) inside ∙ get_or-drop columns.left i.xs k (pos 0)

  -- a node that is taken stands in one of the columns
  pub from_left : (y x : ℕ) → Takes i shape y x → columns.left ≤ x
  from_left y x t = elim (cases_lt x columns.left) [
    | inl lt ↦ (let both : true ≡ false = sym t.takes ∙ lies.before y x lt in cc)
    | inr ge ↦ ge
  ]

  pub to_right : (y x : ℕ) → Takes i shape y x → x < columns.left + w
  to_right y x t = elim (cases_lt x (columns.left + w)) [
    | inl lt ↦ lt
    | inr ge ↦ (let both : true ≡ false = sym t.takes ∙ lies.behind y x ge t.inside in cc)
  ]

  pub as_long : (y : ℕ) → length (bits_at i shape columns y) ≡ w
  as_long y = length-map columns.xs (λ x. takes_spot shape (row.spot_at (value_at i.ys y) x))

  pub bit_at : (y k : ℕ) → k < w → get_or (bits_at i shape columns y) k false ≡ takes_node i shape y (columns.left + k)
  bit_at y k inside =
      get_or-map (λ v. takes_spot shape (row.spot_at (value_at i.ys y) v)) columns.xs k (pos 0) false inside
      ∙ ap (λ v. takes_spot shape (row.spot_at (value_at i.ys y) v)) (column_value k inside)
      ∙ sym (takes_is i shape area y (columns.left + k))

  module _ (y : ℕ) (bits : List Bool) (is : bits ≡ bits_at i shape columns y) where
    long : length bits ≡ w
    long = ap length is ∙ as_long y

    bit : (k : ℕ) → k < w → get_or bits k false ≡ takes_node i shape y (columns.left + k)
    bit k inside = ap (λ l. get_or l k false) is ∙ bit_at y k inside

    set_at : (k : ℕ) → IsSet bits k → Takes i shape y (columns.left + k)
    set_at k set = let inside : k < w = omega (arith, long, set.0) in record { inside = omega (arith, inside, lies.inside); takes = sym (bit k inside) ∙ set.1 }

    unset : (x : ℕ) → Takes i shape y x → get_or bits (x - columns.left) false ≡ false → ⊥
    unset x t none =
        let inside : x - columns.left < w = omega (arith, from_left y x t, to_right y x t) in
        let same : columns.left + (x - columns.left) ≡ x = omega (arith, from_left y x t) in
        let both : true ≡ false = sym t.takes ∙ (ap (takes_node i shape y) (sym same) ∙ (sym (bit (x - columns.left) inside) ∙ none)) in cc

    pub row_is : (first last : ℕ) → IsSet bits first × NoneSet bits 0 first → IsSet bits last × NoneSet bits (last + 1) (length bits)
        → IsTakenRow i shape y (record { first = columns.left + first; last = columns.left + last })
    row_is first last f l = record {
      first = set_at first f.0;
      last = set_at last l.0;
      least = λ x t. elim (cases_lt x (columns.left + first)) [
        | inl lt ↦ absurd (unset x t (f.1 (x - columns.left) (omega arith) (omega (arith, lt, from_left y x t))))
        | inr ge ↦ ge
      ];
      greatest = λ x t. elim (cases_lt (columns.left + last) x) [
        | inl lt ↦ absurd (unset x t (l.1 (x - columns.left) (omega (arith, lt)) (omega (arith, long, lt, to_right y x t))))
        | inr ge ↦ ge
      ];
    }

    pub no_row : NoneSet bits 0 (length bits) → NoneIn i shape y (y + 1)
    no_row none other x low high inside =
        let same : other ≡ y = omega arith in
        ap (λ k. takes_node i shape k x) same
        ∙ elim (cases_lt x columns.left) [
          | inl lt ↦ lies.before y x lt
          | inr ge ↦ elim (cases_lt x (columns.left + w)) [
            | inl lt ↦ (let here : x - columns.left < w = omega (arith, ge, lt) in
                let back : columns.left + (x - columns.left) ≡ x = omega (arith, ge) in
                ap (takes_node i shape y) (sym back) ∙ sym (bit (x - columns.left) here) ∙ none (x - columns.left) (omega arith) (omega (arith, long, here)))
            | inr over ↦ lies.behind y x over inside
          ]
        ]
