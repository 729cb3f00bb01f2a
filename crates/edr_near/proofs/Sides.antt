-- The items of two sides.
use Rattle.std.proofs.Common.{◌≡◌, ◌<◌, false, inl, inr, ◌&&◌, bytes_eq, ℕ, ◌≤ℤ◌, List, [], ◌∷◌, ◌++◌, length, Vec, Contains, Result, Ok, Err, IfOk, sym, ap, ◌∙◌, subst, arith, length-append}
use Rattle.std.proofs.lemmas.List.Elements.{Contains-append_left, Contains-append_right, Contains-append_cases, Contains-push, Contains-push_cases}
use Rattle.std.specs.Arc.{arc_value}
use Rattle.std.specs.declared.sync.Arc.{Arc}
use Rattle.std.specs.declared.alloc.Global.{Global}
use Rattle.std.specs.Ordering.{int_eq}
use Rattle.std.proofs.lemmas.Bool.{cases_Bool, false≢true, and_parts}
use Rattle.std.proofs.lemmas.Bool.Decides.{Decides-int_eq}
use Rattle.edr_base.specs.Boxes.{in_box}
use Rattle.edr_base.specs.declared.places.Spot.{Spot}
use Rattle.edr_near.specs.declared.trees.Top.{Top}
use Rattle.edr_near.specs.declared.trees.Top.TheVariants.{Items, Sides}
use Rattle.edr_near.specs.declared.trees.Fork.{Fork}
use Rattle.edr_near.specs.Near.{is_it}
use Rattle.edr_near.specs.declared.frames.Frame.{Frame}
use Rattle.edr_near.specs.Frames.{Holds, IsFrame}
use Rattle.edr_near.specs.Kept.{values_of, HasAll, IsMore, AreBoth, IsLeft}
use Rattle.edr_near.specs.Trees.{all_in, HasSides, IsFramed}
use Rattle.edr_near.proofs.Within.{held_in}

-- what holds of a result holds of it in other words
pub if_ok : {A E : Type 0} (P Q : A → Type 0) (r : Result A E) → IfOk r P → ((x : A) → P x → Q x) → IfOk r Q
if_ok P Q (Err e) h f = tt
if_ok P Q (Ok x) h f = f x h

pub record AtFork {T : Type 0} (items before behind : List T) : Type 0 where
  pub is : items ≡ before ++ behind
  pub before_shorter : length before < length items
  pub behind_shorter : length behind < length items

pub at_fork : {T : Type 0} (items : List T) (top : Top T) (shared : Arc (Fork T) Global) (fork : Fork T)
    → all_in top ≡ items → top ≡ Sides shared → fork ≡ arc_value shared → HasSides top → AtFork items fork.before fork.behind
at_fork {T} items top shared fork view is same has =
    let some : HasSides (Sides shared) = subst HasSides is has in
    let e : items ≡ (arc_value shared).before ++ (arc_value shared).behind = sym view ∙ ap all_in is in
    let long = ap length e ∙ length-append (arc_value shared).before (arc_value shared).behind in
    record {
      is = e ∙ ap (λ (f : Fork T). f.before ++ f.behind) (sym same);
      before_shorter = subst (λ (f : Fork T). length f.before < length items) (sym same) (let less : length (arc_value shared).before < length items = omega (arith, long, some.1) in less);
      behind_shorter = subst (λ (f : Fork T). length f.behind < length items) (sym same) (let less : length (arc_value shared).behind < length items = omega (arith, long, some.0) in less);
    }

-- the items of a page
pub at_page : {T : Type 0} (items : List T) (top : Top T) (page : Arc (Vec (Arc T Global) Global) Global) (vec : Vec (Arc T Global) Global) (slice : List (Arc T Global))
    → all_in top ≡ items → top ≡ Items page → vec ≡ arc_value page → slice ≡ vec.items → values_of slice ≡ items
at_page {T} items top page vec slice view is same all =
    ap values_of all ∙ (ap (λ (v : Vec (Arc T Global) Global). values_of v.items) same ∙ (sym (ap all_in is) ∙ view))

-- a box round two sides
pub framed_both : {T : Type 0} (spot_of : T → Spot) (front_frame back_frame frame : Frame) (front back : List T) → IsFramed spot_of front_frame front → IsFramed spot_of back_frame back
    → IsFrame frame → ((s : Spot) → Holds front_frame s → Holds frame s) → ((s : Spot) → Holds back_frame s → Holds frame s) → IsFramed spot_of frame (front ++ back)
framed_both spot_of front_frame back_frame frame front back one other within first second = record {
  within = within;
  some = omega (arith, length-append front back, one.some);
  holds = λ item there. elim (Contains-append_cases front back item there) [
    | inl own ↦ first (spot_of item) (one.holds item own)
    | inr own ↦ second (spot_of item) (other.holds item own)
  ];
}

pub fork_framed : {T : Type 0} (spot_of : T → Spot) (frame : Frame) (fork made : Fork T) → fork ≡ made → 0 < length made.before → 0 < length made.behind
    → IsFramed spot_of frame (made.before ++ made.behind) → ((0 < length fork.before) × (0 < length fork.behind)) × IsFramed spot_of frame (fork.before ++ fork.behind)
fork_framed {T} spot_of frame fork made is front back framed =
    subst (λ (f : Fork T). ((0 < length f.before) × (0 < length f.behind)) × IsFramed spot_of frame (f.before ++ f.behind)) (sym is) ((front, back), framed)

module _ {V : Type 0} where
  pub both_of : (front back both : List V) → both ≡ front ++ back → AreBoth front back both
  both_of front back both is v = (
    λ there. Contains-append_cases front back v (subst (λ (l : List V). Contains l v) is there),
    λ either. subst (λ (l : List V). Contains l v) (sym is) (elim either [
      | inl one ↦ Contains-append_left front back v one
      | inr one ↦ Contains-append_right front back v one
    ]),
  )

  pub turned_round : (front back both : List V) → AreBoth front back both → AreBoth back front both
  turned_round front back both are v = (
    λ there. elim ((are v).0 there) [
      | inl one ↦ inr one
      | inr one ↦ inl one
    ],
    λ either. elim either [
      | inl one ↦ (are v).1 (inr one)
      | inr one ↦ (are v).1 (inl one)
    ],
  )

  -- ---- one more on one of two sides

  pub pushed_front : (front back all : List V) (item : V) → AreBoth front back all → AreBoth (front ++ item ∷ []) back (all ++ item ∷ [])
  pushed_front front back all item are v = (
    λ there. elim (Contains-push_cases all item v there) [
      | inl old ↦ elim ((are v).0 old) [
        | inl one ↦ inl (Contains-append_left front (item ∷ []) v one)
        | inr one ↦ inr one
      ]
      | inr own ↦ inl (subst (Contains (front ++ item ∷ [])) own (Contains-push front item))
    ],
    λ either. elim either [
      | inl one ↦ elim (Contains-push_cases front item v one) [
        | inl old ↦ Contains-append_left all (item ∷ []) v ((are v).1 (inl old))
        | inr own ↦ subst (Contains (all ++ item ∷ [])) own (Contains-push all item)
      ]
      | inr one ↦ Contains-append_left all (item ∷ []) v ((are v).1 (inr one))
    ],
  )

  pub pushed_back : (front back all : List V) (item : V) → AreBoth front back all → AreBoth front (back ++ item ∷ []) (all ++ item ∷ [])
  pushed_back front back all item are =
      turned_round (back ++ item ∷ []) front (all ++ item ∷ []) (pushed_front back front all item (turned_round front back all are))

  pub none_yet : (front back : List V) → front ≡ [] → back ≡ [] → AreBoth front back []
  none_yet front back no_front no_back v = (
    λ there. absurd (omega (arith, there.1)),
    λ either. elim either [
      | inl one ↦ absurd (let h = one.1 in let e = ap length no_front in omega (arith, h, e))
      | inr one ↦ absurd (let h = one.1 in let e = ap length no_back in omega (arith, h, e))
    ],
  )

  -- ---- one more

  pub pushed_more : (items : List V) (item : V) (more : List V) → more ≡ items ++ item ∷ [] → IsMore items item more
  pushed_more items item more is v = (
    λ there. elim (Contains-push_cases items item v (subst (λ (l : List V). Contains l v) is there)) [
      | inl had ↦ inr had
      | inr own ↦ inl (sym own)
    ],
    λ either. subst (λ (l : List V). Contains l v) (sym is) (elim either [
      | inl own ↦ subst (Contains (items ++ item ∷ [])) (sym own) (Contains-push items item)
      | inr had ↦ Contains-append_left items (item ∷ []) v had
    ]),
  )

  pub all_more : (items : List V) (item : V) (more same : List V) → IsMore items item more → HasAll more same → IsMore items item same
  all_more items item more same is all v = (λ there. (is v).0 ((all v).0 there), λ either. (all v).1 ((is v).1 either))

  -- where one of two sides has one more, both together have
  pub more_beside : (item : V) (front more back both together : List V) → IsMore front item more → AreBoth front back both → AreBoth more back together → IsMore both item together
  more_beside item front more back both together is were are v = (
    λ there. elim ((are v).0 there) [
      | inl one ↦ elim ((is v).0 one) [
        | inl own ↦ inl own
        | inr had ↦ inr ((were v).1 (inl had))
      ]
      | inr one ↦ inr ((were v).1 (inr one))
    ],
    λ either. elim either [
      | inl own ↦ (are v).1 (inl ((is v).1 (inl own)))
      | inr had ↦ elim ((were v).0 had) [
        | inl one ↦ (are v).1 (inl ((is v).1 (inr one)))
        | inr one ↦ (are v).1 (inr one)
      ]
    ],
  )

  one_in : (item v : V) → Contains (item ∷ []) v → v ≡ item
  one_in item v there = elim (Contains-push_cases [] item v there) [
    | inl none ↦ absurd (omega (arith, none.1))
    | inr own ↦ sym own
  ]

  pub more_alone : (items : List V) (item : V) (together : List V) → AreBoth items (item ∷ []) together → IsMore items item together
  more_alone items item together are v = (
    λ there. elim ((are v).0 there) [
      | inl had ↦ inr had
      | inr own ↦ inl (one_in item v own)
    ],
    λ either. elim either [
      | inl own ↦ (are v).1 (inr (subst (Contains (item ∷ [])) (sym own) (Contains-push [] item)))
      | inr had ↦ (are v).1 (inl had)
    ],
  )

  -- ---- what two pages have, both have

  pub two_pages : (front back items both : List V) → AreBoth front back items → both ≡ front ++ back → HasAll items both
  two_pages front back items both are is v =
      let own = both_of front back both is v in
      (λ there. (are v).1 (own.0 there), λ there. own.1 ((are v).0 there))

-- ---- what is left of two sides

module _ {V : Type 0} (id_of : V → List ℕ) (spot_of : V → Spot) (spot : Spot) (id : List ℕ) where
  pub left_of_both : (front back items left_front left_back left : List V) → AreBoth front back items → left ≡ left_front ++ left_back
      → IsLeft id_of spot_of spot id front left_front → IsLeft id_of spot_of spot id back left_back → IsLeft id_of spot_of spot id items left
  left_of_both front back items left_front left_back left are is of_front of_back v =
      let own = both_of left_front left_back left is v in (
        λ there. elim (own.0 there) [
          | inl one ↦ (let h = (of_front v).0 one in ((are v).1 (inl h.0), h.1))
          | inr one ↦ (let h = (of_back v).0 one in ((are v).1 (inr h.0), h.1))
        ],
        λ kept. elim ((are v).0 kept.0) [
          | inl one ↦ own.1 (inl ((of_front v).1 (one, kept.1)))
          | inr one ↦ own.1 (inr ((of_back v).1 (one, kept.1)))
        ],
      )

  pub all_left : (items left : List V) → left ≡ items → ((v : V) → Contains items v → is_it id_of spot_of spot id v ≡ false) → IsLeft id_of spot_of spot id items left
  all_left items left is none v = (
    λ there. (let had = subst (λ (l : List V). Contains l v) is there in (had, none v had)),
    λ kept. subst (λ (l : List V). Contains l v) (sym is) kept.0,
  )

  -- a place outside of their box has none of some items
  pub outside : (frame : Frame) (items : List V) → IsFramed spot_of frame items → in_box spot frame.lo frame.hi ≡ false → (v : V) → Contains items v → is_it id_of spot_of spot id v ≡ false
  outside frame items framed out v there = elim (cases_Bool (is_it id_of spot_of spot id v)) [
    | inl is ↦
        (let s = spot_of v in
        let held = framed.holds v there in
        let here = (and_parts (bytes_eq (id_of v) id) (int_eq s.x spot.x && int_eq s.y spot.y) is).1 in
        let both = and_parts (int_eq s.x spot.x) (int_eq s.y spot.y) here in
        let x = (Decides-int_eq s.x spot.x).0 both.0 in
        let y = (Decides-int_eq s.y spot.y).0 both.1 in
        absurd (false≢true (sym out ∙ held_in frame spot (record {
          west = subst (λ c. frame.lo.x ≤ℤ c) x held.west;
          east = subst (λ c. c ≤ℤ frame.hi.x) x held.east;
          south = subst (λ c. frame.lo.y ≤ℤ c) y held.south;
          north = subst (λ c. c ≤ℤ frame.hi.y) y held.north;
        }))))
    | inr other ↦ other
  ]
