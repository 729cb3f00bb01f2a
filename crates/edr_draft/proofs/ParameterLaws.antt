-- Where parameters differ first.
use Rattle.std.proofs.Common.{◌≡◌, ◌≢◌, ◌⊎◌, inl, inr, ℕ, ◌+◌, ◌<◌, ◌≤◌, true, false, if◌then◌else◌, List, [], ◌∷◌, ◌++◌, length, take, drop, get_or, All, Option, Some, None, Ordering, Less, Equal, Greater, bytes_eq, refl, sym, ap, ◌∙◌, subst, append_assoc}
use Rattle.std.proofs.lemmas.Bool.{cases_Bool}
use Rattle.std.proofs.lemmas.Cmp.{nat_list_cmp_total}
use Rattle.std.proofs.lemmas.List.{append-nil, take-append-drop, take_more, drop_more, take_all}
use Rattle.std.proofs.lemmas.List.Elements.{All-nil, All-cons, All-head, All-tail}
use Rattle.std.proofs.lemmas.Slice.Eq.{bytes_eq-Decides}
use Rattle.std.specs.Ordering.{is_lt}
use Rattle.covjson_value.specs.declared.coverages.Parameter.{Parameter}
use Rattle.covjson_value.specs.Coverages.{AscendById}
use Rattle.edr_base.specs.Names.{order}
use Rattle.edr_ids.specs.Ids.{has_id}
use Rattle.edr_ids.specs.ListLaws.{order_same, order_less_flips, order_greater_flips, has_id_is, first_below, tail_ascends, item_of-none}
use Rattle.edr_edition.specs.Values.{parameter_id}
use Rattle.edr_draft.specs.Parameters.{parameter_in, DifferFirstAt}

-- ---- whether parameters are the same

same_where_given : (a b : Option (List ℕ)) → (a ≡ b) ⊎ (a ≢ b)
same_where_given None None = inl refl
same_where_given None (Some b) = inr (λ h. cc)
same_where_given (Some a) None = inr (λ h. cc)
same_where_given (Some a) (Some b) = elim (cases_Bool (bytes_eq a b)) [
  | inl same ↦ inl (ap Some ((bytes_eq-Decides a b).0 same))
  | inr differ ↦ inr (λ h. (let equal : a ≡ b = cc in let same = (bytes_eq-Decides a b).1 equal in cc))
]

pub same_text : (a b : List ℕ) → (a ≡ b) ⊎ (a ≢ b)
same_text a b = elim (cases_Bool (bytes_eq a b)) [
  | inl same ↦ inl ((bytes_eq-Decides a b).0 same)
  | inr differ ↦ inr (λ equal. (let same = (bytes_eq-Decides a b).1 equal in cc))
]

pub same_fields : (a b : Parameter) → a.id ≡ b.id → a.lang ≡ b.lang → a.label ≡ b.label → a.unit ≡ b.unit → a ≡ b
same_fields a b ids langs labels units =
    let P : List ℕ → List ℕ → List ℕ → Option (List ℕ) → Parameter = λ id lang label unit. record { id = id; lang = lang; label = label; unit = unit } in
    ap (λ id. P id a.lang a.label a.unit) ids
    ∙ (ap (λ lang. P b.id lang a.label a.unit) langs
    ∙ (ap (λ label. P b.id b.lang label a.unit) labels
    ∙ ap (λ unit. P b.id b.lang b.label unit) units))

same_or_not : (a b : Parameter) → (a ≡ b) ⊎ (a ≢ b)
same_or_not a b = elim (same_text a.id b.id) [
  | inr differ ↦ inr (λ h. differ (ap parameter_id h))
  | inl ids ↦ elim (same_text a.lang b.lang) [
    | inr differ ↦ inr (λ h. differ (ap (λ (p : Parameter). p.lang) h))
    | inl langs ↦ elim (same_text a.label b.label) [
      | inr differ ↦ inr (λ h. differ (ap (λ (p : Parameter). p.label) h))
      | inl labels ↦ elim (same_where_given a.unit b.unit) [
        | inr differ ↦ inr (λ h. differ (ap (λ (p : Parameter). p.unit) h))
        | inl units ↦ inl (same_fields a b ids langs labels units)
      ]
    ]
  ]
]

-- ---- a parameter by its id

-- no parameter has an id below the first
absent_below : (id : List ℕ) (p : Parameter) (ps : List Parameter) → AscendById (p ∷ ps) → order id p.id ≡ Less → parameter_in (p ∷ ps) id ≡ None
absent_below id p ps up less =
    item_of-none parameter_id id (p ∷ ps)
    (All-cons (λ q. has_id parameter_id id q ≡ false) p ps (has_id_is parameter_id id p Greater (order_less_flips id p.id less))
    (λ k d h. has_id_is parameter_id id (get_or ps k d) Greater
    (order_less_flips id (get_or ps k d).id (nat_list_cmp_total.trans id p.id (get_or ps k d).id less (first_below parameter_id p ps up k d h)))))

first_has_it : (p : Parameter) (ps : List Parameter) (id : List ℕ) → p.id ≡ id → parameter_in (p ∷ ps) id ≡ Some p
first_has_it p ps id own = let has : has_id parameter_id id p ≡ true = (bytes_eq-Decides p.id id).1 own in rw has refl

-- behind a common front
same_behind : (front one other : List Parameter) (id : List ℕ) → parameter_in one id ≡ parameter_in other id → parameter_in (front ++ one) id ≡ parameter_in (front ++ other) id
same_behind [] one other id same = same
same_behind (p ∷ front) one other id same = elim (cases_Bool (has_id parameter_id id p)) [
  | inl has ↦ rw has refl
  | inr lacks ↦ rw lacks (same_behind front one other id same)
]

-- behind a front that lacks it
behind : (front ps : List Parameter) (id : List ℕ) → All (λ (p : Parameter). order p.id id ≡ Less) front → parameter_in (front ++ ps) id ≡ parameter_in ps id
behind [] ps id low = refl
behind (p ∷ front) ps id low =
    let lacks : has_id parameter_id id p ≡ false = has_id_is parameter_id id p Less (All-head (λ (q : Parameter). order q.id id ≡ Less) p front low) in
    rw lacks (behind front ps id (All-tail (λ (q : Parameter). order q.id id ≡ Less) p front low))

middle : (P : Parameter → Type 0) (front : List Parameter) (p : Parameter) (ps : List Parameter) → All P (front ++ p ∷ ps) → P p
middle P [] p ps h = All-head P p ps h
middle P (q ∷ front) p ps h = middle P front p ps (All-tail P q (front ++ p ∷ ps) h)

front_below : (front : List Parameter) (p : Parameter) (ps : List Parameter) → AscendById (front ++ p ∷ ps) → All (λ (q : Parameter). order q.id p.id ≡ Less) front
front_below [] p ps up = All-nil (λ (q : Parameter). order q.id p.id ≡ Less)
front_below (q ∷ front) p ps up =
    All-cons (λ (r : Parameter). order r.id p.id ≡ Less) q front
    (middle (λ (r : Parameter). order q.id r.id ≡ Less) front p ps (first_below parameter_id q (front ++ p ∷ ps) up))
    (front_below front p ps (tail_ascends parameter_id q (front ++ p ∷ ps) up))

back_ascends : (front ps : List Parameter) → AscendById (front ++ ps) → AscendById ps
back_ascends [] ps up = up
back_ascends (q ∷ front) ps up = back_ascends front ps (tail_ascends parameter_id q (front ++ ps) up)

-- ---- the first difference of two lists

turned : (one other : List Parameter) (id : List ℕ) → DifferFirstAt one other id → DifferFirstAt other one id
turned one other id d = record { so = λ h. d.so (sym h); none_before = λ lower differ. d.none_before lower (λ h. differ (sym h)) }

-- at a parameter behind a common front, which the other list hasn't, nor anything below it
first_at : (front : List Parameter) (a : Parameter) (left right : List Parameter) → AscendById (front ++ a ∷ left) → ((id : List ℕ) → order id a.id ≡ Less → parameter_in right id ≡ None)
    → parameter_in right a.id ≢ Some a → DifferFirstAt (front ++ a ∷ left) (front ++ right) a.id
first_at front a left right up none other = record {
  so = λ h. (let low = front_below front a left up in
      other (sym (behind front right a.id low) ∙ (sym h ∙ (behind front (a ∷ left) a.id low ∙ first_has_it a left a.id refl))));
  none_before = λ lower differ less. differ (same_behind front (a ∷ left) right lower (absent_below lower a left (back_ascends front (a ∷ left) up) less ∙ sym (none lower less)));
}

-- the lower of two ids
abbrev pub lower_of : List ℕ → List ℕ → List ℕ
lower_of one other = if is_lt (order other one) then other else one

module _ (front : List Parameter) (a b : Parameter) (left right : List Parameter) (up : AscendById (front ++ a ∷ left)) (up' : AscendById (front ++ b ∷ right)) (apart : a ≢ b) where
  fork_by : (o : Ordering) → order b.id a.id ≡ o → DifferFirstAt (front ++ a ∷ left) (front ++ b ∷ right) (lower_of a.id b.id)
  fork_by Less h =
      let back = back_ascends front (a ∷ left) up in
      let missing : parameter_in (a ∷ left) b.id ≡ None = absent_below b.id a left back h in
      rw h (turned (front ++ b ∷ right) (front ++ a ∷ left) b.id
      (first_at front b right (a ∷ left) up' (λ id less. absent_below id a left back (nat_list_cmp_total.trans id b.id a.id less h)) (λ e. cc)))
  fork_by Equal h =
      let ids : b.id ≡ a.id = order_same b.id a.id h in
      let there : parameter_in (b ∷ right) a.id ≡ Some b = first_has_it b right a.id ids in
      rw h (first_at front a left (b ∷ right) up (λ id less. absent_below id b right (back_ascends front (b ∷ right) up') (ap (order id) ids ∙ less)) (λ e. apart cc))
  fork_by Greater h =
      let back = back_ascends front (b ∷ right) up' in
      let less' : order a.id b.id ≡ Less = order_greater_flips b.id a.id h in
      let missing : parameter_in (b ∷ right) a.id ≡ None = absent_below a.id b right back less' in
      rw h (first_at front a left (b ∷ right) up (λ id less. absent_below id b right back (nat_list_cmp_total.trans id a.id b.id less less')) (λ e. cc))

  -- both go on, and with other parameters
  fork : DifferFirstAt (front ++ a ∷ left) (front ++ b ∷ right) (lower_of a.id b.id)
  fork = fork_by (order b.id a.id) refl

-- only one goes on
goes_on : (front : List Parameter) (a : Parameter) (left : List Parameter) → AscendById (front ++ a ∷ left) → DifferFirstAt (front ++ a ∷ left) front a.id
goes_on front a left up =
    subst (λ other. DifferFirstAt (front ++ a ∷ left) other a.id) (append-nil front) (first_at front a left [] up (λ id less. refl) (λ e. cc))

abbrev SameOrDiffer : List Parameter → List Parameter → Type 0
SameOrDiffer one other = (one ≡ other) ⊎ ((id : List ℕ) × DifferFirstAt one other id)

same_or_differ_behind : (front one other : List Parameter) → AscendById (front ++ one) → AscendById (front ++ other) → SameOrDiffer (front ++ one) (front ++ other)
same_or_differ_behind front [] [] up up' = inl refl
same_or_differ_behind front (a ∷ left) [] up up' =
    inr (a.id, subst (λ other. DifferFirstAt (front ++ a ∷ left) other a.id) (sym (append-nil front)) (goes_on front a left up))
same_or_differ_behind front [] (b ∷ right) up up' =
    inr (b.id, subst (λ one. DifferFirstAt one (front ++ b ∷ right) b.id) (sym (append-nil front)) (turned (front ++ b ∷ right) front b.id (goes_on front b right up')))
same_or_differ_behind front (a ∷ left) (b ∷ right) up up' = elim (same_or_not a b) [
  | inr apart ↦ inr (lower_of a.id b.id, fork front a b left right up up' apart)
  | inl same ↦ (let one : (front ++ a ∷ []) ++ left ≡ front ++ a ∷ left = append_assoc front (a ∷ []) left in
      let other : (front ++ a ∷ []) ++ right ≡ front ++ b ∷ right = append_assoc front (a ∷ []) right ∙ ap (λ (p : Parameter). front ++ p ∷ right) same in
      subst (λ (ps : List Parameter). SameOrDiffer ps (front ++ b ∷ right)) one (subst (SameOrDiffer ((front ++ a ∷ []) ++ left)) other
      (same_or_differ_behind (front ++ a ∷ []) left right (subst AscendById (sym one) up) (subst AscendById (sym other) up'))))
]

-- two lists are the same, or there is a first difference
pub same_or_differ : (one other : List Parameter) → AscendById one → AscendById other → SameOrDiffer one other
same_or_differ one other up up' = same_or_differ_behind [] one other up up'

-- ---- where both are the same up to a place

at_place : (ps : List Parameter) (k : ℕ) (p : Parameter) → k < length ps → p ≡ get_or ps k p → take k ps ++ p ∷ drop (k + 1) ps ≡ ps
at_place ps k p low is =
    ap (λ (q : Parameter). take k ps ++ q ∷ drop (k + 1) ps) is ∙ (ap (λ (qs : List Parameter). take k ps ++ qs) (sym (drop_more ps k p low)) ∙ take-append-drop k ps)

-- one place more
pub same_so_far : (one other : List Parameter) (k : ℕ) (a b : Parameter) → k < length one → k < length other → a ≡ get_or one k a → b ≡ get_or other k b → take k one ≡ take k other → a ≡ b
    → take (k + 1) one ≡ take (k + 1) other
same_so_far one other k a b low low' is is' same equal =
    take_more one k a low ∙ (ap (λ (p : Parameter). take k one ++ p ∷ []) (sym is ∙ (equal ∙ is')) ∙ (ap (λ (ps : List Parameter). ps ++ get_or other k b ∷ []) same ∙ sym (take_more other k b low')))

pub differ_here : (one other : List Parameter) (k : ℕ) (a b : Parameter) → AscendById one → AscendById other → k < length one → k < length other → a ≡ get_or one k a → b ≡ get_or other k b
    → take k one ≡ take k other → a ≢ b → DifferFirstAt one other (lower_of a.id b.id)
differ_here one other k a b up up' low low' is is' same apart =
    let left : take k one ++ a ∷ drop (k + 1) one ≡ one = at_place one k a low is in
    let right : take k one ++ b ∷ drop (k + 1) other ≡ other = ap (λ (ps : List Parameter). ps ++ b ∷ drop (k + 1) other) same ∙ at_place other k b low' is' in
    subst (λ ps. DifferFirstAt ps other (lower_of a.id b.id)) left (subst (λ ps. DifferFirstAt (take k one ++ a ∷ drop (k + 1) one) ps (lower_of a.id b.id)) right
    (fork (take k one) a b (drop (k + 1) one) (drop (k + 1) other) (subst AscendById (sym left) up) (subst AscendById (sym right) up') apart))

pub differ_more : (one other : List Parameter) (k : ℕ) (a : Parameter) → AscendById one → k < length one → length other ≤ k → a ≡ get_or one k a
    → take k one ≡ take k other → DifferFirstAt one other a.id
differ_more one other k a up low over is same =
    let left : take k one ++ a ∷ drop (k + 1) one ≡ one = at_place one k a low is in
    subst (λ ps. DifferFirstAt ps other a.id) left (subst (λ ps. DifferFirstAt (take k one ++ a ∷ drop (k + 1) one) ps a.id) (same ∙ take_all k other over)
    (goes_on (take k one) a (drop (k + 1) one) (subst AscendById (sym left) up)))

pub differ_more' : (one other : List Parameter) (k : ℕ) (b : Parameter) → AscendById other → length one ≤ k → k < length other → b ≡ get_or other k b
    → take k one ≡ take k other → DifferFirstAt one other b.id
differ_more' one other k b up over low is same = turned other one b.id (differ_more other one k b up low over is (sym same))

pub same_to_end : (one other : List Parameter) (k : ℕ) → length one ≤ k → length other ≤ k → take k one ≡ take k other → one ≡ other
same_to_end one other k over over' same = sym (take_all k one over) ∙ (same ∙ take_all k other over')

-- ---- no second one

pub first_difference_once : (one other : List Parameter) (a b : List ℕ) → DifferFirstAt one other a → DifferFirstAt one other b → a ≡ b
first_difference_once one other a b first first' = by_order (order a b) refl
  where
    by_order : (o : Ordering) → order a b ≡ o → a ≡ b
    by_order Less h = absurd (first'.none_before a first.so h)
    by_order Equal h = order_same a b h
    by_order Greater h = absurd (first.none_before b first'.so (order_greater_flips a b h))

-- the same parameters don't differ
pub same_never_differ : (one other : List Parameter) (id : List ℕ) → one ≡ other → ¬ (DifferFirstAt one other id)
same_never_differ one other id same h = h.so (ap (λ (ps : List Parameter). parameter_in ps id) same)
