-- The stations that are set of inputs, one more at a time.
use Rattle.std.proofs.Common.{◌≡◌, ◌≢◌, ◌⊎◌, ◌<◌, ◌++◌, ◌∷◌, List, [], inl, inr, length, map, get_or, Option, Some, None, Contains, bytes_eq, refl, sym, ap, ◌∙◌, subst, arith, length-append}
use Rattle.std.proofs.Math.Seq.{get_or-append_seam}
use Rattle.std.proofs.lemmas.Bool.{cases_Bool, cases_lt, false≢true}
use Rattle.std.proofs.lemmas.List.{get_or_append_left, get_or-map, length-map, map-append}
use Rattle.std.proofs.lemmas.Slice.Eq.{bytes_eq-Decides}
use Rattle.edr_ids.specs.Ids.{AscendBy, AreById, item_of, with_item}
use Rattle.edr_ids.specs.ListLaws.{AscendBy-with_item, item_found}
use Rattle.edr_station.specs.declared.inputs.StationInput.{StationInput}
use Rattle.edr_station.specs.Stations.{StationValue, station_id}
use Rattle.edr_station.specs.Inputs.{station_of, no_input, id_at, AreOf}
use Rattle.edr_station.specs.Least.{HaveOwnIds}

pub is_empty : (xs : List StationInput) → length xs ≡ 0 → xs ≡ []
is_empty [] h = refl
is_empty (x ∷ xs) h = absurd (omega (arith, h))

pushed_in : (xs : List StationValue) (y s : StationValue) → Contains (xs ++ y ∷ []) s → Contains xs s ⊎ (s ≡ y)
pushed_in xs y s h = elim (cases_lt h.0 (length xs)) [
  | inl below ↦ inl (h.0, below, sym (get_or_append_left xs (y ∷ []) s h.0 below) ∙ h.2)
  | inr above ↦ (let at : h.0 ≡ length xs = omega (arith, above, h.1, length-append xs (y ∷ [])) in
      inr (sym h.2 ∙ (ap (λ n. get_or (xs ++ y ∷ []) n s) at ∙ get_or-append_seam xs y [] s)))
]

in_pushed : (xs : List StationValue) (y s : StationValue) → Contains xs s ⊎ (s ≡ y) → Contains (xs ++ y ∷ []) s
in_pushed xs y s (inl h) = (h.0, omega (arith, h.1, length-append xs (y ∷ [])), get_or_append_left xs (y ∷ []) s h.0 h.1 ∙ h.2)
in_pushed xs y s (inr same) = (length xs, omega (arith, length-append xs (y ∷ [])), get_or-append_seam xs y [] s ∙ sym same)

module _ (laws : AreById station_id) (new : StationValue) (items : List StationValue) (up : AscendBy station_id items) (none : item_of station_id new.id items ≡ None) (s : StationValue) where
  set_in : Contains (with_item station_id new items) s → Contains items s ⊎ (s ≡ new)
  set_in h =
      let set = with_item station_id new items in
      let found : item_of station_id s.id set ≡ Some s = (laws.found s.id set s (AscendBy-with_item station_id new items up)).1 (h, refl) in
      elim (cases_Bool (bytes_eq s.id new.id)) [
        | inl same_bytes ↦ (let own : s.id ≡ new.id = (bytes_eq-Decides s.id new.id).0 same_bytes in
            let both : Some s ≡ Some new = sym found ∙ (ap (λ id. item_of station_id id set) own ∙ laws.set new items) in
            let same : s ≡ new = cc in
            inr same)
        | inr lacks ↦ (let differs : new.id ≢ s.id = λ e. false≢true (sym lacks ∙ (bytes_eq-Decides s.id new.id).1 (sym e)) in
            inl ((laws.found s.id items s up).0 (sym (laws.set_others s.id new items differs) ∙ found)).0)
      ]

  in_set : Contains items s ⊎ (s ≡ new) → Contains (with_item station_id new items) s
  in_set (inr same) =
      let set = with_item station_id new items in
      subst (Contains set) (sym same) ((laws.found new.id set new (AscendBy-with_item station_id new items up)).0 (laws.set new items)).0
  in_set (inl h) =
      let set = with_item station_id new items in
      let found : item_of station_id s.id items ≡ Some s = (laws.found s.id items s up).1 (h, refl) in
      let differs : new.id ≢ s.id = λ e. (let both : Some s ≡ None = sym found ∙ (ap (λ id. item_of station_id id items) (sym e) ∙ none) in cc) in
      ((laws.found s.id set s (AscendBy-with_item station_id new items up)).0 (laws.set_others s.id new items differs ∙ found)).0

pub made_more : (laws : AreById station_id) (done : List StationInput) (x : StationInput) (items : List StationValue) → AscendBy station_id items
    → item_of station_id x.id items ≡ None → AreOf done items → AreOf (done ++ x ∷ []) (with_item station_id (station_of x) items)
made_more laws done x items up none h s =
    let new = station_of x in
    let all = map station_of done in
    let more : map station_of (done ++ x ∷ []) ≡ all ++ new ∷ [] = map-append station_of done (x ∷ []) in (
      λ stands. subst (λ (l : List StationValue). Contains l s) (sym more) (in_pushed all new s (elim (set_in laws new items up none s stands) [ inl old ↦ inl ((h s).0 old) | inr same ↦ inr same ])),
      λ stands. in_set laws new items up none s (elim (pushed_in all new s (subst (λ (l : List StationValue). Contains l s) more stands)) [ inl old ↦ inl ((h s).1 old) | inr same ↦ inr same ]),
    )

cases_Option : {A : Type 0} (o : Option A) → (o ≡ None) ⊎ ((y : A) × (o ≡ Some y))
cases_Option None = inl refl
cases_Option (Some y) = inr (y, refl)

-- the next input's id isn't that of one before
pub none_yet : (inputs done rest : List StationInput) (x : StationInput) (items : List StationValue) → done ++ x ∷ rest ≡ inputs → HaveOwnIds inputs → AreOf done items
    → item_of station_id x.id items ≡ None
none_yet inputs done rest x items whole once h = elim (cases_Option (item_of station_id x.id items)) [
  | inl none ↦ none
  | inr found ↦ (let y = found.0 in
      let at = item_found station_id x.id items y found.1 in
      let before = (h y).0 at.0 in
      let k = before.0 in
      let inside : k < length done = omega (arith, before.1, length-map done station_of) in
      let mapped : station_of (get_or done k no_input) ≡ y = sym (get_or-map station_of done k no_input y inside) ∙ before.2 in
      let first : id_at (done ++ x ∷ rest) k ≡ x.id =
      ap (λ (i : StationInput). i.id) (get_or_append_left done (x ∷ rest) no_input k inside) ∙ (ap station_id mapped ∙ at.1) in
      let second : id_at (done ++ x ∷ rest) (length done) ≡ x.id = ap (λ (i : StationInput). i.id) (get_or-append_seam done x rest no_input) in
      let long : length done < length (done ++ x ∷ rest) = omega (arith, length-append done (x ∷ rest)) in
      let once' : HaveOwnIds (done ++ x ∷ rest) = subst HaveOwnIds (sym whole) once in
      absurd (once' (length done) long (k, inside, first ∙ sym second)))
]
