-- The parameters and the stations that are noted of observations.
use Rattle.std.proofs.Common.{◌≡◌, ◌≢◌, ◌⊎◌, inl, inr, ℕ, ◌+◌, ◌<◌, true, List, [], length, get_or, Option, Some, None, MatchOption, bytes_eq, refl, sym, ap, ◌∙◌, subst, arith}
use Rattle.std.specs.Prelude.{Contains, IsSome, is_some, ℤ}
use Rattle.std.proofs.lemmas.Bool.{cases_Bool, cases_lt, false≢true}
use Rattle.std.proofs.lemmas.Slice.Eq.{bytes_eq-Decides}
use Rattle.edr_ids.specs.Ids.{AreById, AscendBy, item_of, with_item}
use Rattle.edr_ids.specs.ListLaws.{item_of-found}
use Rattle.edr_csv.specs.declared.observations.Observation.{Observation}
use Rattle.edr_import.specs.declared.names.Name.{Name}
use Rattle.edr_import.specs.declared.sites.Site.{Site}
use Rattle.edr_import.specs.Tables.{AreParameters, AreSites, AreTimes, IsSite, name_id, site_id}
use Rattle.edr_import.specs.Sites.{NotesSite}
use Rattle.edr_import.proofs.OrderLemmas.{item_at}

is_there : {X : Type 0} (o : Option X) (x : X) → o ≡ Some x → IsSome o
is_there o x e = subst IsSome (sym e) refl

same_or_not : (a b : List ℕ) → (a ≡ b) ⊎ (a ≢ b)
same_or_not a b = elim (cases_Bool (bytes_eq a b)) [
  | inl same ↦ inl ((bytes_eq-Decides a b).0 same)
  | inr differ ↦ inr (λ e. false≢true (sym differ ∙ (bytes_eq-Decides a b).1 e))
]

nothing_is_some : {X : Type 0} (o : Option X) → o ≡ None → ¬ (IsSome o)
nothing_is_some o e h = false≢true (subst (λ (p : Option _). is_some p ≡ true) e h)

-- ---- parameters

-- those of the first observations
pub record AreNamed (xs : List Observation) (n : ℕ) (names : List Name) : Type 0 where
  pub told : (id : List ℕ) → IsSome (item_of name_id id names) → (k : ℕ) × (k < n) × ((d : Observation) → (get_or xs k d).parameter ≡ id)
  pub there : (k : ℕ) (d : Observation) → k < n → IsSome (item_of name_id (get_or xs k d).parameter names)

pub none_named : (xs : List Observation) → AreNamed xs 0 []
none_named xs = record { told = λ id h. absurd (nothing_is_some (item_of name_id id []) refl h); there = λ k d inside. absurd (omega (arith, inside)) }

module _ (laws : AreById name_id) (xs : List Observation) (n : ℕ) (x : Observation) (old new : List Name) (at : (d : Observation) → get_or xs n d ≡ x) (named : AreNamed xs n old) where
  there_on : ((id : List ℕ) → IsSome (item_of name_id id old) → IsSome (item_of name_id id new)) → IsSome (item_of name_id x.parameter new)
      → (k : ℕ) (d : Observation) → k < n + 1 → IsSome (item_of name_id (get_or xs k d).parameter new)
  there_on keeps has k d inside = elim (cases_lt k n) [
    | inl before ↦ keeps _ (named.there k d before)
    | inr behind ↦ (let here : k ≡ n = omega (arith, inside, behind) in
        subst (λ (id : List ℕ). IsSome (item_of name_id id new)) (sym (ap (λ (m : ℕ). (get_or xs m d).parameter) here ∙ ap (λ (o : Observation). o.parameter) (at d))) has)
  ]

  told_on : ((id : List ℕ) → IsSome (item_of name_id id new) → IsSome (item_of name_id id old) ⊎ (x.parameter ≡ id))
      → (id : List ℕ) → IsSome (item_of name_id id new) → (k : ℕ) × (k < n + 1) × ((d : Observation) → (get_or xs k d).parameter ≡ id)
  told_on from id has = by_case (from id has)
    where
      by_case : IsSome (item_of name_id id old) ⊎ (x.parameter ≡ id) → (k : ℕ) × (k < n + 1) × ((d : Observation) → (get_or xs k d).parameter ≡ id)
      by_case (inl was) = (let found = named.told id was in (found.0, omega (arith, found.1), found.2))
      by_case (inr is) = (n, omega arith, λ d. ap (λ (o : Observation). o.parameter) (at d) ∙ is)

  pub named_on : MatchOption (item_of name_id x.parameter old) (new ≡ with_item name_id (record { id = x.parameter }) old) (λ name. new ≡ old) → AreNamed xs (n + 1) new
  named_on notes = by_case (item_of name_id x.parameter old) refl
    where
      by_case : (o : Option Name) → item_of name_id x.parameter old ≡ o → AreNamed xs (n + 1) new
      by_case None e = (let fresh : Name = record { id = x.parameter } in
          let made : new ≡ with_item name_id fresh old = subst (λ (o : Option Name). MatchOption o (new ≡ with_item name_id fresh old) (λ name. new ≡ old)) e notes in
          let set : IsSome (item_of name_id x.parameter new) = is_there _ fresh (ap (item_of name_id x.parameter) made ∙ laws.set fresh old) in
          let others : (id : List ℕ) → x.parameter ≢ id → item_of name_id id new ≡ item_of name_id id old = λ id differs. ap (item_of name_id id) made ∙ laws.set_others id fresh old differs in
          record {
            told = told_on (λ id has. told_case id has (others id) (same_or_not x.parameter id));
            there = there_on (λ id has. keep_case id has (others id) set (same_or_not x.parameter id)) set;
          })
        where
          told_case : (id : List ℕ) → IsSome (item_of name_id id new) → (x.parameter ≢ id → item_of name_id id new ≡ item_of name_id id old) → (x.parameter ≡ id) ⊎ (x.parameter ≢ id)
              → IsSome (item_of name_id id old) ⊎ (x.parameter ≡ id)
          told_case id has others (inl same) = inr same
          told_case id has others (inr differs) = inl (subst IsSome (others differs) has)

          keep_case : (id : List ℕ) → IsSome (item_of name_id id old) → (x.parameter ≢ id → item_of name_id id new ≡ item_of name_id id old) → IsSome (item_of name_id x.parameter new)
              → (x.parameter ≡ id) ⊎ (x.parameter ≢ id) → IsSome (item_of name_id id new)
          keep_case id has others set (inl same) = subst (λ (i : List ℕ). IsSome (item_of name_id i new)) same set
          keep_case id has others set (inr differs) = subst IsSome (sym (others differs)) has
      by_case (Some name) e = (let fresh : Name = record { id = x.parameter } in
          let kept : new ≡ old = subst (λ (o : Option Name). MatchOption o (new ≡ with_item name_id fresh old) (λ name. new ≡ old)) e notes in
          let has : IsSome (item_of name_id x.parameter new) = is_there _ name (ap (item_of name_id x.parameter) kept ∙ e) in
          record {
            told = told_on (λ id is. inl (subst (λ (ns : List Name). IsSome (item_of name_id id ns)) kept is));
            there = there_on (λ id is. subst (λ (ns : List Name). IsSome (item_of name_id id ns)) (sym kept) is) has;
          })

pub all_named : (xs : List Observation) (n : ℕ) (names : List Name) → AscendBy name_id names → AreNamed xs n names → n ≡ length xs → AreParameters xs names
all_named xs n names up named done = record {
  ascending = up;
  each = λ id. (
    (λ has.
        let found = named.told id has in
        let inside : found.0 < length xs = omega (arith, found.1, done) in
        let item = item_at xs found.0 inside in
        (item.0, (found.0, inside, item.1 item.0), sym (ap (λ (o : Observation). o.parameter) (item.1 item.0)) ∙ found.2 item.0)),
    (λ some.
        let o : Observation = some.0 in
        subst (λ (i : List ℕ). IsSome (item_of name_id i names)) (ap (λ (x : Observation). x.parameter) some.1.2 ∙ some.2) (named.there some.1.0 o (omega (arith, some.1.1, done)))),
  );
}

-- ---- stations

-- those of the first observations
pub record AreNoted (xs : List Observation) (n : ℕ) (sites : List Site) : Type 0 where
  pub there : (k : ℕ) (d : Observation) → k < n → IsSome (item_of site_id (get_or xs k d).station sites)
  pub each : (id : List ℕ) (site : Site) → item_of site_id id sites ≡ Some site → IsSite xs site

pub none_noted : (xs : List Observation) → AreNoted xs 0 []
none_noted xs = record { there = λ k d inside. absurd (omega (arith, inside)); each = λ id site e. absurd (nothing_is_some (item_of site_id id []) refl (is_there (item_of site_id id []) site e)) }

module _ (laws : AreById site_id) (xs : List Observation) (n : ℕ) (x : Observation) (old new : List Site) (at : (d : Observation) → get_or xs n d ≡ x) (noted : AreNoted xs n old) where
  site_there : ((id : List ℕ) → IsSome (item_of site_id id old) → IsSome (item_of site_id id new)) → IsSome (item_of site_id x.station new)
      → (k : ℕ) (d : Observation) → k < n + 1 → IsSome (item_of site_id (get_or xs k d).station new)
  site_there keeps has k d inside = elim (cases_lt k n) [
    | inl before ↦ keeps _ (noted.there k d before)
    | inr behind ↦ (let here : k ≡ n = omega (arith, inside, behind) in
        subst (λ (id : List ℕ). IsSome (item_of site_id id new)) (sym (ap (λ (m : ℕ). (get_or xs m d).station) here ∙ ap (λ (o : Observation). o.station) (at d))) has)
  ]

  pub noted_on : NotesSite xs old x new → AreNoted xs (n + 1) new
  noted_on (inl known) = record {
    there = site_there (λ id is. subst (λ (ss : List Site). IsSome (item_of site_id id ss)) (sym known.1) is) (subst (λ (ss : List Site). IsSome (item_of site_id x.station ss)) (sym known.1) known.0);
    each = λ id site e. noted.each id site (ap (item_of site_id id) (sym known.1) ∙ e);
  }
  noted_on (inr fresh) =
      let site : Site = fresh.1 in
      let made : new ≡ with_item site_id site old = fresh.4 in
      let own : site.id ≡ x.station = fresh.3 in
      let found : item_of site_id site.id new ≡ Some site = ap (item_of site_id site.id) made ∙ laws.set site old in
      let set : IsSome (item_of site_id x.station new) = subst (λ (i : List ℕ). IsSome (item_of site_id i new)) own (is_there _ site found) in
      let others : (id : List ℕ) → site.id ≢ id → item_of site_id id new ≡ item_of site_id id old = λ id differs. ap (item_of site_id id) made ∙ laws.set_others id site old differs in
      record {
        there = site_there (λ id has. keep_case id has site found others (same_or_not site.id id)) set;
        each = λ id other e. each_case id other e site fresh.2 found others (same_or_not site.id id);
      }
    where
      keep_case : (id : List ℕ) → IsSome (item_of site_id id old) → (site : Site) → item_of site_id site.id new ≡ Some site
          → ((id : List ℕ) → site.id ≢ id → item_of site_id id new ≡ item_of site_id id old) → (site.id ≡ id) ⊎ (site.id ≢ id) → IsSome (item_of site_id id new)
      keep_case id has site found others (inl same) = subst (λ (i : List ℕ). IsSome (item_of site_id i new)) same (is_there _ site found)
      keep_case id has site found others (inr differs) = subst IsSome (sym (others id differs)) has

      one : (a b : Site) → Some a ≡ Some b → a ≡ b
      one a b e = cc

      each_case : (id : List ℕ) (other : Site) → item_of site_id id new ≡ Some other → (site : Site) → IsSite xs site → item_of site_id site.id new ≡ Some site
          → ((id : List ℕ) → site.id ≢ id → item_of site_id id new ≡ item_of site_id id old) → (site.id ≡ id) ⊎ (site.id ≢ id) → IsSite xs other
      each_case id other e site is found others (inl same) =
          subst (IsSite xs) (one site other (sym found ∙ (ap (λ (i : List ℕ). item_of site_id i new) same ∙ e))) is
      each_case id other e site is found others (inr differs) = noted.each id other (sym (others id differs) ∙ e)

pub all_noted : (xs : List Observation) (n : ℕ) (sites : List Site) → AscendBy site_id sites → AreNoted xs n sites → n ≡ length xs → AreSites xs sites
all_noted xs n sites up noted done = record {
  ascending = up;
  there = λ o has. subst (λ (x : Observation). IsSome (item_of site_id x.station sites)) has.2 (noted.there has.0 o (omega (arith, has.1, done)));
  each = λ k d inside. noted.each (site_id (get_or sites k d)) (get_or sites k d) (item_of-found site_id (site_id (get_or sites k d)) sites k d up inside refl);
}

-- the station of an observation
pub site_is : (xs : List Observation) (first : Observation) (id label : List ℕ) (x y : ℤ) (times : List ℤ) → Contains xs first → id ≡ first.station → label ≡ first.label
    → x ≡ first.x → y ≡ first.y → AreTimes xs first.station times → IsSite xs (record { id = id; label = label; x = x; y = y; times = times })
site_is xs first id label x y times among is_id is_label is_x is_y are = record {
  first = first;
  among = among;
  placed = (is_id, is_label, is_x, is_y);
  times = subst (λ (i : List ℕ). AreTimes xs i times) (sym is_id) are;
}
