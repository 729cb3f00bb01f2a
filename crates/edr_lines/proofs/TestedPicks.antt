-- What a query picks of a grid that selects by a test of nodes, and the values that are found at its nodes.
use Rattle.std.proofs.Common.{◌≡◌, Bool, true, false, List, refl, ap, sym, ◌∙◌, subst, None}
use Rattle.std.specs.declared.option.Option.{Option}
use Rattle.std.specs.Prelude.{◌&&◌, option_map, unwrap_or}
use Rattle.std.specs.List.{filter, list_any}
use Rattle.std.proofs.lemmas.Bool.{false≢true, false_from_ne_true}
use Rattle.covjson_value.specs.Samples.{is_of}
use Rattle.edr_chunk.specs.declared.shapes.GridPlace.{GridPlace}
use Rattle.edr_chunk.specs.Places.{Within}
use Rattle.edr_chunk.specs.AllPlaces.{places}
use Rattle.edr_chunk.specs.Grids.{value}
use Rattle.edr_edition.specs.Values.{InstanceValue}
use Rattle.edr_edition.specs.Stores.{Held, of_grid, Subject}
use Rattle.edr_query.specs.Values.{QueryValue}
use Rattle.edr_select.specs.Samples.{Stored, id_at, node_at, stored_at, grid_samples, samples_of}
use Rattle.edr_select.specs.Selections.{is_asked, wants, picked}
use Rattle.edr_select.specs.Documents.{same_station, value_in}
use Rattle.edr_select.specs.ListLaws.{any-filter, any-map, Each, each-map, each-filter, find_each, find_none}
use Rattle.edr_select.specs.PlaceLaws.{found_place, place_found, each_place}
use Rattle.edr_select.specs.GridLaws.{IsGrid, same_stored, stored_itself}
use Rattle.edr_lines.specs.Taken.{NodeTest}

-- a query selects of an instance by its parameters and a test of nodes
abbrev pub SelectsBy : Subject → QueryValue → InstanceValue → NodeTest → Type 0
SelectsBy s q i takes = (a : GridPlace) → Within i.grid.shape a → wants s q (stored_at i a) ≡ (is_asked q.parameters (id_at i.parameters a.parameter) && takes a.t a.z a.y a.x)

-- the sample of a place is taken
pub record Taken (q : QueryValue) (i : InstanceValue) (takes : NodeTest) (a : GridPlace) : Type 0 where
  pub asked : is_asked q.parameters (id_at i.parameters a.parameter) ≡ true
  pub node : takes a.t a.z a.y a.x ≡ true

-- a picked sample that passes
pub record Pick (q : QueryValue) (i : InstanceValue) (takes : NodeTest) (t : Stored → Bool) : Type 0 where
  pub place : GridPlace
  pub within : Within i.grid.shape place
  pub taken : Taken q i takes place
  pub passes : t (stored_at i place) ≡ true

first_true : (b c : Bool) → (b && c) ≡ true → b ≡ true
first_true true c h = refl
first_true false c h = h

second_true : (b c : Bool) → (b && c) ≡ true → c ≡ true
second_true true c h = h
second_true false c h = cc

and_true : (b c : Bool) → b ≡ true → c ≡ true → (b && c) ≡ true
and_true b c e f = ap (λ x. x && c) e ∙ f

module _ (s : Subject) (q : QueryValue) (i : InstanceValue) (held : s.held ≡ of_grid i) (g : IsGrid i) (takes : NodeTest) (selects : SelectsBy s q i takes) where
  picks_are : picked s q ≡ filter (wants s q) (grid_samples i)
  picks_are = ap (λ (h : Held). filter (wants s q) (samples_of h)) held

  abbrev test_of : (Stored → Bool) → GridPlace → Bool
  test_of t a = wants s q (stored_at i a) && t (stored_at i a)

  any_pick : (t : Stored → Bool) → list_any t (picked s q) ≡ list_any (test_of t) (places i.grid.shape)
  any_pick t =
      ap (list_any t) picks_are
      ∙ (any-filter t (wants s q) (grid_samples i) ∙ any-map (λ x. wants s q x && t x) (stored_at i) (places i.grid.shape))

  pub pick_found : (t : Stored → Bool) → list_any t (picked s q) ≡ true → Pick q i takes t
  pick_found t h =
      let f = found_place (test_of t) i.grid.shape (sym (any_pick t) ∙ h) in
      let both : (is_asked q.parameters (id_at i.parameters f.place.parameter) && takes f.place.t f.place.z f.place.y f.place.x) ≡ true =
      sym (selects f.place f.within) ∙ first_true (wants s q (stored_at i f.place)) (t (stored_at i f.place)) f.passes in
      record {
        place = f.place;
        within = f.within;
        taken = record {
          asked = first_true (is_asked q.parameters (id_at i.parameters f.place.parameter)) (takes f.place.t f.place.z f.place.y f.place.x) both;
          node = second_true (is_asked q.parameters (id_at i.parameters f.place.parameter)) (takes f.place.t f.place.z f.place.y f.place.x) both;
        };
        passes = second_true (wants s q (stored_at i f.place)) (t (stored_at i f.place)) f.passes;
      }

  pub found_pick : (t : Stored → Bool) (a : GridPlace) → Within i.grid.shape a → Taken q i takes a → t (stored_at i a) ≡ true → list_any t (picked s q) ≡ true
  found_pick t a within taken passes =
      any_pick t
      ∙ place_found (test_of t) i.grid.shape a within (and_true (wants s q (stored_at i a)) (t (stored_at i a))
      (selects a within ∙ and_true (is_asked q.parameters (id_at i.parameters a.parameter)) (takes a.t a.z a.y a.x) taken.asked taken.node) passes)

  -- what holds of the sample of each place holds of each picked sample
  pub each_pick : (P : Stored → Type 0) → ((a : GridPlace) → Within i.grid.shape a → P (stored_at i a)) → Each P (picked s q)
  each_pick P h =
      subst (λ (xs : List Stored). Each P xs) (sym picks_are)
      (each-filter P (wants s q) (grid_samples i) (each-map P (stored_at i) (places i.grid.shape) (each_place (λ a. P (stored_at i a)) i.grid.shape h)))

  -- the value of a sample that is taken is found at its node
  pub value_at_place : (a : GridPlace) → Within i.grid.shape a → Taken q i takes a → value_in (picked s q) None (id_at i.parameters a.parameter) (node_at i a) ≡ value i.grid a
  value_at_place a within taken =
      let test : Stored → Bool = λ x. same_station x.station None && is_of (id_at i.parameters a.parameter) (node_at i a) x.sample in
      ap (λ v. unwrap_or v None)
      (find_each test (λ (x : Stored). x.sample.value) (value i.grid a) (picked s q)
      (each_pick (λ x. test x ≡ true → x.sample.value ≡ value i.grid a) (λ b wb h. ap (value i.grid) (same_stored i g a b within wb h)))
      (found_pick test a within taken (stored_itself i a)))

  -- and none is at another
  pub absent_at_place : (a : GridPlace) → Within i.grid.shape a → takes a.t a.z a.y a.x ≡ false → value_in (picked s q) None (id_at i.parameters a.parameter) (node_at i a) ≡ None
  absent_at_place a within none =
      let test : Stored → Bool = λ x. same_station x.station None && is_of (id_at i.parameters a.parameter) (node_at i a) x.sample in
      ap (λ (o : Option Stored). unwrap_or (option_map (λ (x : Stored). x.sample.value) o) None)
      (find_none test (picked s q) (false_from_ne_true (list_any test (picked s q)) (λ h.
      let f = pick_found test h in
      let same : f.place ≡ a = same_stored i g a f.place within f.within f.passes in
      absurd (false≢true (sym none ∙ (ap (λ (b : GridPlace). takes b.t b.z b.y b.x) (sym same) ∙ f.taken.node))))))
