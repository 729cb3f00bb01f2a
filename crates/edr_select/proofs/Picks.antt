-- Which samples a query picks that takes each time, level and place by itself, by the places of the grid.
use Rattle.std.proofs.Common.{◌≡◌, Bool, true, false, List, refl, ap, sym, ◌∙◌, subst, Some}
use Rattle.std.specs.Prelude.{◌&&◌}
use Rattle.std.specs.List.{filter, list_any}
use Rattle.std.proofs.lemmas.List.Elements.{filter_agree}
use Rattle.edr_axes.specs.Axes.{value_at}
use Rattle.edr_wkt.specs.declared.geometry.Geometry.{Geometry}
use Rattle.edr_chunk.specs.declared.shapes.GridPlace.{GridPlace}
use Rattle.edr_chunk.specs.Places.{Within}
use Rattle.edr_chunk.specs.AllPlaces.{places}
use Rattle.edr_edition.specs.Values.{InstanceValue}
use Rattle.edr_edition.specs.Stores.{Held, of_grid, Subject}
use Rattle.edr_query.specs.declared.shapes.Shape.{Shape}
use Rattle.edr_query.specs.declared.shapes.Shape.TheVariants as at
use Rattle.edr_query.specs.Values.{QueryValue}
use Rattle.edr_select.specs.Samples.{Stored, id_at, stored_at, grid_samples, samples_in, samples_of}
use Rattle.edr_select.specs.Wanted.{takes_time, takes_level, levels_asked, takes_place}
use Rattle.edr_select.specs.Selections.{is_asked, takes_each, takes, wants, picked}
use Rattle.edr_select.specs.Choices.{TakesEach, takes_node}
use Rattle.edr_corridor.specs.Boxes.{level_at}
use Rattle.edr_select.specs.ListLaws.{any-filter, any-map, Each, each-filter, each-map}
use Rattle.edr_select.specs.PlaceLaws.{found_place, place_found, each_place}

-- such a query takes a sample by its time, its level and its place
pub takes_is : (s : Subject) (q : QueryValue) (shape : Shape) → TakesEach shape → (x : Stored) → takes s q shape x ≡ takes_each s q x
takes_is s q (at.Position geometry) each x = refl
takes_is s q (at.Radius geometry within) each x = refl
takes_is s q (at.Area geometry) each x = refl
takes_is s q (at.Cube lo hi levels) each x = refl
takes_is s q (at.Trajectory geometry) each x = absurd each
takes_is s q (at.Corridor geometry width height) each x = absurd each
takes_is s q (at.Location id) each x = absurd each

-- and its place by the row and the column
pub place_is : (i : InstanceValue) (shape : Shape) → TakesEach shape → (a : GridPlace) → takes_place (of_grid i) shape (stored_at i a) ≡ takes_node i shape a.y a.x
place_is i (at.Position geometry) each a = refl
place_is i (at.Radius geometry within) each a = refl
place_is i (at.Area geometry) each a = refl
place_is i (at.Cube lo hi levels) each a = refl
place_is i (at.Trajectory geometry) each a = absurd each
place_is i (at.Corridor geometry width height) each a = absurd each
place_is i (at.Location id) each a = absurd each

-- positions are such a shape
pub takes_position : (q : QueryValue) (geometry : Geometry) → q.shape ≡ at.Position geometry → TakesEach q.shape
takes_position q geometry shape = subst TakesEach (sym shape) tt

-- the tests of a query, each by itself
abbrev pub takes_at : InstanceValue → QueryValue → Stored → Bool
takes_at i q s =
    is_asked q.parameters s.sample.parameter
    && (takes_time q.times s.sample.at.t && (takes_level (levels_asked q) s.sample.at.z && takes_place (of_grid i) q.shape s))

-- the samples of a grid that a query picks
abbrev pub picks_at : InstanceValue → QueryValue → List Stored
picks_at i q = filter (takes_at i q) (grid_samples i)

-- what a query wants of a grid
pub wants_is : (s : Subject) (q : QueryValue) (i : InstanceValue) → s.held ≡ of_grid i → TakesEach q.shape → (x : Stored) → wants s q x ≡ takes_at i q x
wants_is s q i held each x =
    ap (λ (b : Bool). is_asked q.parameters x.sample.parameter && b) (takes_is s q q.shape each x)
    ∙ ap (λ (h : Held). is_asked q.parameters x.sample.parameter
    && (takes_time q.times x.sample.at.t && (takes_level (levels_asked q) x.sample.at.z && takes_place h q.shape x))) held

pub picked_is : (s : Subject) (q : QueryValue) (i : InstanceValue) → s.held ≡ of_grid i → TakesEach q.shape → picked s q ≡ picks_at i q
picked_is s q i held each =
    filter_agree (wants s q) (takes_at i q) (wants_is s q i held each) (samples_in s) ∙ ap (λ (h : Held). filter (takes_at i q) (samples_of h)) held

-- ---- by places

-- the sample of a place is taken: its parameter, its time, its level and its node
pub record Taken (i : InstanceValue) (q : QueryValue) (a : GridPlace) : Type 0 where
  pub asked : is_asked q.parameters (id_at i.parameters a.parameter) ≡ true
  pub time : takes_time q.times (Some (value_at i.ts a.t)) ≡ true
  pub level : takes_level (levels_asked q) (level_at i.zs a.z) ≡ true
  pub near : takes_node i q.shape a.y a.x ≡ true

-- the tests of a sample, by its place
pub taken_product : (i : InstanceValue) (q : QueryValue) → TakesEach q.shape → (a : GridPlace) → takes_at i q (stored_at i a)
    ≡ (is_asked q.parameters (id_at i.parameters a.parameter) && (takes_time q.times (Some (value_at i.ts a.t)) && (takes_level (levels_asked q) (level_at i.zs a.z)
    && takes_node i q.shape a.y a.x)))
taken_product i q each a =
    ap (λ (b : Bool). is_asked q.parameters (id_at i.parameters a.parameter)
    && (takes_time q.times (Some (value_at i.ts a.t)) && (takes_level (levels_asked q) (level_at i.zs a.z) && b))) (place_is i q.shape each a)

four : (b c d e : Bool) → (b && (c && (d && e))) ≡ true → (b ≡ true) × (c ≡ true) × (d ≡ true) × (e ≡ true)
four true true true true h = (refl, refl, refl, refl)
four true true true false h = cc
four true true false e h = cc
four true false d e h = cc
four false c d e h = cc

all_four : (b c d e : Bool) → b ≡ true → c ≡ true → d ≡ true → e ≡ true → (b && (c && (d && e))) ≡ true
all_four b c d e hb hc hd he = rw (hb, hc, hd, he) refl

pub taken_from : (i : InstanceValue) (q : QueryValue) → TakesEach q.shape → (a : GridPlace) → takes_at i q (stored_at i a) ≡ true → Taken i q a
taken_from i q each a h =
    let f = four (is_asked q.parameters (id_at i.parameters a.parameter)) (takes_time q.times (Some (value_at i.ts a.t))) (takes_level (levels_asked q) (level_at i.zs a.z))
    (takes_node i q.shape a.y a.x) (sym (taken_product i q each a) ∙ h) in
    record { asked = f.0; time = f.1; level = f.2; near = f.3 }

pub from_taken : (i : InstanceValue) (q : QueryValue) → TakesEach q.shape → (a : GridPlace) → Taken i q a → takes_at i q (stored_at i a) ≡ true
from_taken i q each a h =
    taken_product i q each a
    ∙ all_four (is_asked q.parameters (id_at i.parameters a.parameter)) (takes_time q.times (Some (value_at i.ts a.t))) (takes_level (levels_asked q) (level_at i.zs a.z))
    (takes_node i q.shape a.y a.x) h.asked h.time h.level h.near

-- a picked sample that passes
pub record Pick (i : InstanceValue) (q : QueryValue) (t : Stored → Bool) : Type 0 where
  pub place : GridPlace
  pub within : Within i.grid.shape place
  pub taken : Taken i q place
  pub passes : t (stored_at i place) ≡ true

first_true : (b c : Bool) → (b && c) ≡ true → b ≡ true
first_true true c h = refl
first_true false c h = h

second_true : (b c : Bool) → (b && c) ≡ true → c ≡ true
second_true true c h = h
second_true false c h = cc

and_true : (b c : Bool) → b ≡ true → c ≡ true → (b && c) ≡ true
and_true b c e f = ap (λ x. x && c) e ∙ f

-- what holds of the sample of each place holds of each picked sample
pub each_pick : (i : InstanceValue) (q : QueryValue) (P : Stored → Type 0) → ((a : GridPlace) → Within i.grid.shape a → P (stored_at i a)) → Each P (picks_at i q)
each_pick i q P h =
    each-filter P (takes_at i q) (grid_samples i) (each-map P (stored_at i) (places i.grid.shape) (each_place (λ a. P (stored_at i a)) i.grid.shape h))

module _ (i : InstanceValue) (q : QueryValue) (each : TakesEach q.shape) where
  abbrev test_of : (Stored → Bool) → GridPlace → Bool
  test_of t a = takes_at i q (stored_at i a) && t (stored_at i a)

  any_pick : (t : Stored → Bool) → list_any t (picks_at i q) ≡ list_any (test_of t) (places i.grid.shape)
  any_pick t = any-filter t (takes_at i q) (grid_samples i) ∙ any-map (λ x. takes_at i q x && t x) (stored_at i) (places i.grid.shape)

  pub pick_found : (t : Stored → Bool) → list_any t (picks_at i q) ≡ true → Pick i q t
  pick_found t h =
      let f = found_place (test_of t) i.grid.shape (sym (any_pick t) ∙ h) in
      record {
        place = f.place;
        within = f.within;
        taken = taken_from i q each f.place (first_true (takes_at i q (stored_at i f.place)) (t (stored_at i f.place)) f.passes);
        passes = second_true (takes_at i q (stored_at i f.place)) (t (stored_at i f.place)) f.passes;
      }

  pub found_pick : (t : Stored → Bool) (a : GridPlace) → Within i.grid.shape a → Taken i q a → t (stored_at i a) ≡ true → list_any t (picks_at i q) ≡ true
  found_pick t a within taken passes =
      any_pick t ∙ place_found (test_of t) i.grid.shape a within (and_true (takes_at i q (stored_at i a)) (t (stored_at i a)) (from_taken i q each a taken) passes)
