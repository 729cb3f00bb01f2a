-- The places of a grid are told by their nodes and parameters.
use Rattle.std.proofs.Common.{◌≡◌, ℕ, ◌<◌, Bool, true, false, List, [], length, refl, ap, sym, ◌∙◌, arith, inl, inr, Some, None, IfSome, ℤ}
use Rattle.std.specs.declared.option.Option.{Option}
use Rattle.std.specs.Prelude.{◌&&◌, option_map, bytes_eq}
use Rattle.std.specs.declared.cmp.Ordering.TheVariants.{Less, Equal}
use Rattle.std.specs.Ordering.{int_eq}
use Rattle.std.proofs.lemmas.Bool.{cases_lt}
use Rattle.std.proofs.lemmas.Bool.Decides.{Decides-int_eq}
use Rattle.std.proofs.lemmas.Slice.Eq.{bytes_eq-Decides}
use Rattle.std.proofs.lemmas.List.{length-map}
use Rattle.edr_axes.specs.Axes.{value_at, IsAxis, axis_length}
use Rattle.edr_axes.specs.AxisLaws.{ascending_once}
use Rattle.covjson_value.specs.declared.coverages.Parameter.{Parameter}
use Rattle.covjson_value.specs.Coverages.{AscendById, ids_of}
use Rattle.covjson_value.specs.Samples.{same_where_given, same_node, is_of}
use Rattle.edr_base.specs.Names.{order}
use Rattle.edr_ids.specs.ListLaws.{order_itself}
use Rattle.std.proofs.lemmas.Map.Keys.{Less-from_sorted}
use Rattle.edr_chunk.specs.declared.shapes.GridPlace.{GridPlace}
use Rattle.edr_chunk.specs.Places.{Within}
use Rattle.edr_chunk.specs.AllPlaces.{at}
use Rattle.edr_edition.specs.Values.{InstanceValue}
use Rattle.edr_select.specs.Samples.{id_at, node_at, stored_at}

-- what is used of an instance: its axes ascend and are as long as its sides, and so do its parameters
pub record IsGrid (i : InstanceValue) : Type 0 where
  pub ts : IsAxis i.ts
  pub zs : IfSome i.zs IsAxis
  pub ys : IsAxis i.ys
  pub xs : IsAxis i.xs
  pub ids : AscendById i.parameters
  pub parameters : i.grid.shape.parameters ≡ length i.parameters
  pub times : i.grid.shape.times ≡ length i.ts
  pub levels : i.grid.shape.levels ≡ axis_length i.zs
  pub rows : i.grid.shape.rows ≡ length i.ys
  pub columns : i.grid.shape.columns ≡ length i.xs

less_not_equal : Less ≡ Equal → ⊥
less_not_equal e = cc

-- equal ids are those of one parameter
pub one_parameter : (ps : List Parameter) → AscendById ps → (k l : ℕ) → k < length ps → l < length ps → id_at ps k ≡ id_at ps l → k ≡ l
one_parameter ps ascend k l hk hl same =
    elim (cases_lt k l) [
      | inl lt ↦ absurd (apart k l lt (inside l hl) same)
      | inr ge ↦ elim (cases_lt l k) [
        | inl lt ↦ absurd (apart l k lt (inside k hk) (sym same))
        | inr le ↦ omega arith
      ]
    ]
  where
    inside : (n : ℕ) → n < length ps → n < length (ids_of ps)
    inside n h = omega (arith, length-map ps (λ (p : Parameter). p.id))

    apart : (i j : ℕ) → i < j → j < length (ids_of ps) → id_at ps i ≡ id_at ps j → ⊥
    apart i j lt hj e = less_not_equal (sym (Less-from_sorted order (ids_of ps) i j [] ascend lt hj) ∙ ap (λ b. order (id_at ps i) b) (sym e) ∙ order_itself (id_at ps i))

-- ---- nodes

same_value : (k l : ℤ) → int_eq k l ≡ true → k ≡ l
same_value k l h = (Decides-int_eq k l).0 h

same_level : (zs : Option (List ℤ)) → IfSome zs IsAxis → (k l : ℕ) → k < axis_length zs → l < axis_length zs
    → same_where_given (option_map (λ values. value_at values k) zs) (option_map (λ values. value_at values l) zs) ≡ true → k ≡ l
same_level None axis k l hk hl same = omega arith
same_level (Some values) axis k l hk hl same = ascending_once values axis.ascending k l hk hl (same_value _ _ same)

four : (b c d e : Bool) → (b && c && d && e) ≡ true → (b ≡ true) × (c ≡ true) × (d ≡ true) × (e ≡ true)
four true true true true h = (refl, refl, refl, refl)
four true true true false h = cc
four true true false e h = cc
four true false d e h = cc
four false c d e h = cc

two : (b c : Bool) → (b && c) ≡ true → (b ≡ true) × (c ≡ true)
two true true h = (refl, refl)
two true false h = cc
two false c h = cc

same_record : (a b : GridPlace) → a.parameter ≡ b.parameter → a.t ≡ b.t → a.z ≡ b.z → a.y ≡ b.y → a.x ≡ b.x → a ≡ b
same_record a b p t z y x =
    ap (λ k. at k a.t a.z a.y a.x) p ∙ ap (λ k. at b.parameter k a.z a.y a.x) t ∙ ap (λ k. at b.parameter b.t k a.y a.x) z
    ∙ ap (λ k. at b.parameter b.t b.z k a.x) y ∙ ap (λ k. at b.parameter b.t b.z b.y k) x

-- a sample of a parameter at a node is at its place
pub same_stored : (i : InstanceValue) → IsGrid i → (a b : GridPlace) → Within i.grid.shape a → Within i.grid.shape b
    → is_of (id_at i.parameters a.parameter) (node_at i a) (stored_at i b).sample ≡ true → b ≡ a
same_stored i g a b wa wb h =
    let parts = two (bytes_eq (id_at i.parameters b.parameter) (id_at i.parameters a.parameter)) (same_node (node_at i b) (node_at i a)) h in
    let axes = four (int_eq (value_at i.ts b.t) (value_at i.ts a.t)) (same_where_given (node_at i b).z (node_at i a).z) (int_eq (value_at i.ys b.y) (value_at i.ys a.y)) (int_eq (value_at i.xs b.x) (value_at i.xs a.x)) parts.1 in
    same_record b a
    (one_parameter i.parameters g.ids b.parameter a.parameter (omega (arith, wb.parameter, g.parameters)) (omega (arith, wa.parameter, g.parameters)) ((bytes_eq-Decides _ _).0 parts.0))
    (ascending_once i.ts g.ts.ascending b.t a.t (omega (arith, wb.t, g.times)) (omega (arith, wa.t, g.times)) (same_value _ _ axes.0))
    (same_level i.zs g.zs b.z a.z (omega (arith, wb.z, g.levels)) (omega (arith, wa.z, g.levels)) axes.1)
    (ascending_once i.ys g.ys.ascending b.y a.y (omega (arith, wb.y, g.rows)) (omega (arith, wa.y, g.rows)) (same_value _ _ axes.2))
    (ascending_once i.xs g.xs.ascending b.x a.x (omega (arith, wb.x, g.columns)) (omega (arith, wa.x, g.columns)) (same_value _ _ axes.3))

same_itself : (v : Option ℤ) → same_where_given v v ≡ true
same_itself None = refl
same_itself (Some v) = (Decides-int_eq v v).1 refl

two_true : (b c : Bool) → b ≡ true → c ≡ true → (b && c) ≡ true
two_true b c e f = rw (e, f) refl

four_true : (b c d e : Bool) → b ≡ true → c ≡ true → d ≡ true → e ≡ true → (b && c && d && e) ≡ true
four_true b c d e hb hc hd he = rw (hb, hc, hd, he) refl

pub stored_itself : (i : InstanceValue) (a : GridPlace) → is_of (id_at i.parameters a.parameter) (node_at i a) (stored_at i a).sample ≡ true
stored_itself i a =
    two_true _ _ ((bytes_eq-Decides (id_at i.parameters a.parameter) (id_at i.parameters a.parameter)).1 refl)
    (four_true _ _ _ _ (same_itself (node_at i a).t) (same_itself (node_at i a).z) ((Decides-int_eq (value_at i.ys a.y) (value_at i.ys a.y)).1 refl) ((Decides-int_eq (value_at i.xs a.x) (value_at i.xs a.x)).1 refl))
