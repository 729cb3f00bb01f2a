-- Lists of shared items, one more at a time.
use Rattle.std.proofs.Common.{◌≡◌, ℕ, ◌+◌, ◌<◌, ◌++◌, ◌∷◌, List, [], length, take, get_or, sym, ap, ◌∙◌, arith}
use Rattle.std.specs.Arc.{arc_value}
use Rattle.std.specs.declared.sync.Arc.{Arc}
use Rattle.std.specs.declared.alloc.Global.{Global}
use Rattle.std.proofs.lemmas.List.{take_more, get_or-map, length-map, map-append}
use Rattle.edr_near.specs.Kept.{values_of}

module _ {T : Type 0} where
  value : Arc T Global → T
  value item = arc_value item

  pub inside_values : (shared : List (Arc T Global)) (i : ℕ) → i < length shared → i < length (values_of shared)
  inside_values shared i inside = omega (arith, length-map shared (λ (x : Arc T Global). arc_value x))

  pub value_at : (shared : List (Arc T Global)) (i : ℕ) (s : Arc T Global) → i < length shared → s ≡ get_or shared i s → get_or (values_of shared) i (arc_value s) ≡ arc_value s
  value_at shared i s inside is =
      get_or-map (λ (x : Arc T Global). arc_value x) shared i s (arc_value s) inside ∙ ap (λ (x : Arc T Global). arc_value x) (sym is)

  -- one more is taken
  pub taken_more : (shared : List (Arc T Global)) (i : ℕ) (s : Arc T Global) → i < length shared → s ≡ get_or shared i s
      → take (i + 1) (values_of shared) ≡ take i (values_of shared) ++ arc_value s ∷ []
  taken_more shared i s inside is =
      take_more (values_of shared) i (arc_value s) (inside_values shared i inside)
      ∙ ap (λ (x : T). take i (values_of shared) ++ x ∷ []) (value_at shared i s inside is)

  -- one more is pushed
  pub pushed : (shared : List (Arc T Global)) (s : Arc T Global) → values_of (shared ++ s ∷ []) ≡ values_of shared ++ arc_value s ∷ []
  pushed shared s = map-append (λ (x : Arc T Global). arc_value x) shared (s ∷ [])
