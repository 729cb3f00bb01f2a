-- Of equal neighbours one: with one node more, and as nodes are shown.
use Rattle.std.proofs.Common.{◌≡◌, ◌≢◌, ℕ, Bool, true, false, cond, eqb, List, [], ◌∷◌, ◌++◌, length, refl, ap, ap₂, sym, ◌∙◌, arith, Some, None, IfSome, zero, suc, ◌+◌, ◌≤◌, get_or, append-nil, take, ◌<◌}
use Rattle.std.specs.declared.option.Option.{Option}
use Rattle.std.specs.Prelude.{map, ◌&&◌, option_map}
use Rattle.std.specs.List.{filter}
use Rattle.std.proofs.lemmas.Bool.{and_parts, and_from, eqb-true, eq-eqb}
use Rattle.std.proofs.lemmas.List.{map-append, take_more}
use Rattle.covjson_value.specs.Samples.{Node, same_node}
use Rattle.edr_base.specs.declared.places.Position.{Position}
use Rattle.edr_select.specs.declared.plans.GridNode.{GridNode}
use Rattle.edr_select.specs.Lines.{without_repeats}
use Rattle.edr_select.specs.ListLaws.{Each}
use Rattle.edr_lines.specs.Vertices.{same_step, there, once, ends_in, step_with}

abbrev made : ℕ → ℕ → ℕ → ℕ → GridNode
made t z y x = record { t = t; z = z; y = y; x = x }

-- ---- equal nodes

pub same_is : (a b : GridNode) → same_step a b ≡ true → a ≡ b
same_is a b h =
    let one = and_parts (eqb a.t b.t) (eqb a.z b.z && (eqb a.y b.y && eqb a.x b.x)) h in
    let two = and_parts (eqb a.z b.z) (eqb a.y b.y && eqb a.x b.x) one.1 in
    let three = and_parts (eqb a.y b.y) (eqb a.x b.x) two.1 in
    ap (λ k. made k a.z a.y a.x) (eqb-true a.t b.t one.0) ∙ ap (λ k. made b.t k a.y a.x) (eqb-true a.z b.z two.0)
    ∙ ap (λ k. made b.t b.z k a.x) (eqb-true a.y b.y three.0) ∙ ap (λ k. made b.t b.z b.y k) (eqb-true a.x b.x three.1)

pub step_itself : (n : GridNode) → same_step n n ≡ true
step_itself n =
    and_from (eqb n.t n.t) (eqb n.z n.z && (eqb n.y n.y && eqb n.x n.x)) (eq-eqb n.t n.t refl)
    (and_from (eqb n.z n.z) (eqb n.y n.y && eqb n.x n.x) (eq-eqb n.z n.z refl) (and_from (eqb n.y n.y) (eqb n.x n.x) (eq-eqb n.y n.y refl) (eq-eqb n.x n.x refl)))

-- ---- one node more

cons_some : (n : GridNode) (nodes : List GridNode) → n ∷ nodes ≢ []
cons_some n nodes e = cc

once_some : (n : GridNode) (nodes : List GridNode) → once (n ∷ nodes) ≢ []
once_some n [] = cons_some n []
once_some n (m ∷ nodes) = elim (same_step n m) as (λ b. cond b (once (m ∷ nodes)) (n ∷ once (m ∷ nodes)) ≢ []) [ true ↦ once_some m nodes | false ↦ cons_some n (once (m ∷ nodes)) ]

behind : (n : GridNode) (nodes : List GridNode) (step : GridNode) → nodes ≢ [] → n ∷ step_with nodes step ≡ step_with (n ∷ nodes) step
behind n [] step some = absurd (some refl)
behind n (m ∷ nodes) step some = elim (ends_in (m ∷ nodes) step) as (λ b. n ∷ cond b (m ∷ nodes) ((m ∷ nodes) ++ step ∷ []) ≡ cond b (n ∷ m ∷ nodes) ((n ∷ m ∷ nodes) ++ step ∷ [])) [ true ↦ refl | false ↦ refl ]

last_one : (b : Bool) (n step : GridNode) → (b ≡ true → n ≡ step) → cond b (step ∷ []) (n ∷ step ∷ []) ≡ cond b (n ∷ []) (n ∷ step ∷ [])
last_one true n step same = ap (λ (m : GridNode). m ∷ []) (sym (same refl))
last_one false n step same = refl

-- with one more, of equal neighbours one is kept
pub once_more : (nodes : List GridNode) (step : GridNode) → once (nodes ++ step ∷ []) ≡ step_with (once nodes) step
once_more [] step = refl
once_more (n ∷ []) step = last_one (same_step n step) n step (same_is n step)
once_more (n ∷ (m ∷ nodes)) step =
    ap (λ (rest : List GridNode). cond (same_step n m) rest (n ∷ rest)) (once_more (m ∷ nodes) step)
    ∙ elim (same_step n m) as (λ b. cond b (step_with (once (m ∷ nodes)) step) (n ∷ step_with (once (m ∷ nodes)) step) ≡ step_with (cond b (once (m ∷ nodes)) (n ∷ once (m ∷ nodes))) step)
    [ true ↦ refl | false ↦ behind n (once (m ∷ nodes)) step (once_some m nodes) ]

-- ---- as nodes are shown

-- where nodes are told apart by what they are shown as
pub once_shown : (P : GridNode → Type 0) (shown : GridNode → Node) → ((a b : GridNode) → P a → P b → same_step a b ≡ same_node (shown a) (shown b))
    → (nodes : List GridNode) → Each P nodes → map shown (once nodes) ≡ without_repeats (map shown nodes)
once_shown P shown same [] each = refl
once_shown P shown same (n ∷ []) each = refl
once_shown P shown same (n ∷ (m ∷ nodes)) each =
    kept (same_step n m)
    ∙ (ap (λ b. cond b (map shown (once (m ∷ nodes))) (shown n ∷ map shown (once (m ∷ nodes)))) (same n m each.0 each.1.0)
    ∙ ap (λ (rest : List Node). cond (same_node (shown n) (shown m)) rest (shown n ∷ rest)) (once_shown P shown same (m ∷ nodes) each.1))
  where
    kept : (b : Bool) → map shown (cond b (once (m ∷ nodes)) (n ∷ once (m ∷ nodes))) ≡ cond b (map shown (once (m ∷ nodes))) (shown n ∷ map shown (once (m ∷ nodes)))
    kept true = refl
    kept false = refl

pub each_once : (P : GridNode → Type 0) (nodes : List GridNode) → Each P nodes → Each P (once nodes)
each_once P [] each = tt
each_once P (n ∷ []) each = each
each_once P (n ∷ (m ∷ nodes)) each =
    let later : Each P (once (m ∷ nodes)) = each_once P (m ∷ nodes) each.1 in
    elim (same_step n m) as (λ b. Each P (cond b (once (m ∷ nodes)) (n ∷ once (m ∷ nodes)))) [ true ↦ later | false ↦ (each.0, later) ]

pub once_few : (nodes : List GridNode) → length (once nodes) ≤ length nodes
once_few [] = omega arith
once_few (n ∷ []) = omega arith
once_few (n ∷ (m ∷ nodes)) =
    let few : length (once (m ∷ nodes)) ≤ length (m ∷ nodes) = once_few (m ∷ nodes) in
    elim (same_step n m) as (λ b. length (cond b (once (m ∷ nodes)) (n ∷ once (m ∷ nodes))) ≤ length (n ∷ m ∷ nodes)) [ true ↦ omega (arith, few) | false ↦ omega (arith, few) ]

-- ---- those that are there

pub there-append : (xs ys : List (Option GridNode)) → there (xs ++ ys) ≡ there xs ++ there ys
there-append [] ys = refl
there-append (None ∷ xs) ys = there-append xs ys
there-append (Some n ∷ xs) ys = ap (λ (rest : List GridNode). n ∷ rest) (there-append xs ys)

-- the steps of vertices, as they are shown
pub there_shown : (step : Position → Option GridNode) (inside : Position → Bool) (shown : GridNode → Node) (node_of : Position → Node)
    → ((v : Position) → option_map shown (step v) ≡ cond (inside v) (Some (node_of v)) None)
    → (vertices : List Position) → map shown (there (map step vertices)) ≡ map node_of (filter inside vertices)
there_shown step inside shown node_of is [] = refl
there_shown step inside shown node_of is (v ∷ vertices) = here (step v) (inside v) (is v) (there_shown step inside shown node_of is vertices)
  where
    here : (o : Option GridNode) (b : Bool) → option_map shown o ≡ cond b (Some (node_of v)) None
        → map shown (there (map step vertices)) ≡ map node_of (filter inside vertices)
        → map shown (there (o ∷ map step vertices)) ≡ map node_of (cond b (v ∷ filter inside vertices) (filter inside vertices))
    here None true e later = cc
    here None false e later = later
    here (Some n) true e later = ap₂ (λ x (rest : List Node). x ∷ rest) (some_same e) later
      where
        some_same : {a b : Node} → Some a ≡ Some b → a ≡ b
        some_same e = cc
    here (Some n) false e later = cc

pub each_there : (P : GridNode → Type 0) (step : Position → Option GridNode) → ((v : Position) → IfSome (step v) P) → (vertices : List Position) → Each P (there (map step vertices))
each_there P step h [] = tt
each_there P step h (v ∷ vertices) = here (step v) (h v) (each_there P step h vertices)
  where
    here : (o : Option GridNode) → IfSome o P → Each P (there (map step vertices)) → Each P (there (o ∷ map step vertices))
    here None first later = later
    here (Some n) first later = (first, later)

pub there_few : (nodes : List (Option GridNode)) → length (there nodes) ≤ length nodes
there_few [] = omega arith
there_few (None ∷ nodes) = omega (arith, there_few nodes)
there_few (Some n ∷ nodes) = omega (arith, there_few nodes)

-- ---- one vertex more

abbrev pub step_if : List GridNode → Option GridNode → List GridNode
step_if nodes None = nodes
step_if nodes (Some step) = step_with nodes step

pub vertex_more : (step : Position → Option GridNode) (vertices : List Position) (v : Position)
    → once (there (map step (vertices ++ v ∷ []))) ≡ step_if (once (there (map step vertices))) (step v)
vertex_more step vertices v =
    ap (λ (nodes : List (Option GridNode)). once (there nodes)) (map-append step vertices (v ∷ []))
    ∙ (ap once (there-append (map step vertices) (step v ∷ [])) ∙ here (step v))
  where
    here : (o : Option GridNode) → once (there (map step vertices) ++ there (o ∷ [])) ≡ step_if (once (there (map step vertices))) o
    here None = ap once (append-nil (there (map step vertices)))
    here (Some n) = once_more (there (map step vertices)) n

pub steps_more : (step : Position → Option GridNode) (vertices : List Position) (k : ℕ) (d : Position) (old new : List GridNode) (found : Option GridNode) → k < length vertices
    → found ≡ step (get_or vertices k d) → old ≡ once (there (map step (take k vertices))) → new ≡ step_if old found → new ≡ once (there (map step (take (k + 1) vertices)))
steps_more step vertices k d old new found inside is was with_it =
    with_it ∙ (ap₂ step_if was is
    ∙ (sym (vertex_more step (take k vertices) (get_or vertices k d)) ∙ ap (λ (vs : List Position). once (there (map step vs))) (sym (take_more vertices k d inside))))

-- ---- the last one

pub ends_is : (nodes : List GridNode) (last step : GridNode) (place : ℕ) → place + 1 ≡ length nodes → last ≡ get_or nodes place last → ends_in nodes step ≡ same_step last step
ends_is [] last step place at is = absurd (omega arith)
ends_is (n ∷ []) last step zero at is = ap (λ (m : GridNode). same_step m step) (sym is)
ends_is (n ∷ []) last step (suc place) at is = absurd (omega arith)
ends_is (n ∷ (m ∷ nodes)) last step zero at is = absurd (omega arith)
ends_is (n ∷ (m ∷ nodes)) last step (suc place) at is = ends_is (m ∷ nodes) last step place (omega arith) is
