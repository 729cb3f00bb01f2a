-- The lines of a parameter at some nodes, and at more.
use Rattle.std.proofs.Common.{◌≡◌, ℕ, ◌+◌, ◌<◌, ℤ, List, [], ◌∷◌, ◌++◌, map, length, take, drop, get_or, arith, Option, refl, sym, ap, ◌∙◌, append_assoc, append-nil}
use Rattle.std.proofs.lemmas.List.{map-append, take_more, take-append-drop, length-take-le}
use Rattle.std.proofs.lemmas.Grind.{flat_map-append}
use Rattle.std.specs.List.{flat_map}
use Rattle.covjson_value.specs.declared.coverages.Parameter.{Parameter}
use Rattle.covjson_value.specs.declared.coverages.NdArray.{NdArray}
use Rattle.covjson_value.specs.declared.coverages.Coverage.{Coverage}
use Rattle.covjson_value.specs.Samples.{Node, samples_along, samples_from}
use Rattle.edr_table.specs.Tables.{cells_of, line_text, coverage_lines}
use Rattle.edr_table.specs.Turns.{line_front, line_back, lines_along, lines_from}

-- no values, no lines
pub lines_none : (id : List ℕ) (nodes : List Node) → lines_along id nodes [] ≡ []
lines_none id [] = refl
lines_none id (n ∷ nodes) = refl

-- the lines at more nodes
pub lines_on : (id : List ℕ) (ns ms : List Node) (vs : List (Option ℤ)) → lines_along id (ns ++ ms) vs ≡ lines_along id ns vs ++ lines_along id ms (drop (length ns) vs)
lines_on id [] ms vs = refl
lines_on id (n ∷ ns) ms [] = sym (lines_none id ms)
lines_on id (n ∷ ns) ms (v ∷ vs) =
    let line : List ℕ = line_text (cells_of (record { parameter = id; at = n; value = v })) in
    ap (λ (t : List ℕ). line ++ t) (lines_on id ns ms vs) ∙ sym (append_assoc line (lines_along id ns vs) (lines_along id ms (drop (length ns) vs)))

-- a line is its front and what stands behind
pub line_is : (id : List ℕ) (n : Node) (v : Option ℤ) (vs : List (Option ℤ)) → line_front id n.t n.z n.y ++ line_back n.x v ≡ lines_along id (n ∷ []) (v ∷ vs)
line_is id n v vs = simp (append_assoc, append-nil)

-- ---- parameters with their ranges

lines_of_none : (nodes : List Node) (ps : List Parameter) → lines_from nodes ps [] ≡ []
lines_of_none nodes [] = refl
lines_of_none nodes (p ∷ ps) = refl

-- the lines of one parameter, and of those behind it
pub parameters_cons : (nodes : List Node) (p : Parameter) (ps : List Parameter) (r : NdArray) (rs : List NdArray)
    → lines_from nodes (p ∷ ps) (r ∷ rs) ≡ lines_along p.id nodes r.values ++ lines_from nodes ps rs
parameters_cons nodes p ps r rs =
    let first = samples_along p.id nodes r.values in
    let others = samples_from nodes ps rs in
    ap (flat_map line_text) (map-append cells_of first others) ∙ flat_map-append line_text (map cells_of first) (map cells_of others)

-- the lines of some parameters, and of those behind them
pub parameters_on : (nodes : List Node) (ps qs : List Parameter) (rs ss : List NdArray) → length rs ≡ length ps
    → lines_from nodes (ps ++ qs) (rs ++ ss) ≡ lines_from nodes ps rs ++ lines_from nodes qs ss
parameters_on nodes [] qs [] ss same = refl
parameters_on nodes [] qs (r ∷ rs) ss same = absurd (omega (arith, same))
parameters_on nodes (p ∷ ps) qs [] ss same = absurd (omega (arith, same))
parameters_on nodes (p ∷ ps) qs (r ∷ rs) ss same =
    parameters_cons nodes p (ps ++ qs) r (rs ++ ss)
    ∙ ap (λ (t : List ℕ). lines_along p.id nodes r.values ++ t) (parameters_on nodes ps qs rs ss (omega (arith, same)))
    ∙ sym (append_assoc (lines_along p.id nodes r.values) (lines_from nodes ps rs) (lines_from nodes qs ss))
    ∙ ap (λ (t : List ℕ). t ++ lines_from nodes qs ss) (sym (parameters_cons nodes p ps r rs))

-- one parameter more, and all of them
pub parameters_more : (nodes : List Node) (ps : List Parameter) (rs : List NdArray) (k : ℕ) (d : Parameter) (e : NdArray) → k < length ps → length rs ≡ length ps
    → lines_from nodes (take (k + 1) ps) (take (k + 1) rs) ≡ lines_from nodes (take k ps) (take k rs) ++ lines_along (get_or ps k d).id nodes (get_or rs k e).values
parameters_more nodes ps rs k d e inside same =
    let p : Parameter = get_or ps k d in
    let r : NdArray = get_or rs k e in
    let kept : length (take k rs) ≡ length (take k ps) = length-take-le k rs (omega (arith, inside, same)) ∙ sym (length-take-le k ps (omega (arith, inside))) in
    ap (λ (qs : List Parameter). lines_from nodes qs (take (k + 1) rs)) (take_more ps k d inside)
    ∙ ap (lines_from nodes (take k ps ++ p ∷ [])) (take_more rs k e (omega (arith, inside, same)))
    ∙ parameters_on nodes (take k ps) (p ∷ []) (take k rs) (r ∷ []) kept
    ∙ ap (λ (t : List ℕ). lines_from nodes (take k ps) (take k rs) ++ t) (parameters_cons nodes p [] r [] ∙ append-nil (lines_along p.id nodes r.values))

pub parameters_all : (nodes : List Node) (ps : List Parameter) (rs : List NdArray) (k : ℕ) (d : Parameter) (e : NdArray) → k < length ps → length rs ≡ length ps
    → lines_from nodes ps rs
    ≡ lines_from nodes (take k ps) (take k rs) ++ (lines_along (get_or ps k d).id nodes (get_or rs k e).values ++ lines_from nodes (drop (k + 1) ps) (drop (k + 1) rs))
parameters_all nodes ps rs k d e inside same =
    let first : List ℕ = lines_from nodes (take k ps) (take k rs) in
    let here : List ℕ = lines_along (get_or ps k d).id nodes (get_or rs k e).values in
    let rest : List ℕ = lines_from nodes (drop (k + 1) ps) (drop (k + 1) rs) in
    let kept : length (take (k + 1) rs) ≡ length (take (k + 1) ps) = length-take-le (k + 1) rs (omega (arith, inside, same)) ∙ sym (length-take-le (k + 1) ps (omega (arith, inside))) in
    ap (λ (qs : List Parameter). lines_from nodes qs rs) (sym (take-append-drop (k + 1) ps))
    ∙ ap (lines_from nodes (take (k + 1) ps ++ drop (k + 1) ps)) (sym (take-append-drop (k + 1) rs))
    ∙ parameters_on nodes (take (k + 1) ps) (drop (k + 1) ps) (take (k + 1) rs) (drop (k + 1) rs) kept
    ∙ ap (λ (t : List ℕ). t ++ rest) (parameters_more nodes ps rs k d e inside same)
    ∙ append_assoc first here rest

-- ---- coverages

pub coverages_on : (cs ds : List Coverage)
    → flat_map line_text (flat_map coverage_lines (cs ++ ds)) ≡ flat_map line_text (flat_map coverage_lines cs) ++ flat_map line_text (flat_map coverage_lines ds)
coverages_on cs ds =
    ap (flat_map line_text) (flat_map-append coverage_lines cs ds) ∙ flat_map-append line_text (flat_map coverage_lines cs) (flat_map coverage_lines ds)

-- one coverage more, and all of them
pub coverages_more : (cs : List Coverage) (k : ℕ) (d : Coverage) → k < length cs
    → flat_map line_text (flat_map coverage_lines (take (k + 1) cs)) ≡ flat_map line_text (flat_map coverage_lines (take k cs)) ++ flat_map line_text (coverage_lines (get_or cs k d))
coverages_more cs k d inside =
    ap (λ (es : List Coverage). flat_map line_text (flat_map coverage_lines es)) (take_more cs k d inside) ∙ coverages_on (take k cs) (get_or cs k d ∷ [])
    ∙ ap (λ (ls : List (List (List ℕ))). flat_map line_text (flat_map coverage_lines (take k cs)) ++ flat_map line_text ls) (append-nil (coverage_lines (get_or cs k d)))

pub coverages_all : (cs : List Coverage) (k : ℕ) (d : Coverage) → k < length cs
    → flat_map line_text (flat_map coverage_lines cs)
    ≡ flat_map line_text (flat_map coverage_lines (take k cs)) ++ (flat_map line_text (coverage_lines (get_or cs k d)) ++ flat_map line_text (flat_map coverage_lines (drop (k + 1) cs)))
coverages_all cs k d inside =
    let rest : List ℕ = flat_map line_text (flat_map coverage_lines (drop (k + 1) cs)) in
    ap (λ (es : List Coverage). flat_map line_text (flat_map coverage_lines es)) (sym (take-append-drop (k + 1) cs))
    ∙ coverages_on (take (k + 1) cs) (drop (k + 1) cs)
    ∙ ap (λ (t : List ℕ). t ++ rest) (coverages_more cs k d inside)
    ∙ append_assoc (flat_map line_text (flat_map coverage_lines (take k cs))) (flat_map line_text (coverage_lines (get_or cs k d))) rest
