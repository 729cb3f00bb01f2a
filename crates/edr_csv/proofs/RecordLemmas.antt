-- The records of a parameter at some nodes, and at more.
use Rattle.std.proofs.Common.{◌≡◌, ℕ, ◌+◌, ◌<◌, ℤ, List, [], ◌∷◌, ◌++◌, length, take, drop, get_or, arith, Option, refl, sym, ap, ◌∙◌, append_assoc, append-nil}
use Rattle.std.proofs.lemmas.List.{take_more, take-append-drop, length-take-le}
use Rattle.std.proofs.lemmas.Grind.{flat_map-append}
use Rattle.std.specs.List.{flat_map}
use Rattle.covjson_value.specs.declared.coverages.Parameter.{Parameter}
use Rattle.covjson_value.specs.declared.coverages.NdArray.{NdArray}
use Rattle.covjson_value.specs.declared.coverages.Coverage.{Coverage}
use Rattle.covjson_value.specs.declared.coverages.Document.{Document}
use Rattle.covjson_value.specs.declared.coverages.Document.TheVariants.{One}
use Rattle.covjson_value.specs.Coverages.{coverages_in}
use Rattle.covjson_value.specs.Samples.{Node, samples_along, samples_from, samples_of}
use Rattle.csv.specs.Writing.{default_writer, row_text}
use Rattle.edr_csv.specs.Tables.{table_text}
use Rattle.edr_csv.specs.Rows.{sample_records, coverage_records, document_records, header}
use Rattle.edr_csv.specs.Turns.{sample_text, sample_at, records_along, records_from, coverage_text, values_text}

-- no values, no records
pub lines_none : (own : Option (List ℕ)) (id : List ℕ) (nodes : List Node) → records_along own id nodes [] ≡ []
lines_none own id [] = refl
lines_none own id (n ∷ nodes) = refl

-- the records at more nodes
pub lines_on : (own : Option (List ℕ)) (id : List ℕ) (ns ms : List Node) (vs : List (Option ℤ)) → records_along own id (ns ++ ms) vs ≡ records_along own id ns vs ++ records_along own id ms (drop (length ns) vs)
lines_on own id [] ms vs = refl
lines_on own id (n ∷ ns) ms [] = sym (lines_none own id ms)
lines_on own id (n ∷ ns) ms (v ∷ vs) =
    let line : List ℕ = sample_text own (sample_at id n v) in
    ap (λ (t : List ℕ). line ++ t) (lines_on own id ns ms vs) ∙ sym (append_assoc line (records_along own id ns vs) (records_along own id ms (drop (length ns) vs)))

-- the record of one sample
pub line_is : (own : Option (List ℕ)) (id : List ℕ) (n : Node) (v : Option ℤ) (vs : List (Option ℤ)) → sample_text own (sample_at id n v) ≡ records_along own id (n ∷ []) (v ∷ vs)
line_is own id n v vs = sym (append-nil (sample_text own (sample_at id n v)))

-- ---- parameters with their ranges

-- the records of one parameter, and of those behind it
pub parameters_cons : (own : Option (List ℕ)) (nodes : List Node) (p : Parameter) (ps : List Parameter) (r : NdArray) (rs : List NdArray)
    → records_from own nodes (p ∷ ps) (r ∷ rs) ≡ records_along own p.id nodes r.values ++ records_from own nodes ps rs
parameters_cons own nodes p ps r rs = flat_map-append (sample_text own) (samples_along p.id nodes r.values) (samples_from nodes ps rs)

-- the records of some parameters, and of those behind them
pub parameters_on : (own : Option (List ℕ)) (nodes : List Node) (ps qs : List Parameter) (rs ss : List NdArray) → length rs ≡ length ps
    → records_from own nodes (ps ++ qs) (rs ++ ss) ≡ records_from own nodes ps rs ++ records_from own nodes qs ss
parameters_on own nodes [] qs [] ss same = refl
parameters_on own nodes [] qs (r ∷ rs) ss same = absurd (omega (arith, same))
parameters_on own nodes (p ∷ ps) qs [] ss same = absurd (omega (arith, same))
parameters_on own nodes (p ∷ ps) qs (r ∷ rs) ss same =
    parameters_cons own nodes p (ps ++ qs) r (rs ++ ss)
    ∙ ap (λ (t : List ℕ). records_along own p.id nodes r.values ++ t) (parameters_on own nodes ps qs rs ss (omega (arith, same)))
    ∙ sym (append_assoc (records_along own p.id nodes r.values) (records_from own nodes ps rs) (records_from own nodes qs ss))
    ∙ ap (λ (t : List ℕ). t ++ records_from own nodes qs ss) (sym (parameters_cons own nodes p ps r rs))

-- one parameter more, and all of them
pub parameters_more : (own : Option (List ℕ)) (nodes : List Node) (ps : List Parameter) (rs : List NdArray) (k : ℕ) (d : Parameter) (e : NdArray) → k < length ps → length rs ≡ length ps
    → records_from own nodes (take (k + 1) ps) (take (k + 1) rs) ≡ records_from own nodes (take k ps) (take k rs) ++ records_along own (get_or ps k d).id nodes (get_or rs k e).values
parameters_more own nodes ps rs k d e inside same =
    let p : Parameter = get_or ps k d in
    let r : NdArray = get_or rs k e in
    let kept : length (take k rs) ≡ length (take k ps) = length-take-le k rs (omega (arith, inside, same)) ∙ sym (length-take-le k ps (omega (arith, inside))) in
    ap (λ (qs : List Parameter). records_from own nodes qs (take (k + 1) rs)) (take_more ps k d inside)
    ∙ ap (records_from own nodes (take k ps ++ p ∷ [])) (take_more rs k e (omega (arith, inside, same)))
    ∙ parameters_on own nodes (take k ps) (p ∷ []) (take k rs) (r ∷ []) kept
    ∙ ap (λ (t : List ℕ). records_from own nodes (take k ps) (take k rs) ++ t) (parameters_cons own nodes p [] r [] ∙ append-nil (records_along own p.id nodes r.values))

pub parameters_all : (own : Option (List ℕ)) (nodes : List Node) (ps : List Parameter) (rs : List NdArray) (k : ℕ) (d : Parameter) (e : NdArray) → k < length ps → length rs ≡ length ps
    → records_from own nodes ps rs
    ≡ records_from own nodes (take k ps) (take k rs) ++ (records_along own (get_or ps k d).id nodes (get_or rs k e).values ++ records_from own nodes (drop (k + 1) ps) (drop (k + 1) rs))
parameters_all own nodes ps rs k d e inside same =
    let first : List ℕ = records_from own nodes (take k ps) (take k rs) in
    let here : List ℕ = records_along own (get_or ps k d).id nodes (get_or rs k e).values in
    let rest : List ℕ = records_from own nodes (drop (k + 1) ps) (drop (k + 1) rs) in
    let kept : length (take (k + 1) rs) ≡ length (take (k + 1) ps) = length-take-le (k + 1) rs (omega (arith, inside, same)) ∙ sym (length-take-le (k + 1) ps (omega (arith, inside))) in
    ap (λ (qs : List Parameter). records_from own nodes qs rs) (sym (take-append-drop (k + 1) ps))
    ∙ ap (records_from own nodes (take (k + 1) ps ++ drop (k + 1) ps)) (sym (take-append-drop (k + 1) rs))
    ∙ parameters_on own nodes (take (k + 1) ps) (drop (k + 1) ps) (take (k + 1) rs) (drop (k + 1) rs) kept
    ∙ ap (λ (t : List ℕ). t ++ rest) (parameters_more own nodes ps rs k d e inside same)
    ∙ append_assoc first here rest

-- ---- coverages

-- the texts of one item more, and of all
pub texts_more : {A : Type 0} (f : A → List ℕ) (xs : List A) (k : ℕ) (d : A) → k < length xs → flat_map f (take (k + 1) xs) ≡ flat_map f (take k xs) ++ f (get_or xs k d)
texts_more f xs k d inside =
    ap (flat_map f) (take_more xs k d inside) ∙ flat_map-append f (take k xs) (get_or xs k d ∷ []) ∙ ap (λ (t : List ℕ). flat_map f (take k xs) ++ t) (append-nil (f (get_or xs k d)))

pub texts_all : {A : Type 0} (f : A → List ℕ) (xs : List A) (k : ℕ) (d : A) → k < length xs → flat_map f xs ≡ flat_map f (take k xs) ++ (f (get_or xs k d) ++ flat_map f (drop (k + 1) xs))
texts_all f xs k d inside =
    ap (flat_map f) (sym (take-append-drop (k + 1) xs)) ∙ flat_map-append f (take (k + 1) xs) (drop (k + 1) xs)
    ∙ ap (λ (t : List ℕ). t ++ flat_map f (drop (k + 1) xs)) (texts_more f xs k d inside)
    ∙ append_assoc (flat_map f (take k xs)) (f (get_or xs k d)) (flat_map f (drop (k + 1) xs))

-- the text of the records of some items is that of each, one after the other
texts_of : {A : Type 0} (f : A → List (List (List ℕ))) (xs : List A) → table_text (flat_map f xs) ≡ flat_map (λ (x : A). table_text (f x)) xs
texts_of f [] = refl
texts_of f (x ∷ xs) = flat_map-append (row_text default_writer) (f x) (flat_map f xs) ∙ ap (λ (t : List ℕ). table_text (f x) ++ t) (texts_of f xs)

coverages_texts : (cs : List Coverage) → flat_map (λ (c : Coverage). table_text (coverage_records c)) cs ≡ flat_map coverage_text cs
coverages_texts [] = refl
coverages_texts (c ∷ cs) = ap (λ (t : List ℕ). t ++ flat_map (λ (x : Coverage). table_text (coverage_records x)) cs) (texts_of (sample_records c.id) (samples_of c)) ∙ ap (λ (t : List ℕ). coverage_text c ++ t) (coverages_texts cs)

-- the text of one coverage is that of a document of it
pub one_text : (c : Coverage) → values_text (One c) ≡ coverage_text c
one_text c = append-nil (coverage_text c)

-- the text of the records of a document: that of the header, and those of its values
pub document_is : (document : Document) → row_text default_writer header ++ values_text document ≡ table_text (document_records document)
document_is document =
    ap (λ (t : List ℕ). row_text default_writer header ++ t) (sym (texts_of coverage_records (coverages_in document) ∙ coverages_texts (coverages_in document)))
