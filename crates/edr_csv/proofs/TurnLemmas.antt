-- The steps of loops that put records, each turn with the values behind those of the turns before.
use Rattle.std.proofs.Common.{◌≡◌, ℕ, ◌+◌, ◌<◌, ℤ, List, [], ◌∷◌, ◌++◌, map, length, take, drop, get_or, Option, sym, ap, ◌∙◌, append_assoc, append-nil, subst, FitsSigned, w64, to_z, of_z}
use Rattle.std.proofs.lemmas.Int.{to_z-of_z}
use Rattle.std.proofs.lemmas.List.{map-append, map_more, take_more, take-append-drop, drop-drop, length-append}
use Rattle.std.proofs.lemmas.Grind.{flat_map-append}
use Rattle.std.specs.List.{flat_map}
use Rattle.edr_base.specs.Calls.{Front, Gathered}
use Rattle.covjson_value.specs.Samples.{Node}
use Rattle.edr_csv.specs.Turns.{records_along}
use Rattle.edr_csv.proofs.GatherLemmas.{gathered_on, gathered_stop}
use Rattle.edr_csv.proofs.RecordLemmas.{lines_none, lines_on}

-- the values behind those of some nodes and of more
pub left_on : (ns ms : List Node) (vs left rest : List (Option ℤ)) → left ≡ drop (length ns) vs → rest ≡ drop (length ms) left → rest ≡ drop (length (ns ++ ms)) vs
left_on ns ms vs left rest p q = q ∙ ap (drop (length ms)) p ∙ drop-drop (length ms) (length ns) vs ∙ ap (λ (n : ℕ). drop n vs) (sym (length-append ns ms))

-- the records of more nodes are gathered
pub lines_put : (own : Option (List ℕ)) (id : List ℕ) (ns ms : List Node) (vs left : List (Option ℤ)) (old mid now : Option (List ℕ)) (p q r : List ℕ) → left ≡ drop (length ns) vs
    → Gathered old mid q (p ++ records_along own id ns vs) → Gathered mid now r (q ++ records_along own id ms left) → Gathered old now r (p ++ records_along own id (ns ++ ms) vs)
lines_put own id ns ms vs left old mid now p q r e g h =
    rw (lines_on own id ns ms vs, ← e) (gathered_on old mid now p q r (records_along own id ns vs) (records_along own id ms left) g h)

-- of the records of more nodes a beginning was written
pub lines_stop : (own : Option (List ℕ)) (id : List ℕ) (ns ms os : List Node) (vs left : List (Option ℤ)) (old mid now : Option (List ℕ)) (p q : List ℕ) → left ≡ drop (length ns) vs
    → Gathered old mid q (p ++ records_along own id ns vs) → Front (q ++ records_along own id ms left) mid now → Front (p ++ records_along own id (ns ++ (ms ++ os)) vs) old now
lines_stop own id ns ms os vs left old mid now p q e g front =
    rw (lines_on own id ns (ms ++ os) vs, ← e, lines_on own id ms os left) (gathered_stop old mid now p q (records_along own id ns vs) (records_along own id ms left) (records_along own id os (drop (length ms) left)) g front)

-- ---- turns

-- the nodes of one turn more, and of all turns
pub turns_more : {A : Type 0} (f : A → List Node) (xs : List A) (k : ℕ) (d : A) → k < length xs → flat_map f (take (k + 1) xs) ≡ flat_map f (take k xs) ++ f (get_or xs k d)
turns_more f xs k d inside =
    ap (flat_map f) (take_more xs k d inside) ∙ flat_map-append f (take k xs) (get_or xs k d ∷ []) ∙ ap (λ (t : List Node). flat_map f (take k xs) ++ t) (append-nil (f (get_or xs k d)))

pub turns_all : {A : Type 0} (f : A → List Node) (xs : List A) (k : ℕ) (d : A) → k < length xs → flat_map f xs ≡ flat_map f (take k xs) ++ (f (get_or xs k d) ++ flat_map f (drop (k + 1) xs))
turns_all f xs k d inside =
    ap (flat_map f) (sym (take-append-drop (k + 1) xs)) ∙ flat_map-append f (take (k + 1) xs) (drop (k + 1) xs)
    ∙ ap (λ (t : List Node). t ++ flat_map f (drop (k + 1) xs)) (turns_more f xs k d inside)
    ∙ append_assoc (flat_map f (take k xs)) (f (get_or xs k d)) (flat_map f (drop (k + 1) xs))

pub turn_left : {A : Type 0} (f : A → List Node) (xs : List A) (k : ℕ) (d : A) (vs left rest : List (Option ℤ)) → k < length xs
    → left ≡ drop (length (flat_map f (take k xs))) vs → rest ≡ drop (length (f (get_or xs k d))) left → rest ≡ drop (length (flat_map f (take (k + 1) xs))) vs
turn_left f xs k d vs left rest inside p q = rw (turns_more f xs k d inside) (left_on (flat_map f (take k xs)) (f (get_or xs k d)) vs left rest p q)

pub turn_put : {A : Type 0} (own : Option (List ℕ)) (id : List ℕ) (f : A → List Node) (xs : List A) (k : ℕ) (d : A) (vs left : List (Option ℤ)) (old mid now : Option (List ℕ)) (p q r : List ℕ) → k < length xs
    → left ≡ drop (length (flat_map f (take k xs))) vs → Gathered old mid q (p ++ records_along own id (flat_map f (take k xs)) vs) → Gathered mid now r (q ++ records_along own id (f (get_or xs k d)) left)
    → Gathered old now r (p ++ records_along own id (flat_map f (take (k + 1) xs)) vs)
turn_put own id f xs k d vs left old mid now p q r inside e g h =
    rw (turns_more f xs k d inside) (lines_put own id (flat_map f (take k xs)) (f (get_or xs k d)) vs left old mid now p q r e g h)

pub turn_stop : {A : Type 0} (own : Option (List ℕ)) (id : List ℕ) (f : A → List Node) (xs : List A) (k : ℕ) (d : A) (vs left : List (Option ℤ)) (old mid now : Option (List ℕ)) (p q : List ℕ) → k < length xs
    → left ≡ drop (length (flat_map f (take k xs))) vs → Gathered old mid q (p ++ records_along own id (flat_map f (take k xs)) vs) → Front (q ++ records_along own id (f (get_or xs k d)) left) mid now
    → Front (p ++ records_along own id (flat_map f xs) vs) old now
turn_stop own id f xs k d vs left old mid now p q inside e g front =
    subst (λ (ns : List Node). Front (p ++ records_along own id ns vs) old now) (sym (turns_all f xs k d inside))
    (lines_stop own id (flat_map f (take k xs)) (f (get_or xs k d)) (flat_map f (drop (k + 1) xs)) vs left old mid now p q e g front)

-- ---- nodes, each with a line

-- a number that is passed is itself
pub passed : (P : ℤ → Type 0) (z : ℤ) → FitsSigned w64 z → P (to_z w64 (of_z w64 z)) → P z
passed P z fits h = subst P (to_z-of_z w64 z fits) h

nodes_all : {A : Type 0} (f : A → Node) (xs : List A) (k : ℕ) (d : A) → k < length xs → map f xs ≡ map f (take k xs) ++ ((f (get_or xs k d) ∷ []) ++ map f (drop (k + 1) xs))
nodes_all f xs k d inside =
    ap (map f) (sym (take-append-drop (k + 1) xs)) ∙ map-append f (take (k + 1) xs) (drop (k + 1) xs)
    ∙ ap (λ (t : List Node). t ++ map f (drop (k + 1) xs)) (map_more f xs k d inside)
    ∙ append_assoc (map f (take k xs)) (f (get_or xs k d) ∷ []) (map f (drop (k + 1) xs))

pub node_left : {A : Type 0} (f : A → Node) (xs : List A) (k : ℕ) (d : A) (vs left rest : List (Option ℤ)) (v : Option ℤ) → k < length xs
    → left ≡ drop (length (map f (take k xs))) vs → left ≡ v ∷ rest → rest ≡ drop (length (map f (take (k + 1) xs))) vs
node_left f xs k d vs left rest v inside p q =
    rw (map_more f xs k d inside) (left_on (map f (take k xs)) (f (get_or xs k d) ∷ []) vs left rest p (ap (drop 1) (sym q)))

pub node_put : {A : Type 0} (own : Option (List ℕ)) (id : List ℕ) (f : A → Node) (xs : List A) (k : ℕ) (d : A) (vs left : List (Option ℤ)) (line : List ℕ) (old mid now : Option (List ℕ)) (p q r : List ℕ) → k < length xs
    → left ≡ drop (length (map f (take k xs))) vs → line ≡ records_along own id (f (get_or xs k d) ∷ []) left
    → Gathered old mid q (p ++ records_along own id (map f (take k xs)) vs) → Gathered mid now r (q ++ line) → Gathered old now r (p ++ records_along own id (map f (take (k + 1) xs)) vs)
node_put own id f xs k d vs left line old mid now p q r inside e same g h =
    rw (map_more f xs k d inside)
    (lines_put own id (map f (take k xs)) (f (get_or xs k d) ∷ []) vs left old mid now p q r e g (subst (λ (t : List ℕ). Gathered mid now r (q ++ t)) same h))

pub node_stop : {A : Type 0} (own : Option (List ℕ)) (id : List ℕ) (f : A → Node) (xs : List A) (k : ℕ) (d : A) (vs left : List (Option ℤ)) (line : List ℕ) (old mid now : Option (List ℕ)) (p q : List ℕ) → k < length xs
    → left ≡ drop (length (map f (take k xs))) vs → line ≡ records_along own id (f (get_or xs k d) ∷ []) left
    → Gathered old mid q (p ++ records_along own id (map f (take k xs)) vs) → Front (q ++ line) mid now → Front (p ++ records_along own id (map f xs) vs) old now
node_stop own id f xs k d vs left line old mid now p q inside e same g front =
    subst (λ (ns : List Node). Front (p ++ records_along own id ns vs) old now) (sym (nodes_all f xs k d inside))
    (lines_stop own id (map f (take k xs)) (f (get_or xs k d) ∷ []) (map f (drop (k + 1) xs)) vs left old mid now p q e g (subst (λ (t : List ℕ). Front (q ++ t) mid now) same front))

-- no values are left
pub node_out : {A : Type 0} (own : Option (List ℕ)) (id : List ℕ) (f : A → Node) (xs : List A) (k : ℕ) (vs left : List (Option ℤ)) (old now : Option (List ℕ)) (p q : List ℕ)
    → left ≡ drop (length (map f (take k xs))) vs → left ≡ [] → Gathered old now q (p ++ records_along own id (map f (take k xs)) vs) → Gathered old now q (p ++ records_along own id (map f xs) vs)
node_out own id f xs k vs left old now p q e none g =
    let more : List Node = map f (drop k xs) in
    let all : map f xs ≡ map f (take k xs) ++ more = ap (map f) (sym (take-append-drop k xs)) ∙ map-append f (take k xs) (drop k xs) in
    let same : records_along own id (map f xs) vs ≡ records_along own id (map f (take k xs)) vs =
    ap (λ (ns : List Node). records_along own id ns vs) all ∙ lines_on own id (map f (take k xs)) more vs
    ∙ ap (λ (t : List (Option ℤ)). records_along own id (map f (take k xs)) vs ++ records_along own id more t) (sym e ∙ none)
    ∙ ap (λ (t : List ℕ). records_along own id (map f (take k xs)) vs ++ t) (lines_none own id more)
    ∙ append-nil (records_along own id (map f (take k xs)) vs) in
    rw same g
