-- The ranges of an object, one by one in ascending order of their names.
use Rattle.std.proofs.Common.{◌≡◌, ℕ, List, [], ◌∷◌, ◌++◌, length, map, String, string_bytes, Global, Less, nat_cmp, Result, Ok, Err, IsErrAnd, ◌⊎◌, inl, inr, true, codes, refl, sym, ap, ◌∙◌, append_assoc, append-nil, subst}
use Rattle.std.specs.List.{AllByRecursion}
use Rattle.std.specs.List.Sorted.{IsStrictlySortedBy}
use Rattle.std.specs.Cmp.Lexicographic.{slice_cmp}
use Rattle.std.proofs.lemmas.List.{map-append}
use Rattle.serde_json.specs.Data.{Data, Members}
use Rattle.edr_samples.specs.Trees.{tree_view, members_view}
use Rattle.edr_samples.specs.declared.trees.Tree.{Tree}
use Rattle.covjson_value.specs.declared.coverages.NdArray.{NdArray}
use Rattle.covjson_value.specs.declared.coverages.Parameter.{Parameter}
use Rattle.covjson_value.specs.Coverages.{ids_of, AscendById}
use Rattle.covjson_checks.specs.declared.turned.ReadDomain.{ReadDomain}
use Rattle.covjson_read.specs.declared.collected.ReadRanges.{ReadRanges}
use Rattle.covjson_checks.specs.declared.faults.Member.TheVariants.{Parameters, Ranges}
use Rattle.covjson_checks.specs.declared.faults.CovFault.{CovFault}
use Rattle.covjson_checks.specs.declared.faults.CovFault.TheVariants.{OutOfMemory}
use Rattle.covjson_checks.specs.Answers.{Answer, GivesUnlessMemory}
use Rattle.edr_base.specs.FirstThatApplies.{and_then}
use Rattle.covjson_checks.specs.Members.{need, object_at}
use Rattle.covjson_read.specs.ParameterAnswers.{parameter_of}
use Rattle.edr_json.specs.AnswerLaws.{and_then_ok}
use Rattle.covjson_read.proofs.ParameterLaws.{parameter_is}
use Rattle.edr_json.specs.Trees.{names_of}
use Rattle.covjson_ranges.specs.RangeAnswers.{range_of}
use Rattle.covjson_read.specs.CollectedAnswers.{ranges_from, has_members, ranges_in}

-- the entries of an object
abbrev pub Entries : Type 0
Entries = List (String Global × Tree)

-- ---- the answer

-- the answer's ranges, after those that were found before
abbrev pub after_these : List Parameter → List NdArray → Answer ReadRanges → Answer ReadRanges
after_these kept found answer = and_then answer (λ others. Ok (record { parameters = kept ++ others.parameters; ranges = found ++ others.ranges }))

-- the answer of the entries that are left, after those that were read
abbrev pub from_here : ReadDomain → Data → List Parameter → List NdArray → Entries → Answer ReadRanges
from_here read parameters kept found es = after_these kept found (ranges_from read parameters (members_view es))

-- nothing put before an answer
after_none : (answer : Answer ReadRanges) → after_these [] [] answer ≡ answer
after_none (Ok others) = refl
after_none (Err f) = refl

-- ranges put before those that are put before others
twice : (kept : List Parameter) (found : List NdArray) (p : Parameter) (r : NdArray) (answer : Answer ReadRanges)
    → after_these kept found (and_then answer (λ others. Ok (record { parameters = p ∷ others.parameters; ranges = r ∷ others.ranges })))
    ≡ after_these (kept ++ p ∷ []) (found ++ r ∷ []) answer
twice kept found p r (Ok others) = rw (append_assoc kept (p ∷ []) others.parameters, append_assoc found (r ∷ []) others.ranges) refl
twice kept found p r (Err f) = refl

-- a range with the parameter of its name
abbrev pub range_with : ReadDomain → Data → List ℕ → Data → Answer (Parameter × NdArray)
range_with read parameters id d =
    and_then (need id Parameters parameters) (λ tree. and_then (parameter_of id tree) (λ parameter. and_then (range_of read d) (λ range. Ok (parameter, range))))

-- what is read of one entry, and then what is read of the others
module _ (rest : Answer ReadRanges) where
  abbrev put_before : Parameter → NdArray → Answer ReadRanges
  put_before p r = and_then rest (λ others. Ok (record { parameters = p ∷ others.parameters; ranges = r ∷ others.ranges }))

  range_first : (range : Answer NdArray) (p : Parameter) → and_then range (put_before p) ≡ and_then {T = Parameter × NdArray} (and_then range (λ r. Ok (p, r))) (λ both. put_before both.0 both.1)
  range_first (Ok r) p = refl
  range_first (Err f) p = refl

  parameter_first : (parameter : Answer Parameter) (range : Answer NdArray)
      → and_then parameter (λ p. and_then range (put_before p)) ≡ and_then {T = Parameter × NdArray} (and_then parameter (λ p. and_then range (λ r. Ok (p, r)))) (λ both. put_before both.0 both.1)
  parameter_first (Ok p) range = range_first range p
  parameter_first (Err f) range = refl

  tree_first : (tree : Answer Data) (parameter : Data → Answer Parameter) (range : Answer NdArray)
      → and_then tree (λ t. and_then (parameter t) (λ p. and_then range (put_before p)))
      ≡ and_then {T = Parameter × NdArray} (and_then tree (λ t. and_then (parameter t) (λ p. and_then range (λ r. Ok (p, r))))) (λ both. put_before both.0 both.1)
  tree_first (Ok t) parameter range = parameter_first (parameter t) range
  tree_first (Err f) parameter range = refl

entry_first : (read : ReadDomain) (parameters : Data) (next : Entries) (k : String Global) (v : Tree) → ranges_from read parameters (members_view ((k, v) ∷ next))
    ≡ and_then (range_with read parameters (string_bytes k) (tree_view v)) (λ both. put_before (ranges_from read parameters (members_view next)) both.0 both.1)
entry_first read parameters next k v =
    tree_first (ranges_from read parameters (members_view next)) (need (string_bytes k) Parameters parameters) (parameter_of (string_bytes k)) (range_of read (tree_view v))

-- none before those of all entries
pub from_none : (read : ReadDomain) (parameters : Data) (kept : List Parameter) (found : List NdArray) (es : Entries) → kept ≡ [] → found ≡ []
    → from_here read parameters kept found es ≡ ranges_from read parameters (members_view es)
from_none read parameters kept found es no_parameter no_range = rw (no_parameter, no_range) (after_none (ranges_from read parameters (members_view es)))

-- one range more, and one entry fewer that is left
pub one_more : (read : ReadDomain) (parameters : Data) (kept all_kept : List Parameter) (found all_found : List NdArray) (es next : Entries) (k : String Global) (v : Tree) (p : Parameter)
    (r : NdArray) (all : Answer ReadRanges) → es ≡ (k, v) ∷ next → from_here read parameters kept found es ≡ all → range_with read parameters (string_bytes k) (tree_view v) ≡ Ok (p, r)
    → all_kept ≡ kept ++ p ∷ [] → all_found ≡ found ++ r ∷ [] → from_here read parameters all_kept all_found next ≡ all
one_more read parameters kept all_kept found all_found es next k v p r all is before both pushed put =
    let left = ranges_from read parameters (members_view next) in
    let here : from_here read parameters kept found es
    ≡ after_these kept found (and_then left (λ others. Ok (record { parameters = p ∷ others.parameters; ranges = r ∷ others.ranges }))) =
    ap (from_here read parameters kept found) is ∙ ap (after_these kept found) (entry_first read parameters next k v ∙ rw both refl) in
    rw (pushed, put) (sym (twice kept found p r left)) ∙ sym here ∙ before

-- a fault at an entry is the answer of all
module _ {T : Type 0} (seen : T → ReadRanges) (read : ReadDomain) (parameters : Data) (kept : List Parameter) (found : List NdArray) (es next : Entries) (k : String Global) (v : Tree)
    (all : Answer ReadRanges) (r : Result T CovFault)
    (fault : CovFault) (is : es ≡ (k, v) ∷ next) (before : from_here read parameters kept found es ≡ all) (same : IsErrAnd r (λ e. e ≡ fault)) where
  answered : (r : Result T CovFault) → IsErrAnd r (λ e. e ≡ fault) → from_here read parameters kept found ((k, v) ∷ next) ≡ Err fault → GivesUnlessMemory seen r all
  answered (Ok u) same here = absurd same
  answered (Err e) same here = inl (sym before ∙ ap (from_here read parameters kept found) is ∙ here ∙ ap (λ f. Err f) (sym same))

  wanting : (r : Result T CovFault) → IsErrAnd r (λ e. e ≡ fault) → fault ≡ OutOfMemory → GivesUnlessMemory seen r all
  wanting (Ok u) same memory = absurd same
  wanting (Err e) same memory = inr (same ∙ memory)

  pub entry_stops : (range_with read parameters (string_bytes k) (tree_view v) ≡ Err fault) ⊎ (fault ≡ OutOfMemory) → GivesUnlessMemory seen r all
  entry_stops (inl stops) = answered r same (ap (after_these kept found) (entry_first read parameters next k v) ∙ rw stops refl)
  entry_stops (inr memory) = wanting r same memory

-- the parameter of a range is the one that was read
parameter_same : (range : Answer NdArray) (q p : Parameter) (r : NdArray) → and_then {U = Parameter × NdArray} range (λ x. Ok (q, x)) ≡ Ok (p, r) → q ≡ p
parameter_same (Ok x) q p r h =
    let same : ◌≡◌ {A = Parameter × NdArray} (q, x) (p, r) = cc in
    ap (λ (both : Parameter × NdArray). both.0) same
parameter_same (Err f) q p r h = cc

-- and its id is the name of the range
pub id_is : (read : ReadDomain) (parameters : Data) (id : List ℕ) (d : Data) (p : Parameter) (r : NdArray) → range_with read parameters id d ≡ Ok (p, r) → p.id ≡ id
id_is read parameters id d p r both =
    let t = and_then_ok (need id Parameters parameters) _ (p, r) both in
    let q = and_then_ok (parameter_of id t.0) _ (p, r) t.2 in
    subst (λ (x : Parameter). x.id ≡ id) (parameter_same (range_of read d) q.0 p r q.2) ((parameter_is id t.0 q.0).0 q.1).0

-- ---- the parameters' ids

-- one more id, and one name fewer that is left
pub ids_more : (kept all : List Parameter) (p : Parameter) (es next : Entries) (k : String Global) (v : Tree) (names : List (List ℕ))
    → es ≡ (k, v) ∷ next → p.id ≡ string_bytes k → all ≡ kept ++ p ∷ []
    → ids_of kept ++ names_of (members_view es) ≡ names → ids_of all ++ names_of (members_view next) ≡ names
ids_more kept all p es next k v names is named pushed before =
    let left = names_of (members_view next) in
    let taken : ids_of kept ++ string_bytes k ∷ left ≡ names = subst (λ (xs : Entries). ids_of kept ++ names_of (members_view xs) ≡ names) is before in
    ap (λ (ps : List Parameter). ids_of ps ++ left) pushed
    ∙ ap (λ (ids : List (List ℕ)). ids ++ left) (map-append (λ (q : Parameter). q.id) kept (p ∷ []))
    ∙ append_assoc (ids_of kept) (p.id ∷ []) left ∙ ap (λ id. ids_of kept ++ id ∷ left) named ∙ taken

-- in the end the ids are all names
ids_all : (kept : List Parameter) (es : Entries) (names : List (List ℕ)) → es ≡ [] → ids_of kept ++ names_of (members_view es) ≡ names → ids_of kept ≡ names
ids_all kept es names is before =
    sym (append-nil (ids_of kept)) ∙ subst (λ (xs : Entries). ids_of kept ++ names_of (members_view xs) ≡ names) is before

-- the names of the rest are above this one
names_above : (x : List ℕ) (es : Entries) → AllByRecursion (λ y. slice_cmp nat_cmp x (string_bytes y) ≡ Less) (map (λ e. e.0) es)
    → AllByRecursion (λ y. slice_cmp nat_cmp x y ≡ Less) (names_of (members_view es))
names_above x [] h = tt
names_above x (e ∷ es) h = (h.0, names_above x es h.1)

-- the names of an object's members ascend
names_ascend : (es : Entries) → IsStrictlySortedBy (λ a b. slice_cmp nat_cmp (string_bytes a) (string_bytes b)) (map (λ e. e.0) es)
    → IsStrictlySortedBy (slice_cmp nat_cmp) (names_of (members_view es))
unfolding IsStrictlySortedBy
names_ascend [] h = tt
names_ascend (e ∷ es) h = (names_above (string_bytes e.0) es h.0, names_ascend es h.1)

-- so do the ids of all parameters
pub ids_ascend : (kept : List Parameter) (es all : Entries) → es ≡ [] → ids_of kept ++ names_of (members_view es) ≡ names_of (members_view all)
    → IsStrictlySortedBy (λ a b. slice_cmp nat_cmp (string_bytes a) (string_bytes b)) (map (λ e. e.0) all) → AscendById kept
ids_ascend kept es all is ids ordered =
    subst (λ (names : List (List ℕ)). IsStrictlySortedBy (slice_cmp nat_cmp) names) (sym (ids_all kept es (names_of (members_view all)) is ids)) (names_ascend all ordered)

-- ---- an object of some

-- a map that is not empty has members
pub some_members : (es : Entries) → ¬ (length es ≡ 0) → has_members (members_view es) ≡ true
some_members [] h = absurd (h refl)
some_members (e ∷ es) h = refl

-- so there are ranges
pub some_ranges : (read : ReadDomain) (parameters tree d : Data) (ms : Members) → need (codes "ranges") Ranges tree ≡ Ok d → object_at Ranges d ≡ Ok ms
    → has_members ms ≡ true → ranges_in read parameters tree ≡ ranges_from read parameters ms
some_ranges read parameters tree d ms needed are some = rw (needed, are, some) refl
