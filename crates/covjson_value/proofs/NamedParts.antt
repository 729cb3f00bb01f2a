-- The parameters and the ranges of a coverage by their ids.
use Rattle.std.proofs.Common.{◌≡◌, ℕ, ◌+◌, ◌<◌, ◌≤◌, List, [], ◌∷◌, length, map, take, nat_cmp, slice_index_or, refl, sym, ap, subst, ◌∙◌, arith}
use Rattle.std.proofs.lemmas.List.{get_or-map, length-map, take_all}
use Rattle.std.proofs.lemmas.Slice.Zip.{length-zip, get_or-zip}
use Rattle.std.specs.Cmp.Lexicographic.{slice_cmp}
use Rattle.std.specs.List.{zip}
use Rattle.std.specs.List.Sorted.{IsStrictlySortedBy}
use Rattle.serde_json.specs.Data.{Data, Members, put}
use Rattle.covjson_value.specs.declared.coverages.Parameter.{Parameter}
use Rattle.covjson_value.specs.declared.coverages.NdArray.{NdArray}
use Rattle.covjson_value.specs.declared.domains.Domain.{Domain}
use Rattle.covjson_value.specs.Coverages.{ids_of, AscendById}
use Rattle.covjson_value.specs.Trees.{members_in_order, parameter_data, named_parameter, range_data, named_ranges}
use Rattle.covjson_value.proofs.InOrder.{Pair, keys_of, put_next}

keys-named_parameter : (parameters : List Parameter) → keys_of (map named_parameter parameters) ≡ ids_of parameters
keys-named_parameter [] = refl
keys-named_parameter (p ∷ ps) = ap (λ (ids : List (List ℕ)). p.id ∷ ids) (keys-named_parameter ps)

keys-zip : (keys : List (List ℕ)) (ds : List Data) → length ds ≡ length keys → keys_of (zip keys ds) ≡ keys
keys-zip [] ds same = refl
keys-zip (key ∷ keys) [] same = absurd (omega arith)
keys-zip (key ∷ keys) (d ∷ ds) same = ap (λ (rest : List (List ℕ)). key ∷ rest) (keys-zip keys ds (omega arith))

-- equal members, put into equal ones
pub put_parts : (key id : List ℕ) (tree d : Data) (before rest : Members) → key ≡ id → tree ≡ d → before ≡ rest → put key tree before ≡ put id d rest
put_parts key id tree d before rest key_is tree_is before_is =
    ap (λ k. put k tree before) key_is ∙ ap (λ t. put id t before) tree_is ∙ ap (put id d) before_is

-- one more parameter is put
pub parameters_more : (parameters : List Parameter) (k : ℕ) (p : Parameter) → k < length parameters → AscendById parameters → p ≡ slice_index_or parameters k p
    → put p.id (parameter_data p) (members_in_order (take k (map named_parameter parameters))) ≡ members_in_order (take (k + 1) (map named_parameter parameters))
parameters_more parameters k p inside ascend is =
    let P : List (List ℕ) → Type 0 = IsStrictlySortedBy (slice_cmp nat_cmp) in
    let within : k < length (map named_parameter parameters) = omega (arith, length-map parameters named_parameter) in
    put_next (map named_parameter parameters) k (named_parameter p) within (subst P (sym (keys-named_parameter parameters)) ascend)
    (ap named_parameter is ∙ sym (get_or-map named_parameter parameters k p (named_parameter p) inside))

pub parameters_all : (parameters : List Parameter) (k : ℕ) → length parameters ≤ k → take k (map named_parameter parameters) ≡ map named_parameter parameters
parameters_all parameters k past = take_all _ _ (omega (arith, length-map parameters named_parameter))

length-named_ranges : (domain : Domain) (parameters : List Parameter) (ranges : List NdArray) → length ranges ≡ length parameters → length (named_ranges domain parameters ranges) ≡ length ranges
length-named_ranges domain parameters ranges same =
    omega (arith, length-zip (ids_of parameters) (map (range_data domain) ranges), length-map ranges (range_data domain), length-map parameters (λ (p : Parameter). p.id))

-- one more range is put
pub ranges_more : (domain : Domain) (parameters : List Parameter) (ranges : List NdArray) (k : ℕ) (p : Parameter) (r : NdArray)
    → k < length ranges → length ranges ≡ length parameters → AscendById parameters → p ≡ slice_index_or parameters k p → r ≡ slice_index_or ranges k r
    → put p.id (range_data domain r) (members_in_order (take k (named_ranges domain parameters ranges))) ≡ members_in_order (take (k + 1) (named_ranges domain parameters ranges))
ranges_more domain parameters ranges k p r inside same ascend p_is r_is =
    let P : List (List ℕ) → Type 0 = IsStrictlySortedBy (slice_cmp nat_cmp) in
    let ds : List Data = map (range_data domain) ranges in
    let as_many : length ds ≡ length (ids_of parameters) = omega (arith, length-map ranges (range_data domain), length-map parameters (λ (q : Parameter). q.id)) in
    let id_is : p.id ≡ slice_index_or (ids_of parameters) k p.id = ap (λ (q : Parameter). q.id) p_is ∙ sym (get_or-map (λ (q : Parameter). q.id) parameters k p p.id (omega arith)) in
    let d_is : range_data domain r ≡ slice_index_or ds k (range_data domain r) = ap (range_data domain) r_is ∙ sym (get_or-map (range_data domain) ranges k r (range_data domain r) inside) in
    let pair : Pair = (p.id, range_data domain r) in
    let pair_is : pair ≡ slice_index_or (zip (ids_of parameters) ds) k pair =
    ap (λ (id : List ℕ). (id, range_data domain r)) id_is ∙ ap (λ (d : Data). (slice_index_or (ids_of parameters) k p.id, d)) d_is
    ∙ sym (get_or-zip (ids_of parameters) ds k pair (omega (arith, as_many, length-map ranges (range_data domain))) (omega (arith, length-map ranges (range_data domain)))) in
    put_next (zip (ids_of parameters) ds) k pair (omega (arith, length-named_ranges domain parameters ranges same))
    (subst P (sym (keys-zip (ids_of parameters) ds as_many)) ascend) pair_is

pub ranges_all : (domain : Domain) (parameters : List Parameter) (ranges : List NdArray) (k : ℕ) → length ranges ≡ length parameters → length ranges ≤ k
    → take k (named_ranges domain parameters ranges) ≡ named_ranges domain parameters ranges
ranges_all domain parameters ranges k same past = take_all _ _ (omega (arith, length-named_ranges domain parameters ranges same))
