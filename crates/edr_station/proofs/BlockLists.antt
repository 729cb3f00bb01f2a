-- A list in blocks of 256.
use Rattle.std.proofs.Common.{◌≡◌, ℕ, zero, suc, ◌+◌, ◌*◌, ◌-◌, ◌≤◌, ◌++◌, ◌∷◌, List, [], length, min, take, drop, get_or, refl, sym, ap, ◌∙◌, arith, length-drop, below_more}
use Rattle.std.specs.Prelude.{ℤ, Option}
use Rattle.std.proofs.Math.Nat.{min_comm}
use Rattle.std.proofs.Math.Seq.{take-add, take-suc, get_or-append_seam}
use Rattle.std.proofs.lemmas.List.{take_all, take_min, append-nil, get_or_append_left, length_push}
use Rattle.std.proofs.lemmas.List.Concat.{flat_map-append}
use Rattle.edr_station.specs.Blocks.{blocks_along, cut_block}
use Rattle.edr_station.specs.KeptBlocks.{values_of, Filled}

abbrev pub Values : Type 0
Values = List (Option ℤ)

-- a part of what is left behind a place, as long as asked for, or as long as that is
pub part_is : {V : Type 0} (values : List V) (first n m : ℕ) → m ≡ min (length values - first) n → take m (take (length values - first) (drop first values)) ≡ take n (drop first values)
part_is values first n m is =
    let rest = drop first values in
    let long : length rest ≡ length values - first = length-drop first values in
    ap (λ k. take m (take k rest)) (sym long)
    ∙ (ap (take m) (take_all (length rest) rest (omega arith))
    ∙ (ap (λ k. take k rest) (is ∙ (ap (λ k. min k n) (sym long) ∙ min_comm (length rest) n)) ∙ take_min n rest))

-- one block more
pub filled_more : (values : Values) (blocks : List Values) (filled : ℕ) (more : Values)
    → Filled values blocks filled → more ≡ cut_block filled values → Filled values (blocks ++ more ∷ []) (filled + 1)
filled_more values blocks filled more h is = record {
  many = length_push blocks more ∙ ap (λ n. n + 1) h.many;
  each = below_more (λ k. get_or (blocks ++ more ∷ []) k [] ≡ cut_block k values) filled
      (λ k inside. get_or_append_left blocks (more ∷ []) [] k (omega (arith, h.many)) ∙ h.each k inside)
      (ap (λ n. get_or (blocks ++ more ∷ []) n []) (sym h.many) ∙ (get_or-append_seam blocks more [] [] ∙ is));
}

-- the first blocks have the first values
first_values : (values : Values) (blocks : List Values) (filled n : ℕ) → Filled values blocks filled → n ≤ filled
    → values_of (take n blocks) ≡ take (n * 256) values
first_values values blocks filled zero h below = refl
first_values values blocks filled (suc n) h below =
    let block = get_or blocks n [] in
    let front : values_of (take n blocks) ≡ take (n * 256) values = first_values values blocks filled n h (omega arith) in
    let next : block ≡ take 256 (drop (n * 256) values) = h.each n (omega arith) in
    let more : n * 256 + 256 ≡ suc n * 256 = omega arith in
    ap values_of (take-suc blocks n [] (omega (arith, h.many)))
    ∙ (flat_map-append (λ (b : Values). b) (take n blocks) (block ∷ [])
    ∙ (ap (λ (b : Values). values_of (take n blocks) ++ b) (append-nil block)
    ∙ (ap (λ (b : Values). b ++ block) front
    ∙ (ap (λ (b : Values). take (n * 256) values ++ b) next
    ∙ (sym (take-add (n * 256) 256 values) ∙ ap (λ k. take k values) more)))))

-- all blocks have all values
pub whole_values : (values : Values) (blocks : List Values) → Filled values blocks (blocks_along (length values)) → values_of blocks ≡ values
whole_values values blocks h =
    let count = blocks_along (length values) in
    let all : length values ≤ count * 256 = omega arith in
    ap values_of (sym (take_all count blocks (omega (arith, h.many))))
    ∙ (first_values values blocks count count h (omega arith) ∙ take_all (count * 256) values all)
