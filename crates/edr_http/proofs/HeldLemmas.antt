-- Bytes that are held in the middle of a memory.
use Rattle.std.proofs.Common.{◌≡◌, ℕ, ◌+◌, ◌-◌, ◌≤◌, ◌<◌, length, length-drop, List, ◌++◌, take, drop, sym, ap, subst, ◌∙◌, arith}
use Rattle.std.specs.Prelude.{Result, Ok, Err, IfOk}
use Rattle.std.specs.declared.option.Option.{Option}
use Rattle.std.specs.Io.KnownBytes.{prepend_known}
use Rattle.std.proofs.lemmas.List.{take-append-le, length-take-le, drop-drop, drop-take}
use Rattle.std.proofs.Math.Seq.{take-append-add}
use Rattle.edr_base.specs.Calls.{Reads}
use Rattle.edr_http.specs.Finding.{Grew}
use Rattle.edr_http.proofs.RestLemmas.{rest_grew}

-- the first bytes are taken away where what is held begins later
pub taken : (xs : List ℕ) (start end n : ℕ) → start ≤ end → end ≤ length xs → n ≤ length (take (end - start) (drop start xs))
    → take (end - (start + n)) (drop (start + n) xs) ≡ drop n (take (end - start) (drop start xs))
taken xs start end n ordered within few =
    let size : length (take (end - start) (drop start xs)) ≡ end - start = length-take-le (end - start) (drop start xs) (omega (arith, length-drop start xs, within)) in
    let sum : n + (end - (start + n)) ≡ end - start = omega (arith, size, few, ordered) in
    sym (ap (λ k. drop n (take k (drop start xs))) (sym sum) ∙ (drop-take n (end - (start + n)) (drop start xs) ∙ ap (take (end - (start + n))) (drop-drop n start xs)))

-- a block that is put behind the first bytes begins with what was read
read_front : (size n : ℕ) (old buf rest : List ℕ) → size ≤ length old → n ≤ length buf → take (size + n) (take size old ++ (buf ++ rest)) ≡ take size old ++ take n buf
read_front size n old buf rest fits few =
    let e : length (take size old) ≡ size = length-take-le size old fits in
    let P : ℕ → Type 0 = λ k. take (k + n) (take size old ++ (buf ++ rest)) ≡ take size old ++ take n buf in
    subst P e (take-append-add (take size old) (buf ++ rest) n ∙ ap (λ w. take size old ++ w) (take-append-le n buf rest few))

-- what stands behind the first bytes once a block was read there
pub read_grew : {E : Type 0} (r : Result ℕ E) (size : ℕ) (old buf rest : List ℕ) (left left' : Option (List ℕ)) → size ≤ length old → 0 < length buf
    → IfOk r (λ n. n ≤ length buf) → Reads left left' r buf → IfOk r (λ n. Grew (take size old) (take (size + n) (take size old ++ (buf ++ rest))) n left')
read_grew (Ok n) size old buf rest left left' fits some few read = record {
  block = take n buf;
  grew = read_front size n old buf rest fits few;
  count = length-take-le n buf few;
  end = λ z. read.1 z some;
}
read_grew (Err e) size old buf rest left left' fits some few read = tt

-- it is as long as before, with what is left
pub read_same : {E : Type 0} (r : Result ℕ E) (size : ℕ) (old buf rest : List ℕ) (left left' : Option (List ℕ)) → size ≤ length old
    → IfOk r (λ n. n ≤ length buf) → Reads left left' r buf → IfOk r (λ n. prepend_known (take (size + n) (take size old ++ (buf ++ rest))) left' ≡ prepend_known (take size old) left)
read_same (Ok n) size old buf rest left left' fits few read = rest_grew (take size old) _ (take n buf) left left' (read_front size n old buf rest fits few) read.0
read_same (Err e) size old buf rest left left' fits few read = tt

-- what was read stands at the front of the memory, behind what was held
pub held_same : (old memory read memory' : List ℕ) (size n : ℕ) (left left' : Option (List ℕ)) → memory' ≡ read → prepend_known (take (size + n) read) left' ≡ prepend_known (take size memory) left
    → take size memory ≡ old → prepend_known (take (size + n - 0) (drop 0 memory')) left' ≡ prepend_known old left
held_same old memory read memory' size n left left' written whole same =
    let none : size + n - 0 ≡ size + n = omega arith in
    ap (λ k. prepend_known (take k memory') left') none ∙ (ap (λ w. prepend_known (take (size + n) w) left') written ∙ (whole ∙ ap (λ w. prepend_known w left) same))
