-- Digits and values put at a place of a buffer.
use Rattle.std.proofs.Common.{◌≡◌, ℕ, zero, suc, nat_lt, ◌+◌, ◌/◌, ◌%◌, ◌^◌, ◌<◌, ◌≤◌, ℤ, Option, None, List, [], ◌∷◌, ◌++◌, length, take, drop, get_or, decimal, take-add, true, Result, refl, ap, ◌∙◌, append_assoc, append-nil, arith}
use Rattle.std.proofs.lemmas.Fmt.{decimal_digit, decimal_step, length-decimal-le}
use Rattle.json.specs.Filled.{Placed}
use Rattle.json.proofs.Printed.Places.{Placed-then}
use Rattle.serde_json.specs.Written.{compact_text, comma_if}
use Rattle.covjson_value.specs.Trees.{sample_data}
use Rattle.covjson_write.specs.Pieces.{is_later, value_piece, values_from}
use Rattle.covjson_write.specs.PieceLaws.{values_more, values_on, values_cut}
use Rattle.edr_base.specs.Calls.{Front, Writes, Gathered}
use Rattle.covjson_write.proofs.ValueLemmas.{gathered_more, gathered_on, gathered_stop, gathered_end}
use Rattle.std.proofs.lemmas.List.{take_all}

pub more_digits : {a b c : List ℕ} {i j k : ℕ} (number : ℕ) → 10 ≤ number → number < 1000 → Placed a b i (decimal (number / 10)) j → Placed b c j ((48 + number % 10) ∷ []) k → Placed a c i (decimal number) k
more_digits number two low p q = rw (decimal_step number two (omega arith)) (Placed-then p q)

pub number_short : (number : ℕ) → number < 2 ^ 64 → length (decimal number) ≤ 20
number_short number fits = length-decimal-le 20 number (omega arith) (omega arith) fits

pub two_digits : {a b c : List ℕ} {i j k : ℕ} (number : ℕ) → 10 ≤ number → number < 100 → Placed a b i ((48 + number / 10) ∷ []) j → Placed b c j ((48 + number % 10) ∷ []) k → Placed a c i (decimal number) k
two_digits number two low p q = more_digits number two (omega arith) (rw (decimal_digit (number / 10) (omega arith)) p) q

-- ---- values

values_later : (n m : ℕ) (values : List (Option ℤ)) → values_from (suc n) values ≡ values_from (suc m) values
values_later n m [] = refl
values_later n m (value ∷ values) = ap (λ t. value_piece 1 value ++ t) (values_later (suc n) (suc m) values)

-- the first value, and those behind it, each with a comma before it
pub values_split : (n : ℕ) (values : List (Option ℤ)) → 0 < length values → values_from n values ≡ value_piece n (get_or values 0 None) ++ values_from 1 (drop 1 values)
values_split n [] some = absurd (omega arith)
values_split n (value ∷ values) some = ap (λ t. value_piece n value ++ t) (values_later n 0 values)

-- others stand before each number but the first
pub above_is_later : (n : ℕ) → nat_lt 0 n ≡ is_later n
above_is_later zero = refl
above_is_later (suc n) = grind arith

-- a value is put behind its comma
pub one_placed : {a b c : List ℕ} {at end : ℕ} (n : ℕ) (value : Option ℤ) → Placed a b 0 (comma_if (nat_lt 0 n)) at → Placed b c at (compact_text (sample_data value)) end → Placed a c 0 (value_piece n value) end
one_placed n value p q = rw (← above_is_later n) (Placed-then p q)

later_is : (k : ℕ) → is_later (1 + k) ≡ true
later_is k = ap is_later (next k)
  where
    next : (k : ℕ) → 1 + k ≡ suc k
    next k = omega arith

-- one value more is put behind the others
pub value_placed : {a b c : List ℕ} {start at end : ℕ} (k : ℕ) (values : List (Option ℤ)) → k < length values
    → Placed a b start (values_from 1 (take k values)) at → Placed b c at (value_piece 1 (get_or values k None)) end → Placed a c start (values_from 1 (take (k + 1) values)) end
value_placed k values inside p q =
    let value : Option ℤ = get_or values k None in
    rw (values_more 1 values k inside, later_is k) (Placed-then p q)

-- some values more
pub values_chunk : (values : List (Option ℤ)) (k n : ℕ) → k + n ≤ length values → values_from 1 (take (k + n) values) ≡ values_from 1 (take k values) ++ values_from 1 (take n (drop k values))
values_chunk values k n inside =
    ap (values_from 1) (take-add k n values) ∙ values_on 1 (take k values) (take n (drop k values))
    ∙ ap (λ t. values_from 1 (take k values) ++ t) (chunk_later (length (take k values)) (take n (drop k values)))
  where
    next : (m : ℕ) → 1 + m ≡ suc m
    next m = omega arith

    chunk_later : (m : ℕ) (more : List (Option ℤ)) → values_from (1 + m) more ≡ values_from 1 more
    chunk_later m more = ap (λ i. values_from i more) (next m) ∙ values_later m 0 more

pub one_value : (n : ℕ) (values : List (Option ℤ)) → length values ≡ 1 → values_from n values ≡ value_piece n (get_or values 0 None)
one_value n [] one = absurd (omega (arith, one))
one_value n (value ∷ []) one = append-nil (value_piece n value)
one_value n (value ∷ other ∷ values) one = absurd (omega (arith, one))

-- ---- pieces

-- values are gathered behind what stays of a piece
pub chunk_gathered : (old mid now : Option (List ℕ)) (start piece piece' : List ℕ) (used left end : ℕ) (values : List (Option ℤ)) (k n : ℕ) → k + n ≤ length values
    → Gathered old mid (take used piece) (start ++ values_from 1 (take k values)) → Gathered mid now (take left piece) (take used piece)
    → Placed piece piece' left (values_from 1 (take n (drop k values))) end → Gathered old now (take end piece') (start ++ values_from 1 (take (k + n) values))
chunk_gathered old mid now start piece piece' used left end values k n inside before kept placed =
    let first : List ℕ = values_from 1 (take k values) in
    let more : List ℕ = values_from 1 (take n (drop k values)) in
    let all : Gathered old now (take left piece ++ more) ((start ++ first) ++ more) =
    gathered_more old now (take left piece) (start ++ first) more (gathered_on old mid now (take used piece) (take left piece) (start ++ first) before kept) in
    rw (placed.bytes, values_chunk values k n inside, ← append_assoc start first more) all

-- a write of what is gathered ended by a fault
pub chunk_stopped : (old mid now : Option (List ℕ)) (start piece : List ℕ) (values : List (Option ℤ)) (k : ℕ) → k ≤ length values
    → Gathered old mid piece (start ++ values_from 1 (take k values)) → Front piece mid now → Front (start ++ values_from 1 values) old now
chunk_stopped old mid now start piece values k inside before front =
    gathered_stop old mid now piece (start ++ values_from 1 (take k values)) (values_from (1 + k) (drop k values)) (start ++ values_from 1 values) before
    (append_assoc start (values_from 1 (take k values)) (values_from (1 + k) (drop k values)) ∙ ap (λ t. start ++ t) (values_cut 1 values k inside)) front

-- the last of what is gathered was written
pub chunks_written : {T E : Type 0} (r : Result T E) (old mid now : Option (List ℕ)) (start piece : List ℕ) (values : List (Option ℤ)) (k : ℕ) → length values ≤ k
    → Gathered old mid piece (start ++ values_from 1 (take k values)) → Writes r piece mid now → Writes r (start ++ values_from 1 values) old now
chunks_written r old mid now start piece values k past before writes =
    rw (take_all k values past) at (gathered_end r old mid now piece (start ++ values_from 1 (take k values)) before writes)

-- the first value and those behind it were written
pub split_written : {T E : Type 0} (r : Result T E) (n : ℕ) (values : List (Option ℤ)) (piece piece' : List ℕ) (end : ℕ) (old now : Option (List ℕ)) → 0 < length values
    → Placed piece piece' 0 (value_piece n (get_or values 0 None)) end → Writes r (take end piece' ++ values_from 1 (drop 1 values)) old now → Writes r (values_from n values) old now
split_written r n values piece piece' end old now some placed writes =
    rw (values_split n values some) (rw (placed.bytes) at writes)
