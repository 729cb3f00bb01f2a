-- Parameters that ascend by id: each below the next.
use Rattle.std.proofs.Common.{◌≡◌, ℕ, ◌+◌, ◌-◌, ◌<◌, ◌≤◌, inl, inr, List, [], length, Less, nat_cmp, slice_index_or, None, subst, arith}
use Rattle.std.proofs.lemmas.List.{get_or-map, length-map, get_or_read}
use Rattle.std.proofs.lemmas.Bool.{cases_lt}
use Rattle.std.proofs.lemmas.Cmp.{nat_list_cmp_total}
use Rattle.std.proofs.lemmas.Map.Keys.{sorted_from_all_adjacent, Less-from_sorted}
use Rattle.std.specs.Cmp.Lexicographic.{slice_cmp}
use Rattle.covjson_value.specs.declared.coverages.Parameter.{Parameter}
use Rattle.covjson_value.specs.Coverages.{ids_of, AscendById}

abbrev pub Below : Parameter → Parameter → Type 0
Below one other = slice_cmp nat_cmp one.id other.id ≡ Less

-- the parameter at a place is below the next
abbrev pub IsBelowNext : List Parameter → ℕ → Type 0
IsBelowNext parameters k = (d : Parameter) → Below (slice_index_or parameters k d) (slice_index_or parameters (k + 1) d)

id_at : (parameters : List Parameter) (k : ℕ) (d : Parameter) → k < length parameters → slice_index_or (ids_of parameters) k [] ≡ (slice_index_or parameters k d).id
id_at parameters k d inside = get_or-map (λ (p : Parameter). p.id) parameters k d [] inside

length-ids_of : (parameters : List Parameter) → length (ids_of parameters) ≡ length parameters
length-ids_of parameters = length-map parameters (λ (p : Parameter). p.id)

nothing : Parameter
nothing = record { id = []; lang = []; label = []; unit = None }

pub AscendById-from_next : (parameters : List Parameter) → ((k : ℕ) → k + 1 < length parameters → IsBelowNext parameters k) → AscendById parameters
AscendById-from_next parameters next =
    sorted_from_all_adjacent nat_list_cmp_total (ids_of parameters) []
    (λ k inside. let within : k + 1 < length parameters = omega (arith, length-ids_of parameters) in
    rw (id_at parameters k nothing (omega arith), id_at parameters (k + 1) nothing within) (next k within nothing))

pub next-from_AscendById : (parameters : List Parameter) (k : ℕ) → AscendById parameters → k + 1 < length parameters → IsBelowNext parameters k
next-from_AscendById parameters k ascend inside d =
    let within : k + 1 < length (ids_of parameters) = omega (arith, length-ids_of parameters) in
    let sorted = Less-from_sorted (slice_cmp nat_cmp) (ids_of parameters) k (k + 1) [] ascend (omega arith) within in
    rw (← id_at parameters k d (omega arith), ← id_at parameters (k + 1) d inside) sorted

-- two that were read at a place and before it, as the list has them at any default
pub read_next : (parameters : List Parameter) (place : ℕ) (a b : Parameter) → 1 ≤ place → place < length parameters
    → a ≡ slice_index_or parameters (place - 1) a → b ≡ slice_index_or parameters place b → Below a b → IsBelowNext parameters (place - 1)
read_next parameters place a b some inside a_is b_is below d =
    let after : place ≡ place - 1 + 1 = omega arith in
    let P : ℕ → Type 0 = λ n. Below (slice_index_or parameters (place - 1) d) (slice_index_or parameters n d) in
    subst P after (rw (← get_or_read parameters (place - 1) a (omega arith) a_is d, ← get_or_read parameters place b inside b_is d) below)

pub next_more : (parameters : List Parameter) (place : ℕ) → 1 ≤ place → ((k : ℕ) → k + 1 < place → IsBelowNext parameters k)
    → IsBelowNext parameters (place - 1) → (k : ℕ) → k + 1 < place + 1 → IsBelowNext parameters k
next_more parameters place some before here k inside =
    elim (cases_lt (k + 1) place) [ inl less ↦ before k less | inr more ↦ let P : ℕ → Type 0 = IsBelowNext parameters in let same : place - 1 ≡ k = omega arith in subst P same here ]

-- two that were read so are one below the other, where all ascend
pub Below-read : (parameters : List Parameter) (place : ℕ) (a b : Parameter) → 1 ≤ place → place < length parameters
    → a ≡ slice_index_or parameters (place - 1) a → b ≡ slice_index_or parameters place b → AscendById parameters → Below a b
Below-read parameters place a b some inside a_is b_is ascend =
    let after : place - 1 + 1 ≡ place = omega arith in
    let here : Below (slice_index_or parameters (place - 1) nothing) (slice_index_or parameters (place - 1 + 1) nothing) = next-from_AscendById parameters (place - 1) ascend (omega arith) nothing in
    let P : ℕ → Type 0 = λ n. Below (slice_index_or parameters (place - 1) nothing) (slice_index_or parameters n nothing) in
    rw (get_or_read parameters (place - 1) a (omega arith) a_is nothing, get_or_read parameters place b inside b_is nothing) (subst P after here)
