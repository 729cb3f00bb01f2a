-- Laws of bodies in chunks: no bytes, one piece, and a full piece before others.
use Rattle.std.proofs.Common.{◌≡◌, ℕ, suc, ◌+◌, ◌-◌, ◌/◌, ◌≤◌, ◌<◌, length, length-append, List, [], ◌++◌, take, drop, codes, ap, subst, ◌∙◌, refl, append-nil, arith}
use mathlib.Core.List.{append_assoc}
use Rattle.std.proofs.lemmas.List.{take-append-le, take_all}
use Rattle.std.proofs.Math.Seq.{drop-append_seam}
use Rattle.std.specs.Fmt.{digits}
use Rattle.edr_http.specs.Chunks.{crlf, chunk, first_chunks, last_chunk, chunked, chunk_length}

pub take_front : (n : ℕ) (xs ys : List ℕ) → length xs ≡ n → take n (xs ++ ys) ≡ xs
take_front n xs ys e = let l : n ≤ length xs = omega (arith, e) in take-append-le n xs ys l ∙ take_all n xs (omega (arith, e))

pub drop_front : (n : ℕ) (xs ys : List ℕ) → length xs ≡ n → drop n (xs ++ ys) ≡ ys
drop_front n xs ys e = subst (λ (k : ℕ). drop k (xs ++ ys) ≡ ys) e (drop-append_seam xs ys)

-- bodies of 1 and of 17 bytes, written by hand
pub chunked_letter : chunked (codes "a") ≡ codes "1\r\na\r\n0\r\n\r\n"
unfolding digits
chunked_letter = refl

pub chunked_conformance : chunked (codes "{\"conformsTo\":[]}") ≡ codes "11\r\n{\"conformsTo\":[]}\r\n0\r\n\r\n"
unfolding digits
chunked_conformance = refl

-- one piece, which may be full
pub chunked_one : (piece : List ℕ) → 0 < length piece → length piece ≤ chunk_length → chunked piece ≡ chunk piece ++ (last_chunk ++ crlf)
chunked_one piece some small =
    let one : (length piece + (chunk_length - 1)) / chunk_length ≡ 1 = omega (arith, some, small) in
    ap (λ i. first_chunks i piece ++ (last_chunk ++ crlf)) one
    ∙ (ap (λ w. (chunk w ++ []) ++ (last_chunk ++ crlf)) (take_all chunk_length piece small) ∙ ap (λ w. w ++ (last_chunk ++ crlf)) (append-nil (chunk piece)))

-- a full piece before others
pub chunked_more : (piece rest : List ℕ) → length piece ≡ chunk_length → chunked (piece ++ rest) ≡ chunk piece ++ chunked rest
chunked_more piece rest full =
    let k : ℕ = (length rest + (chunk_length - 1)) / chunk_length in
    let q : (length (piece ++ rest) + (chunk_length - 1)) / chunk_length ≡ suc k = omega (arith, length-append piece rest, full) in
    let end : List ℕ = last_chunk ++ crlf in
    ap (λ i. first_chunks i (piece ++ rest) ++ end) q
    ∙ (ap (λ w. (chunk w ++ first_chunks k (drop chunk_length (piece ++ rest))) ++ end) (take_front chunk_length piece rest full)
    ∙ (ap (λ w. (chunk piece ++ first_chunks k w) ++ end) (drop_front chunk_length piece rest full)
    ∙ append_assoc (chunk piece) (first_chunks k rest) end))
