-- How a body that is sent in chunks begins, breaks off and ends.
use Rattle.std.proofs.Common.{◌≡◌, ℕ, zero, suc, ◌-◌, ◌*◌, ◌≤◌, ◌<◌, Bool, true, false, length, length-drop, codes, List, [], ◌∷◌, ◌++◌, take, drop, sym, ap, subst, ◌∙◌, refl, Some, None, append-nil, arith}
use Rattle.std.specs.declared.option.Option.{Option}
use mathlib.Core.List.{append_assoc}
use Rattle.std.specs.Prelude.{Result, Ok, OnOk}
use Rattle.std.proofs.lemmas.Bool.Decides.{nat_tests}
use Rattle.std.proofs.lemmas.List.{take-append-drop, take-append-le, take_all}
use Rattle.edr_base.specs.KnownBytes.{writes_on}
use Rattle.edr_base.specs.Calls.{Writes}
use Rattle.std.specs.Fmt.{digits}
use Rattle.edr_http.specs.Chunks.{crlf, chunk, first_chunks, last_chunk, chunked}
use Rattle.edr_http.specs.ChunkLaws.{chunked_one, chunked_more}
use Rattle.edr_http.specs.ChunkedSinkParts.{piece_in, bottom_of, sent_of, payload, rebuilt, rebuilt_known, has_room, body_known, bottom_known}
use Rattle.edr_http.specs.ChunkedSinks.{nothing_in, EndsBody, BeginsBody}
use Rattle.edr_http.proofs.ChunkFrames.{chunk_length, piece_length}
use Rattle.edr_http.proofs.ChunkSteps.{front_length, back_length, of_kept}

-- full pieces come first
chunked_on : (n : ℕ) (xs ys : List ℕ) → length xs ≡ 4096 * n → chunked (xs ++ ys) ≡ first_chunks n xs ++ chunked ys
chunked_on zero [] ys e = refl
chunked_on zero (x ∷ xs) ys e = absurd (omega (arith, e))
chunked_on (suc n) xs ys e =
    let p = take 4096 xs in
    let r = drop 4096 xs in
    ap (λ w. chunked (w ++ ys)) (sym (take-append-drop 4096 xs)) ∙ (ap chunked (append_assoc p r ys)
    ∙ (chunked_more p (r ++ ys) (front_length n xs e) ∙ (ap (λ w. chunk p ++ w) (chunked_on n r ys (back_length n xs e)) ∙ sym (append_assoc (chunk p) (first_chunks n r) (chunked ys)))))

-- what went out of a piece and what is still to go are its end of the body, whatever comes behind
part_ends : (b : ℕ) (p more : List ℕ) → b ≤ 4104 → (0 < b → length p ≡ 4096) → take b (chunk p) ++ drop b (chunked (p ++ more)) ≡ chunked (p ++ more)
part_ends zero p more h w = refl
part_ends (suc c) p more h w =
    let b : ℕ = suc c in
    let full : length p ≡ 4096 = w (omega arith) in
    let within : b ≤ length (chunk p) = omega (arith, chunk_length p full, h) in
    let front : take b (chunk p) ≡ take b (chunked (p ++ more)) =
    sym (ap (take b) (chunked_more p more full) ∙ take-append-le b (chunk p) (chunked more) within) in
    ap (λ z. z ++ drop b (chunked (p ++ more))) front ∙ take-append-drop b (chunked (p ++ more))

parts_end : (n b : ℕ) (p xs more : List ℕ) → length xs ≡ 4096 * n → b ≤ 4104 → (0 < b → length p ≡ 4096)
    → (first_chunks n xs ++ take b (chunk p)) ++ drop b (chunked (p ++ more)) ≡ chunked ((xs ++ p) ++ more)
parts_end n b p xs more e h w =
    append_assoc (first_chunks n xs) (take b (chunk p)) (drop b (chunked (p ++ more))) ∙ (ap (λ z. first_chunks n xs ++ z) (part_ends b p more h w)
    ∙ (sym (chunked_on n xs (p ++ more) e) ∙ ap chunked (sym (append_assoc xs p more))))

-- the part is within its chunk
part_within : (b : ℕ) (p : List ℕ) → b ≤ 4104 → (0 < b → length p ≡ 4096) → b ≤ length (chunk p)
part_within zero p h w = omega arith
part_within (suc b) p h w = let e = chunk_length p (w (omega arith)) in omega (arith, e, h)

some_eq : (a b : List ℕ) → Some a ≡ Some b → a ≡ b
some_eq a b e = cc

-- the end sends the rest of the body's chunks
ends : {T E : Type 0} (ended : Bool) (r : Result T E) (n b : ℕ) (p text : List ℕ) (known new : Option (List ℕ)) → ended ≡ false → has_room ended n b known ≡ true → known ≡ rebuilt_known ended n b p known
    → b ≤ 4104 → (0 < b → length p ≡ 4096) → text ≡ drop b (chunked p) → Writes r text known new
    → EndsBody r (bottom_known n b known) (body_known n b p known) new
ends true r n b p text known new f room kept h w t x = absurd (cc f)
ends false r n b p text None new f room kept h w t x = x.front.grew
ends false r n b p text (Some ws) new f room kept h w t x =
    let y = of_kept n b p ws room (some_eq ws (rebuilt n b p ws) kept) (part_within b p h w) in
    let xs : List ℕ = payload n (sent_of n b ws) in
    let sent : List ℕ = first_chunks n xs ++ take b (chunk p) in
    let whole : sent ++ text ≡ chunked (xs ++ p) =
    ap (λ z. sent ++ z) (t ∙ ap (λ z. drop b (chunked z)) (sym (append-nil p))) ∙ (parts_end n b p xs [] y.full h w ∙ ap chunked (append-nil (xs ++ p))) in
    subst (λ (z : List ℕ). Writes r z (Some (bottom_of n b ws)) new) whole
    (writes_on r (Some (bottom_of n b ws)) (Some ws) new sent text (ap Some y.text) x)

-- what is sent so far begins the chunks of each body that begins so
begins : (ended : Bool) (n b : ℕ) (p : List ℕ) (known : Option (List ℕ)) → ended ≡ false → has_room ended n b known ≡ true → known ≡ rebuilt_known ended n b p known
    → b ≤ 4104 → (0 < b → length p ≡ 4096) → (more : List ℕ) → BeginsBody (bottom_known n b known) (body_known n b p known) known more
begins true n b p known f room kept h w more = absurd (cc f)
begins false n b p None f room kept h w more = refl
begins false n b p (Some ws) f room kept h w more =
    let y = of_kept n b p ws room (some_eq ws (rebuilt n b p ws) kept) (part_within b p h w) in
    let xs : List ℕ = payload n (sent_of n b ws) in
    record { bytes = first_chunks n xs ++ take b (chunk p); begins = (drop b (chunked (p ++ more)), sym (parts_end n b p xs more y.full h w)); grew = ap Some y.text }

piece_whole : (frame : List ℕ) (used b : ℕ) → length frame ≡ 4109 → (0 < b → used ≡ 4096) → 0 < b → length (piece_in frame used) ≡ 4096
piece_whole frame used b l w h = let u = w h in piece_length frame used l (omega (arith, u)) ∙ u

-- the same of the sink as the code has it
pub sink_ends : {T E : Type 0} (ended : Bool) (r : Result T E) (n b used : ℕ) (frame text : List ℕ) (known new : Option (List ℕ)) → ended ≡ false → has_room ended n b known ≡ true → known ≡ rebuilt_known ended n b (piece_in frame used) known
    → (used ≤ 4096) × (b ≤ 4104) → (0 < b → used ≡ 4096) → length frame ≡ 4109 → text ≡ drop b (chunked (piece_in frame used)) → Writes r text known new
    → EndsBody r (bottom_known n b known) (body_known n b (piece_in frame used) known) new
sink_ends ended r n b used frame text known new f room kept h w l t x = ends ended r n b (piece_in frame used) text known new f room kept h.1 (piece_whole frame used b l w) t x

pub sink_begins : (ended : Bool) (n b used : ℕ) (frame : List ℕ) (known : Option (List ℕ)) → ended ≡ false → has_room ended n b known ≡ true → known ≡ rebuilt_known ended n b (piece_in frame used) known
    → (used ≤ 4096) × (b ≤ 4104) → (0 < b → used ≡ 4096) → length frame ≡ 4109 → (more : List ℕ) → BeginsBody (bottom_known n b known) (body_known n b (piece_in frame used) known) known more
sink_begins ended n b used frame known f room kept h w l more = begins ended n b (piece_in frame used) known f room kept h.1 (piece_whole frame used b l w) more

-- ---- nothing was written yet

pub new_bottom : (w : Option (List ℕ)) → bottom_known 0 0 w ≡ w
new_bottom None = refl
new_bottom (Some ws) = ap Some (take_all (length ws - 0) ws (omega arith))

pub new_body : (w : Option (List ℕ)) → body_known 0 0 [] w ≡ nothing_in w
new_body None = refl
new_body (Some ws) = refl

pub new_kept : (w : Option (List ℕ)) → w ≡ rebuilt_known false 0 0 [] w
new_kept None = refl
new_kept (Some ws) = ap Some (sym (append-nil (take (length ws - 0) ws) ∙ take_all (length ws - 0) ws (omega arith)))

pub new_room : (w : Option (List ℕ)) → has_room false 0 0 w ≡ true
new_room None = refl
new_room (Some ws) = grind (arith, nat_tests)

-- what a call promises where it answers Ok
pub ok_of : {T E : Type 0} (r : Result T E) (x : T) (P : Type 0) → r ≡ Ok x → OnOk r P → P
ok_of r x P e p = subst (λ z. OnOk z P) e p

-- ---- a body of one chunk

-- its line, which ends an array, its bytes and its end
pub chunk_parts : (line text : List ℕ) (start : ℕ) → length line ≡ 6 → 0 < length text → length text ≤ 4096 → drop start line ≡ digits 16 false (length text) ++ crlf
    → take (6 - start) (drop start line) ++ (text ++ codes "\r\n0\r\n\r\n") ≡ chunked text
chunk_parts line text start six some small e =
    let size : List ℕ = digits 16 false (length text) in
    let end : List ℕ = last_chunk ++ crlf in
    let whole : take (6 - start) (drop start line) ≡ drop start line = take_all (6 - start) (drop start line) (omega (arith, length-drop start line, six)) in
    ap (λ w. w ++ (text ++ codes "\r\n0\r\n\r\n")) (whole ∙ e) ∙ (append_assoc size crlf (text ++ codes "\r\n0\r\n\r\n")
    ∙ sym (chunked_one text some small ∙ (append_assoc size (crlf ++ (text ++ crlf)) end ∙ ap (λ w. size ++ (crlf ++ w)) (append_assoc text crlf end))))

pub written_as : {T E : Type 0} (r : Result T E) (a b : Option (List ℕ)) (xs text : List ℕ) → xs ≡ text → Writes r xs a b → Writes r text a b
written_as r a b xs text e w = subst (λ (t : List ℕ). Writes r t a b) e w
