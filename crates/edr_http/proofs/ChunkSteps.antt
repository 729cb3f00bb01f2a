-- How the bytes of the sink inside grow while chunks are sent.
use Rattle.std.proofs.Common.{◌≡◌, ℕ, zero, suc, ◌+◌, ◌-◌, ◌*◌, ◌≤◌, Bool, true, false, length, length-append, length-drop, codes, List, [], ◌∷◌, ◌++◌, take, drop, sym, ap, subst, ◌∙◌, refl, Some, None, append-nil, arith}
use Rattle.std.specs.declared.option.Option.{Option}
use mathlib.Core.List.{append_assoc}
use Rattle.std.proofs.lemmas.List.{take-append-drop, take-append-le, length-take-le, take_all, drop-drop}
use Rattle.std.proofs.Math.Seq.{take-add, take-length}
use Rattle.std.specs.Io.KnownBytes.{append_known}
use Rattle.std.specs.Prelude.{nat_le}
use Rattle.std.proofs.lemmas.Bool.Decides.{nat_tests}
use Rattle.edr_base.specs.Calls.{Front}
use Rattle.edr_base.specs.KnownBytes.{grew_on}
use Rattle.edr_http.specs.Chunks.{crlf, chunk, first_chunks}
use Rattle.edr_http.specs.ChunkLaws.{take_front, drop_front}
use Rattle.edr_http.specs.ChunkedSinkParts.{size_of, bottom_of, sent_of, payload, rebuilt, rebuilt_known, has_room, body_known, Built, Moves}
use Rattle.edr_http.proofs.ChunkFrames.{chunk_full, chunk_length}

pub front_length : (n : ℕ) (xs : List ℕ) → length xs ≡ 4096 * suc n → length (take 4096 xs) ≡ 4096
front_length n xs e = length-take-le 4096 xs (omega (arith, e))

pub back_length : (n : ℕ) (xs : List ℕ) → length xs ≡ 4096 * suc n → length (drop 4096 xs) ≡ 4096 * n
back_length n xs e = omega (arith, length-drop 4096 xs, e)

pub first_length : (n : ℕ) (xs : List ℕ) → length xs ≡ 4096 * n → length (first_chunks n xs) ≡ 4104 * n
first_length zero xs e = refl
first_length (suc n) xs e =
    omega (arith, length-append (chunk (take 4096 xs)) (first_chunks n (drop 4096 xs)), chunk_length (take 4096 xs) (front_length n xs e), first_length n (drop 4096 xs) (back_length n xs e))

-- the pieces are found again in their chunks
pub payload_of : (n : ℕ) (xs rest : List ℕ) → length xs ≡ 4096 * n → payload n (first_chunks n xs ++ rest) ≡ xs
payload_of zero xs rest e = sym (none xs e)
  where
    none : (xs : List ℕ) → length xs ≡ 4096 * 0 → xs ≡ []
    none [] e = refl
    none (x ∷ xs) e = absurd (omega (arith, e))
payload_of (suc n) xs rest e =
    let p = take 4096 xs in
    let q = drop 4096 xs in
    let lp = front_length n xs e in
    let text : first_chunks (suc n) xs ++ rest ≡ chunk p ++ (first_chunks n q ++ rest) = append_assoc (chunk p) (first_chunks n q) rest in
    let tail : drop 4104 (first_chunks (suc n) xs ++ rest) ≡ first_chunks n q ++ rest = ap (drop 4104) text ∙ drop_front 4104 (chunk p) (first_chunks n q ++ rest) (chunk_length p lp) in
    let text2 : first_chunks (suc n) xs ++ rest ≡ codes "1000\r\n" ++ ((p ++ crlf) ++ (first_chunks n q ++ rest)) = text ∙ (ap (λ w. w ++ (first_chunks n q ++ rest)) (chunk_full p lp) ∙ append_assoc (codes "1000\r\n") (p ++ crlf) (first_chunks n q ++ rest)) in
    let front : take 4096 (drop 6 (first_chunks (suc n) xs ++ rest)) ≡ p =
    ap (λ w. take 4096 (drop 6 w)) text2 ∙ (ap (take 4096) (drop_front 6 (codes "1000\r\n") ((p ++ crlf) ++ (first_chunks n q ++ rest)) refl)
    ∙ (ap (take 4096) (append_assoc p crlf (first_chunks n q ++ rest)) ∙ take_front 4096 p (crlf ++ (first_chunks n q ++ rest)) lp)) in
    ap (λ w. w ++ payload n (drop 4104 (first_chunks (suc n) xs ++ rest))) front
    ∙ (ap (λ w. p ++ payload n w) tail ∙ (ap (λ w. p ++ w) (payload_of n q rest (back_length n xs e)) ∙ take-append-drop 4096 xs))

-- one more full piece
pub first_more : (n : ℕ) (xs p : List ℕ) → length xs ≡ 4096 * n → length p ≡ 4096 → first_chunks (suc n) (xs ++ p) ≡ first_chunks n xs ++ chunk p
first_more zero [] p e l = ap (λ w. chunk w ++ []) (take_all 4096 p (omega (arith, l))) ∙ append-nil (chunk p)
first_more zero (x ∷ xs) p e l = absurd (omega (arith, e))
first_more (suc n) xs p e l =
    let a : take 4096 (xs ++ p) ≡ take 4096 xs = let h : 4096 ≤ length xs = omega (arith, e) in take-append-le 4096 xs p h in
    let b : drop 4096 (xs ++ p) ≡ drop 4096 xs ++ p =
    ap (λ w. drop 4096 (w ++ p)) (sym (take-append-drop 4096 xs)) ∙ (ap (drop 4096) (append_assoc (take 4096 xs) (drop 4096 xs) p) ∙ drop_front 4096 (take 4096 xs) (drop 4096 xs ++ p) (front_length n xs e)) in
    ap (λ w. chunk w ++ first_chunks (suc n) (drop 4096 (xs ++ p))) a
    ∙ (ap (λ w. chunk (take 4096 xs) ++ first_chunks (suc n) w) b
    ∙ (ap (λ w. chunk (take 4096 xs) ++ w) (first_more n (drop 4096 xs) p (back_length n xs e) l) ∙ sym (append_assoc (chunk (take 4096 xs)) (first_chunks n (drop 4096 xs)) (chunk p))))

rest_whole : (at : ℕ) (xs : List ℕ) → take (length xs - at) (drop at xs) ≡ drop at xs
rest_whole at xs = rw (← length-drop at xs) (take-length (drop at xs))

sub_take : (at k m : ℕ) (text : List ℕ) → at ≤ k → take ((k + m) - at) (drop at text) ≡ take (k - at) (drop at text) ++ take m (drop k text)
sub_take at k m text h =
    let i : (k + m) - at ≡ (k - at) + m = omega arith in
    let e : at + (k - at) ≡ k = omega arith in
    let d : drop (k - at) (drop at text) ≡ drop k text = drop-drop (k - at) at text ∙ ap (λ i. drop i text) e in
    ap (λ i. take i (drop at text)) i ∙ (take-add (k - at) m (drop at text) ∙ ap (λ w. take (k - at) (drop at text) ++ take m w) d)

-- one more write
pub rest_on : (old mid new : Option (List ℕ)) (text : List ℕ) (at k n : ℕ) → at ≤ k → mid ≡ append_known old (take (k - at) (drop at text)) → new ≡ append_known mid (take n (take (length text - k) (drop k text))) → new ≡ append_known old (take ((k + n) - at) (drop at text))
rest_on old mid new text at k n h p q =
    let q' = subst (λ (z : List ℕ). new ≡ append_known mid (take n z)) (rest_whole k text) q in
    subst (λ (z : List ℕ). new ≡ append_known old z) (sym (sub_take at k n text h)) (grew_on old mid new (take (k - at) (drop at text)) (take n (drop k text)) p q')

-- the same from the start on, and that all or a beginning went out
pub wrote_on : (old mid new : Option (List ℕ)) (text : List ℕ) (k n : ℕ) → mid ≡ append_known old (take k text) → new ≡ append_known mid (take n (take (length text - k) (drop k text))) → new ≡ append_known old (take (k + n) text)
wrote_on old mid new text k n p q =
    let q' = subst (λ (z : List ℕ). new ≡ append_known mid (take n z)) (rest_whole k text) q in
    grew_on old mid new (take k text) (take n (drop k text)) p q' ∙ ap (λ w. append_known old w) (sym (take-add k n text))

pub whole_of : (old new : Option (List ℕ)) (text : List ℕ) (k : ℕ) → length text ≤ k → new ≡ append_known old (take k text) → new ≡ append_known old text
whole_of old new text k l e = e ∙ ap (λ w. append_known old w) (take_all k text l)

pub front_of : (old new : Option (List ℕ)) (text : List ℕ) (k : ℕ) → new ≡ append_known old (take k text) → Front text old new
front_of old new text k e = record { bytes = take k text; begins = (drop k text, sym (take-append-drop k text)); grew = e }

payload_length : (n : ℕ) (t : List ℕ) → 4104 * n ≤ length t → length (payload n t) ≡ 4096 * n
payload_length zero t h = refl
payload_length (suc n) t h =
    let a : length (take 4096 (drop 6 t)) ≡ 4096 = length-take-le 4096 (drop 6 t) (omega (arith, length-drop 6 t, h)) in
    let b : length (payload n (drop 4104 t)) ≡ 4096 * n = payload_length n (drop 4104 t) (omega (arith, length-drop 4104 t, h)) in
    omega (arith, length-append (take 4096 (drop 6 t)) (payload n (drop 4104 t)), a, b)

-- the parts by name, from the computed ones
pub of_kept : (n b : ℕ) (p ws : List ℕ) → nat_le (size_of n b) (length ws) ≡ true → ws ≡ rebuilt n b p ws → b ≤ length (chunk p) → Built n b p ws (bottom_of n b ws) (payload n (sent_of n b ws))
of_kept n b p ws room kept part =
    let r : size_of n b ≤ length ws = grind (arith, nat_tests, room) in
    record {
      full = payload_length n (sent_of n b ws) (omega (arith, length-drop (length ws - size_of n b) ws, r));
      part = part;
      text = kept;
    }

-- the computed parts are those by name
pub record Found (n b : ℕ) (p ws before xs : List ℕ) : Type 0 where
  pub room : nat_le (size_of n b) (length ws) ≡ true
  pub bottom : bottom_of n b ws ≡ before
  pub pieces : payload n (sent_of n b ws) ≡ xs
  pub kept : ws ≡ rebuilt n b p ws

pub to_kept : (n b : ℕ) (p ws before xs : List ℕ) → Built n b p ws before xs → Found n b p ws before xs
to_kept n b p ws before xs x =
    let tail : List ℕ = first_chunks n xs ++ take b (chunk p) in
    let lt : length tail ≡ size_of n b = omega (arith, length-append (first_chunks n xs) (take b (chunk p)), first_length n xs x.full, length-take-le b (chunk p) x.part) in
    let lw : length ws ≡ length before + size_of n b = ap length x.text ∙ omega (arith, length-append before tail, lt) in
    let cut : length before ≡ length ws - size_of n b = omega (arith, lw) in
    let bottom : bottom_of n b ws ≡ before = ap (take (length ws - size_of n b)) x.text ∙ take_front (length ws - size_of n b) before tail cut in
    let sent : sent_of n b ws ≡ tail = ap (drop (length ws - size_of n b)) x.text ∙ drop_front (length ws - size_of n b) before tail cut in
    let pieces : payload n (sent_of n b ws) ≡ xs = ap (payload n) sent ∙ payload_of n xs (take b (chunk p)) x.full in
    let le : size_of n b ≤ length ws = omega (arith, lw) in
    record {
      room = grind (arith, nat_tests, le);
      bottom = bottom;
      pieces = pieces;
      kept = x.text ∙ (ap (λ w. w ++ tail) (sym bottom) ∙ ap (λ w. bottom_of n b ws ++ (first_chunks n w ++ take b (chunk p))) (sym pieces));
    }

-- more of the present chunk is sent
built_part : (n b c : ℕ) (p ws vs before xs : List ℕ) → Built n b p ws before xs → b ≤ c → c ≤ length (chunk p) → vs ≡ ws ++ take (c - b) (drop b (chunk p)) → Built n c p vs before xs
built_part n b c p ws vs before xs x h part e =
    let sum : b + (c - b) ≡ c = omega (arith, h) in
    let more : take c (chunk p) ≡ take b (chunk p) ++ take (c - b) (drop b (chunk p)) = ap (λ i. take i (chunk p)) (sym sum) ∙ take-add b (c - b) (chunk p) in
    record {
      full = x.full;
      part = part;
      text = e ∙ (ap (λ w. w ++ take (c - b) (drop b (chunk p))) x.text ∙ (append_assoc before (first_chunks n xs ++ take b (chunk p)) (take (c - b) (drop b (chunk p)))
          ∙ (ap (λ w. before ++ w) (append_assoc (first_chunks n xs) (take b (chunk p)) (take (c - b) (drop b (chunk p)))) ∙ ap (λ w. before ++ (first_chunks n xs ++ w)) (sym more))));
    }

-- all of it is: the piece is one of the full ones
built_full : (n : ℕ) (p ws before xs : List ℕ) → Built n 4104 p ws before xs → length p ≡ 4096 → Built (suc n) 0 [] ws before (xs ++ p)
built_full n p ws before xs x l = record {
  full = omega (arith, length-append xs p, x.full, l);
  part = omega arith;
  text = x.text ∙ ap (λ w. before ++ w) (ap (λ w. first_chunks n xs ++ w) (take_all 4104 (chunk p) (omega (arith, chunk_length p l)))
      ∙ (sym (first_more n xs p x.full l) ∙ sym (append-nil (first_chunks (suc n) (xs ++ p)))));
}

-- some more of the piece's chunk went out
pub moves_part : (n b c : ℕ) (p : List ℕ) (old new : Option (List ℕ)) → has_room false n b old ≡ true → old ≡ rebuilt_known false n b p old → b ≤ c → c ≤ length (chunk p)
    → new ≡ append_known old (take (c - b) (drop b (chunk p))) → Moves false n b p n c p old new
moves_part n b c p None new room kept h part e = let n' : new ≡ None = e in
    subst (λ (z : Option (List ℕ)). Moves false n b p n c p None z) (sym n') (record { room = refl; kept = refl; body = refl; bottom = refl })
moves_part n b c p (Some ws) new room kept h part e =
    let x = of_kept n b p ws room (some_eq ws (rebuilt n b p ws) kept) (omega (arith, h, part)) in
    let vs : List ℕ = ws ++ take (c - b) (drop b (chunk p)) in
    let f = to_kept n c p vs _ _ (built_part n b c p ws vs _ _ x h part refl) in
    subst (λ (z : Option (List ℕ)). Moves false n b p n c p (Some ws) z) (sym e) (record {
      room = f.room;
      kept = ap Some f.kept;
      body = ap (λ w. Some (w ++ p)) f.pieces;
      bottom = ap Some f.bottom;
    })
  where
    some_eq : (a b : List ℕ) → Some a ≡ Some b → a ≡ b
    some_eq a b e = cc

-- the whole of it did
pub moves_full : (n b c : ℕ) (p : List ℕ) (old new : Option (List ℕ)) → has_room false n b old ≡ true → old ≡ rebuilt_known false n b p old → b ≤ c → c ≡ 4104 → length p ≡ 4096
    → new ≡ append_known old (take (c - b) (drop b (chunk p))) → Moves false n b p (n + 1) 0 [] old new
moves_full n b c p None new room kept h part l e = let n' : new ≡ None = e in
    subst (λ (z : Option (List ℕ)). Moves false n b p (n + 1) 0 [] None z) (sym n') (record { room = refl; kept = refl; body = refl; bottom = refl })
moves_full n b c p (Some ws) new room kept h part l e =
    let lc = chunk_length p l in
    let x = of_kept n b p ws room (some_eq ws (rebuilt n b p ws) kept) (omega (arith, h, part, lc)) in
    let vs : List ℕ = ws ++ take (c - b) (drop b (chunk p)) in
    let y = built_part n b c p ws vs _ _ x h (omega (arith, part, lc)) refl in
    let P : ℕ → Type 0 = λ k. Built n k p vs (bottom_of n b ws) (payload n (sent_of n b ws)) in
    let f = to_kept (suc n) 0 [] vs _ _ (built_full n p vs _ _ (subst P part y) l) in
    let one : n + 1 ≡ suc n = omega arith in
    let m : Moves false n b p (suc n) 0 [] (Some ws) (Some vs) = record {
      room = f.room;
      kept = ap Some f.kept;
      body = ap (λ w. Some (w ++ [])) f.pieces ∙ ap Some (append-nil (payload n (sent_of n b ws) ++ p));
      bottom = ap Some f.bottom;
    } in
    subst (λ (k : ℕ). Moves false n b p k 0 [] (Some ws) new) (sym one) (subst (λ (z : Option (List ℕ)). Moves false n b p (suc n) 0 [] (Some ws) z) (sym e) m)
  where
    some_eq : (a b : List ℕ) → Some a ≡ Some b → a ≡ b
    some_eq a b e = cc

-- the same as the code has it
pub piece_part : (ended : Bool) (n b c : ℕ) (p text : List ℕ) (old new : Option (List ℕ)) → ended ≡ false → text ≡ chunk p
    → has_room ended n b old ≡ true → old ≡ rebuilt_known ended n b p old → b ≤ c → c ≤ length text
    → new ≡ append_known old (take (c - b) (drop b text)) → Moves ended n b p n c p old new
piece_part true n b c p text old new f t room kept h part e = absurd (cc f)
piece_part false n b c p text old new f t room kept h part e =
    let P : List ℕ → Type 0 = λ z. c ≤ length z in
    let Q : List ℕ → Type 0 = λ z. new ≡ append_known old (take (c - b) (drop b z)) in
    moves_part n b c p old new room kept h (subst P t part) (subst Q t e)

pub piece_full : (ended : Bool) (n b c : ℕ) (p text : List ℕ) (old new : Option (List ℕ)) → ended ≡ false → length p ≡ 4096 → text ≡ chunk p
    → has_room ended n b old ≡ true → old ≡ rebuilt_known ended n b p old → b ≤ c → c ≡ length text
    → new ≡ append_known old (take (c - b) (drop b text)) → Moves ended n b p (n + 1) 0 [] old new
piece_full true n b c p text old new f l t room kept h part e = absurd (cc f)
piece_full false n b c p text old new f l t room kept h part e =
    let Q : List ℕ → Type 0 = λ z. new ≡ append_known old (take (c - b) (drop b z)) in
    moves_full n b c p old new room kept h (part ∙ (ap length t ∙ chunk_length p l)) l (subst Q t e)

-- bytes are taken into the piece
pub body_grows : (n b : ℕ) (p q xs : List ℕ) (known : Option (List ℕ)) → q ≡ p ++ xs → body_known n b q known ≡ append_known (body_known n b p known) xs
body_grows n b p q xs None e = refl
body_grows n b p q xs (Some ws) e = ap (λ w. Some (payload n (sent_of n b ws) ++ w)) e ∙ ap Some (sym (append_assoc (payload n (sent_of n b ws)) p xs))

-- of a piece that isn't full nothing was sent, so another may stand in its place
pub piece_kept : (ended : Bool) (n b : ℕ) (p q : List ℕ) (known : Option (List ℕ)) → b ≡ 0 → known ≡ rebuilt_known ended n b p known → known ≡ rebuilt_known ended n b q known
piece_kept true n b p q known z kept = kept
piece_kept false n b p q None z kept = kept
piece_kept false n b p q (Some ws) z kept = kept ∙ ap Some (ap (λ w. bottom_of n b ws ++ (first_chunks n (payload n (sent_of n b ws)) ++ w)) same)
  where
    same : take b (chunk p) ≡ take b (chunk q)
    same = ap (λ i. take i (chunk p)) z ∙ ap (λ i. take i (chunk q)) (sym z)
