-- The written path of an address names it.
use Rattle.std.proofs.Common.{◌≡◌, ◌≢◌, ℕ, ◌==◌, ◌<◌, List, [], ◌∷◌, ◌++◌, map, All, IsUtf8, Bool, true, false, not, refl, ap, ap₂, sym, ◌∙◌, subst, append-nil, Some, eq-eqb}
use Rattle.std.specs.Prelude.{◌&&◌}
use Rattle.std.specs.List.{slice_split, flat_map}
use Rattle.std.proofs.lemmas.Bool.{agree_below, agree_below_at, false≢true, and_parts}
use Rattle.std.proofs.lemmas.List.Elements.{All-head, All-tail, All-nil, All-cons, All-weaker}
use Rattle.std.proofs.lemmas.List.Splits.{slice_split_at, slice_split_none}
use Rattle.percent_encoding.specs.AsciiSet.{should_percent_encode}
use Rattle.percent_encoding.specs.Percent.{percent_encode_byte, encode_byte, percent_encode, percent_decode}
use Rattle.percent_encoding.proofs.PercentLemmas.{round_trip, IsByte}
use Rattle.form_urlencoded.proofs.FormLemmas as form
use Rattle.edr_query.specs.declared.addresses.TheConstants.{ID_SET}
use Rattle.edr_query.specs.declared.addresses.Address.{Address}
use Rattle.edr_query.specs.Paths.{parts_of, IsPart, HasParts, IsPath, part_text, parts_text, path_text, without_empty_last, path_in, query_in}
use Rattle.edr_query.specs.PathReads.{raw_in}
use Rattle.edr_query.proofs.PathLemmas.{behind}
use Rattle.edr_query.proofs.ByteLemmas.{bytes_from_utf8}

-- ---- escaped parts have neither slash nor question mark

lacks : ℕ → List ℕ → Bool
lacks mark [] = true
lacks mark (b ∷ bs) = not (b == mark) && lacks mark bs

and_both : (a b : Bool) → a ≡ true → b ≡ true → a && b ≡ true
and_both a b e f = ap (λ x. x && b) e ∙ f

lacks-append : (mark : ℕ) (xs ys : List ℕ) → lacks mark xs ≡ true → lacks mark ys ≡ true → lacks mark (xs ++ ys) ≡ true
unfolding lacks
lacks-append mark [] ys h k = k
lacks-append mark (x ∷ xs) ys h k = let p = and_parts (not (x == mark)) (lacks mark xs) h in and_both (not (x == mark)) (lacks mark (xs ++ ys)) p.0 (lacks-append mark xs ys p.1 k)

not_at : (t : Bool) → not t ≡ true → t ≡ false
not_at true e = absurd (false≢true e)
not_at false e = refl

lacks_all : (mark : ℕ) (xs : List ℕ) → lacks mark xs ≡ true → All (λ x. (x == mark) ≡ false) xs
unfolding lacks
lacks_all mark [] h = All-nil (λ x. (x == mark) ≡ false)
lacks_all mark (x ∷ xs) h = let p = and_parts (not (x == mark)) (lacks mark xs) h in All-cons (λ x. (x == mark) ≡ false) x xs (not_at (x == mark) p.0) (lacks_all mark xs p.1)

same_mark : (b mark : ℕ) → (b == mark) ≡ false → b ≢ mark
same_mark b mark f e = false≢true (sym f ∙ eq-eqb b mark e)

lacks_ne : (mark : ℕ) (xs : List ℕ) → lacks mark xs ≡ true → All (λ b. b ≢ mark) xs
lacks_ne mark xs h = All-weaker (λ x. (x == mark) ≡ false) (λ b. b ≢ mark) (λ b f. same_mark b mark f) xs (lacks_all mark xs h)

slash_table : agree_below (λ b. lacks 47 (encode_byte ID_SET b)) (λ b. true) 256 ≡ true
unfolding lacks should_percent_encode percent_encode_byte
slash_table = refl

mark_table : agree_below (λ b. lacks 63 (encode_byte ID_SET b)) (λ b. true) 256 ≡ true
unfolding lacks should_percent_encode percent_encode_byte
mark_table = refl

part_lacks : (mark : ℕ) → ((b : ℕ) → b < 256 → lacks mark (encode_byte ID_SET b) ≡ true) → (bs : List ℕ) → All IsByte bs → lacks mark (flat_map (encode_byte ID_SET) bs) ≡ true
unfolding lacks
part_lacks mark one [] all = refl
part_lacks mark one (b ∷ bs) all = lacks-append mark (encode_byte ID_SET b) (flat_map (encode_byte ID_SET) bs) (one b (All-head IsByte b bs all)) (part_lacks mark one bs (All-tail IsByte b bs all))

abbrev escaped : List ℕ → List ℕ
escaped part = percent_encode ID_SET part

no_slash : (part : List ℕ) → IsUtf8 part → lacks 47 (escaped part) ≡ true
unfolding percent_encode
no_slash part u = part_lacks 47 (λ b l. agree_below_at (λ b. lacks 47 (encode_byte ID_SET b)) (λ b. true) 256 b slash_table l) part (bytes_from_utf8 part u)

no_mark : (part : List ℕ) → IsUtf8 part → lacks 63 (escaped part) ≡ true
unfolding percent_encode
no_mark part u = part_lacks 63 (λ b l. agree_below_at (λ b. lacks 63 (encode_byte ID_SET b)) (λ b. true) 256 b mark_table l) part (bytes_from_utf8 part u)

part_back : (part : List ℕ) → IsUtf8 part → percent_decode (escaped part) ≡ part
part_back part u = round_trip ID_SET part refl (bytes_from_utf8 part u)

decode_nil : percent_decode [] ≡ []
unfolding percent_decode
decode_nil = refl

escaped_some : (part : List ℕ) → IsPart part → escaped part ≢ []
escaped_some part h e = h.0 (sym (part_back part h.1) ∙ ap percent_decode e ∙ decode_nil)

-- ---- the parts of a written path

abbrev path_of : List (List ℕ) → List ℕ
path_of parts = flat_map part_text parts

split_parts : (p : List ℕ) (ps : List (List ℕ)) → All IsPart (p ∷ ps) → slice_split (λ byte. byte == 47) (escaped p ++ path_of ps) ≡ escaped p ∷ map escaped ps
split_parts p [] all =
    ap (slice_split (λ byte. byte == 47)) (append-nil (escaped p))
    ∙ slice_split_none (λ byte. byte == 47) (escaped p) (lacks_all 47 (escaped p) (no_slash p (All-head IsPart p [] all).1))
split_parts p (q ∷ qs) all =
    slice_split_at (λ byte. byte == 47) (escaped p) 47 (escaped q ++ path_of qs) (lacks_all 47 (escaped p) (no_slash p (All-head IsPart p (q ∷ qs) all).1)) refl
    ∙ ap (λ l. escaped p ∷ l) (split_parts q qs (All-tail IsPart p (q ∷ qs) all))

keeps_one : (x : List ℕ) → x ≢ [] → without_empty_last (x ∷ []) ≡ x ∷ []
keeps_one [] h = absurd (h refl)
keeps_one (c ∷ cs) h = refl

keeps_two : (x y : List ℕ) (ys : List (List ℕ)) → without_empty_last (x ∷ y ∷ ys) ≡ x ∷ without_empty_last (y ∷ ys)
keeps_two [] y ys = refl
keeps_two (c ∷ cs) y ys = refl

keeps_all : (p : List ℕ) (ps : List (List ℕ)) → All IsPart (p ∷ ps) → without_empty_last (escaped p ∷ map escaped ps) ≡ escaped p ∷ map escaped ps
keeps_all p [] all = keeps_one (escaped p) (escaped_some p (All-head IsPart p [] all))
keeps_all p (q ∷ qs) all = keeps_two (escaped p) (escaped q) (map escaped qs) ∙ ap (λ l. escaped p ∷ l) (keeps_all q qs (All-tail IsPart p (q ∷ qs) all))

back_all : (ps : List (List ℕ)) → All IsPart ps → map percent_decode (map escaped ps) ≡ ps
back_all [] all = refl
back_all (p ∷ ps) all = ap₂ (λ x l. x ∷ l) (part_back p (All-head IsPart p ps all).1) (back_all ps (All-tail IsPart p ps all))

written_parts : (p : List ℕ) (ps : List (List ℕ)) → All IsPart (p ∷ ps) → HasParts (path_of (p ∷ ps)) (p ∷ ps)
written_parts p ps all =
    let inner = escaped p ++ path_of ps in
    let raw : raw_in inner ≡ escaped p ∷ map escaped ps = ap without_empty_last (split_parts p ps all) ∙ keeps_all p ps all in
    record { raw = escaped p ∷ map escaped ps; cut = behind (47 ∷ inner) inner refl ∙ ap Some raw; decoded = back_all (p ∷ ps) all; each = all }

path_lacks : (ps : List (List ℕ)) → All IsPart ps → lacks 63 (path_of ps) ≡ true
unfolding lacks
path_lacks [] all = refl
path_lacks (p ∷ ps) all = lacks-append 63 (47 ∷ escaped p) (path_of ps) (no_mark p (All-head IsPart p ps all).1) (path_lacks ps (All-tail IsPart p ps all))

abbrev pub Parts : List (List ℕ) → Type 0
Parts parts = (p : List ℕ) × (ps : List (List ℕ)) × (parts ≡ p ∷ ps)

pub written_path : (a : Address) → Parts (parts_of a) → All IsPart (parts_of a) → IsPath (path_text a) a
written_path a some all =
    let P : List (List ℕ) → Type 0 = λ l. All IsPart l in
    let Q : List (List ℕ) → Type 0 = λ l. HasParts (parts_text l) l in
    subst Q (sym some.2) (written_parts some.0 some.1 (subst P some.2 all))

text_lacks : (ps : List (List ℕ)) → All IsPart ps → lacks 63 (parts_text ps) ≡ true
unfolding lacks
text_lacks [] all = refl
text_lacks (p ∷ ps) all = path_lacks (p ∷ ps) all

pub path_before : (a : Address) (query : List ℕ) → All IsPart (parts_of a) → path_in (path_text a ++ 63 ∷ query) ≡ path_text a
path_before a query all = form.split_once_before_at 63 (path_text a) query (lacks_ne 63 (path_text a) (text_lacks (parts_of a) all))

pub query_after : (a : Address) (query : List ℕ) → All IsPart (parts_of a) → query_in (path_text a ++ 63 ∷ query) ≡ query
query_after a query all = form.split_once_after_at 63 (path_text a) query (lacks_ne 63 (path_text a) (text_lacks (parts_of a) all))

pub path_alone : (a : Address) → All IsPart (parts_of a) → path_in (path_text a) ≡ path_text a
path_alone a all = form.split_once_before_none 63 (path_text a) (lacks_ne 63 (path_text a) (text_lacks (parts_of a) all))

pub query_none : (a : Address) → All IsPart (parts_of a) → query_in (path_text a) ≡ []
query_none a all = form.split_once_after_none 63 (path_text a) (lacks_ne 63 (path_text a) (text_lacks (parts_of a) all))
