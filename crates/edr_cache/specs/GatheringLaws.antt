-- Laws of what a sink tells that gathers, for the proofs of callers.
use Rattle.std.proofs.Common.{◌≡◌, ℕ, ◌-◌, List, [], ◌∷◌, ◌++◌, length, take, sym, ap, ◌∙◌, refl, Some, None, Ok, Err, arith}
use Rattle.std.specs.declared.option.Option.{Option}
use Rattle.std.specs.Prelude.{Result}
use Rattle.std.proofs.lemmas.List.{length-append, take-append-le, take_all}
use Rattle.std.specs.Io.KnownBytes.{append_known}
use Rattle.edr_base.specs.Outside.{Beside, LentSink}
use Rattle.edr_base.specs.Calls.{Front, Writes}
use Rattle.edr_base.specs.KnownBytes.{append_more, append_nothing}
use Rattle.edr_cache.specs.Gathering.{below_known, gathering_beside}

-- ---- what stands below

-- where nothing was written yet, all does
pub nothing_below : (w : Option (List ℕ)) → below_known [] w ≡ w
nothing_below None = refl
nothing_below (Some xs) = ap Some (take_all (length xs - 0) xs (omega arith))

pub nothing_kept : (w : Option (List ℕ)) → w ≡ append_known (below_known [] w) []
nothing_kept w = append_nothing w ∙ ap (λ v. append_known v []) (sym (nothing_below w))

some_same : {xs ys : List ℕ} → Some xs ≡ Some ys → xs ≡ ys
some_same e = grind (arith, e)

-- a piece more is no change
pub below_grown : (since piece : List ℕ) (w v : Option (List ℕ)) → w ≡ append_known (below_known since w) since → v ≡ append_known w piece
    → below_known (since ++ piece) v ≡ below_known since w
below_grown since piece None v h e = ap (λ o. below_known (since ++ piece) o) e
below_grown since piece (Some xs) v h e =
    let counts : length (xs ++ piece) - length (since ++ piece) ≡ length xs - length since = omega (arith, length-append xs piece, length-append since piece) in
    ap (λ o. below_known (since ++ piece) o) e
    ∙ ap Some (ap (λ n. take n (xs ++ piece)) counts ∙ take-append-le (length xs - length since) xs piece (omega arith))

pub kept_grown : (since piece : List ℕ) (w v : Option (List ℕ)) → w ≡ append_known (below_known since w) since → v ≡ append_known w piece
    → v ≡ append_known (below_known (since ++ piece) v) (since ++ piece)
kept_grown since piece w v h e =
    e ∙ (ap (λ o. append_known o piece) h ∙ (append_more (below_known since w) since piece ∙ ap (λ o. append_known o (since ++ piece)) (sym (below_grown since piece w v h e))))

-- ---- what was written to the layer was handed on

appended : (xs ys : List ℕ) → Some xs ≡ append_known (Some []) ys → xs ≡ ys
appended xs ys e = some_same e

handed_front : (text gathered : List ℕ) (below w : Option (List ℕ)) → Front text (Some []) (Some gathered) → w ≡ append_known below gathered → Front text below w
handed_front text gathered below w f e =
    record { bytes = f.bytes; begins = f.begins; grew = e ∙ ap (λ bytes. append_known below bytes) (appended gathered f.bytes f.grew) }

pub handed_on : {T E : Type 0} (r : Result T E) (text gathered : List ℕ) (below w : Option (List ℕ)) → Writes r text (Some []) (Some gathered) → w ≡ append_known below gathered
    → Writes r text below w
handed_on (Ok x) text gathered below w h e =
    record { whole = e ∙ ap (λ bytes. append_known below bytes) (appended gathered text h.whole); front = handed_front text gathered below w h.front e }
handed_on (Err x) text gathered below w h e = record { whole = tt; front = handed_front text gathered below w h.front e }

-- all of the text was gathered
pub gathered_whole : {E : Type 0} (T : Type 0) (x : T) (text gathered : List ℕ) → Writes {E = E} (Ok x) text (Some []) (Some gathered) → gathered ≡ text
gathered_whole T x text gathered h = appended gathered text h.whole

-- ---- what is beside it tells what stands below, and which sinks are lent

below_of : List LentSink → Option (List ℕ)
below_of [] = None
below_of (told ∷ lent) = told.bottom

lent_of : List LentSink → List LentSink
lent_of [] = []
lent_of (told ∷ lent) = lent

pub same_below : (a b : Beside) (p q : Option (List ℕ)) → gathering_beside a p ≡ gathering_beside b q → p ≡ q
unfolding below_of
same_below a b p q e = ap (λ (beside : Beside). below_of beside.held) e

pub same_lent : (a b : Beside) (p q : Option (List ℕ)) → gathering_beside a p ≡ gathering_beside b q → a.held ≡ b.held
unfolding lent_of
same_lent a b p q e = ap (λ (beside : Beside). lent_of beside.held) e
