-- One request of a connection, by what was found at the front of the rest.
use Rattle.std.proofs.Common.{◌≡◌, ◌≢◌, ◌⊎◌, inl, inr, ⊎_elim, ℕ, ◌+◌, ◌≤◌, ◌<◌, max, false, length, length-append, List, [], ◌∷◌, ◌++◌, sym, ap, subst, ◌∙◌, refl, Some, None, arith}
use Rattle.std.specs.declared.option.Option.{Option}
use Rattle.std.specs.Prelude.{is_some, IfSome}
use Rattle.std.specs.Io.KnownBytes.{append_known, prepend_known}
use mathlib.Core.List.{append_assoc}
use Rattle.httparse.specs.Grammar.{print_request}
use Rattle.edr_base.specs.Calls.{Front, ReadsAtMost}
use Rattle.edr_base.specs.declared.refusals.Refusal.{Refusal}
use Rattle.edr_base.specs.declared.refusals.Refusal.TheVariants.{BadHead}
use Rattle.edr_edition.specs.Values.{EditionValue}
use Rattle.edr_http.specs.declared.heads.Head.{Head}
use Rattle.edr_http.specs.Heads.{Told, HeadOf, HasHead, HasNoHead, IsBehind, block_size, most_held}
use Rattle.edr_http.specs.Replies.{reply_text, refusal_body}
use Rattle.edr_serve.specs.declared.ends.End.{End}
use Rattle.edr_serve.specs.declared.ends.End.TheVariants.{EndOfInput, ClosedByRefusal}
use Rattle.edr_serve.specs.declared.reports.OneReport.{OneReport}
use Rattle.edr_serve.specs.Requests.{Request, IsOf, IsFirstRequest, Begun, no_head}
use Rattle.edr_serve.specs.Sessions.{State, state, TakesHead, BrokenAtOne, Served, most_behind}
use Rattle.edr_serve.specs.Serving.{HeadReplied, HeadBroken}
use Rattle.edr_serve.specs.AheadLaws.{least_behind}
use Rattle.edr_serve.proofs.OneReply.{refused_replied, refused_broke, none_broke}

-- ---- the first request of the rest

of_head : (n : ℕ) (head : Head) (r : Request) (b c : Option (List ℕ)) → IsOf n head r → Told (λ bytes rest. HeadOf bytes head rest) b c → Told (λ bytes others. IsFirstRequest n bytes r others) b c
of_head n head r None c x t = tt
of_head n head r (Some b) None x t = t
of_head n head r (Some b) (Some c) x t = inl (record { head = head; begins = t; is_of = x })

of_none : (n : ℕ) (b c : Option (List ℕ)) → Told (λ bytes rest. (bytes ≢ []) × HasNoHead bytes × (rest ≡ bytes)) b c → Told (λ bytes others. IsFirstRequest n bytes no_head others) b c
of_none n None c t = tt
of_none n (Some b) None t = t
of_none n (Some b) (Some c) t = inr (record { some = t.0; none = t.1; request_is = refl; rest_is = t.2 })

begun_one : (n : ℕ) (r : Request) (b c : Option (List ℕ)) → Told (λ bytes others. IsFirstRequest n bytes r others) b c → IfSome b (λ bytes. Begun n bytes (r ∷ []))
begun_one n r None c t = tt
begun_one n r (Some b) None t = absurd t
begun_one n r (Some b) (Some c) t = (c, t, λ _. refl, λ _. tt)

pub begun_none : (n : ℕ) (b : Option (List ℕ)) → IfSome b (λ bytes. Begun n bytes [])
begun_none n None = tt
begun_none n (Some b) = tt

-- ---- it was answered

pub served_head : (n : ℕ) (head : Head) (b c : Option (List ℕ)) (before after : State) (report : OneReport)
    → HeadReplied n head before after report → report.end ≢ Some EndOfInput → Told (λ bytes rest. HeadOf bytes head rest) b c → Served n b c before after report
served_head n head b c before after report x going t =
    inr (record { request = x.request; first = of_head n head x.request b c x.is_of t; replied = x.replied; ends = going })

-- how a session ends with bytes that have no head
abbrev bad_end : Option End
bad_end = Some (ClosedByRefusal 1)

pub served_bad : (n : ℕ) (refusal : Refusal) (b c w w' : Option (List ℕ)) (s : List EditionValue) (t : Option (List ℕ))
    → refusal ≡ BadHead → Told (λ bytes rest. (bytes ≢ []) × HasNoHead bytes × (rest ≡ bytes)) b c
    → w' ≡ append_known w (reply_text (refusal_body refusal) None false (is_some bad_end))
    → Served n b c (state w s t) (state w' s t) (record { edition = None; reads = []; end = bad_end })
served_bad n refusal b c w w' s t is told bytes =
    let text = subst (λ (r : Refusal). w' ≡ append_known w (reply_text (refusal_body r) None false (is_some bad_end))) is bytes in
    inr (record { request = no_head; first = of_none n b c told; replied = refused_replied false BadHead bad_end w w' s t text; ends = λ e. absurd (cc e) })

pub served_end : (n : ℕ) (b c : Option (List ℕ)) (s : State) → Told (λ bytes rest. (bytes ≡ []) × (rest ≡ [])) b c
    → Served n b c s s (record { edition = None; reads = []; end = Some EndOfInput })
served_end n b c s t = inl (record { at_end = t; same = refl; report_is = refl })

-- ---- it wasn't

pub broken_head : (n : ℕ) (head : Head) (b c : Option (List ℕ)) (before after : State) → HeadBroken n head before after → Told (λ bytes rest. HeadOf bytes head rest) b c → BrokenAtOne n b before after
broken_head n head b c before after (inl x) t =
    record { requests = x.request ∷ []; one = omega arith; begun = begun_one n x.request b c (of_head n head x.request b c x.is_of t); broke_off = x.broke_off }
broken_head n head b c before after (inr x) t = record { requests = []; one = omega arith; begun = begun_none n b; broke_off = x }

pub broken_bad : (n : ℕ) (refusal : Refusal) (b c w w' : Option (List ℕ)) (s : List EditionValue) (t : Option (List ℕ))
    → refusal ≡ BadHead → Told (λ bytes rest. (bytes ≢ []) × HasNoHead bytes × (rest ≡ bytes)) b c
    → Front (reply_text (refusal_body refusal) None false (is_some bad_end)) w w' → BrokenAtOne n b (state w s t) (state w' s t)
broken_bad n refusal b c w w' s t is told front =
    let text = subst (λ (r : Refusal). Front (reply_text (refusal_body r) None false (is_some bad_end)) w w') is front in
    record { requests = no_head ∷ []; one = omega arith; begun = begun_one n no_head b c (of_none n b c told); broke_off = refused_broke false BadHead bad_end w w' s t text }

pub broken_read : (n : ℕ) (b w : Option (List ℕ)) (s : List EditionValue) (t : Option (List ℕ)) → BrokenAtOne n b (state w s t) (state w s t)
broken_read n b w s t = record { requests = []; one = omega arith; begun = begun_none n b; broke_off = none_broke w s t }

-- bytes that have no head were refused, as is reported
pub served_refused : (n : ℕ) (refusal : Refusal) (b c w w' : Option (List ℕ)) (s : List EditionValue) (t : Option (List ℕ)) (report : OneReport)
    → refusal ≡ BadHead → Told (λ bytes rest. (bytes ≢ []) × HasNoHead bytes × (rest ≡ bytes)) b c
    → w' ≡ append_known w (reply_text (refusal_body refusal) None false (is_some bad_end)) → report ≡ record { edition = None; reads = []; end = bad_end }
    → Served n b c (state w s t) (state w' s t) report
served_refused n refusal b c w w' s t report is told bytes report_is =
    subst (λ (x : OneReport). Served n b c (state w s t) (state w' s t) x) (sym report_is) (served_bad n refusal b c w w' s t is told bytes)

-- ---- what became of the rest

-- it is the rest as it was, where nothing was found in it or it is at its end
same_bad : (b c : Option (List ℕ)) → IsBehind b c → Told (λ bytes rest. (bytes ≢ []) × HasNoHead bytes × (rest ≡ bytes)) b c → c ≡ b
same_bad None None behind t = refl
same_bad None (Some c) behind t = absurd (cc behind.1)
same_bad (Some b) None behind t = absurd t
same_bad (Some b) (Some c) behind t = ap Some t.2

same_end : (b c : Option (List ℕ)) → IsBehind b c → Told (λ bytes rest. (bytes ≡ []) × (rest ≡ [])) b c → c ≡ b
same_end None None behind t = refl
same_end None (Some c) behind t = absurd (cc behind.1)
same_end (Some b) None behind t = absurd t
same_end (Some b) (Some c) behind t = ap Some (t.1 ∙ sym t.0)

-- its head was taken
pub head_lost : (head : Head) (b c : Option (List ℕ)) → Told (λ bytes rest. HeadOf bytes head rest) b c → (c ≡ b) ⊎ TakesHead b c
head_lost head None c t = inr tt
head_lost head (Some b) None t = absurd t
head_lost head (Some b) (Some c) t = inr (head, t)

-- it has none
pub bad_lost : (b c : Option (List ℕ)) → IsBehind b c → Told (λ bytes rest. (bytes ≢ []) × HasNoHead bytes × (rest ≡ bytes)) b c → (c ≡ b) ⊎ TakesHead b c
bad_lost b c behind t = inl (same_bad b c behind t)

-- ---- how much is held behind a request

pub head_short : (held held' : List ℕ) (report : OneReport) → HasHead held ⊎ (length held' < block_size) → (HasHead held → length held' ≤ length held) → report.end ≢ Some EndOfInput
    → length held' ≤ max (length held) (most_behind report.end)
head_short held held' report short fewer going =
    let least = least_behind report.end going in
    ⊎_elim (λ (has : HasHead held). omega (arith, fewer has)) (λ (few : length held' < block_size). omega (arith, few, least)) short

pub bad_short : (held held' : List ℕ) (report : OneReport) → length held' ≤ most_held (length held) → report ≡ record { edition = None; reads = []; end = bad_end } → length held' ≤ max (length held) (most_behind report.end)
bad_short held held' report few is = subst (λ (x : OneReport). length held' ≤ max (length held) (most_behind x.end)) (sym is) few

pub end_short : (held held' : List ℕ) → held' ≡ [] → length held' ≤ max (length held) (most_behind (Some EndOfInput))
end_short held held' e = omega (arith, ap length e)

-- ---- how much was read

-- what was held and read is held
pub held_ahead : (held held' : List ℕ) (left left' : Option (List ℕ)) → prepend_known held' left' ≡ prepend_known held left → length held' ≤ most_held (length held)
    → ReadsAtMost (most_held (length held)) (prepend_known held left) left'
held_ahead held held' left left' same few = record { bytes = held'; read = sym same; within = few }

pub bad_ahead : (held held' : List ℕ) (left left' : Option (List ℕ)) → IsBehind (prepend_known held left) (prepend_known held' left')
    → Told (λ bytes rest. (bytes ≢ []) × HasNoHead bytes × (rest ≡ bytes)) (prepend_known held left) (prepend_known held' left') → length held' ≤ most_held (length held)
    → ReadsAtMost (most_held (length held)) (prepend_known held left) left'
bad_ahead held held' left left' behind t few = held_ahead held held' left left' (same_bad (prepend_known held left) (prepend_known held' left') behind t) few

pub end_ahead : (held held' : List ℕ) (left left' : Option (List ℕ)) → IsBehind (prepend_known held left) (prepend_known held' left')
    → Told (λ bytes rest. (bytes ≡ []) × (rest ≡ [])) (prepend_known held left) (prepend_known held' left') → length held' ≤ most_held (length held)
    → ReadsAtMost (most_held (length held)) (prepend_known held left) left'
end_ahead held held' left left' behind t few = held_ahead held held' left left' (same_end (prepend_known held left) (prepend_known held' left') behind t) few

-- a head was taken: nothing was read for it, or it ends in what was read last
pub head_ahead : (head : Head) (held held' : List ℕ) (left left' : Option (List ℕ)) → IsBehind (prepend_known held left) (prepend_known held' left')
    → Told (λ bytes rest. HeadOf bytes head rest) (prepend_known held left) (prepend_known held' left')
    → HasHead held ⊎ (length held' < block_size) → (HasHead held → left' ≡ left) → ReadsAtMost (most_held (length held)) (prepend_known held left) left'
head_ahead head held held' None None behind t short kept = record { bytes = []; read = refl; within = omega arith }
head_ahead head held held' None (Some left') behind t short kept = absurd (cc behind.1)
head_ahead head held held' (Some left) None behind t short kept = absurd t
head_ahead head held held' (Some left) (Some left') behind t short kept =
    let text = print_request t.tree in
    let whole : held ++ left ≡ (text ++ held') ++ left' = t.begins.reads.1 ∙ sym (append_assoc text held' left') in
    let sizes : length held + length left ≡ length (text ++ held') + length left' = omega (arith, ap length whole, length-append held left, length-append (text ++ held') left') in
    record {
      bytes = text ++ held';
      read = ap Some whole;
      within = ⊎_elim
          (λ (has : HasHead held).
          let same : left' ≡ left = let told : Some left' ≡ Some left = kept has in cc in
          omega (arith, sizes, ap length same))
          (λ (few : length held' < block_size). omega (arith, few, length-append text held', t.begins.short))
          short;
    }
