-- Laws of bodies that are sent in chunks: what stands below once one was ended, and once one broke off.
use Rattle.std.proofs.Common.{◌≡◌, ℕ, List, [], ◌++◌, sym, ap, ◌∙◌, subst}
use Rattle.std.specs.declared.option.Option.{Option}
use Rattle.std.specs.Prelude.{None, Some, Result, Ok, Err, OnOk}
use Rattle.std.specs.Io.KnownBytes.{append_known}
use Rattle.edr_base.specs.Calls.{Front, Writes}
use Rattle.edr_base.specs.KnownBytes.{front_none}
use Rattle.edr_http.specs.Chunks.{chunked}
use Rattle.edr_http.specs.ChunkedSinks.{nothing_in, EndsBody, BeginsBody}

on_ok : {T E : Type 0} (r : Result T E) (P : Type 0) → P → OnOk r P
on_ok (Ok x) P p = p
on_ok (Err e) P p = tt

-- a body was written whole from the start on, and ended; `below` is what stands below
pub body_done : {T E : Type 0} (r : Result T E) (text : List ℕ) (below bottom start body new : Option (List ℕ)) → bottom ≡ below → start ≡ nothing_in below
    → body ≡ append_known start text → EndsBody r bottom body new → Writes r (chunked text) below new
body_done r text None bottom start body new e s b x =
    let none : body ≡ None = b ∙ ap (λ w. append_known w text) s in
    let untold : new ≡ None = subst (λ (z : Option (List ℕ)). EndsBody r bottom z new) none x in
    record { whole = on_ok r (new ≡ None) untold; front = front_none None new (chunked text) untold }
body_done r text (Some ws) bottom start body new e s b x =
    let whole : body ≡ Some text = b ∙ ap (λ w. append_known w text) s in
    subst (λ (z : Option (List ℕ)). Writes r (chunked text) z new) e (subst (λ (z : Option (List ℕ)). EndsBody r bottom z new) whole x)

-- a beginning of a body was written, and nothing ended it
pub body_stopped : (T : Type 0) {E : Type 0} (f : E) (text : List ℕ) (below bottom start body new : Option (List ℕ)) → bottom ≡ below → start ≡ nothing_in below
    → Front text start body → ((more : List ℕ) → BeginsBody bottom body new more) → Writes {T = T} (Err f) (chunked text) below new
body_stopped T f text None bottom start body new e s b x =
    let none : body ≡ None = b.grew ∙ ap (λ w. append_known w b.bytes) s in
    let untold : new ≡ None = subst (λ (z : Option (List ℕ)). BeginsBody bottom z new []) none (x []) in
    record { whole = tt; front = front_none None new (chunked text) untold }
body_stopped T f text (Some ws) bottom start body new e s b x =
    let more : List ℕ = b.begins.0 in
    let part : body ≡ Some b.bytes = b.grew ∙ ap (λ w. append_known w b.bytes) s in
    let begun : Front (chunked (b.bytes ++ more)) bottom new = subst (λ (z : Option (List ℕ)). BeginsBody bottom z new more) part (x more) in
    record { whole = tt; front = subst (λ (z : Option (List ℕ)). Front (chunked text) z new) e (subst (λ (z : List ℕ). Front (chunked z) bottom new) (sym b.begins.1) begun) }
