-- Values that are gathered and written.
use Rattle.std.proofs.Common.{◌≡◌, ℕ, Option, List, [], ◌++◌, Result, refl, sym, ap, ◌∙◌, append_assoc, append-nil}
use Rattle.std.specs.Io.KnownBytes.{append_known}
use Rattle.edr_base.specs.Calls.{Front, Writes, Gathered}
use Rattle.edr_base.specs.KnownBytes.{append_nothing, grew_on, front_on, front_more, writes_on}

-- all stays gathered
pub all_stays : (w : Option (List ℕ)) (piece : List ℕ) → Gathered w w piece piece
all_stays w piece = record { sent = []; grew = append_nothing w; whole = refl }

-- all that was gathered went out
pub all_went : (old now : Option (List ℕ)) (piece : List ℕ) → now ≡ append_known old piece → Gathered old now [] piece
all_went old now piece grew = record { sent = piece; grew = grew; whole = append-nil piece }

-- more is gathered behind it
pub gathered_more : (old now : Option (List ℕ)) (piece text more : List ℕ) → Gathered old now piece text → Gathered old now (piece ++ more) (text ++ more)
gathered_more old now piece text more h = record { sent = h.sent; grew = h.grew; whole = sym (append_assoc h.sent piece more) ∙ ap (λ w. w ++ more) h.whole }

-- some of it goes out
pub gathered_on : (old mid now : Option (List ℕ)) (piece kept text : List ℕ) → Gathered old mid piece text → Gathered mid now kept piece → Gathered old now kept text
gathered_on old mid now piece kept text h k = record {
  sent = h.sent ++ k.sent;
  grew = grew_on old mid now h.sent k.sent h.grew k.grew;
  whole = append_assoc h.sent k.sent kept ∙ ap (λ w. h.sent ++ w) k.whole ∙ h.whole;
}

-- a beginning of it goes out: a beginning of a text that begins with it
pub gathered_stop : (old now new : Option (List ℕ)) (piece text rest whole : List ℕ)
    → Gathered old now piece text → text ++ rest ≡ whole → Front piece now new → Front whole old new
gathered_stop old now new piece text rest whole h all front =
    let begun : Front (h.sent ++ piece) old new = front_on old now new h.sent piece h.grew front in
    rw (← all, ← h.whole) (front_more old new (h.sent ++ piece) rest begun)

-- the last of it is written
pub gathered_end : {T E : Type 0} (r : Result T E) (old now new : Option (List ℕ)) (piece text : List ℕ)
    → Gathered old now piece text → Writes r piece now new → Writes r text old new
gathered_end r old now new piece text h writes = rw (← h.whole) (writes_on r old now new h.sent piece h.grew writes)
