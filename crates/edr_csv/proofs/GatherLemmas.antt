-- Texts that are gathered before they are written.
use Rattle.std.proofs.Common.{◌≡◌, ℕ, Option, List, [], ◌++◌, Result, sym, ap, ◌∙◌, append_assoc}
use Rattle.edr_base.specs.Calls.{Front, Writes, Gathered}
use Rattle.edr_base.specs.KnownBytes.{grew_on, front_on, front_more, writes_on}

-- a text is gathered behind another
pub gathered_on : (old mid now : Option (List ℕ)) (p q r a b : List ℕ) → Gathered old mid q (p ++ a) → Gathered mid now r (q ++ b) → Gathered old now r (p ++ (a ++ b))
gathered_on old mid now p q r a b g h = record {
  sent = g.sent ++ h.sent;
  grew = grew_on old mid now g.sent h.sent g.grew h.grew;
  whole =
      append_assoc g.sent h.sent r
      ∙ ap (λ (t : List ℕ). g.sent ++ t) h.whole
      ∙ sym (append_assoc g.sent q b)
      ∙ ap (λ (t : List ℕ). t ++ b) g.whole
      ∙ append_assoc p a b;
}

-- of a text behind another a beginning was written
pub gathered_stop : (old mid now : Option (List ℕ)) (p q a b rest : List ℕ) → Gathered old mid q (p ++ a) → Front (q ++ b) mid now → Front (p ++ (a ++ (b ++ rest))) old now
gathered_stop old mid now p q a b rest g front =
    let begun : Front (g.sent ++ (q ++ b)) old now = front_on old mid now g.sent (q ++ b) g.grew front in
    let all : g.sent ++ (q ++ b) ≡ (p ++ a) ++ b = sym (append_assoc g.sent q b) ∙ ap (λ (t : List ℕ). t ++ b) g.whole in
    let text : ((p ++ a) ++ b) ++ rest ≡ p ++ (a ++ (b ++ rest)) = append_assoc (p ++ a) b rest ∙ append_assoc p a (b ++ rest) in
    rw (← text) (rw (← all) (front_more old now (g.sent ++ (q ++ b)) rest begun))

-- what is gathered at the end is written
pub gathered_end : {T E : Type 0} (r : Result T E) (old now new : Option (List ℕ)) (q text : List ℕ) → Gathered old now q ([] ++ text) → Writes r q now new → Writes r text old new
gathered_end r old now new q text g writes = rw (← g.whole) (writes_on r old now new g.sent q g.grew writes)
