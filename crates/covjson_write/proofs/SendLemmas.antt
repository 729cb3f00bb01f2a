-- What calls have written.
use Rattle.std.proofs.Common.{◌≡◌, ℕ, ◌<◌, nat_lt, List, [], ◌++◌, length, take, get_or, Option, Result, Ok, IsErr, refl, ap, ◌∙◌, append_assoc}
use Rattle.std.proofs.lemmas.Result.{IfOk-from_err}
use Rattle.std.proofs.lemmas.List.{get_or_default}
use Rattle.json.specs.Filled.{Placed}
use Rattle.json.proofs.Printed.Places.{Placed-then}
use Rattle.edr_base.specs.Calls.{Writes}
use Rattle.edr_base.specs.KnownBytes.{front_none}
use Rattle.serde_json.specs.Written.{comma_if}
use Rattle.covjson_write.specs.declared.range_heads.RangeHead.{RangeHead}
use Rattle.covjson_write.specs.Pieces.{range_begin}
use Rattle.covjson_write.proofs.PlaceLemmas.{above_is_later}

-- a call that ended before it wrote
pub writes_nothing : {T E : Type 0} (r : Result T E) (w : Option (List ℕ)) (text : List ℕ) → IsErr r → Writes r text w w
writes_nothing r w text fails = record { whole = IfOk-from_err r _ fails; front = front_none w w text refl }

-- what was written whole is so whatever is answered
pub writes_done : {T E : Type 0} (x : T) (U : Type 0) (y : U) (text : List ℕ) (old new : Option (List ℕ)) → Writes {E = E} (Ok x) text old new → Writes {T = U} {E = E} (Ok y) text old new
writes_done x U y text old new writes = record { whole = writes.whole; front = writes.front }

-- and what was begun before a fault, when that ends another call
pub writes_stopped : {T U E : Type 0} (r : Result U E) (s : Result T E) (text : List ℕ) (old new : Option (List ℕ)) → IsErr r → Writes s text old new → Writes r text old new
writes_stopped r s text old new fails writes = record { whole = IfOk-from_err r _ fails; front = writes.front }

-- what three texts put at the front of a piece are together was written
pub three_written : {T E : Type 0} (r : Result T E) {a b c d x y z : List ℕ} {i j k : ℕ} (old new : Option (List ℕ)) → Placed a b 0 x i → Placed b c i y j → Placed c d j z k
    → Writes r (take k d) old new → Writes r (x ++ (y ++ z)) old new
three_written r {x = x} {y = y} {z = z} old new p q s writes = rw ((Placed-then (Placed-then p q) s).bytes, append_assoc x y z) at writes

-- the beginning of a range was written, whose key stands at its place among the keys
pub range_written : {T E : Type 0} (r : Result T E) (head : RangeHead) (n : ℕ) (key : List ℕ) (keys : List (List ℕ)) (old new : Option (List ℕ)) → key ≡ get_or keys n key → keys ≡ head.keys → n < length head.keys
    → Writes r (comma_if (nat_lt 0 n) ++ (key ++ head.opening)) old new → Writes r (range_begin head n) old new
range_written r head n key keys old new is same inside writes =
    let key_is : key ≡ get_or head.keys n [] = is ∙ ap (λ (ks : List (List ℕ)). get_or ks n key) same ∙ get_or_default head.keys n key [] inside in
    rw (← above_is_later n, ← key_is) writes
