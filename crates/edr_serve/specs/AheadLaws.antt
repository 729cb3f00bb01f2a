-- Laws of how far a session reads: what the source has follows some requests and what is held.
use Rattle.std.proofs.Common.{◌≡◌, ◌≢◌, ℕ, ◌-◌, ◌≤◌, max, Bool, true, false, length, List, [], ◌∷◌, ◌++◌, refl, sym, ◌∙◌, subst, Some, None, arith}
use Rattle.std.specs.declared.option.Option.{Option}
use Rattle.std.specs.Prelude.{◌==◌, if◌then◌else◌}
use Rattle.std.specs.Io.KnownBytes.{prepend_known}
use Rattle.edr_base.specs.Calls.{ReadsAtMost}
use Rattle.edr_http.specs.Heads.{Told, most_held}
use Rattle.edr_serve.specs.declared.ends.End.{End}
use Rattle.edr_serve.specs.declared.ends.End.TheVariants.{EndOfInput, ClosedByPeer, ClosedByRefusal, RequestLimit}
use Rattle.edr_serve.specs.Requests.{Request, IsFirstRequest, AreFirst}
use Rattle.edr_serve.specs.Sessions.{ReadsAhead, AtMost, most_behind}

-- these requests were read, and this is held behind them, where the bytes are told
abbrev pub HeldBehind : ℕ → List Request → List ℕ → Option (List ℕ) → Option (List ℕ) → Type 0
HeldBehind turns requests held rest left = Told (λ bytes others. AreFirst turns bytes requests (held ++ others)) rest left

-- behind the first request and those that follow it
pub held_on : (turns : ℕ) (rest behind left : Option (List ℕ)) (request : Request) (requests : List Request) (held : List ℕ)
    → Told (λ bytes others. IsFirstRequest turns bytes request others) rest behind → HeldBehind (turns - 1) requests held behind left → HeldBehind turns (request ∷ requests) held rest left
held_on turns None behind left request requests held x t = tt
held_on turns (Some rest) None left request requests held x t = absurd x
held_on turns (Some rest) (Some behind) None request requests held x t = absurd t
held_on turns (Some rest) (Some behind) (Some left) request requests held x t = (behind, x, t)

-- behind none
pub held_none : (turns : ℕ) (held : List ℕ) (left : Option (List ℕ)) → HeldBehind turns [] held (prepend_known held left) left
held_none turns held None = tt
held_none turns held (Some left) = refl

-- what was read behind none
pub held_read : (most turns : ℕ) (rest left : Option (List ℕ)) → (x : ReadsAtMost most rest left) → HeldBehind turns [] x.bytes rest left
held_read most turns rest left x = subst (λ (w : Option (List ℕ)). HeldBehind turns [] x.bytes w left) (sym x.read) (held_none turns x.bytes left)

-- nothing where nothing is left
pub held_end : (turns : ℕ) (held : List ℕ) (rest left : Option (List ℕ)) → Told (λ bytes others. (bytes ≡ []) × (others ≡ [])) rest (prepend_known held left) → HeldBehind turns [] [] rest left
held_end turns held None left t = tt
held_end turns held (Some rest) None t = absurd t
held_end turns [] (Some rest) (Some left) t = t.1 ∙ sym t.0
held_end turns (byte ∷ held) (Some rest) (Some left) t = absurd (cc t.1)

-- something is so of what is held
pub ahead_of : (IsSo : List ℕ → Type 0) (turns : ℕ) (requests : List Request) (held : List ℕ) (rest left : Option (List ℕ)) → IsSo held → HeldBehind turns requests held rest left
    → Told (λ bytes others. ReadsAhead IsSo turns requests bytes others) rest left
ahead_of IsSo turns requests held None left is t = tt
ahead_of IsSo turns requests held (Some rest) None is t = absurd t
ahead_of IsSo turns requests held (Some rest) (Some left) is t = record { held = held; read = t; is = is }

-- as much or less
pub ahead_more : (most turns : ℕ) (requests : List Request) (rest left : Option (List ℕ)) → most ≤ most_held 0 → Told (λ bytes others. ReadsAhead (AtMost most) turns requests bytes others) rest left
    → Told (λ bytes others. ReadsAhead (AtMost (most_held 0)) turns requests bytes others) rest left
ahead_more most turns requests None left few t = tt
ahead_more most turns requests (Some rest) None few t = absurd t
ahead_more most turns requests (Some rest) (Some left) few t = record { held = t.held; read = t.read; is = omega (arith, few, t.is) }

-- ---- how much is held behind a request

by_number : (first : Bool) → (most_behind None ≤ (if first then most_held 0 else most_behind None)) × ((if first then most_held 0 else most_behind None) ≤ most_held 0)
by_number true = (omega arith, omega arith)
by_number false = (omega arith, omega arith)

-- no more than a head and a block
pub most_behind_held : (end : Option End) → most_behind end ≤ most_held 0
most_behind_held None = omega arith
most_behind_held (Some EndOfInput) = omega arith
most_behind_held (Some ClosedByPeer) = omega arith
most_behind_held (Some (ClosedByRefusal number)) = (by_number (number == 1)).1
most_behind_held (Some RequestLimit) = omega arith

-- so much at least where there was a request
pub least_behind : (end : Option End) → end ≢ Some EndOfInput → most_behind None ≤ most_behind end
least_behind None other = omega arith
least_behind (Some EndOfInput) other = absurd (other refl)
least_behind (Some ClosedByPeer) other = omega arith
least_behind (Some (ClosedByRefusal number)) other = (by_number (number == 1)).0
least_behind (Some RequestLimit) other = omega arith

-- no more than that behind a request, where no more was held before it than behind one
pub held_behind : (before : ℕ) (held : List ℕ) (one : Option End) (end : End) → one ≢ Some EndOfInput → one ≡ Some end → before ≤ most_behind None → length held ≤ max before (most_behind one)
    → length held ≤ most_behind (Some end)
held_behind before held one end other is few more =
    let least = least_behind one other in
    subst (λ (w : Option End). length held ≤ most_behind w) is (omega (arith, few, more, least))

-- and where the session goes on
pub few_held : (before : ℕ) (held : List ℕ) (one : Option End) → before ≤ most_behind None → one ≡ None → length held ≤ max before (most_behind one) → length held ≤ most_behind None
few_held before held one few none more = omega (arith, few, subst (λ (w : Option End). length held ≤ max before (most_behind w)) none more)
