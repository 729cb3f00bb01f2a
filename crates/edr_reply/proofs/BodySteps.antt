-- Bodies taken from the rest, by how their end is known.
use Rattle.std.proofs.Common.{◌≡◌, ℕ, ◌+◌, ◌≤◌, ◌<◌, length, List, [], ◌∷◌, ◌++◌, sym, ap, ◌∙◌, subst, Some, None, refl, append-nil, arith}
use Rattle.std.specs.Prelude.{IfSome}
use Rattle.std.specs.declared.option.Option.{Option}
use Rattle.std.specs.Io.KnownBytes.{prepend_known, IsAtEnd}
use Rattle.edr_base.specs.Calls.{ReadsAtMost}
use Rattle.edr_base.specs.KnownBytes.{took_on}
use Rattle.edr_http.specs.Heads.{Told}
use Rattle.edr_reply.specs.declared.framing.Framing.TheVariants.{Chunked, Sized, ToEnd}
use Rattle.edr_reply.specs.Messages.{IsBody, body_limit}
use Rattle.edr_reply.specs.Taking.{TakesSome, TakesOnto, TakesChunks, BodyBreaks, IsCutBody}

-- a text before the rest, told of both
pub told_behind : (x : List ℕ) (old new : Option (List ℕ)) (P : List ℕ → List ℕ → Type 0) → old ≡ prepend_known x new → ((rest : List ℕ) → P (x ++ rest) rest) → Told P old new
told_behind x None new P e f = tt
told_behind x (Some bytes) None P e f = absurd (untold e)
  where
    untold : Some bytes ≡ None → ⊥
    untold e = cc
told_behind x (Some bytes) (Some rest) P e f = subst (λ (b : List ℕ). P b rest) (sym (told e)) (f rest)
  where
    told : Some bytes ≡ Some (x ++ rest) → bytes ≡ x ++ rest
    told e = cc

pub chunks_are_body : (body : List ℕ) (old new : Option (List ℕ)) → TakesChunks body old new → Told (λ bytes rest. IsBody Chunked bytes body rest) old new
chunks_are_body body old new t = told_behind t.bytes old new (λ bytes rest. IsBody Chunked bytes body rest) t.rest_is t.is_body

-- bytes that were put behind nothing
onto_nothing : (n : ℕ) (a b : List ℕ) (old new : Option (List ℕ)) (t : TakesOnto n a b old new) → length a ≡ 0 → b ≡ t.bytes
onto_nothing n [] b old new t e = t.body_is
onto_nothing n (c ∷ a) b old new t e = absurd (omega (arith, e))

pub piece_is_body : (size : ℕ) (none body : List ℕ) (old new : Option (List ℕ)) → TakesOnto size none body old new → length none ≡ 0 → Told (λ bytes rest. IsBody (Sized size) bytes body rest) old new
piece_is_body size none body old new t e =
    let is = onto_nothing size none body old new t e in
    told_behind t.bytes old new (λ bytes rest. IsBody (Sized size) bytes body rest) t.rest_is (λ rest. (ap (λ w. w ++ rest) (sym is), ap length is ∙ t.count))

pub end_is_body : (n : ℕ) (none body : List ℕ) (old new : Option (List ℕ)) → TakesOnto n none body old new → length none ≡ 0 → n ≤ body_limit → IsAtEnd new → Told (λ bytes rest. IsBody ToEnd bytes body rest) old new
end_is_body n none body None new t e few end = tt
end_is_body n none body (Some bytes) None t e few end = absurd (untold t.rest_is)
  where
    untold : Some bytes ≡ None → ⊥
    untold e = cc
end_is_body n none body (Some bytes) (Some rest) t e few end =
    let is = onto_nothing n none body _ _ t e in
    let whole : bytes ≡ t.bytes ++ rest = told t.rest_is in
    let all : bytes ≡ t.bytes = whole ∙ (ap (λ w. t.bytes ++ w) end ∙ append-nil t.bytes) in
    (is ∙ sym all, end, omega (arith, ap length all, t.count, few))
  where
    told : Some bytes ≡ Some (t.bytes ++ rest) → bytes ≡ t.bytes ++ rest
    told e = cc

-- what is read at most is at most more
pub read_fewer : (few most : ℕ) (old new : Option (List ℕ)) → few ≤ most → ReadsAtMost few old new → ReadsAtMost most old new
read_fewer few most old new h read = record { bytes = read.bytes; read = read.read; within = omega (arith, read.within, h) }

-- ---- bodies that break off at their first byte

pub sized_breaks : (size place at : ℕ) (old new : Option (List ℕ)) → at ≡ place → IfSome old (λ bytes. length bytes < size) → size ≤ body_limit → ReadsAtMost size old new → BodyBreaks (Sized size) place at old new
sized_breaks size place at old new e short few read = record {
  within = 0;
  at_is = omega (arith, e);
  breaks = each old short;
  read = record { bytes = read.bytes; read = read.read; within = omega (arith, read.within, few) };
}
  where
    each : (o : Option (List ℕ)) → IfSome o (λ bytes. length bytes < size) → IfSome o (λ bytes. (length bytes < size) × (◌≡◌ {A = ℕ} 0 0))
    each None h = tt
    each (Some b) h = (h, refl)

pub end_breaks_at : (place at : ℕ) (old new : Option (List ℕ)) → at ≡ place → IfSome old (λ bytes. body_limit < length bytes) → ReadsAtMost (body_limit + 1) old new → BodyBreaks ToEnd place at old new
end_breaks_at place at old new e long read = record {
  within = 0;
  at_is = omega (arith, e);
  breaks = each old long;
  read = record { bytes = read.bytes; read = read.read; within = omega (arith, read.within) };
}
  where
    each : (o : Option (List ℕ)) → IfSome o (λ bytes. body_limit < length bytes) → IfSome o (λ bytes. (body_limit < length bytes) × (◌≡◌ {A = ℕ} 0 0))
    each None h = tt
    each (Some b) h = (h, refl)

-- ---- where the source failed

-- some bytes of a body that goes on to the end of the input, with those that are held
pub end_cut_at : (most : ℕ) (held : List ℕ) (old left : Option (List ℕ)) → ReadsAtMost most old (prepend_known held left) → TakesSome (IsCutBody ToEnd) old left
end_cut_at most held old left read = record { bytes = read.bytes ++ held; read = took_on old (prepend_known held left) left _ _ read.read refl; holds = tt }
