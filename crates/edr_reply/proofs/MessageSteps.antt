-- Whole replies, taken from a source of which nothing was read before.
use Rattle.std.proofs.Common.{◌≡◌, ℕ, ◌+◌, ◌≤◌, length, length-append, List, ◌++◌, sym, ◌∙◌, subst, Some, None, refl, arith, inl, inr}
use Rattle.std.specs.Prelude.{IfSome}
use Rattle.std.specs.declared.option.Option.{Option}
use Rattle.std.specs.Io.KnownBytes.{prepend_known}
use Rattle.httparse.specs.Grammar.{print_response}
use Rattle.edr_base.specs.Calls.{ReadsAtMost}
use Rattle.edr_base.specs.KnownBytes.{took_on}
use Rattle.edr_http.specs.Heads.{Told}
use Rattle.edr_reply.specs.declared.heads.Opening.{Opening}
use Rattle.edr_reply.specs.declared.messages.Message.{Message}
use Rattle.edr_reply.specs.Messages.{fields_of, IsEdition, IsBody, TakesMessage, HasNoMessage, BreaksOff}
use Rattle.edr_reply.specs.BrokenParts.{LacksHead, BreaksBody, BreaksAt, IsFirstBreak}
use Rattle.edr_reply.specs.Taking.{TakesSome, TakesHead, BodyBreaks, IsCutBody}
use Rattle.edr_reply.proofs.MessageLaws.{first_break, none_broken, head_no_end, body_no_end}
use Rattle.edr_reply.proofs.ChunkSteps.{behind}

pub head_early : (opening : Opening) (old new : Option (List ℕ)) → TakesHead opening old new → opening.len ≤ 16384
head_early opening old new t = let short = t.1.short in omega (arith, short, t.2.len)

-- ---- with Ok

pub message_taken : (opening : Opening) (message : Message) (held body : List ℕ) (left mid left' : Option (List ℕ)) → TakesHead opening left mid
    → Told (λ bytes rest. IsBody opening.framing bytes body rest) mid (prepend_known held left') → length held ≤ 16384
    → message.status ≡ opening.status → message.edition ≡ opening.edition → message.body ≡ body → Told (TakesMessage message) left left'
message_taken opening message held body None mid left' t told few s e b = tt
message_taken opening message held body (Some bytes) None left' t told few s e b = absurd (untold t.3)
  where
    untold : Some bytes ≡ None → ⊥
    untold e = cc
message_taken opening message held body (Some bytes) (Some rest) None t told few s e b = absurd told
message_taken opening message held body (Some bytes) (Some rest) (Some more) t told few s e b = (
  held,
  record {
    head = t.0;
    behind = rest;
    framing = opening.framing;
    begins = (t.1, here t.3);
    status = s ∙ t.2.status;
    edition = subst (λ (n : Option ℕ). IsEdition (fields_of t.0) n) (sym e) t.2.edition;
    framed = t.2.framed;
    body = subst (λ (w : List ℕ). IsBody opening.framing rest w (held ++ more)) (sym b) told;
  },
  few,
)
  where
    here : Some bytes ≡ Some (print_response t.0 ++ rest) → bytes ≡ print_response t.0 ++ rest
    here e = cc

-- ---- where it breaks off

pub head_breaks : (place : ℕ) (left : Option (List ℕ)) → place ≡ 0 → IfSome left LacksHead → IfSome left (λ bytes. BreaksAt bytes place)
head_breaks place None e lacks = tt
head_breaks place (Some bytes) e lacks = inl (lacks, e)

pub body_breaks : (opening : Opening) (place : ℕ) (left mid new : Option (List ℕ)) → TakesHead opening left mid → BodyBreaks opening.framing opening.len place mid new → IfSome left (λ bytes. BreaksAt bytes place)
body_breaks opening place left mid new t b =
    behind (print_response t.0) left mid (λ bytes. BreaksBody opening.framing bytes b.within) (λ bytes. BreaksAt bytes place) t.3 b.breaks
    (λ rest h. inr (record {
      head = t.0;
      rest = rest;
      framing = opening.framing;
      within = b.within;
      begins = (t.1, refl);
      framed = t.2.framed;
      breaks = h;
      place_is = omega (arith, b.at_is, t.2.len);
    }))

pub breaks_first : (place : ℕ) (left : Option (List ℕ)) → IfSome left (λ bytes. BreaksAt bytes place) → IfSome left (λ bytes. IsFirstBreak bytes place)
breaks_first place None h = tt
breaks_first place (Some bytes) h = first_break bytes place h

pub breaks_none : (place : ℕ) (left : Option (List ℕ)) → IfSome left (λ bytes. BreaksAt bytes place) → IfSome left HasNoMessage
breaks_none place None h = tt
breaks_none place (Some bytes) h = none_broken bytes place h

-- ---- where the source failed

pub head_off : (left left' : Option (List ℕ)) → TakesSome LacksHead left left' → BreaksOff left left'
head_off left left' s = record { bytes = s.bytes; read = s.read; unfinished = head_no_end s.bytes s.holds }

pub body_off : (opening : Opening) (left mid left' : Option (List ℕ)) → TakesHead opening left mid → TakesSome (IsCutBody opening.framing) mid left' → BreaksOff left left'
body_off opening left mid left' t s = record {
  bytes = print_response t.0 ++ s.bytes;
  read = took_on left mid left' _ _ t.3 s.read;
  unfinished = body_no_end (print_response t.0 ++ s.bytes) s.bytes t.0 opening.framing (t.1, refl) t.2.framed s.holds;
}

-- ---- what was read

-- what is held was read, and no more
pub held_read : (most : ℕ) (held : List ℕ) (left left' : Option (List ℕ)) → prepend_known held left' ≡ left → length held ≤ 16384 → 16384 ≤ most → ReadsAtMost most left left'
held_read most held left left' e few enough = record { bytes = held; read = sym e; within = omega (arith, few, enough) }

pub body_read : (opening : Opening) (most all : ℕ) (held : List ℕ) (left mid left' : Option (List ℕ)) → TakesHead opening left mid → ReadsAtMost most mid (prepend_known held left') → length held ≤ 16384
    → (opening.len + most) + 16384 ≤ all → ReadsAtMost all left left'
body_read opening most all held left mid left' t read few enough = record {
  bytes = print_response t.0 ++ (read.bytes ++ held);
  read = took_on left mid left' _ _ t.3 (took_on mid (prepend_known held left') left' _ _ read.read refl);
  within = omega (arith, length-append (print_response t.0) (read.bytes ++ held), length-append read.bytes held, read.within, few, enough, t.2.len);
}
