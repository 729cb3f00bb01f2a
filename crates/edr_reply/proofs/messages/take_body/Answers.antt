use Rattle.std.proofs.Common.{rules, arith, ◌≡◌, ◌∙◌, ap, sym, Err}
use Rattle.edr_reply.specs.declared.messages.MessageFault.TheVariants.{Broken, ReadFault}
use Rattle.edr_reply.specs.Taking.{most_of_body}
use Rattle.edr_reply.proofs.ChunkSteps.{broken_is, failed_is}
use Rattle.edr_reply.proofs.BodySteps.{chunks_are_body, piece_is_body, end_is_body, read_fewer, sized_breaks, end_breaks_at, end_cut_at}
use Rattle.edr_reply.proofs.messages.take_body.Goals as goal

pub returns-in_ok-take_chunks-in-Chunked-clause-body : goal.returns-in_ok-take_chunks-in-Chunked-clause-body
returns-in_ok-take_chunks-in-Chunked-clause-body g c = rw c.in-Chunked.is (chunks_are_body _ _ _ c.in_ok-take_chunks-in-Chunked.ensures.taken)

pub returns-in-Ok-clause-body : goal.returns-in-Ok-clause-body
returns-in-Ok-clause-body g c = rw c.in-Sized.is (piece_is_body _ _ _ _ _ c.in-Ok.ensures.taken (search rules))

pub returns-in-Err-clause-broken : goal.returns-in-Err-clause-broken
returns-in-Err-clause-broken g c at e =
    let fault : c.at_place.result ≡ Broken at = cc in
    let b = broken_is c.in-Err.fault c.args.place at (sym c.at_place.ensures ∙ fault) in
    let few = rw c.in-Sized.is at c.requires.few in
    rw c.in-Sized.is (sized_breaks _ c.args.place at _ _ b.1 (c.in-Err.ensures.lacking (ap Err b.0)) few c.in-Err.ensures.bounded)

pub returns-in-Ok-take_to_end-clause-body : goal.returns-in-Ok-take_to_end-clause-body
returns-in-Ok-take_to_end-clause-body g c =
    let t = c.in-Ok-take_to_end.ensures.taken in
    rw c.in-ToEnd.is (end_is_body t.0 _ _ _ _ t.1 (search rules) t.2 c.in-Ok-take_to_end.ensures.ended)

pub returns-in-Err-take_to_end-clause-broken : goal.returns-in-Err-take_to_end-clause-broken
returns-in-Err-take_to_end-clause-broken g c at e =
    let fault : c.at_place-in-Err-take_to_end.result ≡ Broken at = cc in
    let b = broken_is c.in-Err-take_to_end.fault c.args.place at (sym c.at_place-in-Err-take_to_end.ensures ∙ fault) in
    rw c.in-ToEnd.is (end_breaks_at c.args.place at _ _ b.1 (c.in-Err-take_to_end.ensures.lacking (ap Err b.0)) c.in-Err-take_to_end.ensures.bounded)

pub returns-in-Err-take_to_end-clause-unfinished : goal.returns-in-Err-take_to_end-clause-unfinished
returns-in-Err-take_to_end-clause-unfinished g c e =
    rw c.in-ToEnd.is (end_cut_at _ _ _ _ c.in-Err-take_to_end.ensures.bounded)

pub returns-in-Ok-clause-bounded : goal.returns-in-Ok-clause-bounded
returns-in-Ok-clause-bounded g c =
    let few = rw c.in-Sized.is at c.requires.few in
    read_fewer _ most_of_body _ _ (omega (arith, few)) c.take_piece.ensures.bounded

pub returns-in-Err-clause-bounded : goal.returns-in-Err-clause-bounded
returns-in-Err-clause-bounded g c =
    let few = rw c.in-Sized.is at c.requires.few in
    read_fewer _ most_of_body _ _ (omega (arith, few)) c.take_piece.ensures.bounded

pub returns-in-Ok-take_to_end-clause-bounded : goal.returns-in-Ok-take_to_end-clause-bounded
returns-in-Ok-take_to_end-clause-bounded g c = read_fewer _ most_of_body _ _ (omega arith) c.take_to_end.ensures.bounded

pub returns-in-Err-take_to_end-clause-bounded : goal.returns-in-Err-take_to_end-clause-bounded
returns-in-Err-take_to_end-clause-bounded g c = read_fewer _ most_of_body _ _ (omega arith) c.take_to_end.ensures.bounded

pub returns-in-Err-clause-cause : goal.returns-in-Err-clause-cause
returns-in-Err-clause-cause g c e =
    let fault : c.at_place.result ≡ ReadFault = cc in
    c.in-Err.ensures.cause (ap Err (failed_is c.in-Err.fault c.args.place (sym c.at_place.ensures ∙ fault)))

pub returns-in-Err-take_to_end-clause-cause : goal.returns-in-Err-take_to_end-clause-cause
returns-in-Err-take_to_end-clause-cause g c e =
    let fault : c.at_place-in-Err-take_to_end.result ≡ ReadFault = cc in
    c.in-Err-take_to_end.ensures.cause (ap Err (failed_is c.in-Err-take_to_end.fault c.args.place (sym c.at_place-in-Err-take_to_end.ensures ∙ fault)))

pub returns-in-Err-clause-unfinished : goal.returns-in-Err-clause-unfinished
returns-in-Err-clause-unfinished g c e =
    let fault : c.at_place.result ≡ ReadFault = cc in
    rw c.in-Sized.is (c.in-Err.ensures.unfinished (ap Err (failed_is c.in-Err.fault c.args.place (sym c.at_place.ensures ∙ fault))))
