use Rattle.std.proofs.Common.{◌≡◌, ℕ, List, ◌+◌, ◌-◌, ◌∙◌, length, ap, sym, subst, arith, Err}
use Rattle.std.specs.declared.option.Option.{Option}
use Rattle.std.specs.Io.KnownBytes.{prepend_known}
use Rattle.edr_reply.specs.declared.messages.MessageFault.TheVariants.{Broken, ReadFault}
use Rattle.edr_reply.specs.Messages.{body_limit}
use Rattle.edr_reply.specs.Taking.{TakesSome, TakesLine, IsCutChunk}
use Rattle.edr_reply.proofs.ChunkSteps.{broken_is, failed_is, last_breaks, piece_breaks, end_breaks, line_cut, last_cut, piece_cut, end_cut, piece_bounded, end_bounded, chunk_taken}
use Rattle.edr_reply.proofs.chunks.take_chunk.Goals as goal

pub returns-in-Err-take_end-clause-broken : goal.returns-in-Err-take_end-clause-broken
returns-in-Err-take_end-clause-broken g c at e =
    let room : 67108864 - c.len.result ≡ body_limit - length c.args.body.now.items = omega (arith, c.len.ensures) in
    let taken = subst (λ (r : ℕ). TakesLine r c.in-Ok.line (prepend_known c.args.held.now (g.S.Source.left c.args.source.now)) (prepend_known c.take_line.new.held (g.S.Source.left c.take_line.new.source))) room c.in-Ok.ensures.taken in
    let fault : c.at_place-in-Err-take_end.result ≡ Broken at = cc in
    let b = broken_is c.in-Err-take_end.fault (c.args.place + c.in-Ok.line.len) at (sym c.at_place-in-Err-take_end.ensures ∙ fault) in
    last_breaks c.args.place at _ c.in-Ok.line _ _ _ taken c.if-line-eq0.true (c.in-Err-take_end.ensures.lacking (ap Err b.0)) c.in-Err-take_end.ensures.same b.1

pub returns-in-Err-take_piece-clause-broken : goal.returns-in-Err-take_piece-clause-broken
returns-in-Err-take_piece-clause-broken g c at e =
    let room : 67108864 - c.len.result ≡ body_limit - length c.args.body.now.items = omega (arith, c.len.ensures) in
    let taken = subst (λ (r : ℕ). TakesLine r c.in-Ok.line (prepend_known c.args.held.now (g.S.Source.left c.args.source.now)) (prepend_known c.take_line.new.held (g.S.Source.left c.take_line.new.source))) room c.in-Ok.ensures.taken in
    let fault : c.at_place-in-Err-take_piece.result ≡ Broken at = cc in
    let b = broken_is c.in-Err-take_piece.fault (c.args.place + c.in-Ok.line.len) at (sym c.at_place-in-Err-take_piece.ensures ∙ fault) in
    piece_breaks c.args.place at _ c.in-Ok.line _ _ _ taken (omega arith) (c.in-Err-take_piece.ensures.lacking (ap Err b.0)) c.in-Err-take_piece.ensures.bounded b.1

pub returns-in-Err-take_piece-clause-bounded : goal.returns-in-Err-take_piece-clause-bounded
returns-in-Err-take_piece-clause-bounded g c =
    piece_bounded _ c.in-Ok.line _ _ _ c.in-Ok.ensures.taken (omega arith) c.in-Err-take_piece.ensures.bounded

pub returns-in-Ok-take_end-2-clause-next : goal.returns-in-Ok-take_end-2-clause-next
returns-in-Ok-take_end-2-clause-next g c =
    let room : 67108864 - c.len.result ≡ body_limit - length c.args.body.now.items = omega (arith, c.len.ensures) in
    chunk_taken c.args.place _ c.in-Ok.line _ _ _ _ _ _ c.in-Ok.ensures.taken room c.requires.room c.if-line-eq0.false c.in-Ok-take_piece.ensures.taken c.in-Ok-take_end-2.ensures.taken

pub returns-in-Err-take_end-2-clause-broken : goal.returns-in-Err-take_end-2-clause-broken
returns-in-Err-take_end-2-clause-broken g c at e =
    let room : 67108864 - c.len.result ≡ body_limit - length c.args.body.now.items = omega (arith, c.len.ensures) in
    let taken = subst (λ (r : ℕ). TakesLine r c.in-Ok.line (prepend_known c.args.held.now (g.S.Source.left c.args.source.now)) (prepend_known c.take_line.new.held (g.S.Source.left c.take_line.new.source))) room c.in-Ok.ensures.taken in
    let fault : c.at_place-in-Err-take_end-2.result ≡ Broken at = cc in
    let b = broken_is c.in-Err-take_end-2.fault ((c.args.place + c.in-Ok.line.len) + c.in-Ok.line.size) at (sym c.at_place-in-Err-take_end-2.ensures ∙ fault) in
    end_breaks c.args.place at _ c.in-Ok.line _ _ _ _ _ _ taken (omega arith) c.if-line-eq0.false c.in-Ok-take_piece.ensures.taken (c.in-Err-take_end-2.ensures.lacking (ap Err b.0)) c.in-Err-take_end-2.ensures.same b.1

pub returns-in-Err-take_end-2-clause-bounded : goal.returns-in-Err-take_end-2-clause-bounded
returns-in-Err-take_end-2-clause-bounded g c =
    end_bounded _ c.in-Ok.line _ _ _ _ _ _ c.in-Ok.ensures.taken (omega arith) c.in-Ok-take_piece.ensures.taken c.in-Err-take_end-2.ensures.same

-- the room that the line had is that of the body
room_is : (room limit size : ℕ) (old new : Option (List ℕ)) → room ≡ limit - size → TakesSome (IsCutChunk room) old new → TakesSome (IsCutChunk (limit - size)) old new
room_is room limit size old new e s = subst (λ (r : ℕ). TakesSome (IsCutChunk r) old new) e s

pub returns-in-Err-clause-unfinished : goal.returns-in-Err-clause-unfinished
returns-in-Err-clause-unfinished g c e =
    let room : 67108864 - c.len.result ≡ body_limit - length c.args.body.now.items = omega (arith, c.len.ensures) in
    let fault : c.at_place.result ≡ ReadFault = cc in
    let f = failed_is c.in-Err.fault c.args.place (sym c.at_place.ensures ∙ fault) in
    room_is _ _ _ _ _ room (line_cut _ _ _ (c.in-Err.ensures.unfinished (ap Err f)))

pub returns-in-Err-take_end-clause-unfinished : goal.returns-in-Err-take_end-clause-unfinished
returns-in-Err-take_end-clause-unfinished g c e =
    let room : 67108864 - c.len.result ≡ body_limit - length c.args.body.now.items = omega (arith, c.len.ensures) in
    let fault : c.at_place-in-Err-take_end.result ≡ ReadFault = cc in
    let f = failed_is c.in-Err-take_end.fault (c.args.place + c.in-Ok.line.len) (sym c.at_place-in-Err-take_end.ensures ∙ fault) in
    room_is _ _ _ _ _ room (last_cut _ c.in-Ok.line _ _ _ c.in-Ok.ensures.taken c.if-line-eq0.true (c.in-Err-take_end.ensures.unfinished (ap Err f)))

pub returns-in-Err-take_piece-clause-unfinished : goal.returns-in-Err-take_piece-clause-unfinished
returns-in-Err-take_piece-clause-unfinished g c e =
    let room : 67108864 - c.len.result ≡ body_limit - length c.args.body.now.items = omega (arith, c.len.ensures) in
    let fault : c.at_place-in-Err-take_piece.result ≡ ReadFault = cc in
    let f = failed_is c.in-Err-take_piece.fault (c.args.place + c.in-Ok.line.len) (sym c.at_place-in-Err-take_piece.ensures ∙ fault) in
    room_is _ _ _ _ _ room (piece_cut _ c.in-Ok.line _ _ _ c.in-Ok.ensures.taken (c.in-Err-take_piece.ensures.unfinished (ap Err f)))

pub returns-in-Err-take_end-2-clause-unfinished : goal.returns-in-Err-take_end-2-clause-unfinished
returns-in-Err-take_end-2-clause-unfinished g c e =
    let room : 67108864 - c.len.result ≡ body_limit - length c.args.body.now.items = omega (arith, c.len.ensures) in
    let fault : c.at_place-in-Err-take_end-2.result ≡ ReadFault = cc in
    let f = failed_is c.in-Err-take_end-2.fault ((c.args.place + c.in-Ok.line.len) + c.in-Ok.line.size) (sym c.at_place-in-Err-take_end-2.ensures ∙ fault) in
    room_is _ _ _ _ _ room (end_cut _ c.in-Ok.line _ _ _ _ _ _ c.in-Ok.ensures.taken c.if-line-eq0.false c.in-Ok-take_piece.ensures.taken (c.in-Err-take_end-2.ensures.unfinished (ap Err f)))

pub returns-in-Err-clause-cause : goal.returns-in-Err-clause-cause
returns-in-Err-clause-cause g c e =
    let fault : c.at_place.result ≡ ReadFault = cc in
    let rose = c.in-Err.ensures.cause (ap Err (failed_is c.in-Err.fault c.args.place (sym c.at_place.ensures ∙ fault))) in
    omega (arith, rose)

pub returns-in-Err-take_end-clause-cause : goal.returns-in-Err-take_end-clause-cause
returns-in-Err-take_end-clause-cause g c e =
    let fault : c.at_place-in-Err-take_end.result ≡ ReadFault = cc in
    let rose = c.in-Err-take_end.ensures.cause (ap Err (failed_is c.in-Err-take_end.fault (c.args.place + c.in-Ok.line.len) (sym c.at_place-in-Err-take_end.ensures ∙ fault))) in
    omega (arith, rose, c.take_line.ensures.lent.later)

pub returns-in-Err-take_piece-clause-cause : goal.returns-in-Err-take_piece-clause-cause
returns-in-Err-take_piece-clause-cause g c e =
    let fault : c.at_place-in-Err-take_piece.result ≡ ReadFault = cc in
    let rose = c.in-Err-take_piece.ensures.cause (ap Err (failed_is c.in-Err-take_piece.fault (c.args.place + c.in-Ok.line.len) (sym c.at_place-in-Err-take_piece.ensures ∙ fault))) in
    omega (arith, rose, c.take_line.ensures.lent.later)

pub returns-in-Err-take_end-2-clause-cause : goal.returns-in-Err-take_end-2-clause-cause
returns-in-Err-take_end-2-clause-cause g c e =
    let fault : c.at_place-in-Err-take_end-2.result ≡ ReadFault = cc in
    let rose = c.in-Err-take_end-2.ensures.cause (ap Err (failed_is c.in-Err-take_end-2.fault ((c.args.place + c.in-Ok.line.len) + c.in-Ok.line.size) (sym c.at_place-in-Err-take_end-2.ensures ∙ fault))) in
    omega (arith, rose, c.take_line.ensures.lent.later, c.take_piece.ensures.lent.later)
