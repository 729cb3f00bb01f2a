use Rattle.std.proofs.Common.{◌≡◌, List, ℕ, [], ◌∷◌, ◌++◌, append_assoc, sym, ap, ◌∙◌, subst, arith}
use Rattle.std.proofs.lemmas.Result.{err_from_is_err_and}
use Rattle.edr_feed.specs.Readings.{HasRead, ReadsOn}
use Rattle.edr_feed.proofs.StepLemmas.{from_some, goes_from}
use Rattle.edr_feed.proofs.FeedReadings.{fault_of_front, piece_part, piece_line, front_more}
use Rattle.edr_feed.proofs.reading.read_on.Goals as goal

pub go_on-requires-clause-reading : goal.go_on-requires-clause-reading
go_on-requires-clause-reading c = record { bytes = _; read = c.loop-part.invariant.read c.requires.bytes c.requires.read }

pub returns-in_err-go_on-clause-read : goal.returns-in_err-go_on-clause-read
returns-in_err-go_on-clause-read c = λ bytes h.
    let p = err_from_is_err_and c.from_residual.result c.from_residual.ensures.1 in
    let i = c.loop-part.invariant in
    let cut = piece_part bytes i.front c.in-Some.part.now c.in-Some.behind.now _ c.args.piece.now i.cut c.in-Some.ensures.text_is in
    rw (p.1, p.2) (fault_of_front (bytes ++ c.args.piece.now) ((bytes ++ i.front) ++ c.in-Some.part.now) (10 ∷ c.in-Some.behind.now) _ cut (c.in_err-go_on.ensures.read (bytes ++ i.front) (i.read bytes h)))

pub end_line-requires : goal.end_line-requires
end_line-requires c =
    record { bytes = _; read = c.in_ok-go_on.ensures.read _ (c.loop-part.invariant.read c.requires.bytes c.requires.read) }

pub returns-in_err-end_line-clause-read : goal.returns-in_err-end_line-clause-read
returns-in_err-end_line-clause-read c = λ bytes h.
    let p = err_from_is_err_and c.from_residual-in_err-end_line.result c.from_residual-in_err-end_line.ensures.1 in
    let i = c.loop-part.invariant in
    let cut = piece_line bytes i.front c.in-Some.part.now c.in-Some.behind.now _ c.args.piece.now i.cut c.in-Some.ensures.text_is in
    rw (p.1, p.2) (fault_of_front (bytes ++ c.args.piece.now) (((bytes ++ i.front) ++ c.in-Some.part.now) ++ 10 ∷ []) c.in-Some.behind.now _ cut (c.in_err-end_line.ensures.read _ (c.in_ok-go_on.ensures.read (bytes ++ i.front) (i.read bytes h))))

pub loop-part-preserved : goal.loop-part-preserved
loop-part-preserved c =
    let i = c.loop-part.invariant in
    let part = c.in-Some.part.now in
    record {
      front = i.front ++ (part ++ 10 ∷ []);
      cut = front_more i.front part c.in-Some.behind.now _ c.args.piece.now i.cut c.in-Some.ensures.text_is;
      number = omega (arith, i.number, c.in_ok-go_on.ensures.on, c.in_ok-end_line.ensures.on);
      read = λ bytes h.
          let all : ((bytes ++ i.front) ++ part) ++ 10 ∷ [] ≡ bytes ++ (i.front ++ (part ++ 10 ∷ [])) = simp append_assoc in
          subst (λ (w : List ℕ). HasRead w c.end_line.new.now) all (c.in_ok-end_line.ensures.read _ (c.in_ok-go_on.ensures.read (bytes ++ i.front) (i.read bytes h)));
    }

pub go_on-requires-2-clause-reading : goal.go_on-requires-2-clause-reading
go_on-requires-2-clause-reading c = record { bytes = _; read = c.loop-part.invariant.read c.requires.bytes c.requires.read }

pub returns-clause-read : goal.returns-clause-read
returns-clause-read c = λ bytes h.
    let i = c.loop-part.invariant in
    let all : (bytes ++ i.front) ++ c.loop-part.rest.now ≡ bytes ++ c.args.piece.now =
    append_assoc bytes i.front c.loop-part.rest.now ∙ ap (λ w. bytes ++ w) (sym i.cut) in
    subst (λ (w : List ℕ). ReadsOn c.go_on-2.result w c.go_on-2.new.now) all (c.go_on-2.ensures.read (bytes ++ i.front) (i.read bytes h))

pub returns-in_err-go_on-clause-on : goal.returns-in_err-go_on-clause-on
returns-in_err-go_on-clause-on c =
    let p = err_from_is_err_and c.from_residual.result c.from_residual.ensures.1 in
    rw (p.1, p.2) (from_some _ _ _ c.loop-part.invariant.number c.in_err-go_on.ensures.on)

pub returns-in_err-end_line-clause-on : goal.returns-in_err-end_line-clause-on
returns-in_err-end_line-clause-on c =
    let p = err_from_is_err_and c.from_residual-in_err-end_line.result c.from_residual-in_err-end_line.ensures.1 in
    rw (p.1, p.2) (from_some _ _ _ (omega (arith, c.loop-part.invariant.number, c.in_ok-go_on.ensures.on)) c.in_err-end_line.ensures.on)

pub returns-clause-on : goal.returns-clause-on
returns-clause-on c = goes_from _ _ c.go_on-2.result _ c.loop-part.invariant.number c.go_on-2.ensures.on
