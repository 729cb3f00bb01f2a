use Rattle.std.proofs.Common.{◌≡◌, ◌+◌, ◌≤◌, ◌∙◌, length, ap, sym, take, rules, arith}
use Rattle.std.proofs.lemmas.List.{length-take-le}
use Rattle.edr_http.specs.ChunkedSinkParts.{piece_in}
use Rattle.edr_http.proofs.ChunkFrames.{no_part}
use Rattle.edr_http.proofs.ChunkSteps.{piece_kept, body_grows}
use Rattle.edr_http.proofs.chunked_sink.ChunkedSink.take_in.Goals as goal

pub invariant_of-self : goal.invariant_of-self
invariant_of-self g c =
    let s = c.args.self.now in
    let none : s.sent ≡ 0 = no_part s.sent s.used s.whole c.requires.room in
    record {
      within = search rules;
      whole = λ some. omega (arith, none, some);
      framed = λ going. c.fill.ensures.framed;
      room = s.room;
      kept = piece_kept s.ended s.pieces s.sent (piece_in s.frame s.used) _ _ none s.kept;
    }

pub returns-clause-body : goal.returns-clause-body
returns-clause-body g c =
    let s = c.args.self.now in
    let k : c.min-count.result ≤ length c.args.piece.now = search rules in
    let l = length-take-le c.min-count.result c.args.piece.now k in
    body_grows s.pieces s.sent (piece_in s.frame s.used) _ (take c.min-count.result c.args.piece.now) _
    (ap (λ i. piece_in c.fill.new.frame (s.used + i)) (sym l) ∙ c.fill.ensures.piece)
