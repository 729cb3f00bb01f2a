use Rattle.std.proofs.Common.{◌≡◌, ◌+◌, ◌-◌, ℕ, arith, take, drop, rules}
use Rattle.std.proofs.lemmas.Result.{IfOk-from_err}
use Rattle.json.specs.Filled.{Placed}
use Rattle.covjson_write.specs.Pieces.{values_from}
use Rattle.covjson_write.proofs.PlaceLemmas.{chunk_gathered, chunk_stopped, chunks_written}
use Rattle.covjson_write.proofs.values.send_behind.Goals as goal

pub loop-done-preserved : goal.loop-done-preserved
loop-done-preserved g c =
    let count : ℕ = c.fitting-count.result in
    let done : ℕ = c.loop-done.done in
    let same : done + count - done ≡ count = omega arith in
    let placed : Placed c.loop-done.piece c.place_values-used.new.buffer c.in_ok-left.left (values_from 1 (take count (drop done c.args.samples.now))) c.place_values-used.result =
    rw same at c.place_values-used.ensures.text in
    record {
      size = search rules;
      used_in = search rules;
      done_in = omega (arith, c.fitting-count.ensures.left, c.loop-done-test.true);
      gathered = chunk_gathered _ _ _ (take c.args.gathered c.args.piece.now) c.loop-done.piece c.place_values-used.new.buffer c.loop-done.used c.in_ok-left.left c.place_values-used.result c.args.samples.now done count
          (omega (arith, c.fitting-count.ensures.left, c.loop-done-test.true)) c.loop-done.invariant.gathered c.in_ok-left.ensures.kept placed;
      flushed = search rules;
      lent = search rules;
    }

pub returns-in_err-left-clause-bytes : goal.returns-in_err-left-clause-bytes
returns-in_err-left-clause-bytes g c = record {
  whole = IfOk-from_err _ _ c.from_residual.ensures.0;
  front = chunk_stopped _ _ _ (take c.args.gathered c.args.piece.now) (take c.loop-done.used c.loop-done.piece) c.args.samples.now c.loop-done.done c.loop-done.invariant.done_in c.loop-done.invariant.gathered c.in_err-left.ensures.front;
}

pub returns-clause-bytes : goal.returns-clause-bytes
returns-clause-bytes g c =
    chunks_written c.send.result _ _ _ (take c.args.gathered c.args.piece.now) (take c.loop-done.used c.loop-done.piece) c.args.samples.now c.loop-done.done c.loop-done-test.false c.loop-done.invariant.gathered c.send.ensures.bytes
