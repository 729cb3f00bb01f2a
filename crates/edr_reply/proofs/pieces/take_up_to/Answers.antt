use Rattle.std.proofs.Common.{◌≡◌, ◌≤◌, ap, length, length-drop, subst, sym, rules, arith}
use Rattle.std.specs.declared.option.Option.{Option}
use Rattle.std.specs.Prelude.{List, ℕ}
use Rattle.std.specs.Io.KnownBytes.{prepend_known}
use Rattle.edr_reply.specs.Taking.{TakesOnto}
use Rattle.edr_reply.proofs.RestLemmas.{moved_onto, onto_more, some_taken}
use Rattle.edr_reply.proofs.pieces.take_up_to.Goals as goal

pub loop-taken-init : goal.loop-taken-init
loop-taken-init g c =
    let count = c.in_ok-taken.ensures.count in
    let held = c.in_ok-taken.ensures.held in
    let some : c.in_ok-taken.taken ≤ length c.args.held.now = omega (arith, count) in
    record {
      takes = moved_onto c.in_ok-taken.taken _ _ _ _ (g.S.Source.left c.args.source.now) some c.in_ok-taken.ensures.body held;
      few = omega (arith, count);
      empty = λ less. omega (arith, count, less, ap length held, length-drop c.in_ok-taken.taken c.args.held.now);
      lent = search rules;
    }

pub loop-taken-preserved : goal.loop-taken-preserved
loop-taken-preserved g c =
    let i = c.loop-taken.invariant in
    let more = c.in_ok-taken-2.ensures in
    let count = more.count in
    let some : c.in_ok-taken-2.field-0 ≤ length c.read_on.new.held = omega (arith, count) in
    let here = moved_onto c.in_ok-taken-2.field-0 _ _ _ _ (g.S.Source.left c.read_on.new.source) some more.body more.held in
    let before = subst (λ (r : Option (List ℕ)). TakesOnto c.loop-taken.taken c.args.body.now.items c.loop-taken.body.items (prepend_known c.args.held.now (g.S.Source.left c.args.source.now)) r) (sym c.read_on.ensures.rest) i.takes in
    record {
      takes = onto_more _ _ _ _ _ _ _ _ before here;
      few = omega (arith, count);
      empty = λ less. omega (arith, count, less, ap length more.held, length-drop c.in_ok-taken-2.field-0 c.read_on.new.held);
      lent = search rules;
    }

pub returns-in_err-outcome-in_default-clause-unfinished : goal.returns-in_err-outcome-in_default-clause-unfinished
returns-in_err-outcome-in_default-clause-unfinished g c e =
    let i = c.loop-taken.invariant in
    let none = i.empty c.loop-taken-test.true in
    let kept : c.read_on.new.held ≡ c.loop-taken.held = search rules in
    let before = subst (λ (r : Option (List ℕ)). TakesOnto c.loop-taken.taken c.args.body.now.items c.loop-taken.body.items (prepend_known c.args.held.now (g.S.Source.left c.args.source.now)) r) (sym c.read_on.ensures.rest) i.takes in
    some_taken c.args.most c.loop-taken.taken _ _ c.read_on.new.held _ _ before c.loop-taken-test.true (omega (arith, ap length kept, none))
