use Rattle.std.proofs.Common.{◌≡◌, ◌++◌, ◌<◌, ℕ, List, [], length, take, drop, Some, Ok, refl, ap, subst}
use Rattle.std.proofs.lemmas.Bool.{false≢true}
use Rattle.edr_base.proofs.PlanLemmas.{plan_kept, plan_failed, rose_by, later_same, later_by, no_more, no_room, some_room, no_some}
use Rattle.edr_base.proofs.memory_source.MemorySourceSource.read.Goals as goal

pub returns : goal.returns
returns c =
    let old = c.args.self.now in
    let s = c.strikes-fails.ensures in
    let g = c.give_from.ensures in
    record {
      bound = g.bound.0;
      empty = λ none. ap Ok (no_more _ _ g.bound.0 none);
      bytes = (
        subst (λ (bytes : List ℕ). Some (drop old.at bytes) ≡ Some (take c.give_from.result c.give_from.new.buf ++ drop c.give_from.new.at bytes)) c.deref.ensures.value (ap Some g.bytes),
        subst (λ (bytes : List ℕ). c.give_from.result ≡ 0 → 0 < length c.give_from.new.buf → drop c.give_from.new.at bytes ≡ []) c.deref.ensures.value g.end,
      );
      lent = record { same = refl; later = later_same _ _ s.faults };
      cause = tt;
      idle = λ e. absurd (false≢true e);
      cut = g.bound.1;
      fails = (λ e. absurd (false≢true e), λ w. c.if-fails.ensures.strikes.1 w.1);
      plan = plan_kept _ old.plan c.strikes-fails.new.self false≢true s.fails s.calls s.faults;
      kept_cut = refl;
    }

pub returns-then-fails : goal.returns-then-fails
returns-then-fails c =
    let old = c.args.self.now in
    let s = c.strikes-fails.ensures in
    let f = c.count_fault.ensures in
    let room = some_room (length c.args.buf.now) c.if-is_empty.ensures in
    record {
      bound = tt;
      empty = λ none. absurd (no_room _ c.if-is_empty.ensures none);
      bytes = refl;
      lent = record { same = refl; later = later_by _ _ _ old.plan.fits s.faults f.faults };
      cause = rose_by _ _ _ s.faults f.faults;
      idle = λ e. absurd (false≢true e);
      cut = tt;
      fails = (λ _. (room, c.if-fails.ensures.strikes.0 refl), λ _. refl);
      plan = plan_failed _ old.plan c.strikes-fails.new.self c.count_fault.new.self refl s.fails s.calls s.faults f.faults f.calls;
      kept_cut = refl;
    }

pub returns-then-is_empty-clause-fails : goal.returns-then-is_empty-clause-fails
returns-then-is_empty-clause-fails c =
    (λ e. absurd (false≢true e), λ w. absurd (no_some _ c.if-is_empty.ensures w.0))
