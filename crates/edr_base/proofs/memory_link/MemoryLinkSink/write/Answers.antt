use Rattle.std.proofs.Common.{Some, Ok, not, refl, sym, ap, ◌∙◌}
use Rattle.std.proofs.lemmas.Bool.{false≢true}
use Rattle.edr_base.proofs.PlanLemmas.{plan_kept, plan_failed, rose_by, later_same, later_by, is_failed, is_wanting, no_more, taken, cut_off, no_room, no_some, some_room}
use Rattle.edr_base.proofs.memory_link.MemoryLinkSink.write.Goals as goal

pub returns : goal.returns
returns c =
    let old = c.args.self.now in
    let s = c.strikes-fails.ensures in
    let least = c.min-count.ensures in
    let took = taken _ _ _ least old.gives in
    record {
      bound = took;
      empty = λ none. ap Ok (no_more _ _ took.0 none);
      bytes = ap Some c.in_ok-extend_from_slice.ensures.items;
      flushed = refl;
      lent = record { same = refl; later = later_same _ _ s.faults };
      cause = λ e. absurd (false≢true (ap is_failed e));
      idle = λ e. absurd (false≢true (sym (ap not c.if-not-self.false) ∙ e));
      cut = cut_off _ _ _ least;
      fails = (λ e. absurd (false≢true (ap is_failed e)), λ w. absurd (false≢true (c.if-fails.ensures.strikes.1 w.2)));
      plan = plan_kept _ old.plan c.strikes-fails.new.self (λ e. false≢true (ap is_failed e)) s.fails s.calls s.faults;
      kept_cut = refl;
    }

pub returns-then-not-self : goal.returns-then-not-self
returns-then-not-self c =
    let old = c.args.self.now in
    let s = c.strikes-fails.ensures in
    record {
      bound = tt;
      empty = λ none. absurd (no_room _ c.if-is_empty.ensures none);
      bytes = refl;
      flushed = refl;
      lent = record { same = refl; later = later_same _ _ s.faults };
      cause = λ e. absurd (false≢true (ap is_failed e));
      idle = λ _ _. (refl, s.faults);
      cut = tt;
      fails = (λ e. absurd (false≢true (ap is_failed e)), λ w. absurd (false≢true (sym w.0 ∙ ap not c.if-not-self.true)));
      plan = plan_kept _ old.plan c.strikes-fails.new.self (λ e. false≢true (ap is_failed e)) s.fails s.calls s.faults;
      kept_cut = refl;
    }

pub returns-then-fails : goal.returns-then-fails
returns-then-fails c =
    let old = c.args.self.now in
    let s = c.strikes-fails.ensures in
    let f = c.count_fault.ensures in
    record {
      bound = tt;
      empty = λ none. absurd (no_room _ c.if-is_empty.ensures none);
      bytes = refl;
      flushed = refl;
      lent = record { same = refl; later = later_by _ _ _ old.plan.fits s.faults f.faults };
      cause = λ _. rose_by _ _ _ s.faults f.faults;
      idle = λ e. absurd (false≢true (sym (ap not c.if-not-self.false) ∙ e));
      cut = tt;
      fails = (λ _. (ap not c.if-not-self.false, some_room _ c.if-is_empty.ensures, c.if-fails.ensures.strikes.0 refl), λ _. refl);
      plan = plan_failed _ old.plan c.strikes-fails.new.self c.count_fault.new.self refl s.fails s.calls s.faults f.faults f.calls;
      kept_cut = refl;
    }

pub returns-in_err-extend_from_slice : goal.returns-in_err-extend_from_slice
returns-in_err-extend_from_slice c =
    let old = c.args.self.now in
    let s = c.strikes-fails.ensures in
    let wanting = is_wanting c.from_residual.result c.from_residual.ensures.1 in
    rw wanting (record {
      bound = tt;
      empty = λ none. absurd (no_room _ c.if-is_empty.ensures none);
      bytes = ap Some c.in_err-extend_from_slice.ensures.items;
      flushed = refl;
      lent = record { same = refl; later = later_same _ _ s.faults };
      cause = λ e. absurd (false≢true (ap is_failed e));
      idle = λ e. absurd (false≢true (sym (ap not c.if-not-self.false) ∙ e));
      cut = tt;
      fails = (λ e. absurd (false≢true (ap is_failed e)), λ w. absurd (false≢true (c.if-fails.ensures.strikes.1 w.2)));
      plan = plan_kept _ old.plan c.strikes-fails.new.self (λ e. false≢true (ap is_failed e)) s.fails s.calls s.faults;
      kept_cut = refl;
    })

pub returns-then-is_empty-clause-fails : goal.returns-then-is_empty-clause-fails
returns-then-is_empty-clause-fails c =
    (λ e. absurd (false≢true (ap is_failed e)), λ w. absurd (no_some _ c.if-is_empty.ensures w.1))
