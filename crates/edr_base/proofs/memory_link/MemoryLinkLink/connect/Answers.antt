use Rattle.std.proofs.Common.{Some, List, ℕ, Vec, map, refl, ap}
use Rattle.std.specs.declared.alloc.Global.{Global}
use Rattle.std.proofs.lemmas.Bool.{false≢true}
use Rattle.edr_base.specs.Memory.{peer_asked}
use Rattle.edr_base.proofs.PlanLemmas.{plan_kept, plan_failed, rose_by, later_same, later_by, is_failed, is_wanting, peer_added}
use Rattle.edr_base.proofs.memory_link.MemoryLinkLink.connect.Goals as goal

pub returns : goal.returns
returns c =
    let old = c.args.self.now in
    let s = c.strikes-fails.ensures in
    record {
      ready = refl;
      left = refl;
      incoming = refl;
      asked = peer_added _ _ _ _ _ c.in_ok-push.ensures.items c.in_ok-kept.ensures.items;
      written = (refl, refl);
      kept = (refl, refl, refl);
      cause = record { later = later_same _ _ s.faults; failed = λ e. absurd (false≢true (ap is_failed e)) };
      fails = λ e. absurd (false≢true (ap is_failed e));
      connects = λ _ w. false≢true (c.if-fails.ensures.strikes.1 w);
      plan = plan_kept _ old.plan c.strikes-fails.new.self (λ e. false≢true (ap is_failed e)) s.fails s.calls s.faults;
      kept_cut = refl;
    }

pub returns-then-fails : goal.returns-then-fails
returns-then-fails c =
    let old = c.args.self.now in
    let s = c.strikes-fails.ensures in
    let f = c.count_fault.ensures in
    record {
      ready = refl;
      left = refl;
      incoming = refl;
      asked = peer_added _ _ _ _ _ c.in_ok-push.ensures.items c.in_ok-kept.ensures.items;
      written = (refl, refl);
      kept = (refl, refl, refl);
      cause = record { later = later_by _ _ _ old.plan.fits s.faults f.faults; failed = λ _. rose_by _ _ _ s.faults f.faults };
      fails = λ _. c.if-fails.ensures.strikes.0 refl;
      connects = λ e. absurd (false≢true e);
      plan = plan_failed _ old.plan c.strikes-fails.new.self c.count_fault.new.self refl s.fails s.calls s.faults f.faults f.calls;
      kept_cut = refl;
    }

pub returns-in_err-kept : goal.returns-in_err-kept
returns-in_err-kept c =
    let old = c.args.self.now in
    let s = c.strikes-fails.ensures in
    let wanting = is_wanting c.from_residual.result c.from_residual.ensures.1 in
    rw wanting (record {
      ready = refl;
      left = refl;
      incoming = refl;
      asked = refl;
      written = (refl, refl);
      kept = (refl, refl, refl);
      cause = record { later = later_same _ _ s.faults; failed = λ e. absurd (false≢true (ap is_failed e)) };
      fails = λ e. absurd (false≢true (ap is_failed e));
      connects = λ e. absurd (false≢true e);
      plan = plan_kept _ old.plan c.strikes-fails.new.self (λ e. false≢true (ap is_failed e)) s.fails s.calls s.faults;
      kept_cut = refl;
    })

pub returns-in_err-push : goal.returns-in_err-push
returns-in_err-push c =
    let old = c.args.self.now in
    let s = c.strikes-fails.ensures in
    let wanting = is_wanting c.from_residual-in_err-push.result c.from_residual-in_err-push.ensures.1 in
    rw wanting (record {
      ready = refl;
      left = refl;
      incoming = refl;
      asked = ap (λ (peers : List (Vec ℕ Global × ℕ)). Some (map peer_asked peers)) c.in_err-push.ensures.items;
      written = (refl, refl);
      kept = (refl, refl, refl);
      cause = record { later = later_same _ _ s.faults; failed = λ e. absurd (false≢true (ap is_failed e)) };
      fails = λ e. absurd (false≢true (ap is_failed e));
      connects = λ e. absurd (false≢true e);
      plan = plan_kept _ old.plan c.strikes-fails.new.self (λ e. false≢true (ap is_failed e)) s.fails s.calls s.faults;
      kept_cut = refl;
    })
