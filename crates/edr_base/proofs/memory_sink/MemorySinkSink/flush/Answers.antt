use Rattle.std.proofs.Common.{◌≡◌, ℕ, Vec, vec_len, length, arith, Some, refl, sym, ap}
use Rattle.std.proofs.lemmas.Bool.{false≢true}
use Rattle.std.specs.declared.alloc.Global.{Global}
use Rattle.std.specs.Result.{is_err}
use Rattle.edr_base.proofs.PlanLemmas.{plan_kept, plan_failed, rose_by, later_same, later_by, is_failed}
use Rattle.edr_base.proofs.memory_sink.MemorySinkSink.flush.Goals as goal

all_of : (n : ℕ) (bytes : Vec ℕ Global) → n ≡ vec_len bytes → n ≡ length bytes.items
all_of n bytes e = omega (arith, e, bytes.ok.0)

pub returns : goal.returns
returns c =
    let old = c.args.self.now in
    let s = c.strikes.ensures in
    record {
      bytes = refl;
      flushed = ap Some (all_of c.len-self.result old.bytes c.len-self.ensures);
      lent = record { same = refl; later = later_same _ _ s.faults };
      cause = λ e. absurd (false≢true (ap is_failed e));
      idle = λ e. absurd (false≢true e);
      fails = (λ e. absurd (false≢true (ap is_failed e)), λ w. absurd (false≢true (c.if-strikes.ensures.strikes.1 w)));
      only = λ e. false≢true (ap is_err e);
      plan = plan_kept _ old.plan c.strikes.new.self (λ e. false≢true (ap is_failed e)) s.fails s.calls s.faults;
      kept_cut = refl;
    }

pub returns-then-strikes : goal.returns-then-strikes
returns-then-strikes c =
    let old = c.args.self.now in
    let s = c.strikes.ensures in
    let f = c.count_fault.ensures in
    record {
      bytes = refl;
      flushed = refl;
      lent = record { same = refl; later = later_by _ _ _ old.plan.fits s.faults f.faults };
      cause = λ _. rose_by _ _ _ s.faults f.faults;
      idle = λ e. absurd (false≢true e);
      fails = (λ _. c.if-strikes.ensures.strikes.0 refl, λ _. refl);
      only = λ e. false≢true (sym (ap is_failed e));
      plan = plan_failed _ old.plan c.strikes.new.self c.count_fault.new.self refl s.fails s.calls s.faults f.faults f.calls;
      kept_cut = refl;
    }
