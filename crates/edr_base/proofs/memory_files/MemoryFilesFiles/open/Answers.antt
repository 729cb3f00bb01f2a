use Rattle.std.proofs.Common.{◌≡◌, ◌≢◌, Some, None, Option, List, ℕ, Vec, map, refl, sym, ap, subst, ◌∙◌, inl, inr, option_map, is_some}
use Rattle.std.specs.declared.alloc.Global.{Global}
use Rattle.std.specs.Option.{IfSome}
use Rattle.std.proofs.lemmas.Bool.{false≢true}
use Rattle.edr_base.specs.Memory.{File, bytes_at, content_of, place_of_name, name_asked}
use Rattle.edr_base.proofs.PlanLemmas.{plan_kept, plan_failed, rose_by, later_same, later_by, is_failed, is_wanting, name_added}
use Rattle.edr_base.proofs.memory_files.MemoryFilesFiles.open.Goals as goal
use goal.{in_default-via-in-Some+else-not-fails, in_default-via-in_default}

-- a name that was found
held : (files : List File) (name : List ℕ) (place : ℕ) → place_of_name files name ≡ Some place → content_of files name ≡ Some (bytes_at files place)
held files name place found = ap (λ (at : Option ℕ). option_map (bytes_at files) at) found

gives : (files : List File) (name : List ℕ) (place : ℕ) → place_of_name files name ≡ Some place → IfSome (content_of files name) (λ told. Some (bytes_at files place) ≡ Some told)
gives files name place found =
    subst (λ (content : Option (List ℕ)). IfSome content (λ told. Some (bytes_at files place) ≡ Some told)) (sym (held files name place found)) refl

is_held : (files : List File) (name : List ℕ) (place : ℕ) → place_of_name files name ≡ Some place → content_of files name ≢ None
is_held files name place found none = false≢true (sym (ap is_some none) ∙ ap is_some (held files name place found))

-- a name that wasn't
unheld : (files : List File) (name : List ℕ) → place_of_name files name ≡ None → content_of files name ≡ None
unheld files name none = ap (λ (at : Option ℕ). option_map (bytes_at files) at) none

pub returns-in-Some : goal.returns-in-Some
returns-in-Some c =
    let old = c.args.self.now in
    let s = c.strikes-fails.ensures in
    let found : place_of_name old.files.items c.args.name.now ≡ Some c.in-Some.place
    = ap (λ (files : List File). place_of_name files c.args.name.now) (sym c.deref.ensures.value) ∙ sym c.in-Some.ensures in
    record {
      ready = refl;
      left = gives old.files.items c.args.name.now c.in-Some.place found;
      kept = record { content = refl; incoming = refl; written = refl; flushed = refl };
      asked = name_added _ _ _ _ c.in_ok-push.ensures.items c.in_ok-kept.ensures.items;
      cause = record { later = later_same _ _ s.faults; failed = λ e. absurd (false≢true (ap is_failed e)) };
      fails = λ e. absurd (false≢true (ap is_failed e));
      opens = λ _. (λ w. false≢true (c.if-not-fails.ensures.strikes.1 w), is_held old.files.items c.args.name.now c.in-Some.place found);
      plan = plan_kept _ old.plan c.strikes-fails.new.self (λ e. false≢true (ap is_failed e)) s.fails s.calls s.faults;
      kept_cut = refl;
    }

pub returns-in_default : goal.returns-in_default
returns-in_default c =
    let old = c.args.self.now in
    let s = c.strikes-fails.ensures in
    let f = c.count_fault.ensures in
    record {
      ready = refl;
      left = refl;
      kept = record { content = refl; incoming = refl; written = refl; flushed = refl };
      asked = name_added _ _ _ _ c.in_ok-push.ensures.items c.in_ok-kept.ensures.items;
      cause = record { later = later_by _ _ _ old.plan.fits s.faults f.faults; failed = λ _. rose_by _ _ _ s.faults f.faults };
      fails = λ _. elim c.in_default.branch [ in_default-via-in-Some+else-not-fails w ↦ inl (w.if-not-fails.ensures.strikes.0 refl) | in_default-via-in_default w ↦ inr (unheld old.files.items c.args.name.now (ap (λ (files : List File). place_of_name files c.args.name.now) (sym c.deref.ensures.value) ∙ sym w.in_default.ensures)) ];
      opens = λ e. absurd (false≢true e);
      plan = plan_failed _ old.plan c.strikes-fails.new.self c.count_fault.new.self refl s.fails s.calls s.faults f.faults f.calls;
      kept_cut = refl;
    }

pub returns-in_err-kept : goal.returns-in_err-kept
returns-in_err-kept c =
    let old = c.args.self.now in
    let s = c.strikes-fails.ensures in
    let wanting = is_wanting c.from_residual.result c.from_residual.ensures.1 in
    rw wanting (record {
      ready = refl;
      left = refl;
      kept = record { content = refl; incoming = refl; written = refl; flushed = refl };
      asked = refl;
      cause = record { later = later_same _ _ s.faults; failed = λ e. absurd (false≢true (ap is_failed e)) };
      fails = λ e. absurd (false≢true (ap is_failed e));
      opens = λ e. absurd (false≢true e);
      plan = plan_kept _ old.plan c.strikes-fails.new.self (λ e. false≢true (ap is_failed e)) s.fails s.calls s.faults;
      kept_cut = refl;
    })

pub returns-in_err-push : goal.returns-in_err-push
returns-in_err-push c =
    let old = c.args.self.now in
    let s = c.strikes-fails.ensures in
    let wanting = is_wanting c.from_residual-in_err-push.result c.from_residual-in_err-push.ensures.1 in
    rw wanting (record {
      ready = refl;
      left = refl;
      kept = record { content = refl; incoming = refl; written = refl; flushed = refl };
      asked = ap (λ (files : List (Vec ℕ Global)). Some (map name_asked files)) c.in_err-push.ensures.items;
      cause = record { later = later_same _ _ s.faults; failed = λ e. absurd (false≢true (ap is_failed e)) };
      fails = λ e. absurd (false≢true (ap is_failed e));
      opens = λ e. absurd (false≢true e);
      plan = plan_kept _ old.plan c.strikes-fails.new.self (λ e. false≢true (ap is_failed e)) s.fails s.calls s.faults;
      kept_cut = refl;
    })
