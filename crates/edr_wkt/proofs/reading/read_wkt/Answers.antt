use Rattle.std.proofs.Common.{◌≡◌, ◌==◌, ℕ, Bool, true, false, length, Some, None, is_some, sym, ap, ◌∙◌}
use Rattle.std.proofs.lemmas.Bool.{false≢true, eqb-true, eqb-false}
use Rattle.edr_wkt.specs.declared.faults.WktFault.TheVariants.{NotWkt, TooManyPositions}
use Rattle.edr_wkt.proofs.GatherLemmas.{error-same}
use Rattle.edr_wkt.proofs.WktLemmas.{wkt-no_heading, wkt-no_body, wkt-end}
use Rattle.edr_wkt.proofs.GeometryLemmas.{blanks-end, blanks-from, read-few, read-few_rings, read-many, read-fault, read-sound, answer-stopped}
use Rattle.edr_wkt.proofs.reading.read_wkt.Goals as goal
use goal.{then-not-is_empty, else-not-is_empty+then-count-gt-POSITION_LIMIT, else-not-is_empty+else-count-gt-POSITION_LIMIT}

some_rest : (b : Bool) (n : ℕ) → b ≡ (n == 0) → b ≡ false → ¬ (n ≡ 0)
some_rest b n is fails = eqb-false n 0 (sym is ∙ fails)

no_rest : (b : Bool) (n : ℕ) → b ≡ (n == 0) → b ≡ true → n ≡ 0
no_rest b n is holds = eqb-true n 0 (sym is ∙ holds)

not_none : {A : Type 0} (x : A) → ¬ (Some x ≡ None)
not_none x e = false≢true (sym (ap is_some e))

pub returns-in_default : goal.returns-in_default
returns-in_default c = wkt-no_heading c.args.text.now c.in_default.ensures

pub returns-in_err-geometry : goal.returns-in_err-geometry
returns-in_err-geometry c =
    answer-stopped c.from_residual.result c.in_err-geometry.field-0.0 c.args.text.now c.from_residual.ensures
    (λ e. wkt-no_body c.args.text.now _ _ _ _ c.in-Some.ensures (c.in_err-geometry.ensures.not_wkt (error-same e)))

pub returns-in-Some-fault : goal.returns-in-Some-fault
returns-in-Some-fault c =
    let text = c.args.text.now in
    let fault = c.in-Some-fault.fault in
    let s = c.without_blanks.ensures in
    let read = c.in_ok-geometry.ensures.read in
    elim c.if-not-is_empty.branch [
      | then-not-is_empty w ↦ (let found : Some fault ≡ Some NotWkt = sym c.in-Some-fault.is ∙ w.fault-is in
          let is : fault ≡ NotWkt = cc in
          rw is (λ g x. absurd (some_rest _ _ c.is_empty.ensures w.if-not-is_empty.true (blanks-end _ s.0 _ s.1 (wkt-end text _ _ _ _ _ _ _ _ c.in-Some.ensures read g x)))))
      | else-not-is_empty+then-count-gt-POSITION_LIMIT w ↦ (let found : Some fault ≡ Some TooManyPositions = sym c.in-Some-fault.is ∙ w.fault-is in
          let is : fault ≡ TooManyPositions = cc in
          let end : length c.without_blanks.result.now ≡ 0 = no_rest _ _ c.is_empty.ensures w.if-not-is_empty.false in
          rw is (read-many text _ _ _ _ _ _ _ c.in-Some.ensures read (blanks-from _ s.0 _ s.1 end) w.if-count-gt-POSITION_LIMIT.true))
      | else-not-is_empty+else-count-gt-POSITION_LIMIT w ↦ (let found : w.fault_of.result ≡ Some fault = sym w.fault-is ∙ c.in-Some-fault.is in
          let end : length c.without_blanks.result.now ≡ 0 = no_rest _ _ c.is_empty.ensures w.if-not-is_empty.false in
          read-fault text _ _ _ _ _ _ _ fault c.in-Some.ensures read (blanks-from _ s.0 _ s.1 end) w.if-count-gt-POSITION_LIMIT.false (rw found at w.fault_of.ensures))
    ]

pub returns-in-None : goal.returns-in-None
returns-in-None c =
    let s = c.without_blanks.ensures in
    elim c.if-not-is_empty.branch [
      | then-not-is_empty w ↦ absurd (not_none _ (sym w.fault-is ∙ c.in-None.is))
      | else-not-is_empty+then-count-gt-POSITION_LIMIT w ↦ absurd (not_none _ (sym w.fault-is ∙ c.in-None.is))
      | else-not-is_empty+else-count-gt-POSITION_LIMIT w ↦ (let none : w.fault_of.result ≡ None = sym w.fault-is ∙ c.in-None.is in
          let end : length c.without_blanks.result.now ≡ 0 = no_rest _ _ c.is_empty.ensures w.if-not-is_empty.false in
          read-sound c.args.text.now _ _ _ _ _ _ _ c.in-Some.ensures c.in_ok-geometry.ensures.read (blanks-from _ s.0 _ s.1 end) w.if-count-gt-POSITION_LIMIT.false (rw none at w.fault_of.ensures))
    ]

pub fault_of-requires-clause-few : goal.fault_of-requires-clause-few
fault_of-requires-clause-few c = read-few _ _ _ _ _ _ _ c.in_ok-geometry.ensures.read c.if-count-gt-POSITION_LIMIT.false

pub fault_of-requires-clause-rings : goal.fault_of-requires-clause-rings
fault_of-requires-clause-rings c = read-few_rings _ _ _ _ _ _ _ c.in_ok-geometry.ensures.read c.if-count-gt-POSITION_LIMIT.false
