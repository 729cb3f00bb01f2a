use Rattle.std.proofs.Common.{◌≡◌, ◌<◌, ◌≤◌, ℕ, Bool, true, false, List, Option, Vec, vec_len, Result, Ok, Err, sym, ap, ◌∙◌, ◌++◌, length, take, arith}
use Rattle.std.proofs.lemmas.List.{length-append, length-take}
use Rattle.std.specs.Io.KnownBytes.{prepend_known}
use Rattle.std.specs.Result.{IsErrAnd, is_err}
use Rattle.std.specs.declared.alloc.Global.{Global}
use Rattle.std.proofs.lemmas.Bool.{false≢true}
use Rattle.edr_base.specs.declared.reading.ReadStop.{ReadStop}
use Rattle.edr_base.specs.declared.reading.ReadStop.TheVariants.{ReadFault, TooLong, OutOfMemory}
use Rattle.edr_base.specs.Outside.{Aside, Rose}
use Rattle.edr_base.specs.Calls.{SourceLent}
use Rattle.edr_base.specs.KnownBytes.{took_on, prepend_nothing}
use Rattle.edr_base.proofs.reading.read_all.Goals as goal

-- an answer that is a fault of the source
abbrev is_fault : {T : Type 0} → Result T ReadStop → Bool
is_fault (Ok x) = false
is_fault (Err ReadFault) = true
is_fault (Err TooLong) = false
is_fault (Err OutOfMemory) = false

-- one more read of a source that is lent
lent_on : (a b c : Aside) (f f' f'' : ℕ) → SourceLent a b f f' → SourceLent b c f' f'' → SourceLent a c f f''
lent_on a b c f f' f'' p q = record { same = q.same ∙ p.same; later = omega (arith, p.later, q.later) }

-- the count rose later
rose_later : (f f' f'' : ℕ) → f ≤ f' → Rose f' f'' → Rose f f''
rose_later f f' f'' p q = omega (arith, p, q)

-- what came of a source that failed
is_read_fault : {T : Type 0} (r : Result T ReadStop) → IsErrAnd r (λ stop. stop ≡ ReadFault) → r ≡ Err ReadFault
is_read_fault (Ok x) e = absurd e
is_read_fault (Err stop) e = ap Err e

-- one more read that gave nothing
nothing_more : (a b c : Option (List ℕ)) (xs buf : List ℕ) (n : ℕ) → n ≡ 0 → a ≡ prepend_known xs b → b ≡ prepend_known (take n buf) c → a ≡ prepend_known xs c
nothing_more a b c xs buf n none p q =
    p ∙ ap (λ (w : Option (List ℕ)). prepend_known xs w) (q ∙ (ap (λ k. prepend_known (take k buf) c) none ∙ sym (prepend_nothing c)))

-- the bytes that are kept are counted
more_than : (n limit : ℕ) (bytes : Vec ℕ Global) → limit < n → n ≡ vec_len bytes → limit < length bytes.items
more_than n limit bytes more e = omega (arith, more, e, bytes.ok.0)

-- what came last is read, though there was no memory to keep it
pub returns-in_err-extend_from_slice-clause-bounded :
    goal.returns-in_err-extend_from_slice-clause-bounded
returns-in_err-extend_from_slice-clause-bounded g c =
    let most : length c.read.new.buf ≤ 16384 = omega arith in
    let whole : length c.loop-buffer.bytes.items ≤ c.args.limit = omega arith in
    record {
      bytes = c.loop-buffer.bytes.items ++ take c.in_ok-count.count c.read.new.buf;
      read = took_on _ _ _ _ _ c.loop-buffer.invariant.read c.in_ok-count.ensures.bytes.0;
      within = omega (arith, most, whole, length-append c.loop-buffer.bytes.items (take c.in_ok-count.count c.read.new.buf), length-take c.in_ok-count.count c.read.new.buf);
    }

pub loop-buffer-preserved : goal.loop-buffer-preserved
loop-buffer-preserved g c =
    let most : length c.read.new.buf ≤ 16384 = omega arith in
    let whole : length c.loop-buffer.bytes.items ≤ c.args.limit = omega arith in
    rw c.in_ok-extend_from_slice.ensures.items (record {
      read = took_on _ _ _ _ _ c.loop-buffer.invariant.read c.in_ok-count.ensures.bytes.0;
      bounded = omega (arith, most, whole, length-append c.loop-buffer.bytes.items (take c.in_ok-count.count c.read.new.buf), length-take c.in_ok-count.count c.read.new.buf);
      lent = lent_on _ _ _ _ _ _ c.loop-buffer.invariant.lent c.in_ok-count.ensures.lent;
    })

pub returns : goal.returns
returns g c =
    let kept = c.loop-buffer.invariant in
    record {
      all = tt;
      too_long = λ _. record { bytes = c.loop-buffer.bytes.items; read = kept.read; beyond = more_than _ _ c.loop-buffer.bytes c.loop-buffer-test.false c.len.ensures };
      bounded = record { bytes = c.loop-buffer.bytes.items; read = kept.read; within = kept.bounded };
      lent = kept.lent;
      cause = λ e. absurd (false≢true (ap is_fault e));
    }

pub returns-then-count-eq0 : goal.returns-then-count-eq0
returns-then-count-eq0 g c =
    let kept = c.loop-buffer.invariant in
    let come = c.in_ok-count.ensures in
    let room : 0 < length c.read.new.buf = omega arith in
    let whole : length c.loop-buffer.bytes.items ≤ c.args.limit = omega arith in
    let read = nothing_more _ _ _ _ c.read.new.buf _ c.if-count-eq0.true kept.read come.bytes.0 in
    record {
      all = record { read = read; ended = come.bytes.1 c.if-count-eq0.true room; within = whole };
      too_long = λ e. absurd (false≢true (ap is_err e));
      bounded = record { bytes = c.loop-buffer.bytes.items; read = read; within = kept.bounded };
      lent = lent_on _ _ _ _ _ _ kept.lent come.lent;
      cause = λ e. absurd (false≢true (ap is_err e));
    }

pub returns-in_err-count : goal.returns-in_err-count
returns-in_err-count g c =
    let kept = c.loop-buffer.invariant in
    let left = c.in_err-count.ensures in
    let fault = is_read_fault c.from_residual.result c.from_residual.ensures.1 in
    rw fault (record {
      all = tt;
      too_long = λ e. absurd (false≢true (sym (ap is_fault e)));
      bounded = record { bytes = c.loop-buffer.bytes.items; read = kept.read ∙ ap (λ (w : Option (List ℕ)). prepend_known c.loop-buffer.bytes.items w) (sym left.bytes); within = kept.bounded };
      lent = lent_on _ _ _ _ _ _ kept.lent left.lent;
      cause = λ _. rose_later _ _ _ kept.lent.later left.cause;
    })
