use Rattle.std.proofs.Common.{ℤ, pos, neg_ℤ, ◌≤ℤ◌, ◌≤◌, FitsSigned, w64, rules}
use Rattle.std.specs.Int.RustNames.{unsigned_abs}
use Rattle.std.proofs.lemmas.Bool.{false≢true}
use Rattle.edr_base.specs.TestLaws.{holds, fails}
use Rattle.edr_wkt.proofs.CheckLemmas.{passed, passed-back}
use Rattle.edr_wkt.proofs.checks.in_range.Goals as goal

pub returns : goal.returns
returns c =
    let p = c.args.p.now in
    let fx : FitsSigned w64 p.x = search rules in
    let fy : FitsSigned w64 p.y = search rules in
    let fz : FitsSigned w64 p.z = search rules in
    let fm : FitsSigned w64 p.m = search rules in
    let Within : ℤ → Type 0 = λ n. unsigned_abs n ≤ 100000000 in
    let Time : ℤ → Type 0 = λ n. (neg_ℤ (pos 62167219200) ≤ℤ n) × (n ≤ℤ pos 253402300799) in (
      λ t. record {
        x = passed Within p.x fx (holds _ _ c.is_within.ensures c.if-not-is_within.false);
        y = passed Within p.y fy (holds _ _ c.is_within-2.ensures c.if-not-is_within-2.false);
        z = passed Within p.z fz (holds _ _ c.is_within-3.ensures c.if-not-is_within-3.false);
        m_from = (passed Time p.m fm (c.is_time.ensures.0 t)).0;
        m_to = (passed Time p.m fm (c.is_time.ensures.0 t)).1;
      },
      λ r. c.is_time.ensures.1 (passed-back Time p.m fm (r.m_from, r.m_to)),
    )

pub returns-then-not-is_within-3 : goal.returns-then-not-is_within-3
returns-then-not-is_within-3 c =
    let p = c.args.p.now in
    let fits : FitsSigned w64 p.z = search rules in
    let Within : ℤ → Type 0 = λ n. unsigned_abs n ≤ 100000000 in
    (λ e. absurd (false≢true e), λ r. absurd (fails _ _ c.is_within-3.ensures c.if-not-is_within-3.true (passed-back Within p.z fits r.z)))
