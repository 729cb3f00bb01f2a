use Rattle.std.proofs.Common.{◌≡◌, ◌<◌, length, sym, ◌∙◌, arith}
use Rattle.edr_samples.proofs.Steps.{comma_passed}
use Rattle.edr_samples.proofs.plain.behind.Goals as goal

pub returns-then-byte_at-eq44-clause-same : goal.returns-then-byte_at-eq44-clause-same
returns-then-byte_at-eq44-clause-same c =
    let d = c.args.text.now in
    let is : c.byte_at.result ≡ 44 = c.if-byte_at-eq44.true in
    let inside : c.blanks_end-at.result < length d = c.byte_at.ensures.inside (λ e. omega (arith, is, e)) in
    comma_passed d c.args.end c.blanks_end-at.result c.blanks_end.result c.blanks_end-at.ensures.same inside (sym c.byte_at.ensures.value ∙ is) c.blanks_end.ensures.same
