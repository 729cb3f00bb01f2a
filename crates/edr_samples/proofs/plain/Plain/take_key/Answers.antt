use Rattle.std.proofs.Common.{◌≡◌, ◌<◌, true, length, drop, sym, ◌∙◌, arith}
use Rattle.json.specs.Lex.{may_begin}
use Rattle.edr_samples.specs.Plain.{place_of}
use Rattle.edr_samples.proofs.Steps.{name_taken}
use Rattle.edr_samples.proofs.plain.Plain.take_key.Goals as goal

pub returns : goal.returns
returns c =
    let a = c.self.inside in
    let d = a.text.now in
    let end = c.blanks_end-end.result in
    let may : may_begin (place_of a.place) ≡ true = sym c.may_begin.ensures ∙ c.if-not-may_begin.false in
    let is : c.byte_at.result ≡ 58 = c.if-byte_at-ne58.false in
    let inside : end < length d = c.byte_at.ensures.inside (λ e. omega (arith, is, e)) in
    sym c.self.view_is ∙ name_taken d (place_of a.place) may (drop a.at d) c.in-Some.found.now (drop c.in-Some.end d) c.in-Some.ensures.text end c.blanks_end-end.ensures.same inside
    c.blanks_end-self-inside.result (sym c.byte_at.ensures.value ∙ is) c.blanks_end-self-inside.ensures.same
