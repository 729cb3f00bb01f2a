use Rattle.std.proofs.Common.{◌≡◌, ◌<◌, true, length, drop, sym, ◌∙◌}
use Rattle.json.specs.Lex.{may_begin}
use Rattle.edr_samples.specs.Plain.{place_of}
use Rattle.edr_samples.proofs.Steps.{text_taken}
use Rattle.edr_samples.proofs.plain.Plain.take_text.Goals as goal

pub returns : goal.returns
returns c =
    let a = c.self.inside in
    let d = a.text.now in
    let end = c.blanks_end-end.result in
    let may : may_begin (place_of a.place) ≡ true = sym c.may_begin.ensures ∙ c.if-not-may_begin.false in
    let marked = c.if-not-is_end.false in
    let inside : end < length d = c.byte_at.ensures.inside (c.is_end.ensures.no_blank marked) in
    sym c.self.view_is ∙ text_taken d (place_of a.place) may (drop a.at d) c.in-Some.found.now (drop c.in-Some.end d) c.in-Some.ensures.text end c.blanks_end-end.ensures.same inside
    c.byte_at.result _ (sym c.byte_at.ensures.value) (c.is_end.ensures.mark marked) c.behind-at.ensures.same
