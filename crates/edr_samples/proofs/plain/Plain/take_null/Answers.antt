use Rattle.std.proofs.Common.{◌≡◌, ◌+◌, true, drop, sym, ap, ◌∙◌}
use Rattle.json.specs.Lex.{between, lex, may_begin}
use Rattle.edr_samples.specs.Plain.{place_of}
use Rattle.edr_samples.proofs.LexemeLemmas.{lex-null}
use Rattle.edr_samples.proofs.Steps.{null_taken}
use Rattle.edr_samples.proofs.plain.Plain.take_null.Goals as goal

pub returns : goal.returns
returns c taken =
    let a = c.self.inside in
    let d = a.text.now in
    let may : may_begin (place_of a.place) ≡ true = sym c.may_begin.ensures ∙ c.if-not-may_begin.false in
    let is = c.if-not-is_null_at.false in
    let given = ap (lex between) (c.is_null_at.ensures.null is) ∙ lex-null _ (c.is_null_at.ensures.ended is) in
    sym c.self.view_is ∙ null_taken (place_of a.place) may (drop a.at d) (drop (a.at + 4) d) _ c.behind-at.ensures.same given
