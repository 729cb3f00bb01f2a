use Rattle.std.proofs.Common.{◌≡◌, ◌<◌, length, true, sym, ◌∙◌, arith}
use Rattle.json.specs.Lex.{may_begin}
use Rattle.edr_samples.specs.Plain.{place_of}
use Rattle.edr_samples.proofs.Steps.{list_opened}
use Rattle.edr_samples.proofs.plain.Plain.take_begin_array.Goals as goal

pub returns : goal.returns
returns c taken =
    let a = c.self.inside in
    let d = a.text.now in
    let is : c.byte_at.result ≡ 91 = c.if-byte_at-ne91.false in
    let inside : a.at < length d = c.byte_at.ensures.inside (λ e. omega (arith, is, e)) in
    let may : may_begin (place_of a.place) ≡ true = sym c.may_begin.ensures ∙ c.if-not-may_begin.false in
    sym c.self.view_is ∙ list_opened d (place_of a.place) a.at inside c.blanks_end-self-inside.result may (sym c.byte_at.ensures.value ∙ is) c.blanks_end-self-inside.ensures.same
