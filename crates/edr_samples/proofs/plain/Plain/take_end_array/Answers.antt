use Rattle.std.proofs.Common.{◌≡◌, ◌<◌, length, true, sym, ◌∙◌, arith}
use Rattle.json.specs.Lex.{may_close}
use Rattle.edr_samples.specs.Plain.{place_of}
use Rattle.edr_samples.proofs.Steps.{list_closed}
use Rattle.edr_samples.proofs.plain.Plain.take_end_array.Goals as goal

pub returns : goal.returns
returns c =
    let a = c.self.inside in
    let d = a.text.now in
    let is : c.byte_at.result ≡ 93 = c.if-byte_at-ne93.false in
    let inside : a.at < length d = c.byte_at.ensures.inside (λ e. omega (arith, is, e)) in
    let may : may_close (place_of a.place) ≡ true = sym c.may_close.ensures ∙ c.if-not-may_close.false in
    sym c.self.view_is ∙ list_closed d (place_of a.place) a.at inside _ may (sym c.byte_at.ensures.value ∙ is) c.behind-at.ensures.same
