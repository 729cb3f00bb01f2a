use Rattle.std.proofs.Common.{inl, refl, sym, ◌∙◌}
use Rattle.covjson_domains.proofs.tuples.tuples_of_items.Goals as goal

pub returns-then-not-tuples_pass : goal.returns-then-not-tuples_pass
returns-then-not-tuples_pass c = rw (sym c.tuples_pass.ensures ∙ c.if-not-tuples_pass.true) (inl refl)

pub returns-then-not-tuples_pass-2 : goal.returns-then-not-tuples_pass-2
returns-then-not-tuples_pass-2 c =
    let form = sym c.tuples_pass.ensures ∙ c.if-not-tuples_pass.false in
    rw (form, sym c.tuples_pass-2.ensures ∙ c.if-not-tuples_pass-2.true) (inl refl)

pub returns-then-not-tuples_pass-3 : goal.returns-then-not-tuples_pass-3
returns-then-not-tuples_pass-3 c =
    let form = sym c.tuples_pass.ensures ∙ c.if-not-tuples_pass.false in
    let whole = sym c.tuples_pass-2.ensures ∙ c.if-not-tuples_pass-2.false in
    rw (form, whole, sym c.tuples_pass-3.ensures ∙ c.if-not-tuples_pass-3.true, c.place_beyond.ensures) (inl refl)
