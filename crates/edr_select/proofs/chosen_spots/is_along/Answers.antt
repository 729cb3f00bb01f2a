use Rattle.std.proofs.Common.{rules, refl, sym, ◌≡◌, ◌-◌, ◌∙◌, ap, ap₂, Bool, true, false, List, length, ℤ, w64, of_z, to_z, int_le}
use Rattle.std.specs.Prelude.{◌&&◌}
use Rattle.edr_axes.specs.Axes.{value_at}
use Rattle.edr_select.specs.AlongLaws.{along_is}
use Rattle.edr_select.proofs.chosen_spots.is_along.Goals as goal

after_true : (b d : Bool) → b ≡ true → d ≡ (b && d)
after_true b d e = rw e refl

after_false : (b d : Bool) → b ≡ false → b ≡ (b && d)
after_false b d e = rw e refl

pub returns-then-values-c : goal.returns-then-values-c
returns-then-values-c c =
    let values = c.values-values.result.now in
    let whole_first : to_z w64 (of_z w64 (value_at values 0)) ≡ value_at values 0 = search rules in
    let whole_last : to_z w64 (of_z w64 (value_at values (length values - 1))) ≡ value_at values (length values - 1) = search rules in
    let at : to_z w64 (of_z w64 c.args.c) ≡ c.args.c = search rules in
    let first = whole_first ∙ ap (λ (v : List ℤ). value_at v 0) c.values-values.ensures.same in
    let last = whole_last ∙ ap (λ (v : List ℤ). value_at v (length v - 1)) c.values-values.ensures.same in
    let low : int_le (value_at c.args.axis.now 0) c.args.c ≡ true = ap₂ int_le (sym first) (sym at) ∙ c.if-values-c.true in
    ap₂ int_le at last
    ∙ after_true (int_le (value_at c.args.axis.now 0) c.args.c) (int_le c.args.c (value_at c.args.axis.now (length c.args.axis.now - 1))) low
    ∙ along_is c.args.axis.now c.args.c c.values-values.ensures.axis

pub returns-else-values-c : goal.returns-else-values-c
returns-else-values-c c =
    let values = c.values-values.result.now in
    let whole_first : to_z w64 (of_z w64 (value_at values 0)) ≡ value_at values 0 = search rules in
    let at : to_z w64 (of_z w64 c.args.c) ≡ c.args.c = search rules in
    let first = whole_first ∙ ap (λ (v : List ℤ). value_at v 0) c.values-values.ensures.same in
    let low : int_le (value_at c.args.axis.now 0) c.args.c ≡ false = ap₂ int_le (sym first) (sym at) ∙ c.if-values-c.false in
    ap₂ int_le first at
    ∙ after_false (int_le (value_at c.args.axis.now 0) c.args.c) (int_le c.args.c (value_at c.args.axis.now (length c.args.axis.now - 1))) low
    ∙ along_is c.args.axis.now c.args.c c.values-values.ensures.axis
