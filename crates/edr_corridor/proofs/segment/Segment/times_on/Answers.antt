use Rattle.std.proofs.Common.{◌≡◌, ◌∙◌, ap, ap₂, sym, rules, true, Some, to_z, of_z, w64}
use Rattle.std.specs.Int.{int_min, int_max}
use Rattle.edr_axes.specs.Axes.{value_at}
use Rattle.edr_corridor.specs.Segments.{takes_between}
use Rattle.edr_corridor.proofs.Halves.{among_both}
use Rattle.edr_corridor.proofs.segment.Segment.times_on.Goals as goal

pub returns-clause-lies : goal.returns-clause-lies
returns-clause-lies c = λ t inside.
    (let segment = c.args.self.now in let v = value_at c.args.ts.now t in
    let first : to_z w64 (of_z w64 segment.start.m) ≡ segment.start.m = search rules in
    let last : to_z w64 (of_z w64 segment.end.m) ≡ segment.end.m = search rules in
    let low : to_z w64 (of_z w64 c.min-first.result) ≡ c.min-first.result = search rules in
    let high : to_z w64 (of_z w64 c.max-last.result) ≡ c.max-last.result = search rules in
    c.places_between.ensures.lies t inside
    ∙ among_both segment.start.m segment.end.m (to_z w64 (of_z w64 c.min-first.result)) (to_z w64 (of_z w64 c.max-last.result)) v
    (low ∙ c.min-first.ensures.value ∙ ap₂ int_min first last) (high ∙ c.max-last.ensures.value ∙ ap₂ int_max first last)
    ∙ sym (ap (λ b. takes_between b (Some v) segment.start.m segment.end.m true) c.if-not-self.false))
