use Rattle.std.proofs.Common.{◌+◌, ◌<◌, length, refl, sym, subst, ℕ}
use Rattle.edr_corridor.specs.Values.{SegmentsValue}
use Rattle.edr_corridor.specs.Parts.{IsSegmentAt}
use Rattle.edr_corridor.proofs.Lines.{at_ends}
use Rattle.edr_corridor.proofs.segments.Segments.segment.Goals as goal

pub returns-clause-at : goal.returns-clause-at
returns-clause-at c =
    let number : ℕ = c.args.number in let line = c.self.inside.line.items in
    let inside : number + 1 < length line = subst (λ (s : SegmentsValue). number + 1 < length s.line) (sym c.self.view_is) c.requires in
    subst (λ (s : SegmentsValue). IsSegmentAt s number (record { start = c.index.result.now; end = c.index-2.result.now; rule = c.self.inside.rule })) c.self.view_is
    (record { rule_is = refl; ends_are = λ test. at_ends test line number c.index.result.now c.index-2.result.now inside c.index.ensures c.index-2.ensures })
