use Rattle.std.proofs.Common.{◌≡◌, ◌∙◌, ◌<◌, ap, pos, length, ℕ}
use Rattle.edr_geometry.specs.Lines.{LineValue}
use Rattle.edr_geometry.specs.Spans.{has}
use Rattle.edr_axes.specs.Axes.{value_at}
use Rattle.edr_geometry.specs.Ranges.{lies_in}
use Rattle.edr_geometry.proofs.lines.Line.places_on.Goals as goal

pub returns-clause-lies : goal.returns-clause-lies
returns-clause-lies c =
    let line = c.args.self.now in
    let values : c.self.inside.values.now ≡ line.values = ap (λ (l : LineValue). l.values) c.self.view_is in
    λ place inside. (let told = c.places_on.ensures.lies in
    let lies : (p : ℕ) → p < length line.values → lies_in c.places_on.result p ≡ has c.on.result (value_at line.values p) = rw values at told in
    lies place inside ∙ c.on.ensures (value_at line.values place) (c.requires.line.values_in place (pos 0) inside))
