use Rattle.std.proofs.Common.{◌≡◌, ◌≢◌, ◌+◌, ◌<◌, ◌≤◌, ◌∙◌, ℕ, List, [], length, ap, ap₂, sym, subst, All}
use Rattle.edr_axes.specs.Axes.{IsAscending, axis_length}
use Rattle.edr_chunk.specs.declared.shapes.GridShape.{GridShape}
use Rattle.edr_edition.specs.Values.{InstanceValue}
use Rattle.edr_select.specs.Listings.{NumbersRise}
use Rattle.edr_select.specs.Stacks.{SidesValue}
use Rattle.edr_lines.proofs.stack_domains.domain_of.Goals as goal

all_below : (places xs : List ℕ) (m n : ℕ) → places ≡ xs → m ≡ n → All (λ place. place < m) xs → All (λ place. place < n) places
all_below places xs m n e f h = subst (λ (ps : List ℕ). All (λ place. place < n) ps) (sym e) (subst (λ (k : ℕ). All (λ place. place < k) xs) f h)

run_below : (first many a b m n : ℕ) → first ≡ a → many ≡ b → m ≡ n → a + b ≤ m → first + many ≤ n
run_below first many a b m n e f h l = subst (λ (k : ℕ). first + many ≤ k) h (subst (λ (k : ℕ). k ≤ m) (sym (ap₂ (λ p q. p + q) e f)) l)

pub axis_at-requires-clause-ascending : goal.axis_at-requires-clause-ascending
axis_at-requires-clause-ascending c = subst IsAscending (sym c.times.ensures) c.requires.grid.ts.ascending.ascending

pub axis_at-requires-clause-inside : goal.axis_at-requires-clause-inside
axis_at-requires-clause-inside c =
    let i : InstanceValue = c.args.instance.now in
    all_below c.items.result.now c.args.sides.now.times i.grid.shape.times (length c.times.result.now)
    (c.items.ensures ∙ ap (λ (v : SidesValue). v.times) c.sides.view_is) (ap (λ (s : GridShape). s.times) c.requires.grid.shape ∙ ap length (sym c.times.ensures)) c.requires.sides.times

pub axis_at-requires-clause-rise : goal.axis_at-requires-clause-rise
axis_at-requires-clause-rise c = subst NumbersRise (sym (c.items.ensures ∙ ap (λ (v : SidesValue). v.times) c.sides.view_is)) c.requires.sides.times_rise

pub axis_at-requires-clause-some : goal.axis_at-requires-clause-some
axis_at-requires-clause-some c = subst (λ (ps : List ℕ). ps ≢ []) (sym (c.items.ensures ∙ ap (λ (v : SidesValue). v.times) c.sides.view_is)) c.requires.nodes.times

pub levels_at-requires-clause-inside : goal.levels_at-requires-clause-inside
levels_at-requires-clause-inside c =
    let i : InstanceValue = c.args.instance.now in
    all_below c.items-2.result.now c.args.sides.now.levels i.grid.shape.levels (axis_length i.zs)
    (c.items-2.ensures ∙ ap (λ (v : SidesValue). v.levels) c.sides.view_is) (ap (λ (s : GridShape). s.levels) c.requires.grid.shape) c.requires.sides.levels

pub levels_at-requires-clause-rise : goal.levels_at-requires-clause-rise
levels_at-requires-clause-rise c = subst NumbersRise (sym (c.items-2.ensures ∙ ap (λ (v : SidesValue). v.levels) c.sides.view_is)) c.requires.sides.levels_rise

pub levels_at-requires-clause-some : goal.levels_at-requires-clause-some
levels_at-requires-clause-some c = subst (λ (ps : List ℕ). ps ≢ []) (sym (c.items-2.ensures ∙ ap (λ (v : SidesValue). v.levels) c.sides.view_is)) c.requires.nodes.levels

pub axis_from-requires-clause-ascending : goal.axis_from-requires-clause-ascending
axis_from-requires-clause-ascending c = subst IsAscending (sym c.ys.ensures) c.requires.grid.ys.ascending.ascending

pub axis_from-requires-clause-inside : goal.axis_from-requires-clause-inside
axis_from-requires-clause-inside c =
    let i : InstanceValue = c.args.instance.now in
    let sides : SidesValue = c.args.sides.now in
    run_below c.sides.inside.row c.sides.inside.rows sides.row sides.rows i.grid.shape.rows (length c.ys.result.now)
    (ap (λ (v : SidesValue). v.row) c.sides.view_is) (ap (λ (v : SidesValue). v.rows) c.sides.view_is) (ap (λ (s : GridShape). s.rows) c.requires.grid.shape ∙ ap length (sym c.ys.ensures)) c.requires.sides.rows

pub axis_from-requires-clause-some : goal.axis_from-requires-clause-some
axis_from-requires-clause-some c = subst (λ (k : ℕ). 1 ≤ k) (sym (ap (λ (v : SidesValue). v.rows) c.sides.view_is)) c.requires.nodes.rows

pub axis_from-requires-2-clause-ascending : goal.axis_from-requires-2-clause-ascending
axis_from-requires-2-clause-ascending c = subst IsAscending (sym c.xs.ensures) c.requires.grid.xs.ascending.ascending

pub axis_from-requires-2-clause-inside : goal.axis_from-requires-2-clause-inside
axis_from-requires-2-clause-inside c =
    let i : InstanceValue = c.args.instance.now in
    let sides : SidesValue = c.args.sides.now in
    run_below c.sides.inside.column c.sides.inside.columns sides.column sides.columns i.grid.shape.columns (length c.xs.result.now)
    (ap (λ (v : SidesValue). v.column) c.sides.view_is) (ap (λ (v : SidesValue). v.columns) c.sides.view_is) (ap (λ (s : GridShape). s.columns) c.requires.grid.shape ∙ ap length (sym c.xs.ensures)) c.requires.sides.columns

pub axis_from-requires-2-clause-some : goal.axis_from-requires-2-clause-some
axis_from-requires-2-clause-some c = subst (λ (k : ℕ). 1 ≤ k) (sym (ap (λ (v : SidesValue). v.columns) c.sides.view_is)) c.requires.nodes.columns
