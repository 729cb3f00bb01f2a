use Rattle.std.proofs.Common.{arith, rules, ◌≡◌, ◌++◌, ◌+◌, ◌-◌, ◌*◌, ◌<◌, ◌≤◌, ℕ, List, Option, ap, sym, subst, ◌∙◌, length, take, drop}
use Rattle.std.specs.Prelude.{ℤ}
use Rattle.std.proofs.lemmas.List.{length-take, length-drop, take_all}
use Rattle.std.proofs.lemmas.List.Elements.{All-take, All-drop}
use Rattle.edr_base.specs.Limits.{HasSample, AreSamples}
use Rattle.edr_chunk.specs.declared.shapes.GridShape.{GridShape}
use Rattle.edr_chunk.specs.Places.{nodes, count}
use Rattle.edr_chunk.specs.Tiles.{with_parameters}
use Rattle.edr_chunk.specs.Grids.{Values}
use Rattle.edr_chunk.proofs.ParameterLaws.{part_inside, part_more}
use Rattle.edr_chunk.proofs.PlaceNumbers.{one_shape}
use Rattle.edr_chunk.proofs.packed_grid.PackedGrid.pack.Goals as goal

pub loop-parameter-preserved : goal.loop-parameter-preserved
loop-parameter-preserved c =
    let p = c.loop-parameter.parameter in
    let values : List (Option ℤ) = c.args.values.now in
    let n = nodes c.args.shape in
    let m = c.nodes_of-nodes.result in
    let width : p * m + m - p * m ≡ m = omega arith in
    let part : take (p * m + m - p * m) (drop (p * m) values) ≡ take n (drop (p * n) values)
    = ap (λ (k : ℕ). take k (drop (p * m) values)) width ∙ ap (λ (k : ℕ). take k (drop (p * k) values)) c.nodes_of-nodes.ensures in (
      c.in_ok-add.ensures.shape ∙ ap (λ (s : GridShape). with_parameters s (s.parameters + 1)) c.loop-parameter.invariant.0,
      c.in_ok-add.ensures.values
          ∙ (ap (λ (l : List (Option ℤ)). l ++ take (p * m + m - p * m) (drop (p * m) values)) c.loop-parameter.invariant.1
          ∙ (ap (λ (l : List (Option ℤ)). take (p * n) values ++ l) part ∙ sym (part_more p n values))),
    )

-- the values of the parameter lie in the list
within : (s : GridShape) (p m long : ℕ) → m ≡ nodes s → long ≡ count s → p < s.parameters → p * m + m ≤ long
within s p m long nodes_are whole low =
    subst (λ (k : ℕ). p * k + k ≤ long) (sym nodes_are) (subst (λ (k : ℕ). p * nodes s + nodes s ≤ k) (sym whole) (part_inside p (nodes s) s.parameters low))

-- a part of a list of samples is one
part_samples : (from many : ℕ) (values : List (Option ℤ)) → AreSamples values → AreSamples (take many (drop from values))
part_samples from many values are = All-take HasSample many (drop from values) (All-drop HasSample from values are)

part_long : (a m long : ℕ) (values : List (Option ℤ)) → a + m ≤ length values → length (take (a + m - a) (drop a values)) ≡ m
part_long a m long values inside = omega (arith, length-take (a + m - a) (drop a values), length-drop a values)

-- the grid of all parameters
all_packed : (s : GridShape) (p : ℕ) (values : List (Option ℤ)) (packed : Values) → p ≤ s.parameters → s.parameters ≤ p → length values ≡ count s
    → packed.shape ≡ with_parameters s p → packed.values ≡ take (p * nodes s) values → packed ≡ record { shape = s; values = values }
all_packed s p values packed most least whole shape_is values_are =
    let all : p ≡ s.parameters = omega arith in
    let same_shape : packed.shape ≡ s = shape_is ∙ ap (with_parameters s) all in
    let same_values : packed.values ≡ values =
    values_are ∙ ap (λ (k : ℕ). take (k * nodes s) values) all ∙ take_all (s.parameters * nodes s) values (omega arith) in
    ap (λ (shape : GridShape). record { shape = shape; values = packed.values }) same_shape ∙ ap (λ (l : List (Option ℤ)). record { shape = s; values = l }) same_values

pub nodes_of-nodes-requires : goal.nodes_of-nodes-requires
nodes_of-nodes-requires c = one_shape c.args.shape c.requires.shape

pub new-packer-requires : goal.new-packer-requires
new-packer-requires c = one_shape c.args.shape c.requires.shape

pub overflow_mul-first : goal.overflow_mul-first
overflow_mul-first c =
    let h = within c.args.shape c.loop-parameter.parameter c.nodes_of-nodes.result (length c.args.values.now) c.nodes_of-nodes.ensures c.requires.whole c.loop-parameter-test.true in
    search rules

pub overflow_add-first : goal.overflow_add-first
overflow_add-first c =
    let h = within c.args.shape c.loop-parameter.parameter c.nodes_of-nodes.result (length c.args.values.now) c.nodes_of-nodes.ensures c.requires.whole c.loop-parameter-test.true in
    search rules

pub offset_bounds-values-first : goal.offset_bounds-values-first
offset_bounds-values-first c =
    let h = within c.args.shape c.loop-parameter.parameter c.nodes_of-nodes.result (length c.args.values.now) c.nodes_of-nodes.ensures c.requires.whole c.loop-parameter-test.true in
    search rules

pub slice_bounds-add-end : goal.slice_bounds-add-end
slice_bounds-add-end c =
    let h = within c.args.shape c.loop-parameter.parameter c.nodes_of-nodes.result (length c.args.values.now) c.nodes_of-nodes.ensures c.requires.whole c.loop-parameter-test.true in
    search rules

pub add-requires : goal.add-requires
add-requires c =
    let p = c.loop-parameter.parameter in
    let values : List (Option ℤ) = c.args.values.now in
    let m = c.nodes_of-nodes.result in
    record {
      whole = part_long (p * m) m 0 values (within c.args.shape p m (length values) c.nodes_of-nodes.ensures c.requires.whole c.loop-parameter-test.true)
          ∙ c.nodes_of-nodes.ensures ∙ ap nodes (sym c.loop-parameter.invariant.0);
      samples = part_samples (p * m) (p * m + m - p * m) values c.requires.samples;
    }

pub returns : goal.returns
returns c =
    c.finish.ensures ∙ all_packed c.args.shape c.loop-parameter.parameter c.args.values.now c.loop-parameter.packer c.loop-parameter.auto.parameter-end c.loop-parameter-test.false
    c.requires.whole c.loop-parameter.invariant.0 c.loop-parameter.invariant.1
