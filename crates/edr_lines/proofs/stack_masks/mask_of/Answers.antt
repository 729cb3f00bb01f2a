use Rattle.std.proofs.Common.{◌≡◌, ◌∙◌, ◌+◌, ◌*◌, ◌<◌, ◌^◌, ℕ, Bool, List, false, length, replicate, ap, ap₂, sym, subst, arith, rules}
use Rattle.std.specs.Prelude.{option_map}
use Rattle.std.proofs.lemmas.List.{with_items_is}
use Rattle.edr_corridor.specs.Boxes.{GridAxes, LiesOn, TakesNodes, box_takes}
use Rattle.edr_select.specs.Stacks.{SidesValue, stack_count}
use Rattle.edr_lines.specs.Corridors.{CorridorValue, takes_first}
use Rattle.edr_lines.specs.Bits.{TimesSet}
use Rattle.edr_lines.specs.Taken.{HasBits}
use Rattle.edr_lines.proofs.Filled.{filled}
use Rattle.edr_lines.proofs.StackBits.{sides_rise, planes_few, box_fits, bits_more, no_bits, all_bits}
use Rattle.edr_lines.proofs.stack_masks.mask_of.Goals as goal

pub overflow_mul-planes : goal.overflow_mul-planes
overflow_mul-planes c =
    let sides = c.args.sides.now in
    let few = planes_few c.args.corridor.now c.args.axes.now sides c.requires.sides c.requires.small in
    let times : length c.items.result.now ≡ length sides.times = ap (λ (l : List ℕ). length l) (c.items.ensures ∙ ap (λ (s : SidesValue). s.times) c.sides.view_is) in
    let levels : length c.items-2.result.now ≡ length sides.levels = ap (λ (l : List ℕ). length l) (c.items-2.ensures ∙ ap (λ (s : SidesValue). s.levels) c.sides.view_is) in
    let below : length c.items.result.now * length c.items-2.result.now < 2 ^ 63 = subst (λ n. n < 2 ^ 63) (sym (ap₂ (λ a b. a * b) times levels)) few in
    search rules

pub loop-number-init : goal.loop-number-init
loop-number-init c =
    let sides = c.args.sides.now in let in_ = c.sides.inside in
    let times : length c.items.result.now ≡ length in_.times = ap (λ (l : List ℕ). length l) c.items.ensures in
    let levels : length c.items-2.result.now ≡ length in_.levels = ap (λ (l : List ℕ). length l) c.items-2.ensures in
    let many : length c.items.result.now * length c.items-2.result.now * (in_.rows * in_.columns) ≡ stack_count sides =
    ap₂ (λ a b. a * b * (in_.rows * in_.columns)) times levels ∙ ap (λ (s : SidesValue). stack_count s) c.sides.view_is in
    let mask : c.resize.new.self.items ≡ replicate (stack_count sides) false =
    filled false (length c.items.result.now * length c.items-2.result.now * (in_.rows * in_.columns)) (stack_count sides) c.new-mask.result.len c.new-mask.result.items c.resize.new.self.items
    c.new-mask.ensures.items c.new-mask.ensures.len many c.in_ok-resize.ensures.items in
    no_bits c.args.corridor.now c.args.axes.now sides c.requires.sides c.resize.new.self.items mask

pub set_segment-requires-clause-mask : goal.set_segment-requires-clause-mask
set_segment-requires-clause-mask c =
    let corridor = c.args.corridor.now in let axes = c.args.axes.now in let sides = c.args.sides.now in
    subst (λ (m : List Bool). HasBits (takes_first corridor axes c.loop-number.number) (record { sides = sides; mask = m })) (sym c.deref_mut.ensures.value) c.loop-number.invariant

pub set_segment-requires-clause-inside : goal.set_segment-requires-clause-inside
set_segment-requires-clause-inside c =
    let count : c.len-number-end.result + 1 ≡ length c.args.corridor.now.segments.line = c.len-number-end.ensures ∙ ap (λ (v : CorridorValue). length v.segments.line) c.corridor.view_is in
    omega (arith, count, c.loop-number-test.true)

pub loop-number-preserved : goal.loop-number-preserved
loop-number-preserved c =
    let corridor = c.args.corridor.now in let axes = c.args.axes.now in let sides = c.args.sides.now in let k : ℕ = c.loop-number.number in
    let back = with_items_is c.loop-number.mask c.set_segment.new.mask (c.in_ok-set_segment.ensures.full ∙ ap (λ (l : List Bool). length l) c.deref_mut.ensures.value ∙ sym c.loop-number.mask.ok.0) in
    subst (λ (m : List Bool). HasBits (takes_first corridor axes (k + 1)) (record { sides = sides; mask = m })) (sym back) c.in_ok-set_segment.ensures.mask

pub returns : goal.returns
returns c =
    let corridor = c.args.corridor.now in let axes = c.args.axes.now in let k : ℕ = c.loop-number.number in
    let end : k ≡ c.len-number-end.result = omega arith in
    let all : k + 1 ≡ length corridor.segments.line = ap (λ n. n + 1) end ∙ c.len-number-end.ensures ∙ ap (λ (v : CorridorValue). length v.segments.line) c.corridor.view_is in
    all_bits corridor axes k all (record { sides = c.args.sides.now; mask = c.loop-number.mask.items }) c.loop-number.invariant
