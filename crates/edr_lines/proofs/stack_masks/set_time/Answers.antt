use Rattle.std.proofs.Common.{◌≡◌, ◌∙◌, ◌+◌, ◌-◌, ◌*◌, ◌<◌, ◌≤◌, ◌^◌, ℕ, List, true, length, take, drop, ap, sym, subst, arith, rules}
use Rattle.edr_geometry.specs.Ranges.{lies_in}
use Rattle.edr_corridor.specs.Boxes.{box_takes}
use borrow.Rule.Slice.PartMut.{put_mid}
use Rattle.edr_select.specs.Stacks.{SidesValue, time_at}
use Rattle.edr_lines.specs.Bits.{LevelsSet, TimeSet, takes_below, time_size}
use Rattle.edr_lines.proofs.Blocks.{block_end}
use Rattle.edr_lines.proofs.SetLevels.{time_set}
use Rattle.edr_lines.proofs.stack_masks.set_time.Goals as goal

pub overflow_add-planes : goal.overflow_add-planes
overflow_add-planes c =
    let number : ℕ = c.args.number in let in_ = c.sides.inside in let now = c.args.sides.now in
    let size : ℕ = length c.items.result.now * (in_.rows * in_.columns) in
    let same : size ≡ time_size now =
    ap (λ (l : List ℕ). length l * (in_.rows * in_.columns)) c.items.ensures ∙ ap (λ (s : SidesValue). time_size s) c.sides.view_is in
    let end : number * time_size now + time_size now ≤ length now.times * time_size now = block_end number (length now.times) (time_size now) c.requires.number in
    let below : number * size + size < 2 ^ 63 = subst (λ n. number * n + n < 2 ^ 63) (sym same) (omega (arith, end, c.requires.small.planes)) in
    search rules

pub slice_bounds-planes-end : goal.slice_bounds-planes-end
slice_bounds-planes-end c =
    let number : ℕ = c.args.number in let in_ = c.sides.inside in let now = c.args.sides.now in
    let size : ℕ = length c.items.result.now * (in_.rows * in_.columns) in
    let same : size ≡ time_size now =
    ap (λ (l : List ℕ). length l * (in_.rows * in_.columns)) c.items.ensures ∙ ap (λ (s : SidesValue). time_size s) c.sides.view_is in
    let end : number * time_size now + time_size now ≤ length now.times * time_size now = block_end number (length now.times) (time_size now) c.requires.number in
    subst (λ n. number * n + n ≤ length c.args.mask.now) (sym same) (omega (arith, end, c.requires.full))

pub returns : goal.returns
returns c =
    let box = c.args.taken.now in let number : ℕ = c.args.number in let in_ = c.sides.inside in let mask = c.args.mask.now in
    let sides : SidesValue = record { times = in_.times; levels = in_.levels; row = in_.row; rows = in_.rows; column = in_.column; columns = in_.columns } in
    let size : ℕ = time_size sides in
    let many : length c.items.result.now ≡ length in_.levels = ap (λ (l : List ℕ). length l) c.items.ensures in
    let part = λ (n : ℕ). take (number * (n * (in_.rows * in_.columns)) + n * (in_.rows * in_.columns) - number * (n * (in_.rows * in_.columns))) (drop (number * (n * (in_.rows * in_.columns))) mask) in
    let is = subst (λ (s : SidesValue). lies_in box.times (time_at s number) ≡ true) (sym c.sides.view_is) c.requires.lies in
    let here = subst (λ (s : SidesValue). number < length s.times) (sym c.sides.view_is) c.requires.number in
    let full : length mask ≡ length sides.times * time_size sides = c.requires.full ∙ ap (λ (s : SidesValue). length s.times * time_size s) (sym c.sides.view_is) in
    let set : LevelsSet sides (takes_below box) (take (number * size + size - number * size) (drop (number * size) mask)) c.set_levels.new.planes =
    subst (λ (n : ℕ). LevelsSet sides (takes_below box) (part n) c.set_levels.new.planes) many
    (subst (λ (s : SidesValue). LevelsSet s (takes_below box) (part (length c.items.result.now)) c.set_levels.new.planes) (sym c.sides.view_is) c.set_levels.ensures) in
    let put = λ (n : ℕ). put_mid (number * (n * (in_.rows * in_.columns))) (number * (n * (in_.rows * in_.columns)) + n * (in_.rows * in_.columns) - number * (n * (in_.rows * in_.columns))) mask c.set_levels.new.planes in
    subst (λ (n : ℕ). TimeSet c.args.sides.now (box_takes box) number mask (put n)) (sym many)
    (subst (λ (s : SidesValue). TimeSet s (box_takes box) number mask (put (length in_.levels))) c.sides.view_is
    (time_set sides box number here is mask c.set_levels.new.planes full set))
