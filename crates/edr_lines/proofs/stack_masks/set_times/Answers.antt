use Rattle.std.proofs.Common.{◌≡◌, ◌∙◌, ◌<◌, ℕ, List, length, ap, sym, subst, arith}
use Rattle.edr_corridor.specs.Boxes.{box_takes}
use Rattle.edr_select.specs.Listings.{NumbersRise}
use Rattle.edr_select.specs.Stacks.{SidesValue}
use Rattle.edr_lines.proofs.RangePlaces.{before_first, behind_end, lies_there, lies_as}
use Rattle.edr_lines.proofs.SetLevels.{no_times, time_more, all_times}
use Rattle.edr_lines.proofs.stack_masks.set_times.Goals as goal

pub numbers_in-first-requires : goal.numbers_in-first-requires
numbers_in-first-requires c =
    let same : c.items.result.now ≡ c.args.sides.now.times = c.items.ensures ∙ ap (λ (s : SidesValue). s.times) c.sides.view_is in
    subst (λ (l : List ℕ). NumbersRise l) (sym same) c.requires.rise.times

pub loop-number-init : goal.loop-number-init
loop-number-init c =
    let box = c.args.taken.now in let sides = c.args.sides.now in let numbers = c.numbers_in-first.result in
    let same : c.items.result.now ≡ sides.times = c.items.ensures ∙ ap (λ (s : SidesValue). s.times) c.sides.view_is in
    let lies = lies_as box.times numbers c.items.result.now sides.times same c.numbers_in-first.ensures.lie in
    no_times sides box numbers.0 (λ k inside low. lies k inside ∙ before_first numbers k low) c.args.mask.now

pub set_time-requires-clause-number : goal.set_time-requires-clause-number
set_time-requires-clause-number c =
    let box = c.args.taken.now in let sides = c.args.sides.now in let numbers = c.numbers_in-first.result in
    let same : c.items.result.now ≡ sides.times = c.items.ensures ∙ ap (λ (s : SidesValue). s.times) c.sides.view_is in
    omega (arith, ap (λ (l : List ℕ). length l) same, c.numbers_in-first.ensures.inside, c.loop-number-test.true)

pub set_time-requires-clause-lies : goal.set_time-requires-clause-lies
set_time-requires-clause-lies c =
    let box = c.args.taken.now in let sides = c.args.sides.now in let numbers = c.numbers_in-first.result in
    let same : c.items.result.now ≡ sides.times = c.items.ensures ∙ ap (λ (s : SidesValue). s.times) c.sides.view_is in
    let lies = lies_as box.times numbers c.items.result.now sides.times same c.numbers_in-first.ensures.lie in
    let inside : c.loop-number.number < length sides.times = omega (arith, ap (λ (l : List ℕ). length l) same, c.numbers_in-first.ensures.inside, c.loop-number-test.true) in
    lies c.loop-number.number inside ∙ lies_there numbers c.loop-number.number c.loop-number.auto.number c.loop-number-test.true

pub loop-number-preserved : goal.loop-number-preserved
loop-number-preserved c =
    time_more c.args.sides.now (box_takes c.args.taken.now) c.loop-number.number c.args.mask.now c.loop-number.mask c.set_time.new.mask c.loop-number.invariant c.set_time.ensures

pub returns : goal.returns
returns c =
    let box = c.args.taken.now in let sides = c.args.sides.now in let numbers = c.numbers_in-first.result in
    let same : c.items.result.now ≡ sides.times = c.items.ensures ∙ ap (λ (s : SidesValue). s.times) c.sides.view_is in
    let lies = lies_as box.times numbers c.items.result.now sides.times same c.numbers_in-first.ensures.lie in
    all_times sides box c.loop-number.number c.args.mask.now c.loop-number.mask (λ k inside from. lies k inside ∙ behind_end numbers k (omega (arith, from, c.loop-number-test.false))) c.loop-number.invariant
