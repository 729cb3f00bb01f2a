use Rattle.std.proofs.Common.{◌≡◌, ◌∙◌, ap, get_or, false, refl, length, arith}
use Rattle.std.specs.List.{filter, range_with_len}
use Rattle.edr_select.specs.ListLaws.{keep_step}
use Rattle.edr_lines.proofs.stacks_taken.places_set.Goals as goal

pub loop-place-preserved : goal.loop-place-preserved
loop-place-preserved c =
    let set = c.args.set.now in
    keep_step (λ k. get_or set k false) c.loop-place.place (get_or set c.loop-place.place false) c.loop-place.places.items c.keep.new.numbers.items c.loop-place.invariant refl c.in_ok-keep.ensures

pub returns : goal.returns
returns c =
    let set = c.args.set.now in
    let end : c.loop-place.place ≡ length set = omega arith in
    c.loop-place.invariant ∙ ap (λ n. filter (λ k. get_or set k false) (range_with_len 0 n)) end
