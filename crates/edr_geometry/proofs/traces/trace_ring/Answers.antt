use Rattle.std.proofs.Common.{◌≡◌, ◌∙◌, ◌+◌, ◌-◌, ◌||◌, ap, subst, arith, false, pos, length, get_or, take}
use Rattle.edr_base.specs.declared.places.Position.{Position}
use Rattle.edr_geometry.specs.Lines.{spot_along, flip_if, odd_behind, odd_crossed, on_edges, Toggles}
use Rattle.edr_geometry.specs.Planar.{crosses, on_segment, edges_along, spot_of}
use Rattle.edr_geometry.specs.Rows.{Joins}
use Rattle.std.proofs.lemmas.List.{take_all}
use Rattle.edr_geometry.proofs.CutLemmas.{ring_more, ring_any_more, Toggles_then, Joins_then}
use Rattle.edr_geometry.proofs.traces.trace_ring.Goals as goal

pub loop-place-preserved : goal.loop-place-preserved
loop-place-preserved c =
    let line = c.args.line.now in let n = length line.values in let ring = c.args.ring.now in let k = c.loop-place.place in
    let none : Position = record { x = pos 0; y = pos 0; z = pos 0; m = pos 0 } in
    let a = spot_of (get_or ring (k - 1) none) in let b = spot_of (get_or ring k none) in
    let cuts = c.trace_edge.new.cuts.items in let old_cuts = c.loop-place.cuts.items in
    let mask = c.trace_edge.new.mask in let old_mask = c.loop-place.mask in
    let from = c.loop-place.auto.place in let inside = c.loop-place-test.true in
    let a_is : c.spot_of-a.result ≡ a = c.spot_of-a.ensures in
    let b_is : c.spot_of-b.result ≡ b = c.spot_of-b.ensures in
    let toggled : Toggles n old_cuts cuts (λ place. crosses (spot_along line place) a b) =
    (λ place h. subst (λ s. odd_behind n cuts place ≡ flip_if (crosses (spot_along line place) s b) (odd_behind n old_cuts place)) a_is
    (subst (λ t. odd_behind n cuts place ≡ flip_if (crosses (spot_along line place) c.spot_of-a.result t) (odd_behind n old_cuts place)) b_is (c.in_ok-trace_edge.ensures.toggles place h))) in
    let joined : Joins old_mask mask (λ place. on_segment (spot_along line place) a b) =
    (λ place h. subst (λ s. get_or mask place false ≡ (get_or old_mask place false || on_segment (spot_along line place) s b)) a_is
    (subst (λ t. get_or mask place false ≡ (get_or old_mask place false || on_segment (spot_along line place) c.spot_of-a.result t)) b_is (c.in_ok-trace_edge.ensures.joins place h))) in
    record {
      cuts = c.in_ok-trace_edge.ensures.cuts;
      toggles = Toggles_then n c.args.cuts.now.items old_cuts cuts (odd_crossed line (edges_along (take k ring))) (λ place. crosses (spot_along line place) a b) (odd_crossed line (edges_along (take (k + 1) ring)))
          c.loop-place.invariant.toggles toggled (λ place. ring_more ring k none (λ e. crosses (spot_along line place) e.start e.end) from inside);
      joins = Joins_then c.args.mask.now old_mask mask (on_edges line (edges_along (take k ring))) (λ place. on_segment (spot_along line place) a b) (on_edges line (edges_along (take (k + 1) ring)))
          c.loop-place.auto.mask c.loop-place.invariant.joins joined (λ place. ring_any_more ring k none (λ e. on_segment (spot_along line place) e.start e.end) from inside);
    }

pub returns-clause-toggles : goal.returns-clause-toggles
returns-clause-toggles c =
    let line = c.args.line.now in let n = length line.values in let ring = c.args.ring.now in let k = c.loop-place.place in
    let end : take k ring ≡ ring = take_all k ring (omega (arith, c.loop-place-test.false)) in
    λ place inside. c.loop-place.invariant.toggles place inside ∙ ap (λ r. flip_if (odd_crossed line (edges_along r) place) (odd_behind n c.args.cuts.now.items place)) end
