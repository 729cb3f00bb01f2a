use Rattle.std.proofs.Common.{◌≡◌, ◌∙◌, ◌+◌, ◌||◌, ap, subst, arith, false, length, get_or, take, List, []}
use Rattle.edr_base.specs.declared.places.Position.{Position}
use Rattle.edr_geometry.specs.Lines.{spot_along, flip_if, odd_behind, odd_crossed, on_edges, Toggles}
use Rattle.edr_geometry.specs.Planar.{crosses, on_segment, edges_along}
use Rattle.edr_geometry.specs.Rows.{Joins}
use Rattle.std.specs.List.{flat_map}
use Rattle.std.proofs.lemmas.List.{take_all, get_or_default}
use Rattle.edr_geometry.proofs.CutLemmas.{rings_more, rings_any_more, Toggles_then, Joins_then}
use Rattle.edr_geometry.proofs.traces.trace_polygon.Goals as goal

pub loop-ring-preserved : goal.loop-ring-preserved
loop-ring-preserved c =
    let line = c.args.line.now in let n = length line.values in let rings = c.args.rings.now in let k = c.loop-ring.ring-index in
    let ring : List Position = get_or rings k [] in
    let cuts = c.trace_ring.new.cuts.items in let old_cuts = c.loop-ring.cuts.items in
    let mask = c.trace_ring.new.mask in let old_mask = c.loop-ring.mask in
    let inside = c.loop-ring-test.true in
    let item : c.items.result.now ≡ ring = c.items.ensures ∙ c.ring-item.is ∙ get_or_default rings k c.ring-item.result [] inside in
    let toggled : Toggles n old_cuts cuts (odd_crossed line (edges_along ring)) =
    (λ place h. subst (λ r. odd_behind n cuts place ≡ flip_if (odd_crossed line (edges_along r) place) (odd_behind n old_cuts place)) item (c.in_ok-trace_ring.ensures.toggles place h)) in
    let joined : Joins old_mask mask (on_edges line (edges_along ring)) =
    (λ place h. subst (λ r. get_or mask place false ≡ (get_or old_mask place false || on_edges line (edges_along r) place)) item (c.in_ok-trace_ring.ensures.joins place h)) in
    record {
      cuts = c.in_ok-trace_ring.ensures.cuts;
      toggles = Toggles_then n c.args.cuts.now.items old_cuts cuts (odd_crossed line (flat_map edges_along (take k rings))) (odd_crossed line (edges_along ring)) (odd_crossed line (flat_map edges_along (take (k + 1) rings)))
          c.loop-ring.invariant.toggles toggled (λ place. rings_more rings k (λ e. crosses (spot_along line place) e.start e.end) inside);
      joins = Joins_then c.args.mask.now old_mask mask (on_edges line (flat_map edges_along (take k rings))) (on_edges line (edges_along ring)) (on_edges line (flat_map edges_along (take (k + 1) rings)))
          c.loop-ring.auto.mask c.loop-ring.invariant.joins joined (λ place. rings_any_more rings k (λ e. on_segment (spot_along line place) e.start e.end) inside);
    }

pub returns-clause-toggles : goal.returns-clause-toggles
returns-clause-toggles c =
    let line = c.args.line.now in let n = length line.values in let rings = c.args.rings.now in let k = c.loop-ring.ring-index in
    let end : take k rings ≡ rings = take_all k rings (omega (arith, c.loop-ring-test.false)) in
    λ place inside. c.loop-ring.invariant.toggles place inside ∙ ap (λ r. flip_if (odd_crossed line (flat_map edges_along r) place) (odd_behind n c.args.cuts.now.items place)) end
