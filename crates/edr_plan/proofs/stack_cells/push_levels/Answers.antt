use Rattle.std.proofs.Common.{◌≡◌, ℕ, ◌+◌, List, [], ◌∷◌, ◌++◌, map, false, ap, ap₂, sym, ◌∙◌, append_assoc, arith}
use Rattle.std.specs.List.{range_with_len, slice_index_or}
use Rattle.std.proofs.lemmas.List.FromFn.{map-range_with_len_more}
use Rattle.edr_plan.specs.StationPlaces.{cell_if}
use Rattle.edr_plan.proofs.stack_cells.push_levels.Goals as goal

more : {X : Type 0} (f : ℕ → X) (xs old new : List X) (k : ℕ) (x : X) → xs ≡ old ++ map f (range_with_len 0 k) → new ≡ xs ++ x ∷ [] → x ≡ f k
    → new ≡ old ++ map f (range_with_len 0 (k + 1))
more f xs old new k x so_far pushed is =
    pushed
    ∙ (ap₂ (λ ys y. ys ++ y ∷ []) so_far is
    ∙ (append_assoc old (map f (range_with_len 0 k)) (f k ∷ []) ∙ ap (λ ys. old ++ ys) (sym (map-range_with_len_more f 0 k k (omega arith)))))

pub loop-at-preserved : goal.loop-at-preserved
loop-at-preserved c =
    more (λ j. cell_if (slice_index_or c.args.taken.now j false) (c.args.first + slice_index_or c.args.levels.now j 0)) c.loop-at.cells.items c.args.cells.now.items
    c.push.new.self.items c.loop-at.at c.cell_if.result c.loop-at.invariant c.in_ok-push.ensures.items c.cell_if.ensures
