-- What a list of answers says where its loop ends.
use Rattle.std.proofs.Common.{◌≡◌, ℕ, ◌≤◌, List, length, drop, map, Ok, sym, ap, ◌∙◌}
use Rattle.std.proofs.lemmas.List.{at_drop_all, append-nil}
use Rattle.serde_json.specs.Data.{Data}
use Rattle.serde_json.specs.View.{items_of}
use Rattle.edr_samples.specs.Trees.{tree_view, items_view}
use Rattle.edr_samples.specs.declared.trees.Tree.{Tree}
use Rattle.covjson_checks.specs.Answers.{Answer, each_from, onto}

-- behind the last item what was found is the answer
pub at_done : {V X : Type 0} (answer_at : ℕ → Data → Answer V) (seen : X → Data) (xs : List X) (i : ℕ) (found : List V) (all : Answer (List V)) → length xs ≤ i
    → onto found (each_from answer_at i (items_of (map seen (drop i xs)))) ≡ all → all ≡ Ok found
at_done {X = X} answer_at seen xs i found all past before =
    sym before ∙ at_drop_all (λ (rest : List X). onto found (each_from answer_at i (items_of (map seen rest)))) xs i past ∙ ap Ok (append-nil found)

-- of trees
pub from_done : {V : Type 0} (answer_at : ℕ → Data → Answer V) (xs : List Tree) (i : ℕ) (found : List V) (all : Answer (List V)) → length xs ≤ i
    → onto found (each_from answer_at i (items_view (drop i xs))) ≡ all → all ≡ Ok found
from_done answer_at = at_done answer_at tree_view
