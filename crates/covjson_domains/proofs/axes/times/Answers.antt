use Rattle.std.proofs.Common.{rules, arith, ◌≡◌, ◌∙◌, ℕ, suc, ◌+◌, ◌<◌, ◌≤◌, ℤ, List, [], ◌∷◌, ◌++◌, length, get_or, drop, Ok, Err, inl, sym, ap, add-one, append-nil}
use Rattle.std.proofs.lemmas.List.{drop_all, drop_more}
use Rattle.std.proofs.lemmas.Result.{err_from_is_err_and}
use Rattle.edr_samples.specs.Trees.{tree_view, items_view}
use Rattle.edr_samples.specs.declared.trees.Tree.{Tree}
use Rattle.covjson_checks.specs.declared.faults.Member.TheVariants.{T as TimeAxis}
use Rattle.covjson_checks.specs.declared.faults.CovFault.{CovFault}
use Rattle.covjson_checks.specs.Answers.{Answer, onto}
use Rattle.covjson_checks.specs.CheckLaws.{onto_more}
use Rattle.edr_base.specs.FirstThatApplies.{and_then}
use Rattle.covjson_domains.specs.AxisAnswers.{time_at, times_from}
use Rattle.covjson_domains.proofs.axes.times.Goals as goal

-- the times of the texts from a place on, by that of the text there
times_there : (xs : List Tree) (place : ℕ) (x : Tree) (here : Answer ℤ) → place < length xs → x ≡ get_or xs place x → here ≡ time_at TimeAxis place (tree_view x)
    → times_from place (items_view (drop place xs)) ≡ and_then here (λ t. and_then (times_from (suc place) (items_view (drop (suc place) xs))) (λ ts. Ok (t ∷ ts)))
times_there xs place x here h is read =
    let more : drop place xs ≡ get_or xs place x ∷ drop (suc place) xs = rw add-one at (drop_more xs place x h) in
    let rest = times_from (suc place) (items_view (drop (suc place) xs)) in
    let first : time_at TimeAxis place (tree_view (get_or xs place x)) ≡ here = ap (λ v. time_at TimeAxis place (tree_view v)) (sym is) ∙ sym read in
    ap (λ vs. times_from place (items_view vs)) more ∙ ap (λ (a : Answer ℤ). and_then a (λ time. and_then rest (λ ts. Ok (time ∷ ts)))) first

-- after one more time the rest of the texts is one shorter
times_more : (xs : List Tree) (place : ℕ) (x : Tree) (found new : List ℤ) (t : ℤ) (all : Answer (List ℤ))
    → place < length xs → x ≡ get_or xs place x → Ok t ≡ time_at TimeAxis place (tree_view x) → new ≡ found ++ t ∷ []
    → onto found (times_from place (items_view (drop place xs))) ≡ all
    → onto new (times_from (place + 1) (items_view (drop (place + 1) xs))) ≡ all
times_more xs place x found new t all h is here pushed before =
    let rest = times_from (suc place) (items_view (drop (suc place) xs)) in
    rw (pushed, add-one) (onto_more found t rest ∙ ap (λ a. onto found a) (sym (times_there xs place x (Ok t) h is here)) ∙ before)

-- the fault of a text is the answer
times_stop : (xs : List Tree) (place : ℕ) (x : Tree) (found : List ℤ) (f : CovFault) (all : Answer (List ℤ))
    → place < length xs → x ≡ get_or xs place x → Err f ≡ time_at TimeAxis place (tree_view x)
    → onto found (times_from place (items_view (drop place xs))) ≡ all → all ≡ Err f
times_stop xs place x found f all h is here before =
    sym before ∙ ap (λ a. onto found a) (times_there xs place x (Err f) h is here)

-- after the last text all times are found
times_end : (xs : List Tree) (place : ℕ) (found : List ℤ) (all : Answer (List ℤ)) → length xs ≤ place → onto found (times_from place (items_view (drop place xs))) ≡ all → all ≡ Ok found
times_end xs place found all past before =
    sym before ∙ ap (λ vs. onto found (times_from place (items_view vs))) (drop_all place xs past) ∙ ap Ok (append-nil found)

pub returns-in_err-time : goal.returns-in_err-time
returns-in_err-time c =
    let xs = c.args.items.now.items in
    let p = err_from_is_err_and c.from_residual-in_err-time.result c.from_residual-in_err-time.ensures.1 in
    rw (p.1, p.2) (inl (times_stop xs c.loop-place.place c.item-item.result c.loop-place.found.items c.in_err-time.field-0.0 (times_from 0 (items_view xs))
    (omega arith) (c.item-item.is ∙ ap (λ ys. get_or ys c.loop-place.place c.item-item.result) c.deref-item-items.ensures.value) c.in_err-time.ensures c.loop-place.invariant))

pub loop-place-preserved : goal.loop-place-preserved
loop-place-preserved c =
    let xs = c.args.items.now.items in
    let t = c.in_ok-time.time in
    let pushed : c.push.new.self.items ≡ c.loop-place.found.items ++ t ∷ [] = search rules in
    let here : Ok t ≡ time_at TimeAxis c.loop-place.place (tree_view c.item-item.result) = c.in_ok-time.ensures in
    times_more xs c.loop-place.place c.item-item.result c.loop-place.found.items c.push.new.self.items t (times_from 0 (items_view xs))
    (omega arith) (c.item-item.is ∙ ap (λ ys. get_or ys c.loop-place.place c.item-item.result) c.deref-item-items.ensures.value) here pushed c.loop-place.invariant

pub returns : goal.returns
returns c =
    let xs = c.args.items.now.items in
    times_end xs c.loop-place.place c.loop-place.found.items (times_from 0 (items_view xs)) (omega arith) c.loop-place.invariant
