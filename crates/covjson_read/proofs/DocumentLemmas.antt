-- The answers of the items of a list in turn, and of trees by their type.
use Rattle.std.proofs.Common.{◌≡◌, ℕ, ◌+◌, ◌<◌, ◌≤◌, List, [], ◌∷◌, ◌++◌, length, get_or, drop, Result, Ok, Err, IsErrAnd, ◌⊎◌, inl, inr, codes, refl, sym, ap, ◌∙◌}
use Rattle.std.proofs.lemmas.List.{drop_more, at_drop_all, append-nil}
use Rattle.serde_json.specs.Data.{Data, Members}
use Rattle.serde_json.specs.Find.{get}
use Rattle.edr_samples.specs.Trees.{tree_view, items_view}
use Rattle.edr_samples.specs.declared.trees.Tree.{Tree}
use Rattle.covjson_checks.specs.declared.faults.Member.TheVariants.{Document as TheDocument, Kind}
use Rattle.covjson_checks.specs.declared.faults.CovFault.{CovFault}
use Rattle.covjson_checks.specs.declared.faults.CovFault.TheVariants.{OutOfMemory}
use Rattle.covjson_checks.specs.Answers.{Answer, GivesUnlessMemory, each, onto}
use Rattle.covjson_checks.specs.Members.{need, object_at}
use Rattle.edr_json.specs.Trees.{text_or_empty}
use Rattle.covjson_read.specs.CoverageAnswers.{document_of_type, document_of}
use Rattle.edr_json.specs.AnswerLaws.{or_fault_ok}
use Rattle.edr_json.specs.AnswerLaws.{and_then_given}
use Rattle.covjson_checks.specs.CheckLaws.{onto_more}

-- one more answer is found, and one item fewer is left
pub each_more : {V : Type 0} (answer_of : Data → Answer V) (items : List Tree) (place : ℕ) (one : Tree) (found new : List V) (v : V)
    → place < length items → one ≡ get_or items place one → answer_of (tree_view one) ≡ Ok v → new ≡ found ++ v ∷ []
    → onto new (each answer_of (items_view (drop (place + 1) items))) ≡ onto found (each answer_of (items_view (drop place items)))
each_more answer_of items place one found new v within is given pushed =
    let here : answer_of (tree_view (get_or items place one)) ≡ Ok v = rw (← is) given in
    rw (pushed, drop_more items place one within, here) (onto_more found v (each answer_of (items_view (drop (place + 1) items))))

-- behind the last item what was found is the answer
pub each_found : {V : Type 0} (answer_of : Data → Answer V) (items : List Tree) (place : ℕ) (found : List V) (all : Answer (List V)) → length items ≤ place
    → onto found (each answer_of (items_view (drop place items))) ≡ all → all ≡ Ok found
each_found answer_of items place found all past before =
    sym before ∙ at_drop_all (λ (rest : List Tree). onto found (each answer_of (items_view rest))) items place past ∙ ap Ok (append-nil found)

-- an item's fault is the answer of all
pub each_stopped : {T V : Type 0} (seen : T → List V) (r : Result T CovFault) (answer_of : Data → Answer V) (items : List Tree) (place : ℕ) (one : Tree) (found : List V) (fault : CovFault) (all : Answer (List V))
    → place < length items → one ≡ get_or items place one → (answer_of (tree_view one) ≡ Err fault) ⊎ (fault ≡ OutOfMemory) → IsErrAnd r (λ e. e ≡ fault)
    → onto found (each answer_of (items_view (drop place items))) ≡ all → GivesUnlessMemory seen r all
each_stopped seen (Ok x) answer_of items place one found fault all within is given same before = absurd same
each_stopped seen (Err e) answer_of items place one found fault all within is (inr memory) same before = inr (same ∙ memory)
each_stopped seen (Err e) answer_of items place one found fault all within is (inl given) same before =
    let here : answer_of (tree_view (get_or items place one)) ≡ Err fault = rw (← is) given in
    let stopped : onto found (each answer_of (items_view (drop place items))) ≡ Err fault = rw (drop_more items place one within, here) refl in
    inl (sym before ∙ stopped ∙ ap (λ f. Err f) (sym same))

-- an object with a type is answered by its type
pub document_by_kind : (tree kind : Data) (ms : Members) (text : List ℕ) → object_at TheDocument tree ≡ Ok ms → need (codes "type") Kind tree ≡ Ok kind
    → text ≡ text_or_empty (get (codes "type") tree) → document_of_type text tree ≡ document_of tree
document_by_kind tree kind ms text is_object has_kind is_text =
    let found = or_fault_ok (get (codes "type") tree) _ kind has_kind in
    sym (and_then_given (object_at TheDocument tree) _ ms (document_of_type text tree) is_object
    (and_then_given (need (codes "type") Kind tree) _ kind (document_of_type text tree) has_kind
    (ap (λ t. document_of_type t tree) (ap text_or_empty (sym found) ∙ sym is_text))))
