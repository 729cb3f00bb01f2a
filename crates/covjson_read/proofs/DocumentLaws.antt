-- Documents: the rows have one answer, which the computation follows, and with a document they say what stands.
use Rattle.std.proofs.Common.{◌≡◌, ℕ, List, [], ◌∷◌, bytes_eq, Bool, true, false, if◌then◌else◌, Some, Ok, Err, inl, inr, codes, refl, sym, ap, ◌∙◌, subst}
use Rattle.std.proofs.lemmas.Slice.Eq.{bytes_eq-Decides}
use Rattle.serde_json.specs.Data.{Data, null, string, array, object, Items, no_items, item}
use Rattle.serde_json.specs.Find.{get}
use Rattle.covjson_value.specs.declared.coverages.Coverage.{Coverage}
use Rattle.covjson_value.specs.declared.coverages.Document.{Document}
use Rattle.covjson_value.specs.declared.coverages.Document.TheVariants.{One, Many}
use Rattle.covjson_checks.specs.declared.faults.CovFault.TheVariants.{NotJson, Missing, WrongType}
use Rattle.covjson_checks.specs.declared.faults.Member.TheVariants.{Document as TheDocument, Kind, Coverages}
use Rattle.covjson_checks.specs.Answers.{Answer, each}
use Rattle.covjson_checks.specs.Members.{need, object_at, list_at}
use Rattle.covjson_checks.specs.RowLaws.{HaveAnswer, answer_is_one, Finds, find_answers, then_answers, gives_answers, passed, passed_then, find_one}
use Rattle.covjson_read.proofs.RowAnswers.{one_is_answer}
use Rattle.edr_base.specs.FirstThatApplies.{Find}
use Rattle.edr_json.specs.Json.{IsJson, TextsHaveOneTree}
use Rattle.edr_json.specs.Trees.{EachStands, text_or_empty}
use Rattle.edr_json.specs.TreeLaws.{text_is}
use Rattle.covjson_read.specs.Standing.{StandsIn, TreeStandsFor}
use Rattle.covjson_read.specs.Rows.{CoverageRows, EachCoverageRows, RowsOfType, TreeRows, DocumentRows, DocumentType, single, collected, type_name}
use Rattle.covjson_read.specs.CoverageAnswers.{coverage_in, one_coverage, many_coverages, document_of, AnswersText, CoverageAnswersFollowRows}
use Rattle.covjson_read.specs.Laws.{CoverageRowsHaveOneAnswer, CoverageRowsAreWhatStands, DocumentRowsHaveOneAnswer, DocumentRowsAreWhatStands, TextsHaveOneDocument}
use Rattle.covjson_read.proofs.SystemLaws.{given_found, list_found}
use Rattle.covjson_read.proofs.ParameterLaws.{object_of, object_found}

-- a name is that of one type
same_type : (kind : Data) (a b : DocumentType) → kind ≡ string (type_name a) → kind ≡ string (type_name b) → a ≡ b
same_type kind single single h k = refl
same_type kind single collected h k = let e : string (codes "Coverage") ≡ string (codes "CoverageCollection") = sym h ∙ k in cc
same_type kind collected single h k = let e : string (codes "CoverageCollection") ≡ string (codes "Coverage") = sym h ∙ k in cc
same_type kind collected collected h k = refl

-- ---- the rows of a tree have the answer

-- what is known of coverages
pub record CoverageLaws : Type 0 where
  pub one : CoverageRowsHaveOneAnswer
  pub follow : CoverageAnswersFollowRows

coverage_answer : CoverageLaws → (collection tree : Data) → HaveAnswer (CoverageRows collection tree) (coverage_in collection tree)
coverage_answer laws collection tree = one_is_answer (CoverageRows collection tree) (coverage_in collection tree) (laws.follow collection tree) (laws.one collection tree)

each_rows : CoverageLaws → (collection : Data) (ds : Items) → HaveAnswer (EachCoverageRows collection ds) (each (coverage_in collection) ds)
each_rows laws collection no_items = gives_answers []
each_rows laws collection (item d ds) =
    then_answers (CoverageRows collection d) _ (coverage_in collection d) _ (coverage_answer laws collection d) (λ coverage here.
    then_answers (EachCoverageRows collection ds) _ (each (coverage_in collection) ds) _ (each_rows laws collection ds) (λ coverages there.
    gives_answers (coverage ∷ coverages)))

-- the answer by the type of a document
abbrev of_type : Data → DocumentType → Answer Document
of_type tree single = one_coverage tree
of_type tree collected = many_coverages tree

type_rows : CoverageLaws → (tree : Data) (type : DocumentType) → HaveAnswer (RowsOfType type tree) (of_type tree type)
type_rows laws tree single = then_answers (CoverageRows null tree) _ (coverage_in null tree) _ (coverage_answer laws null tree) (λ coverage here. gives_answers (One coverage))
type_rows laws tree collected =
    find_answers (λ list. get (codes "coverages") tree ≡ Some list) (Missing Coverages) _ (need (codes "coverages") Coverages tree) _ (given_found (Missing Coverages) (get (codes "coverages") tree)) (λ list at.
    find_answers (λ items. list ≡ array items) (WrongType Coverages) _ (list_at Coverages list) _ (list_found (WrongType Coverages) list) (λ items is.
    then_answers (EachCoverageRows tree items) _ (each (coverage_in tree) items) _ (each_rows laws tree items) (λ coverages are.
    gives_answers (Many coverages))))

-- the type of a member
abbrev IsOfType : Data → DocumentType → Type 0
IsOfType kind type = kind ≡ string (type_name type)

type_found : (kind : Data) (type : DocumentType) → IsOfType kind type → Finds (IsOfType kind) (WrongType Kind) (Ok type)
type_found kind type is = record {
  found = λ other h. let same : type ≡ other = cc in subst (IsOfType kind) same is;
  finds = λ other here. ap Ok (same_type kind type other is here);
  none = λ fault h. cc;
}

type_none : (kind : Data) → ((type : DocumentType) → ¬ (IsOfType kind type)) → Finds (IsOfType kind) (WrongType Kind) (Err (WrongType Kind))
type_none kind not = record { found = λ type h. cc; finds = λ type is. absurd (not type is); none = λ fault h. cc }

is_one : (kind : Data) → bytes_eq (text_or_empty (Some kind)) (codes "Coverage") ≡ true → IsOfType kind single
is_one kind h = let e = text_is (Some kind) _ _ ((bytes_eq-Decides (text_or_empty (Some kind)) (codes "Coverage")).0 h) in cc

is_many : (kind : Data) → bytes_eq (text_or_empty (Some kind)) (codes "CoverageCollection") ≡ true → IsOfType kind collected
is_many kind h = let e = text_is (Some kind) _ _ ((bytes_eq-Decides (text_or_empty (Some kind)) (codes "CoverageCollection")).0 h) in cc

named : (kind : Data) (type : DocumentType) → IsOfType kind type → bytes_eq (text_or_empty (Some kind)) (type_name type) ≡ true
named kind type is = ap (λ (d : Data). bytes_eq (text_or_empty (Some d)) (type_name type)) is ∙ (bytes_eq-Decides (type_name type) (type_name type)).1 refl

neither : (kind : Data) → bytes_eq (text_or_empty (Some kind)) (codes "Coverage") ≡ false → bytes_eq (text_or_empty (Some kind)) (codes "CoverageCollection") ≡ false
    → (type : DocumentType) → ¬ (IsOfType kind type)
neither kind h k single is = let e = named kind single is in cc
neither kind h k collected is = let e = named kind collected is in cc

kind_by : CoverageLaws → (tree kind : Data) (b c : Bool) → bytes_eq (text_or_empty (Some kind)) (codes "Coverage") ≡ b → bytes_eq (text_or_empty (Some kind)) (codes "CoverageCollection") ≡ c
    → HaveAnswer (Find (IsOfType kind) (WrongType Kind) (λ type. RowsOfType type tree)) (if b then one_coverage tree else if c then many_coverages tree else Err (WrongType Kind))
kind_by laws tree kind true c h k = find_answers (IsOfType kind) (WrongType Kind) (λ type. RowsOfType type tree) (Ok single) (of_type tree) (type_found kind single (is_one kind h)) (λ type is. type_rows laws tree type)
kind_by laws tree kind false true h k = find_answers (IsOfType kind) (WrongType Kind) (λ type. RowsOfType type tree) (Ok collected) (of_type tree) (type_found kind collected (is_many kind k)) (λ type is. type_rows laws tree type)
kind_by laws tree kind false false h k = find_answers (IsOfType kind) (WrongType Kind) (λ type. RowsOfType type tree) (Err (WrongType Kind)) (of_type tree) (type_none kind (neither kind h k)) (λ type is. type_rows laws tree type)

tree_rows : CoverageLaws → (tree : Data) → HaveAnswer (TreeRows tree) (document_of tree)
tree_rows laws tree =
    find_answers (λ members. tree ≡ object members) (WrongType TheDocument) _ (object_at TheDocument tree) _ (object_found (WrongType TheDocument) tree) (λ members is_object.
    find_answers (λ kind. get (codes "type") tree ≡ Some kind) (Missing Kind) _ (need (codes "type") Kind tree) _ (given_found (Missing Kind) (get (codes "type") tree)) (λ kind at.
    let text = text_or_empty (Some kind) in
    kind_by laws tree kind (bytes_eq text (codes "Coverage")) (bytes_eq text (codes "CoverageCollection")) refl refl))

-- ---- the rows of a text

pub document_one : TextsHaveOneTree → CoverageLaws → DocumentRowsHaveOneAnswer
document_one trees laws text = find_one (IsJson text) NotJson TreeRows (trees text) (λ tree is_json. answer_is_one (TreeRows tree) (document_of tree) (tree_rows laws tree))

-- the answer of a text follows them
pub text_follows : CoverageLaws → (text : List ℕ) (answer : Answer Document) → AnswersText text answer → DocumentRows text answer
text_follows laws text answer h = elim h [
  | inl w ↦ inl (w.0, w.1, subst (TreeRows w.0) w.2 (tree_rows laws w.0).follows)
  | inr w ↦ inr (w.0, w.1)
]

-- ---- what stands

each_tells : CoverageRowsAreWhatStands → (collection : Data) (ds : Items) (coverages : List Coverage) → EachCoverageRows collection ds (Ok coverages) → EachStands (StandsIn collection) ds coverages
each_tells stand collection no_items [] h = tt
each_tells stand collection no_items (coverage ∷ coverages) h = cc
each_tells stand collection (item d ds) coverages h =
    let c = passed_then h in
    let o = passed_then c.2 in
    let same : c.0 ∷ o.0 ≡ coverages = let e = o.2 in cc in
    subst (EachStands (StandsIn collection) (item d ds)) same ((stand collection d c.0).0 c.1, each_tells stand collection ds o.0 o.1)

each_passes : CoverageRowsAreWhatStands → (collection : Data) (ds : Items) (coverages : List Coverage) → EachStands (StandsIn collection) ds coverages → EachCoverageRows collection ds (Ok coverages)
each_passes stand collection no_items [] h = refl
each_passes stand collection no_items (coverage ∷ coverages) h = absurd h
each_passes stand collection (item d ds) [] h = absurd h
each_passes stand collection (item d ds) (coverage ∷ coverages) h =
    inl (coverage, (stand collection d coverage).1 h.0, inl (coverages, each_passes stand collection ds coverages h.1, refl))

type_tells : CoverageRowsAreWhatStands → (tree : Data) (type : DocumentType) (document : Document) → get (codes "type") tree ≡ Some (string (type_name type)) → RowsOfType type tree (Ok document) → TreeStandsFor tree document
type_tells stand tree single document kind h =
    let c = passed_then h in
    let same : One c.0 ≡ document = let e = c.2 in cc in
    subst (TreeStandsFor tree) same ((stand null tree c.0).0 c.1)
type_tells stand tree collected document kind h =
    let l = passed h in
    let i = passed l.2 in
    let c = passed_then i.2 in
    let same : Many c.0 ≡ document = let e = c.2 in cc in
    subst (TreeStandsFor tree) same (record { kind = kind; items = i.0; list = l.1 ∙ ap Some i.1; coverages_stand = each_tells stand tree i.0 c.0 c.1 })

tree_tells : CoverageRowsAreWhatStands → (tree : Data) (document : Document) → TreeRows tree (Ok document) → TreeStandsFor tree document
tree_tells stand tree document h =
    let o = passed h in
    let k = passed o.2 in
    let t = passed k.2 in
    type_tells stand tree t.0 document (k.1 ∙ ap Some t.1) t.2

tree_passes : CoverageRowsAreWhatStands → (tree : Data) (document : Document) → TreeStandsFor tree document → TreeRows tree (Ok document)
tree_passes stand tree (One coverage) s =
    let o = object_of (codes "type") tree (string (codes "Coverage")) s.kind in
    inl (o.0, o.1, inl (string (codes "Coverage"), s.kind, inl (single, refl, inl (coverage, (stand null tree coverage).1 s, refl))))
tree_passes stand tree (Many coverages) s =
    let o = object_of (codes "type") tree (string (codes "CoverageCollection")) s.kind in
    inl (
      o.0,
      o.1,
      inl (
        string (codes "CoverageCollection"),
        s.kind,
        inl (
          collected,
          refl,
          inl (array s.items, s.list, inl (s.items, refl, inl (coverages, each_passes stand tree s.items coverages s.coverages_stand, refl))),
        ),
      ),
    )

pub document_stands : CoverageRowsAreWhatStands → DocumentRowsAreWhatStands
document_stands stand text document = (
  λ h. let t = passed h in record { tree = t.0; is_json = t.1; stands = tree_tells stand t.0 document t.2 },
  λ s. inl (s.tree, s.is_json, tree_passes stand s.tree document s.stands),
)

-- ---- one document

pub document_is_one : DocumentRowsHaveOneAnswer → DocumentRowsAreWhatStands → TextsHaveOneDocument
document_is_one rows_one stand text one other a b =
    let e = rows_one text (Ok one) (Ok other) ((stand text one).1 a) ((stand text other).1 b) in
    cc
