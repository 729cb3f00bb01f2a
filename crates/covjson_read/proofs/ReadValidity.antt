-- What a tree that was read stands for is valid.
use Rattle.std.specs.Prelude.{IfSome, IsSome}
use Rattle.std.proofs.Common.{◌≡◌, ℕ, suc, ℤ, Bool, true, false, List, [], ◌∷◌, length, All, Option, Some, None, option_and_then, codes, IsUtf8, inl, inr, refl, sym, ap, subst, arith}
use Rattle.std.proofs.lemmas.Str.{IsUtf8-from_is_utf8}
use Rattle.std.specs.Str.{is_utf8, chars}
use Rattle.std.specs.Char.{encode_utf8}
use Rattle.std.specs.Ordering.{nat_cmp}
use Rattle.std.specs.Cmp.Lexicographic.{slice_cmp}
use Rattle.std.specs.List.Sorted.{IsStrictlySortedBy}
use Rattle.std.proofs.lemmas.List.{length-map}
use Rattle.std.proofs.lemmas.List.Elements.{All-nil, All-cons, All-weaker}
use Rattle.std.specs.Option.{option_or}
use Rattle.serde_json.specs.Data.{Data, null, boolean, number, string, array, object, Items, no_items, item, Members, no_members, member}
use Rattle.serde_json.specs.Find.{get, as_str}
use Rattle.edr_base.specs.declared.places.Position.{Position}
use Rattle.edr_json.specs.ReadTrees.{IsTree, AreTrees, NameTrees, TextsHaveTrees}
use Rattle.edr_json.specs.ReadTreeLaws.{tree_at, named_tree, tree_of_item, text_utf8, text_or_empty_utf8, found_tree, then_found_tree}
use Rattle.edr_json.specs.Trees.{EachStands, count_items, names_of, text_in, values_of}
use Rattle.covjson_value.specs.declared.domains.CoordinateName.{CoordinateName}
use Rattle.covjson_value.specs.declared.domains.Domain.{Domain}
use Rattle.covjson_value.specs.declared.coverages.Referencing.{Referencing}
use Rattle.covjson_value.specs.declared.coverages.Parameter.{Parameter}
use Rattle.covjson_value.specs.declared.coverages.NdArray.{NdArray}
use Rattle.covjson_value.specs.declared.coverages.Coverage.{Coverage}
use Rattle.covjson_value.specs.declared.coverages.Document.{Document}
use Rattle.covjson_value.specs.declared.coverages.Document.TheVariants.{One, Many}
use Rattle.covjson_value.specs.Coverages.{IsNamedAxis, IsTuple, AreTuples, IsParameter, IsReferencing, ids_of, IsRange, IsValid, IsValidDocument}
use Rattle.covjson_value.specs.AxisNames.{axis_key}
use Rattle.covjson_value.specs.declared.axis_names.AxisName.TheVariants.{Composite}
use Rattle.covjson_checks.specs.declared.turned.Turned.{Turned}
use Rattle.covjson_checks.specs.Members.{lent}
use Rattle.covjson_domains.specs.Axes.{HasSameAxis}
use Rattle.covjson_domains.specs.Tuples.{StandsForTuple, HasSameTuples}
use Rattle.covjson_ranges.specs.Ranges.{StandsForRange}
use Rattle.covjson_ranges.specs.Laws.{RangesAreValid}
use Rattle.covjson_read.specs.Systems.{StandsForReferencing, StandsForVertical, system_text, system_name}
use Rattle.covjson_read.specs.Parameters.{IsSaid, StandsForLabel, StandsForSymbol, StandsForUnit, HoldsParameters, StandsAmong}
use Rattle.covjson_read.specs.Standing.{StandsIn, TreeStandsFor}
use Rattle.covjson_read.specs.Laws.{ReadCoveragesAreValid, ReadDocumentsAreValid}
use Rattle.covjson_read.proofs.ParameterNames.{named_found, have_names}

-- ---- texts

-- what is found here or there
either_tree : (a b : Option Data) → IfSome a IsTree → IfSome b IsTree → IfSome (option_or a b) IsTree
either_tree (Some d) b here there = here
either_tree None b here there = there

lent_tree : (key : List ℕ) (tree collection : Data) → IsTree tree → IsTree collection → IfSome (lent key tree collection) IsTree
lent_tree key tree collection own lends = either_tree (get key tree) (get key collection) (found_tree key tree own) (found_tree key collection lends)

-- the text of what was found, where it is one
found_text : (found : Option Data) → IfSome found IsTree → IfSome (option_and_then as_str found) IsUtf8
found_text None is = tt
found_text (Some d) is = text_utf8 d is

-- and that of a member of what was found
then_found_text : (key : List ℕ) (found : Option Data) → IfSome found IsTree → IfSome (option_and_then (text_in key) found) IsUtf8
then_found_text key None is = tt
then_found_text key (Some tree) is = found_text (get key tree) (found_tree key tree is)

-- what was found is a tree
some_tree : (found : Option Data) (d : Data) → IfSome found IsTree → found ≡ Some d → IsTree d
some_tree found d is h = subst (λ (o : Option Data). IfSome o IsTree) h is

-- ---- domains

axis_valid : (name : CoordinateName) (axis : Option Data) (turned : Bool) (values : Option (List ℤ)) → HasSameAxis name axis turned values → IfSome values (IsNamedAxis name)
axis_valid name None turned None same = tt
axis_valid name None turned (Some values) same = absurd same
axis_valid name (Some axis) turned None same = tt
axis_valid name (Some axis) turned (Some values) same = record { ascending = same.ascending; within = same.within }

-- each tuple is one, and there are as many as items
tuples_within : (names : List CoordinateName) (ds : Items) (tuples : List Position) → EachStands (StandsForTuple names) ds tuples → All (IsTuple names) tuples × (length tuples ≡ count_items ds)
tuples_within names no_items [] stand = (All-nil (IsTuple names), refl)
tuples_within names no_items (tuple ∷ tuples) stand = absurd stand
tuples_within names (item d ds) [] stand = absurd stand
tuples_within names (item d ds) (tuple ∷ tuples) stand =
    let rest = tuples_within names ds tuples stand.1 in
    (All-cons (IsTuple names) tuple tuples stand.0.within rest.0, ap suc rest.1)

tuples_valid : (names : List CoordinateName) (axis : Option Data) (tuples : Option (List Position)) → IfSome axis IsTree → HasSameTuples names axis tuples → IfSome tuples (AreTuples names)
tuples_valid names None None tree same = tt
tuples_valid names None (Some tuples) tree same = absurd same
tuples_valid names (Some axis) None tree same = tt
tuples_valid names (Some axis) (Some tuples) tree same =
    let t = tuples_within names same.items tuples same.each in
    let list = tree_at (codes "values") axis (array same.items) tree same.list in
    record { some = same.some; counted = omega (arith, t.1, list.1); each = t.0; in_time = same.in_time }

-- ---- reference systems

system_utf8 : (name : List ℕ) (entry : Data) → IsTree entry → IsUtf8 (system_text name entry)
system_utf8 name entry is =
    text_or_empty_utf8 (option_and_then (get name) (get (codes "system") entry)) (then_found_tree name (get (codes "system") entry) (found_tree (codes "system") entry is))

name_utf8 : (entry : Data) → IsTree entry → IfSome (system_name entry) IsUtf8
name_utf8 entry is = then_found_text (codes "id") (get (codes "system") entry) (found_tree (codes "system") entry is)

vertical_valid : (has_z : Bool) (entries : Items) (vertical : Option (List ℕ)) → AreTrees entries → StandsForVertical has_z entries vertical → IfSome vertical IsUtf8
vertical_valid true entries vertical are s =
    let P : Option (List ℕ) → Type 0 = λ v. IfSome v IsUtf8 in
    elim s [
      | inl w ↦ subst P (sym w.2) (name_utf8 w.0 (tree_of_item entries w.1.place w.0 are w.1.here))
      | inr w ↦ subst P (sym w.1) tt
    ]
vertical_valid false entries vertical are s = subst (λ (v : Option (List ℕ)). IfSome v IsUtf8) (sym s) tt

referencing_valid : (has_z : Bool) (found : Option Data) (referencing : Referencing) → IfSome found IsTree → StandsForReferencing has_z found referencing → IsReferencing referencing
referencing_valid has_z found referencing tree s =
    let list = some_tree found (array s.entries) tree s.list in
    let plane = tree_of_item s.entries s.first.place s.plane list.0 s.first.here in
    record {
      crs = subst IsUtf8 (sym s.crs) (system_utf8 (codes "id") s.plane plane);
      vertical = vertical_valid has_z s.entries referencing.vertical list.0 s.vertical;
    }

-- a vertical text is given only where there are levels
only_with_levels : (has_z : Bool) (entries : Items) (vertical : Option (List ℕ)) → StandsForVertical has_z entries vertical → IsSome vertical → has_z ≡ true
only_with_levels true entries vertical s given = refl
only_with_levels false entries vertical s given = let some = subst (λ (v : Option (List ℕ)). IsSome v) s given in cc

-- ---- parameters

english : IsUtf8 (codes "en")
unfolding is_utf8 chars encode_utf8
english = IsUtf8-from_is_utf8 (codes "en") refl

said_valid : (members : Members) (lang text : List ℕ) → NameTrees members → IsSaid members lang text → IsUtf8 lang × IsUtf8 text
said_valid members lang text trees said = elim said [
  | inl w ↦ (subst IsUtf8 (sym w.1) english, named_tree (codes "en") members (string text) trees w.0)
  | inr w ↦ let first : NameTrees (member lang (string text) w.1.0) = subst NameTrees w.1.1 trees in (first.0, first.1)
]

label_valid : (d : Data) (lang text : List ℕ) → IsTree d → StandsForLabel d lang text → IsUtf8 lang × IsUtf8 text
label_valid d lang text tree s =
    let label = tree_at (codes "label") d (object s.members) tree s.label in
    said_valid s.members lang text label.0 s.said

symbol_valid : (unit : Data) (symbol : Option Data) (text : List ℕ) → IsTree unit → IfSome symbol IsTree → StandsForSymbol unit symbol text → IsUtf8 text
symbol_valid unit None text tree is s = (label_valid unit s.0 text tree s.1).1
symbol_valid unit (Some null) text tree is s = (label_valid unit s.0 text tree s.1).1
symbol_valid unit (Some (boolean b)) text tree is s = (label_valid unit s.0 text tree s.1).1
symbol_valid unit (Some (number n)) text tree is s = (label_valid unit s.0 text tree s.1).1
symbol_valid unit (Some (string t)) text tree is s = subst IsUtf8 s is
symbol_valid unit (Some (array ds)) text tree is s = (label_valid unit s.0 text tree s.1).1
symbol_valid unit (Some (object ms)) text tree is s = named_tree (codes "value") ms (string text) is.0 s

unit_valid : (found : Option Data) (unit : Option (List ℕ)) → IfSome found IsTree → StandsForUnit found unit → IfSome unit IsUtf8
unit_valid None None tree s = tt
unit_valid None (Some text) tree s = absurd s
unit_valid (Some d) None tree s = tt
unit_valid (Some d) (Some text) tree s = symbol_valid d (get (codes "symbol") d) text tree (found_tree (codes "symbol") d tree) s

parameter_valid : (parameters : Data) → IsTree parameters → HoldsParameters parameters → (p : Parameter) → StandsAmong parameters p → IsParameter p
parameter_valid parameters tree holds p among =
    let s = among.stands in
    let d = tree_at p.id parameters among.d tree among.named in
    let property = tree_at (codes "observedProperty") among.d s.property d s.observed in
    let label = label_valid s.property p.lang p.label property s.label in
    record {
      id = named_found p.id parameters among.d (have_names parameters holds) among.named;
      lang = label.0;
      label = label.1;
      unit = unit_valid (get (codes "unit") among.d) p.unit (found_tree (codes "unit") among.d d) s.unit;
    }

-- ---- ranges

-- as many values as names
as_many : {V : Type 0} (R : Data → V → Type 0) (ms : Members) (values : List V) → EachStands R (values_of ms) values → length values ≡ length (names_of ms)
as_many R no_members [] stand = refl
as_many R no_members (value ∷ values) stand = absurd stand
as_many R (member name d ms) [] stand = absurd stand
as_many R (member name d ms) (value ∷ values) stand = ap suc (as_many R ms values stand.1)

ranges_valid : RangesAreValid → (domain : Domain) (turned : Turned) (ds : Items) (ranges : List NdArray) → EachStands (StandsForRange domain turned) ds ranges → All (IsRange domain) ranges
ranges_valid valid domain turned no_items [] stand = All-nil (IsRange domain)
ranges_valid valid domain turned no_items (range ∷ ranges) stand = absurd stand
ranges_valid valid domain turned (item d ds) [] stand = absurd stand
ranges_valid valid domain turned (item d ds) (range ∷ ranges) stand =
    All-cons (IsRange domain) range ranges (valid domain turned d range stand.0) (ranges_valid valid domain turned ds ranges stand.1)

-- ---- coverages

pub coverages_valid : RangesAreValid → ReadCoveragesAreValid
coverages_valid valid collection tree coverage lends own s =
    let domain = tree_at (codes "domain") tree s.domain own s.domain_at in
    let d = s.domain_stands in
    let axes = tree_at (codes "axes") s.domain (object d.members) domain d.axes in
    let parameters = some_tree (lent (codes "parameters") tree collection) s.parameters (lent_tree (codes "parameters") tree collection own lends) s.parameters_at in
    let ranges = tree_at (codes "ranges") tree (object s.ranges) own s.ranges_at in
    let r = s.ranges_stand in
    let counted = as_many (StandsForRange coverage.domain s.turned) s.ranges coverage.ranges r.ranges_stand in
    let ids : length (ids_of coverage.parameters) ≡ length coverage.parameters = length-map coverage.parameters (λ (p : Parameter). p.id) in
    let named : length (ids_of coverage.parameters) ≡ length (names_of s.ranges) = ap (λ (names : List (List ℕ)). length names) r.ids in
    record {
      id = subst (λ (id : Option (List ℕ)). IfSome id IsUtf8) (sym s.id) (found_text (get (codes "id") tree) (found_tree (codes "id") tree own));
      axes = λ name. axis_valid name _ _ _ (d.same_axes name);
      tuples = record { tuples = tuples_valid _ _ _ (found_tree (axis_key Composite) (object d.members) axes) d.same_tuples; once = d.once };
      referencing = referencing_valid _ _ coverage.referencing (lent_tree (codes "referencing") s.domain collection domain lends) s.referencing_stands;
      vertical = only_with_levels _ s.referencing_stands.entries coverage.referencing.vertical s.referencing_stands.vertical;
      some = omega (arith, r.some, counted, ids, named);
      parameters = All-weaker (StandsAmong s.parameters) IsParameter (parameter_valid s.parameters parameters s.parameters_are) coverage.parameters r.parameters_stand;
      ascending = subst (λ (names : List (List ℕ)). IsStrictlySortedBy (slice_cmp nat_cmp) names) (sym r.ids) ranges.1;
      as_many = omega (arith, counted, ids, named);
      ranges = ranges_valid valid coverage.domain s.turned (values_of s.ranges) coverage.ranges r.ranges_stand;
    }

-- ---- documents

each_valid : ReadCoveragesAreValid → (collection : Data) (ds : Items) (coverages : List Coverage) → IsTree collection → AreTrees ds → EachStands (StandsIn collection) ds coverages → All IsValid coverages
each_valid valid collection no_items [] tree trees stand = All-nil IsValid
each_valid valid collection no_items (coverage ∷ coverages) tree trees stand = absurd stand
each_valid valid collection (item d ds) [] tree trees stand = absurd stand
each_valid valid collection (item d ds) (coverage ∷ coverages) tree trees stand =
    All-cons IsValid coverage coverages (valid collection d coverage tree trees.0 stand.0) (each_valid valid collection ds coverages tree trees.1 stand.1)

document_valid : ReadCoveragesAreValid → (tree : Data) (document : Document) → IsTree tree → TreeStandsFor tree document → IsValidDocument document
document_valid valid tree (One coverage) is s = valid null tree coverage tt is s
document_valid valid tree (Many coverages) is s =
    let list = tree_at (codes "coverages") tree (array s.items) is s.list in
    each_valid valid tree s.items coverages is list.0 s.coverages_stand

pub documents_valid : TextsHaveTrees → ReadCoveragesAreValid → ReadDocumentsAreValid
documents_valid trees valid text document few s = document_valid valid s.tree document (trees text s.tree few s.is_json) s.stands
