-- The tree of a line stands for one entry at most, and has one coverage at most.
use Rattle.std.proofs.Common.{◌≡◌, ℕ, true, false, true≢false, List, [], ◌∷◌, bytes_eq, codes, None, inl, inr, refl, sym, ◌∙◌, subst, arith}
use Rattle.std.proofs.lemmas.Slice.Eq.{bytes_eq-Decides}
use Rattle.serde_json.specs.Data.{Data}
use Rattle.serde_json.specs.Find.{get, as_object}
use Rattle.covjson_read.specs.Laws.{TreesStandForOne}
use Rattle.covjson_read.specs.Standing.{Stands}
use Rattle.covjson_value.specs.declared.coverages.Coverage.{Coverage}
use Rattle.edr_edition.specs.declared.kinds.Kind.{Kind}
use Rattle.edr_edition.specs.declared.kinds.Kind.TheVariants.{Grid as Grids, Station as Stations}
use Rattle.edr_draft.specs.declared.changes.Change.TheVariants.{Collection, Grid, Station, DropCollection, DropInstance, DropStation, Bare}
use Rattle.edr_feed.specs.declared.entries.Entry.{Entry}
use Rattle.edr_feed.specs.declared.entries.Entry.TheVariants.{Change, Publish}
use Rattle.edr_feed.specs.Forms.{IsObjectOf, kind_word, IsCollection, IsGrid, IsStation, IsDropCollection, IsDropInstance, IsDropStation, HasJust, IsBare, HasForm, HoldsCoverage, TreesHaveOneForm, TreesHoldOneCoverage}
use Rattle.edr_feed.specs.FormParts.{HasText, line_of}
use Rattle.edr_json.specs.Trees.{has_members}
use Rattle.edr_feed.proofs.FormLemmas.{text_is, same_text, same_given, same_tree, counts_same, just_is, just_lacks}
use Rattle.edr_feed.proofs.FormOutlines.{AddsCollection, collection_form, SetsGrid, grid_form, grid_holds, SetsStation, station_form, station_holds, Drops, drop_form, publish_form}

-- ---- one entry

one_not_two : (d : Data) → has_members 1 d ≡ true → has_members 2 d ≡ true → ⊥
one_not_two d p q =
    let same : 1 ≡ 2 = counts_same (as_object d) 1 2 p q in absurd (omega (arith, same))

-- a kind by its word
same_kinds : (one other : Kind) → kind_word one ≡ kind_word other → one ≡ other
same_kinds Grids Grids same = refl
same_kinds Grids Stations same = absurd (true≢false (sym ((bytes_eq-Decides (codes "grid") (codes "station")).1 same)))
same_kinds Stations Grids same = absurd (true≢false (sym ((bytes_eq-Decides (codes "station") (codes "grid")).1 same)))
same_kinds Stations Stations same = refl

same_collections : (d : Data) (one other : Entry) → AddsCollection d one → AddsCollection d other → one ≡ other
same_collections d one other p q =
    let ids = same_text (codes "id") d p.id q.id p.parts.has_id.0 q.parts.has_id.0 in
    let kinds = same_kinds p.kind q.kind (same_text (codes "kind") d (kind_word p.kind) (kind_word q.kind) p.parts.has_kind q.parts.has_kind) in
    let titles = same_text (codes "title") d p.title q.title p.parts.has_title q.parts.has_title in
    let systems = same_text (codes "crs") d p.crs q.crs p.parts.has_crs q.parts.has_crs in
    let verticals = same_given (codes "vertical") d p.vertical q.vertical p.parts.has_vertical q.parts.has_vertical in
    p.is ∙ ((λ i. Change (Collection (ids i) (kinds i) (titles i) (systems i) (verticals i))) ∙ sym q.is)

same_grids : TreesStandForOne → (d : Data) (one other : Entry) → SetsGrid d one → SetsGrid d other → one ≡ other
same_grids stand d one other p q =
    let collections = same_text (codes "collection") d p.collection q.collection p.parts.has_collection.0 q.parts.has_collection.0 in
    let instances = same_text (codes "instance") d p.instance q.instance p.parts.has_instance.0 q.parts.has_instance.0 in
    let trees = same_tree (codes "coverage") d p.tree q.tree p.parts.has_coverage q.parts.has_coverage in
    let coverages = stand _ q.tree p.coverage q.coverage (subst (λ (t : Data). Stands t p.coverage) trees p.stands) q.stands in
    p.is ∙ ((λ i. Change (Grid (collections i) (instances i) (coverages i))) ∙ sym q.is)

same_stations : TreesStandForOne → (d : Data) (one other : Entry) → SetsStation d one → SetsStation d other → one ≡ other
same_stations stand d one other p q =
    let collections = same_text (codes "collection") d p.collection q.collection p.parts.has_collection.0 q.parts.has_collection.0 in
    let ids = same_text (codes "id") d p.id q.id p.parts.has_id.0 q.parts.has_id.0 in
    let labels = same_text (codes "label") d p.label q.label p.parts.has_label q.parts.has_label in
    let trees = same_tree (codes "coverage") d p.tree q.tree p.parts.has_coverage q.parts.has_coverage in
    let coverages = stand _ q.tree p.coverage q.coverage (subst (λ (t : Data). Stands t p.coverage) trees p.stands) q.stands in
    p.is ∙ ((λ i. Change (Station (collections i) (ids i) (labels i) (coverages i))) ∙ sym q.is)

-- a member of that name, and none
not_lacked : (d : Data) (text : List ℕ) → HasText (codes "station") d text → get (codes "station") d ≡ None → ⊥
not_lacked d text has none = let some = text_is (codes "station") d text has in cc

same_drops : (d : Data) (one other : Entry) → Drops d one → Drops d other → one ≡ other
same_drops d one other (inl p) (inl q) =
    let collections = same_text (codes "collection") d p.collection q.collection p.parts.has_collection.0 q.parts.has_collection.0 in
    p.is ∙ ((λ i. Change (DropCollection (collections i))) ∙ sym q.is)
same_drops d one other (inl p) (inr (inl q)) = absurd (one_not_two d p.parts.counts q.parts.counts)
same_drops d one other (inl p) (inr (inr q)) = absurd (one_not_two d p.parts.counts q.parts.counts)
same_drops d one other (inr (inl p)) (inl q) = absurd (one_not_two d q.parts.counts p.parts.counts)
same_drops d one other (inr (inr p)) (inl q) = absurd (one_not_two d q.parts.counts p.parts.counts)
same_drops d one other (inr (inl p)) (inr (inr q)) = absurd (not_lacked d q.id q.parts.has_id.0 p.parts.lacks_station)
same_drops d one other (inr (inr p)) (inr (inl q)) = absurd (not_lacked d p.id p.parts.has_id.0 q.parts.lacks_station)
same_drops d one other (inr (inr p)) (inr (inr q)) =
    let collections = same_text (codes "collection") d p.collection q.collection p.parts.has_collection.0 q.parts.has_collection.0 in
    let ids = same_text (codes "station") d p.id q.id p.parts.has_id.0 q.parts.has_id.0 in
    p.is ∙ ((λ i. Change (DropStation (collections i) (ids i))) ∙ sym q.is)
same_drops d one other (inr (inl p)) (inr (inl q)) =
    let collections = same_text (codes "collection") d p.collection q.collection p.parts.has_collection.0 q.parts.has_collection.0 in
    let instances = same_text (codes "instance") d p.instance q.instance p.parts.has_instance.0 q.parts.has_instance.0 in
    p.is ∙ ((λ i. Change (DropInstance (collections i) (instances i))) ∙ sym q.is)

-- ---- a coverage by itself

-- a line of one member, whose name isn't `type`, is none
bare_apart : (name : List ℕ) (d : Data) (P : Data → Type 0) → bytes_eq (codes "type") name ≡ false → IsBare d → HasJust name P d → ⊥
bare_apart name d P apart bare just = let none = just_lacks name (codes "type") d P apart just in cc

-- the coverage of an entry by itself
record SetsBare (d : Data) (entry : Entry) : Type 0 where
  pub coverage : Coverage
  pub stands : Stands d coverage
  pub is : entry ≡ Change (Bare coverage)

bare_form : (d : Data) (entry : Entry) → IsBare d → HasForm d entry → SetsBare d entry
bare_form d (Change (Collection id kind title crs vertical)) bare form = absurd (bare_apart (codes "collection") d (IsCollection id kind title crs vertical) refl bare form)
bare_form d (Change (Grid collection instance coverage)) bare form = absurd (bare_apart (codes "grid") d (IsGrid collection instance form.0) refl bare form.1)
bare_form d (Change (Station collection id label coverage)) bare form = absurd (bare_apart (codes "station") d (IsStation collection id label form.0) refl bare form.1)
bare_form d (Change (DropCollection collection)) bare form = absurd (bare_apart (codes "drop") d (IsDropCollection collection) refl bare form)
bare_form d (Change (DropInstance collection instance)) bare form = absurd (bare_apart (codes "drop") d (IsDropInstance collection instance) refl bare form)
bare_form d (Change (DropStation collection id)) bare form = absurd (bare_apart (codes "drop") d (IsDropStation collection id) refl bare form)
bare_form d (Change (Bare coverage)) bare form = record { coverage = coverage; stands = form.1; is = refl }
bare_form d Publish bare form = absurd (bare_apart (codes "publish") d (IsObjectOf []) refl bare form)

bare_holds : (d other : Data) → IsBare d → HoldsCoverage d other → other ≡ d
bare_holds d other bare (inl grid) = absurd (bare_apart (codes "grid") d (IsGrid grid.0 grid.1 other) refl bare grid.2)
bare_holds d other bare (inr (inl station)) =
    absurd (bare_apart (codes "station") d (IsStation station.0 station.1 station.2 other) refl bare station.3)
bare_holds d other bare (inr (inr held)) = held.1

same_bares : TreesStandForOne → (d : Data) (one other : Entry) → SetsBare d one → SetsBare d other → one ≡ other
same_bares stand d one other p q =
    let coverages = stand _ d p.coverage q.coverage p.stands q.stands in
    p.is ∙ ((λ i. Change (Bare (coverages i))) ∙ sym q.is)

-- ---- laws

-- the same line in its form of one member
as_line : (name : List ℕ) (d value : Data) → IsObjectOf ((name, value) ∷ []) d → (entry : Entry) → HasForm d entry → HasForm (line_of name value) entry
as_line name d value just entry form = subst (λ (t : Data). HasForm t entry) (just_is name d value just) form

pub one_form : TreesStandForOne → TreesHaveOneForm
one_form stand d (Change (Collection id kind title crs vertical)) other p q =
    let one = Change (Collection id kind title crs vertical) in
    let at = as_line (codes "collection") d p.0 p.1 in
    same_collections p.0 one other (collection_form p.0 one (at one p)) (collection_form p.0 other (at other q))
one_form stand d (Change (Grid collection instance coverage)) other p q =
    let one = Change (Grid collection instance coverage) in
    let at = as_line (codes "grid") d p.1.0 p.1.1 in
    same_grids stand p.1.0 one other (grid_form p.1.0 one (at one p)) (grid_form p.1.0 other (at other q))
one_form stand d (Change (Station collection id label coverage)) other p q =
    let one = Change (Station collection id label coverage) in
    let at = as_line (codes "station") d p.1.0 p.1.1 in
    same_stations stand p.1.0 one other (station_form p.1.0 one (at one p)) (station_form p.1.0 other (at other q))
one_form stand d (Change (DropCollection collection)) other p q =
    let one = Change (DropCollection collection) in
    let at = as_line (codes "drop") d p.0 p.1 in
    same_drops p.0 one other (drop_form p.0 one (at one p)) (drop_form p.0 other (at other q))
one_form stand d (Change (DropInstance collection instance)) other p q =
    let one = Change (DropInstance collection instance) in
    let at = as_line (codes "drop") d p.0 p.1 in
    same_drops p.0 one other (drop_form p.0 one (at one p)) (drop_form p.0 other (at other q))
one_form stand d (Change (DropStation collection id)) other p q =
    let one = Change (DropStation collection id) in
    let at = as_line (codes "drop") d p.0 p.1 in
    same_drops p.0 one other (drop_form p.0 one (at one p)) (drop_form p.0 other (at other q))
one_form stand d (Change (Bare coverage)) other p q =
    same_bares stand d (Change (Bare coverage)) other (bare_form d (Change (Bare coverage)) p.0 p) (bare_form d other p.0 q)
one_form stand d Publish other p q =
    sym (publish_form p.0 other (as_line (codes "publish") d p.0 p.1 other q)).is

pub one_coverage : TreesHoldOneCoverage
one_coverage d coverage (inl grid) =
    let value = grid.2.0 in
    let line = just_is (codes "grid") d value grid.2.1 in
    let held = λ (t : Data) (h : HoldsCoverage d t). grid_holds value t (subst (λ (u : Data). HoldsCoverage u t) line h) in
    let mine = held coverage (inl grid) in
    record {
      only = λ other h. same_tree (codes "coverage") value other coverage (held other h).parts.has_coverage mine.parts.has_coverage;
      stands = (
        λ e.
            let sets = grid_form value e.0 (as_line (codes "grid") d value grid.2.1 e.0 e.1) in
            let same = same_tree (codes "coverage") value sets.tree coverage sets.parts.has_coverage mine.parts.has_coverage in
            (sets.coverage, subst (λ (t : Data). Stands t sets.coverage) same sets.stands),
        λ v. (Change (Grid grid.0 grid.1 v.0), (coverage, grid.2, v.1)),
      );
    }
one_coverage d coverage (inr (inl station)) =
    let value = station.3.0 in
    let line = just_is (codes "station") d value station.3.1 in
    let held = λ (t : Data) (h : HoldsCoverage d t). station_holds value t (subst (λ (u : Data). HoldsCoverage u t) line h) in
    let mine = held coverage (inr (inl station)) in
    record {
      only = λ other h. same_tree (codes "coverage") value other coverage (held other h).parts.has_coverage mine.parts.has_coverage;
      stands = (
        λ e.
            let sets = station_form value e.0 (as_line (codes "station") d value station.3.1 e.0 e.1) in
            let same = same_tree (codes "coverage") value sets.tree coverage sets.parts.has_coverage mine.parts.has_coverage in
            (sets.coverage, subst (λ (t : Data). Stands t sets.coverage) same sets.stands),
        λ v. (Change (Station station.0 station.1 station.2 v.0), (coverage, station.3, v.1)),
      );
    }
one_coverage d coverage (inr (inr bare)) = record {
  only = λ other h. bare_holds d other bare.0 h ∙ sym bare.1;
  stands = (
    λ e. let sets = bare_form d e.0 bare.0 e.1 in (sets.coverage, subst (λ (t : Data). Stands t sets.coverage) (sym bare.1) sets.stands),
    λ v. (Change (Bare v.0), (bare.0, subst (λ (t : Data). Stands t v.0) bare.1 v.1)),
  );
}
