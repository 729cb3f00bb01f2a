use Rattle.std.proofs.Common.{[], sym, subst}
use Rattle.std.proofs.lemmas.List.Elements.{All-nil}
use Rattle.edr_ids.specs.ListLaws.{AscendBy-nil}
use Rattle.edr_edition.specs.Values.{collection_id}
use Rattle.edr_edition.specs.Editions.{IsCollection, AreCollections}
use Rattle.edr_draft.proofs.drafts.Draft.empty.Goals as goal

none_are_collections : AreCollections []
none_are_collections = record { each = All-nil IsCollection; ascending = AscendBy-nil collection_id }

pub invariant_of-result : goal.invariant_of-result
invariant_of-result c = subst AreCollections (sym c.empty.ensures) none_are_collections

pub returns-clause-collections : goal.returns-clause-collections
returns-clause-collections c = subst AreCollections (sym c.empty.ensures) none_are_collections
