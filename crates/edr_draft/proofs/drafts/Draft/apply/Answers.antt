use Rattle.edr_draft.proofs.CollectionLaws.{made_keeps}
use Rattle.edr_draft.proofs.drafts.Draft.apply.Goals as goal

pub invariant_of-self : goal.invariant_of-self
invariant_of-self c =
    let is = c.change_collections.ensures.made in
    made_keeps c.change_collections.result c.self.inside.collections c.change_collections.new.collections c.args.change c.self.invariant c.requires is
