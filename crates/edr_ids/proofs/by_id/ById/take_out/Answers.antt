use Rattle.std.proofs.Common.{◌≡◌, Option, Some, None, false, not, is_some, option_map, ap, sym, ◌∙◌, subst}
use Rattle.edr_ids.specs.Ids.{AscendBy, item_of}
use Rattle.edr_ids.specs.ListLaws.{AscendBy-without_id, without_id-none}
use Rattle.edr_ids.proofs.by_id.ById.take_out.Goals as goal

none_there : {A B : Type 0} (f : A → B) (found : Option A) (item : Option B) → is_some found ≡ false → option_map f found ≡ item → item ≡ None
none_there f None item none same = sym same
none_there f (Some x) item none same = cc

pub returns-then-is_none-clause-without : goal.returns-then-is_none-clause-without
returns-then-is_none-clause-without g c =
    let key = g.T.Identified.id_of in
    let none : item_of key c.args.id.now c.self.inside.items ≡ None = none_there (λ item. item.now) c.item_of.result (item_of key c.args.id.now c.self.inside.items) (c.is_none.ensures ∙ ap not c.if-is_none.true) c.item_of.ensures in
    sym (without_id-none key c.args.id.now c.args.self.now (ap (item_of key c.args.id.now) (sym c.self.view_is) ∙ none))

pub invariant_of-self : goal.invariant_of-self
invariant_of-self g c =
    let key = g.T.Identified.id_of in
    subst (AscendBy key) (sym c.in_ok-self-inside.ensures) (AscendBy-without_id key c.args.id.now c.self.inside.items c.self.invariant)
