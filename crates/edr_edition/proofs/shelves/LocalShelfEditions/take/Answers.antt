use Rattle.std.proofs.Common.{◌-◌, arith, sym, subst}
use Rattle.std.proofs.lemmas.Result.{IfOk-weaker}
use Rattle.edr_edition.specs.Shelves.{EndsWith}
use Rattle.edr_edition.proofs.ShelfLaws.{ends_at}
use Rattle.edr_edition.proofs.shelves.LocalShelfEditions.take.Goals as goal

pub returns-clause-last : goal.returns-clause-last
returns-clause-last c =
    let last = c.index.result.now in
    let ends = ends_at c.self.inside.editions.items (c.len.result - 1) last (omega (arith, c.len.ensures, c.self.invariant.1)) c.index.ensures in
    IfOk-weaker c.edition.result _ _ (λ found same. subst (EndsWith c.args.self.now) (sym same) (subst (λ editions. EndsWith editions last) c.self.view_is ends)) c.edition.ensures
