use Rattle.std.proofs.Common.{sym, subst}
use Rattle.edr_edition.specs.Shelves.{IsStocked, IsNext}
use Rattle.edr_edition.proofs.ShelfLaws.{next_stands, put_behind}
use Rattle.edr_edition.proofs.shelves.LocalShelf.advance.Goals as goal

pub invariant_of-self-2 : goal.invariant_of-self-2
invariant_of-self-2 c =
    let seen = c.self.inside.editions.items in
    next_stands seen c.push.new.self.items c.args.next c.self.invariant (subst (λ editions. IsNext editions c.args.next) (sym c.self.view_is) c.requires)
    (put_behind seen c.push.new.self.items c.args.next c.in_ok-of.field-0 c.in_ok-push.ensures.items c.in_ok-of.ensures)

pub invariant_of-self-in_err-push : goal.invariant_of-self-in_err-push
invariant_of-self-in_err-push c = subst IsStocked (sym c.in_err-push.ensures.items) c.self.invariant
