use Rattle.std.proofs.Common.{rules, ◌≡◌, []}
use Rattle.edr_edition.proofs.ShelfLaws.{one_stands, put_alone}
use Rattle.edr_edition.proofs.shelves.LocalShelf.of.Goals as goal

pub invariant_of-result : goal.invariant_of-result
invariant_of-result c =
    let none : c.new-editions.result.items ≡ [] = search rules in
    one_stands c.push.new.self.items c.args.first
    (put_alone c.new-editions.result.items c.push.new.self.items c.args.first c.in_ok-of.field-0 c.in_ok-push.ensures.items none c.in_ok-of.ensures)

pub returns : goal.returns
returns c =
    let none : c.new-editions.result.items ≡ [] = search rules in
    put_alone c.new-editions.result.items c.push.new.self.items c.args.first c.in_ok-of.field-0 c.in_ok-push.ensures.items none c.in_ok-of.ensures
