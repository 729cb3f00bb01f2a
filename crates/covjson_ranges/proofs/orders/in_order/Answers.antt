use Rattle.std.proofs.Common.{rules, ap, Ok}
use Rattle.covjson_ranges.specs.Orders.{IsUsual, IsUnturned}
use Rattle.covjson_ranges.proofs.OrderLemmas.{usual_ordered}
use Rattle.covjson_ranges.proofs.orders.in_order.Goals as goal

pub returns-then-is_unturned : goal.returns-then-is_unturned
returns-then-is_unturned c =
    let usual : IsUsual c.args.names.now = search rules in
    let unturned : IsUnturned c.args.turned = search rules in
    ap Ok (usual_ordered c.args.domain.now c.args.turned c.args.names.now c.args.values.items c.requires.axes c.requires.counted usual unturned)
