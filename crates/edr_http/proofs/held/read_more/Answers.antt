use Rattle.std.proofs.Common.{ap, rules, ◌∙◌, take, ◌-◌}
use Rattle.std.proofs.lemmas.List.{with_items_is, places}
use Rattle.edr_http.proofs.HeldLemmas.{held_same}
use Rattle.edr_http.proofs.held.read_more.Goals as goal

pub returns-clause-rest : goal.returns-clause-rest
returns-clause-rest g c =
    held_same _ _ _ _ (c.held.inside.end - c.held.inside.start) _ _ _ (with_items_is c.make_room.new.memory c.read_behind.new.memory (search (rules, places))) c.in_ok-n.ensures.rest
    (ap (take (c.held.inside.end - c.held.inside.start)) c.deref_mut.ensures.value ∙ (c.make_room.ensures.kept ∙ (c.move_to_front.ensures.moved ∙ c.held.view_is)))
