use Rattle.std.proofs.Common.{rules, ◌≡◌, subst, length, List, ℕ, MatchOption}
use Rattle.edr_ids.specs.Ids.{item_of, with_item}
use Rattle.edr_import.specs.Tables.{name_id}
use Rattle.edr_import.proofs.OrderLemmas.{here}
use Rattle.edr_import.proofs.SiteLemmas.{named_on, all_named}
use Rattle.edr_import.proofs.names.names_of.Goals as goal

pub loop-place-preserved : goal.loop-place-preserved
loop-place-preserved c =
    let xs = c.args.observations.now in
    let x = c.index-observations-place.result in
    let id : c.bytes.result.now ≡ x.parameter = search rules in
    named_on c.items_are_by_id.ensures xs c.loop-place.place x c.loop-place.names c.note.new.names
    (here xs c.loop-place.place x c.loop-place-test.true c.index-observations-place.is) c.loop-place.invariant
    (subst (λ (i : List ℕ). MatchOption (item_of name_id i c.loop-place.names) (c.note.new.names ≡ with_item name_id (record { id = i }) c.loop-place.names) (λ name. c.note.new.names ≡ c.loop-place.names))
    id c.in_ok-note.ensures)

pub returns : goal.returns
returns c =
    let done : c.loop-place.place ≡ length c.args.observations.now = search rules in
    all_named c.args.observations.now c.loop-place.place c.loop-place.names c.len-count.ensures.ascending c.loop-place.invariant done
