use Rattle.std.proofs.Common.{◌≡◌, codes, get_or, pos, length, ◌-◌, w64, SFits, ap, ◌∙◌, rules}
use Rattle.std.proofs.lemmas.Int.{to_z-of_z}
use Rattle.serde_json.specs.Data.{Data, object, Members, no_members, member, put}
use Rattle.serde_json.specs.View.{members_view}
use Rattle.serde_json.proofs.Views.{view-Object}
use Rattle.covjson_value.specs.Trees.{integer}
use Rattle.covjson_value.proofs.regular_axes.span_tree.Goals as goal

-- three members, put one after another
put_three : (none one two three : Members) (num start stop a b d : Data) → none ≡ no_members → one ≡ put (codes "num") num none → two ≡ put (codes "start") start one → three ≡ put (codes "stop") stop two → num ≡ a → start ≡ b → stop ≡ d → three ≡ member (codes "num") a (member (codes "start") b (member (codes "stop") d no_members))
put_three none one two three num start stop a b d empty first second third num_is start_is stop_is =
    let all : three ≡ member (codes "num") num (member (codes "start") start (member (codes "stop") stop no_members)) =
    third ∙ ap (put (codes "stop") stop) (second ∙ ap (put (codes "start") start) (first ∙ ap (put (codes "num") num) empty)) in
    cc

pub returns : goal.returns
returns c =
    let first = get_or c.args.values.now 0 (pos 0) in
    let last = get_or c.args.values.now (length c.args.values.now - 1) (pos 0) in
    let first_fits : SFits w64 first = search rules in
    let last_fits : SFits w64 last = search rules in
    view-Object c.put_tree-3.new.members
    ∙ ap object (put_three _ _ _ _ _ _ _ (integer (pos (length c.args.values.now))) (integer first) (integer last)
    (ap members_view c.new-members.ensures.empty) c.in_ok-put_tree.ensures c.in_ok-put_tree-2.ensures c.in_ok-put_tree-3.ensures
    c.from.ensures (c.from-2.ensures ∙ ap integer (to_z-of_z w64 first first_fits)) (c.from-3.ensures ∙ ap integer (to_z-of_z w64 last last_fits)))
