use Rattle.std.proofs.Common.{rules, ◌≡◌, [], ◌∷◌, ◌++◌, sym, ◌∙◌, subst}
use Rattle.edr_query.specs.Seen.{AreSeen}
use Rattle.edr_query.proofs.SeenLemmas.{name_added, name_kept, seen_more}
use Rattle.edr_query.proofs.filters.add_seen.Goals as goal

pub returns-in_ok-push-clause-names : goal.returns-in_ok-push-clause-names
returns-in_ok-push-clause-names c =
    let names = c.args.names.now.items in
    let pushed : c.push.new.self.items ≡ names ++ c.args.name.now ∷ [] = search rules in
    pushed ∙ sym (name_added c.args.seen.now c.args.name names c.requires (sym c.if-branch.true ∙ c.in_ok-insert.ensures.added))

pub returns-in_ok-push-clause-seen : goal.returns-in_ok-push-clause-seen
returns-in_ok-push-clause-seen c =
    let names = c.args.names.now.items in
    let pushed : c.push.new.self.items ≡ names ++ c.args.name.now ∷ [] = search rules in
    subst (AreSeen c.insert.new.self) (sym pushed) (seen_more c.args.seen.now c.insert.new.self c.args.name names c.requires c.in_ok-insert.ensures.keys)

pub returns-else-branch-clause-names : goal.returns-else-branch-clause-names
returns-else-branch-clause-names c =
    sym (name_kept c.args.seen.now c.args.name c.args.names.now.items c.requires (sym c.if-branch.false ∙ c.in_ok-insert.ensures.added))
