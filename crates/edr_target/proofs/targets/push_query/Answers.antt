use Rattle.std.proofs.Common.{rules, ◌≡◌, ◌++◌, ℕ, List, length, sym, ap, ◌∙◌, append-nil}
use Rattle.edr_query.specs.Spelling.{pairs_of}
use Rattle.edr_target.proofs.FormLemmas.{form_none}
use Rattle.edr_target.proofs.targets.push_query.Goals as goal

pub returns-then-is_empty : goal.returns-then-is_empty
returns-then-is_empty c =
    let none : length c.in_ok-form.form.items ≡ 0 = search rules in
    sym (ap (λ (t : List ℕ). c.args.text.now.items ++ t) (form_none (pairs_of c.args.query.now) c.in_ok-form.form.items c.in_ok-form.ensures none) ∙ append-nil c.args.text.now.items)
