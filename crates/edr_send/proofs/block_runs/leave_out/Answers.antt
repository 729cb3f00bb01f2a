use Rattle.std.proofs.Common.{rules, ◌≡◌, ◌∙◌, ◌++◌, ap, sym, ℕ, ◌<◌, List, [], ◌∷◌, length, take, get_or, ℤ, Option, None}
use Rattle.std.specs.Prelude.{map}
use Rattle.std.proofs.lemmas.List.{take_more, map-append}
use Rattle.edr_send.proofs.block_runs.leave_out.Goals as goal

pub loop-preserved : goal.loop-preserved
loop-preserved c =
    let cells : List (Option ℕ) = c.args.cells.now in
    let k : ℕ = c.loop.index in
    let inside : k < length cells = search rules in
    let none : Option ℕ → Option ℤ = λ cell. None in
    let grew : c.push.new.self.items ≡ c.loop.values.items ++ None ∷ [] = search rules in
    grew ∙ ap (λ (l : List (Option ℤ)). l ++ None ∷ []) c.loop.invariant ∙ sym (ap (map none) (take_more cells k None inside) ∙ map-append none (take k cells) (get_or cells k None ∷ []))
