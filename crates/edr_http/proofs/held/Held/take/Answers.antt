use Rattle.std.proofs.Common.{length, subst, sym, List, ℕ, ◌≤◌, ◌∙◌, ap, drop}
use Rattle.edr_http.proofs.HeldLemmas.{taken}
use Rattle.edr_http.proofs.held.Held.take.Goals as goal

pub returns : goal.returns
returns c =
    taken c.self.inside.memory.items c.self.inside.start c.self.inside.end c.args.n c.self.invariant.0 c.self.invariant.1
    (subst (λ (w : List ℕ). c.args.n ≤ length w) (sym c.self.view_is) c.requires)
    ∙ ap (drop c.args.n) c.self.view_is
