use Rattle.std.proofs.Common.{◌≤◌, ◌∙◌, ℕ, List, length, drop, sym, ap, subst, arith}
use Rattle.edr_reply.proofs.HeldLemmas.{taken}
use Rattle.edr_reply.proofs.held.Held.take.Goals as goal

pub returns : goal.returns
returns c =
    taken c.self.inside.memory c.self.inside.start c.self.inside.end c.args.n c.self.invariant.0 (omega (arith, c.self.invariant.1))
    (subst (λ (w : List ℕ). c.args.n ≤ length w) (sym c.self.view_is) c.requires)
    ∙ ap (drop c.args.n) c.self.view_is
