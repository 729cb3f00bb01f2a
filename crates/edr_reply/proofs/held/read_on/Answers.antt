use Rattle.std.proofs.Common.{◌≡◌, ℕ, ◌-◌, ◌∙◌, take, ap, arith}
use Rattle.edr_reply.proofs.held.read_on.Goals as goal

pub returns-then-count-eq0-clause-kept : goal.returns-then-count-eq0-clause-kept
returns-then-count-eq0-clause-kept g c =
    let size : ℕ = c.held.inside.end - c.held.inside.start in
    let same : size - 0 ≡ size = omega arith in
    ap (λ k. take k c.read_behind.new.memory) same ∙ (c.read_behind.ensures.kept ∙ (c.move_to_front.ensures.moved ∙ c.held.view_is))
