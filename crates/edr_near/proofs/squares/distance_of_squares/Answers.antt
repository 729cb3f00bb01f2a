use Rattle.std.proofs.Common.{ℕ, ◌+◌, ◌*◌, ◌≤◌, inl, inr, arith, subst}
use Rattle.edr_near.specs.Squares.{gap}
use Rattle.edr_near.proofs.Within.{square-le, sum-le, own}
use Rattle.edr_near.proofs.squares.distance_of_squares.Goals as goal

at_least : (a b : ℕ) → a ≤ b → (c : ℕ) → a ≤ b + c
at_least a b h c = omega (arith, h)

pub returns-then-first-last : goal.returns-then-first-last
returns-then-first-last c column row from to =
    let x = c.args.spot.now.x in
    let y = c.args.spot.now.y in
    let across = c.gap_of_strips-across.result in
    let begins : c.args.first.column ≤ column = (elim from [
      | inl less ↦ omega (arith, less)
      | inr same ↦ omega (arith, same.0)
    ]) in
    let ends : column ≤ c.args.last.column = (elim to [
      | inl less ↦ omega (arith, less)
      | inr same ↦ omega (arith, same.0)
    ]) in
    at_least (across * across) (gap column x * gap column x) (square-le across (gap column x) (subst (λ v. across ≤ gap column v) (own x c.requires.spot.x) (c.gap_of_strips-across.ensures.least column begins ends))) (gap row y * gap row y)

pub returns : goal.returns
returns c column row from to =
    let x = c.args.spot.now.x in
    let y = c.args.spot.now.y in
    let across = c.gap_of_strips-across.result in
    let along = c.gap_of_strips-along.result in
    let begins : c.args.first.column ≤ column = (elim from [
      | inl less ↦ omega (arith, less)
      | inr same ↦ omega (arith, same.0)
    ]) in
    let ends : column ≤ c.args.last.column = (elim to [
      | inl less ↦ omega (arith, less)
      | inr same ↦ omega (arith, same.0)
    ]) in
    let one = c.if-first-last.false in
    let lower : c.args.first.row ≤ row = (elim from [
      | inl less ↦ omega (arith, less, ends, one)
      | inr same ↦ omega (arith, same.1)
    ]) in
    let upper : row ≤ c.args.last.row = (elim to [
      | inl less ↦ omega (arith, less, begins, one)
      | inr same ↦ omega (arith, same.1)
    ]) in
    sum-le (across * across) (along * along) (gap column x * gap column x) (gap row y * gap row y)
    (square-le across (gap column x) (subst (λ v. across ≤ gap column v) (own x c.requires.spot.x) (c.gap_of_strips-across.ensures.least column begins ends)))
    (square-le along (gap row y) (subst (λ v. along ≤ gap row v) (own y c.requires.spot.y) (c.gap_of_strips-along.ensures.least row lower upper)))
