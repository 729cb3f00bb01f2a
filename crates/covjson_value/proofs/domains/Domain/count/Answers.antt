use Rattle.std.proofs.Common.{◌≡◌, ℕ, ◌*◌, ◌<◌, ◌≤◌, ◌^◌, Option, None, Some, sym, ◌∙◌, arith}
use Rattle.std.specs.Option.{MatchOption, SomeIff}
use Rattle.covjson_value.specs.Domains.{count_of}
use Rattle.covjson_value.specs.CountLaws.{count_is}
use Rattle.covjson_value.proofs.domains.Domain.count.Goals as goal

-- a product is no less than a factor
no_less : (a b m : ℕ) → 0 < a → m ≤ b → m ≤ a * b
no_less a b m p q = grind arith

-- a checked product, and the number that it is
checked_is : (checked : Option ℕ) (n product : ℕ) → n ≡ product → SomeIff checked (product < 2 ^ 64) product → MatchOption checked (2 ^ 64 ≤ n) (λ k. k ≡ n)
checked_is None n product is h = omega (arith, h)
checked_is (Some k) n product is h = h.1 ∙ sym is

pub returns-in_err-places : goal.returns-in_err-places
returns-in_err-places c = rw (c.from_residual.ensures, count_is c.args.self.now) (grind (arith, no_less, c.in_err-places.ensures))

pub returns-in_err-nodes : goal.returns-in_err-nodes
returns-in_err-nodes c = rw (c.from_residual-in_err-nodes.ensures, count_is c.args.self.now) (grind (arith, no_less, c.in_err-nodes.ensures, c.in_ok-places.ensures))

pub returns-in_err-profiles : goal.returns-in_err-profiles
returns-in_err-profiles c = rw (c.from_residual-in_err-profiles.ensures, count_is c.args.self.now) (grind (arith, no_less, c.in_err-profiles.ensures, c.in_ok-nodes.ensures, c.in_ok-places.ensures))

pub returns : goal.returns
returns c =
    let product : count_of c.args.self.now ≡ c.axis_len-times.result * c.in_ok-profiles.profiles =
    cc (count_is c.args.self.now, c.axis_len-times.ensures.length, c.axis_len-levels.ensures.length, c.axis_len-rows.ensures.length, c.axis_len-columns.ensures.length, c.tuples_len.ensures, c.in_ok-places.ensures.1, c.in_ok-nodes.ensures.1, c.in_ok-profiles.ensures.1) in
    checked_is c.checked_mul-4.result _ _ product c.checked_mul-4.ensures
