use Rattle.std.proofs.Common.{rules, option_map}
use Rattle.edr_serve.specs.Keeping.{MayBeKept}
use Rattle.edr_serve.proofs.KeptLemmas.{data_put, put_puts}
use Rattle.edr_serve.proofs.keeping.KeptReplies.keep.Goals as goal

pub invariant_of-self : goal.invariant_of-self
invariant_of-self c =
    let may : MayBeKept (option_map (λ origin. origin.edition.value) c.self.inside.origin) (c.args.target.now, c.args.body.now) = search rules in
    data_put _ c.args.target.now c.args.body.now c.self.inside.bodies c.put.new.self may c.self.invariant
    (put_puts c.put.result c.args.target.now c.args.body.now c.self.inside.bodies c.put.new.self c.put.ensures.kept c.put.ensures.too_long c.put.ensures.unchanged)
