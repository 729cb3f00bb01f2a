use Rattle.std.proofs.Common.{◌≡◌, unsigned_abs, rules, refl}
use Rattle.covjson_checks.proofs.members.is_within.Goals as goal

pub returns : goal.returns
returns c =
    let size : c.unsigned_abs.result ≡ unsigned_abs c.args.value = search rules in
    rw size refl
