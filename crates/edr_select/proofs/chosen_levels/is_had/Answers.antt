use Rattle.std.proofs.Common.{◌≡◌, ◌∙◌, ap, rules, w64, of_z, to_z}
use Rattle.edr_select.specs.Wanted.{has_level}
use Rattle.edr_select.proofs.Has.{has_level_is}
use Rattle.edr_select.proofs.chosen_levels.is_had.Goals as goal

pub returns : goal.returns
returns c =
    let whole : to_z w64 (of_z w64 c.args.level) ≡ c.args.level = search rules in
    has_level_is c.args.levels.now (to_z w64 (of_z w64 c.args.level)) c.has.result c.has.ensures ∙ ap (has_level c.args.levels.now) whole
