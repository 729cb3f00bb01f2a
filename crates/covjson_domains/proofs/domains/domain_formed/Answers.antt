use Rattle.std.proofs.Common.{refl}
use Rattle.covjson_domains.proofs.domains.domain_formed.Goals as goal

pub returns-in-Grid : goal.returns-in-Grid
returns-in-Grid c = rw (c.in-Grid.is, c.axis_in.ensures, c.axis_in-in-Grid.ensures, c.axis_of.ensures, c.axis_of-in-Grid.ensures) refl
