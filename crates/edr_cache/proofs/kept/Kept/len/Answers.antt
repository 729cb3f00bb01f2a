use Rattle.std.proofs.Common.{sym, ap, ◌∙◌, subst, arith}
use Rattle.edr_cache.specs.Entries.{shown}
use Rattle.edr_cache.specs.Pairs.{IsWithin}
use Rattle.edr_cache.proofs.PairLemmas.{within_none}
use Rattle.edr_cache.proofs.kept.Kept.len.Goals as goal

pub returns-in-None-clause-within : goal.returns-in-None-clause-within
returns-in-None-clause-within c = subst IsWithin (sym (ap shown c.in-None.is) ∙ c.self.view_is) (within_none 0 (omega arith))
