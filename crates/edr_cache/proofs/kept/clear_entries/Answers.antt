use Rattle.std.proofs.Common.{sym, subst}
use Rattle.edr_cache.specs.Entries.{IsKept}
use Rattle.edr_cache.proofs.EntryLemmas.{empty_kept}
use Rattle.edr_cache.proofs.kept.clear_entries.Goals as goal

pub returns-clause-kept : goal.returns-clause-kept
returns-clause-kept c = subst IsKept (sym c.clear.ensures) (empty_kept c.args.cache.now.cap c.requires.within.at_most c.requires.roomy)
