use Rattle.std.proofs.Common.{sym, ap, ◌∙◌, subst}
use Rattle.edr_cache.specs.Entries.{held_by, IsKept}
use Rattle.edr_cache.proofs.EntryLemmas.{promoted_held, promoted_kept}
use Rattle.edr_cache.proofs.kept.promote_entry.Goals as goal

pub returns-clause-shown : goal.returns-clause-shown
returns-clause-shown c = ap held_by c.promote.ensures.entries ∙ promoted_held c.args.cache.now c.requires c.args.target.now

pub returns-clause-kept : goal.returns-clause-kept
returns-clause-kept c = subst IsKept (sym c.promote.ensures.entries) (promoted_kept c.args.cache.now c.requires c.args.target.now)
