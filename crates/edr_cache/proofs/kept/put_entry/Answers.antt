use Rattle.std.proofs.Common.{◌≤◌, length, sym, ap, ◌∙◌, subst}
use Rattle.edr_cache.specs.Entries.{pairs_of, held_by, IsKept}
use Rattle.edr_cache.specs.Limits.{kept_limit}
use Rattle.edr_cache.specs.Pairs.{held, with_body}
use Rattle.edr_cache.proofs.EntryLemmas.{put_held, put_kept}
use Rattle.edr_cache.proofs.kept.put_entry.Goals as goal

pub returns-clause-shown : goal.returns-clause-shown
returns-clause-shown c =
    let cache = c.args.cache.now in
    let pairs = pairs_of cache.entries in
    let value = c.in_ok-value.value in
    ap held_by c.in_ok-put.ensures.entries
    ∙ put_held cache c.requires.kept c.in_ok-key.key value
    ∙ ap (λ target. held (with_body cache.cap target value pairs) cache.cap) c.in_ok-key.ensures.items
    ∙ ap (λ body. held (with_body cache.cap c.args.target.now body pairs) cache.cap) c.in_ok-value.ensures

pub returns-clause-kept : goal.returns-clause-kept
returns-clause-kept c =
    let short = subst (λ body. length body ≤ kept_limit) (sym c.in_ok-value.ensures) c.requires.short in
    subst IsKept (sym c.in_ok-put.ensures.entries) (put_kept c.args.cache.now c.requires.kept c.in_ok-key.key c.in_ok-value.value short)
