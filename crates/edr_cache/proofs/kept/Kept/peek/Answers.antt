use Rattle.std.proofs.Common.{sym, ap, ◌∙◌}
use Rattle.edr_cache.specs.Entries.{shown}
use Rattle.edr_cache.specs.Pairs.{body_of}
use Rattle.edr_cache.proofs.EntryLemmas.{looked_up}
use Rattle.edr_cache.proofs.kept.Kept.peek.Goals as goal

pub returns-in-Some : goal.returns-in-Some
returns-in-Some c =
    let target = c.args.target.now in
    c.peek.ensures ∙ looked_up target c.in-Some.cache.entries ∙ ap (λ store. body_of target store.pairs) (sym (ap shown c.in-Some.is) ∙ c.self.view_is)
