use Rattle.std.proofs.Common.{refl, sym, ◌∙◌}
use Rattle.edr_samples.specs.Trees.{list_view}
use Rattle.covjson_domains.proofs.AscendLemmas.{has_some-empty, has_some-more}
use Rattle.covjson_domains.proofs.axes.value_items.Goals as goal

pub returns-then-count_items-eq0 : goal.returns-then-count_items-eq0
returns-then-count_items-eq0 c =
    rw (c.in_ok-list.ensures, c.in_ok-items.ensures, has_some-empty (list_view c.in_ok-items.items) (sym c.count_items.ensures ∙ c.if-count_items-eq0.true)) refl

pub returns : goal.returns
returns c =
    rw (c.in_ok-list.ensures, c.in_ok-items.ensures, has_some-more (list_view c.in_ok-items.items) (λ e. c.if-count_items-eq0.false (c.count_items.ensures ∙ e))) refl
