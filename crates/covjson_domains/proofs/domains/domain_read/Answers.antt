use Rattle.std.proofs.Common.{refl, sym, subst}
use Rattle.edr_samples.specs.Trees.{tree_view}
use Rattle.edr_json.specs.AnswerLaws.{and_then_given}
use Rattle.covjson_domains.specs.DomainAnswers.{AreCounted}
use Rattle.covjson_domains.proofs.DomainCounts.{formed_counted}
use Rattle.covjson_domains.proofs.domains.domain_read.Goals as goal

pub returns-clause-answer : goal.returns-clause-answer
returns-clause-answer c =
    and_then_given _ _ c.in_ok-kind.kind _ c.in_ok-kind.ensures
    (and_then_given _ _ (tree_view c.in_ok-axes.axes.now) _ c.in_ok-axes.ensures
    (and_then_given _ _ c.in_ok-read.read _ c.in_ok-read.ensures.answer
    (rw (c.domain_formed-domain.ensures, c.is_turned_round.ensures, c.is_turned_round-2.ensures, c.is_turned_round-3.ensures, c.is_turned_round-4.ensures) refl)))

pub returns-clause-counted : goal.returns-clause-counted
returns-clause-counted c = subst AreCounted (sym c.domain_formed-domain.ensures) (formed_counted c.in_ok-kind.kind c.in_ok-read.read c.in_ok-read.ensures.counted)
