use Rattle.edr_feed.proofs.FeedLaws.{one_answer}
use Rattle.edr_feed.proofs.feeds.feeds_have_one_answer.Goals as goal

pub returns : goal.returns
returns c = one_answer c.texts_have_one_tree.ensures c.trees_have_one_form.ensures c.changes_have_one_outcome.ensures
