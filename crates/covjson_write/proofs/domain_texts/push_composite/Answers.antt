use Rattle.covjson_write.proofs.HeadTextLemmas.{composite_put}
use Rattle.covjson_write.proofs.domain_texts.push_composite.Goals as goal

pub returns-clause-text : goal.returns-clause-text
returns-clause-text c =
    composite_put c.args.domain.now c.coordinates-names.result.now c.in-Some.tuples.now c.args.text.now.items _ _ _ _ _ c.in-Some.ensures c.coordinates-names.ensures
    c.in_ok-push_bytes.ensures c.in_ok-push_names.ensures c.in_ok-push_bytes-2.ensures c.in_ok-push_tuples.ensures c.in_ok-push_bytes-3.ensures
