use Rattle.std.proofs.Common.{◌≡◌, ◌∙◌, ap, length, rules}
use Rattle.edr_select.specs.Documents.{document}
use Rattle.edr_work.proofs.CountLemmas.{subject_is, stands_in, is_valid, counted, told_once}
use Rattle.edr_work.proofs.lines.count_planned.Goals as goal

pub send_to-requires-clause-stands : goal.send_to-requires-clause-stands
send_to-requires-clause-stands c =
    let id : c.bytes.result.now ≡ c.args.query.now.collection = search rules in
    stands_in c.args.edition.now c.args.query.now c.args.plan.now c.of-store.result.subject c.requires
    (subject_is c.args.edition.now c.args.query.now c.args.plan.now c.of-store.result.subject _ _ c.requires id c.instance_named.ensures c.of-store.ensures.subject)

pub tally_of_text-requires : goal.tally_of_text-requires
tally_of_text-requires c =
    let id : c.bytes.result.now ≡ c.args.query.now.collection = search rules in (
      document c.of-store.result.subject c.args.plan.now.query,
      is_valid c.args.edition.now c.args.query.now c.args.plan.now c.of-store.result.subject c.requires
          (subject_is c.args.edition.now c.args.query.now c.args.plan.now c.of-store.result.subject _ _ c.requires id c.instance_named.ensures c.of-store.ensures.subject),
      told_once _ _ _ c.written.ensures c.in_ok-send_to.ensures.text,
    )

pub returns : goal.returns
returns c =
    let id : c.bytes.result.now ≡ c.args.query.now.collection = search rules in
    let same = subject_is c.args.edition.now c.args.query.now c.args.plan.now c.of-store.result.subject _ _ c.requires id c.instance_named.ensures c.of-store.ensures.subject in
    counted c.args.edition.now c.args.query.now c.args.plan.now c.of-store.result.subject _ _ c.requires same
    (c.in_ok-tally_of_text.ensures (document c.of-store.result.subject c.args.plan.now.query)
    (is_valid c.args.edition.now c.args.query.now c.args.plan.now c.of-store.result.subject c.requires same)
    (told_once _ _ _ c.written.ensures c.in_ok-send_to.ensures.text))
    (ap length (c.numbers.ensures ∙ c.in_ok-send_to.ensures.opened))
