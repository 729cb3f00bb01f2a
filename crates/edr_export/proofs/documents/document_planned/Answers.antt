use Rattle.std.proofs.Common.{◌≡◌, rules, ◌∙◌, Some, IfOk}
use Rattle.std.specs.Prelude.{Result}
use Rattle.covjson_value.specs.declared.coverages.Document.{Document}
use Rattle.edr_select.specs.Documents.{document}
use Rattle.edr_export.proofs.ExportLemmas.{subject_is, document_is, is_valid, told_once, ok_is}
use Rattle.edr_export.proofs.documents.document_planned.Goals as goal

pub read_back-requires : goal.read_back-requires
read_back-requires c =
    let id : c.bytes.result.now ≡ c.args.query.now.collection = search rules in (
      document c.of-store.result.subject c.args.plan.now.query,
      is_valid c.args.edition.now c.args.query.now c.args.plan.now c.of-store.result.subject c.requires
          (subject_is c.args.edition.now c.args.query.now c.args.plan.now c.of-store.result.subject _ _ c.requires id c.instance_named.ensures c.of-store.ensures.subject),
      told_once _ _ _ c.written.ensures c.in_ok-send_to.ensures,
    )

pub returns : goal.returns
returns c = λ planned.
    let id : c.bytes.result.now ≡ c.args.query.now.collection = search rules in
    let same = subject_is c.args.edition.now c.args.query.now c.args.plan.now c.of-store.result.subject _ _ planned id c.instance_named.ensures c.of-store.ensures.subject in
    ok_is _ _ _ (c.read_back.ensures (document c.of-store.result.subject c.args.plan.now.query)
    (is_valid c.args.edition.now c.args.query.now c.args.plan.now c.of-store.result.subject planned same)
    (told_once _ _ _ c.written.ensures c.in_ok-send_to.ensures))
    (document_is c.args.edition.now c.args.query.now c.args.plan.now c.of-store.result.subject planned same)
