use Rattle.std.proofs.Common.{sym, subst, List, ◌∷◌, ◌++◌, ℕ, Some}
use Rattle.std.specs.Prelude.{Result, is_some}
use Rattle.edr_base.specs.declared.refusals.Refusal.{Refusal}
use Rattle.edr_query.specs.declared.pages.Page.{Page}
use Rattle.edr_select.specs.Documents.{document}
use Rattle.edr_client.specs.Replies.{IsReply}
use Rattle.edr_serve.specs.Replies.{output}
use Rattle.edr_exchange.proofs.ReplyBytes.{data_bytes, output_by}
use Rattle.edr_exchange.proofs.laws.first_data_is_heard.Goals as goal

pub returns : goal.returns
returns c request requests edition editions query subject get asked told answered few =
    subst (λ (wanted : Result Page Refusal). IsReply (output_by request wanted requests (edition ∷ editions)) (record { edition = Some edition.number; document = document subject query }) (output requests editions))
    (sym asked)
    (subst (λ (bytes : List ℕ). IsReply (bytes ++ output requests editions) (record { edition = Some edition.number; document = document subject query }) (output requests editions))
    (sym (data_bytes request edition query subject get answered.none answered.named))
    (c.written_documents_are_heard.ensures (document subject query) (Some edition.number) (is_some request.end) (output requests editions)
    (c.documents_are_valid.ensures edition query subject told.collections answered.is_query answered.none answered.named) told.number few))
