use Rattle.std.proofs.Common.{sym, subst, List, ◌∷◌, ◌++◌, ℕ, Some}
use Rattle.std.specs.Prelude.{Result, is_some}
use Rattle.edr_base.specs.RefusalTable.{line_of}
use Rattle.edr_base.specs.declared.refusals.Refusal.{Refusal}
use Rattle.edr_query.specs.declared.pages.Page.{Page}
use Rattle.edr_client.specs.Replies.{IsNotData}
use Rattle.edr_serve.specs.Replies.{output}
use Rattle.edr_exchange.proofs.ReplyBytes.{refused_bytes, output_by}
use Rattle.edr_exchange.proofs.laws.first_refusal_is_heard.Goals as goal

pub returns : goal.returns
returns c request requests edition editions page refusal get asked told some =
    subst (λ (wanted : Result Page Refusal). IsNotData (output_by request wanted requests (edition ∷ editions)) (line_of refusal).status (line_of refusal).code (output requests editions))
    (sym asked)
    (subst (λ (bytes : List ℕ). IsNotData (bytes ++ output requests editions) (line_of refusal).status (line_of refusal).code (output requests editions))
    (sym (refused_bytes request edition page refusal get some))
    (c.written_refusals_are_heard.ensures refusal (Some edition.number) (is_some request.end) (output requests editions) told.number))
