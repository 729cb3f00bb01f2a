use Rattle.std.proofs.Common.{sym, subst, List, ◌++◌, ℕ, None}
use Rattle.std.specs.Prelude.{Result, is_some}
use Rattle.edr_base.specs.RefusalTable.{line_of}
use Rattle.edr_base.specs.declared.refusals.Refusal.{Refusal}
use Rattle.edr_query.specs.declared.pages.Page.{Page}
use Rattle.edr_client.specs.Replies.{IsNotData}
use Rattle.edr_serve.specs.Replies.{output}
use Rattle.edr_exchange.proofs.ReplyBytes.{bytes_without, output_by}
use Rattle.edr_exchange.proofs.laws.refused_requests_are_heard.Goals as goal

pub returns : goal.returns
returns c request requests editions refusal get asked =
    subst (λ (wanted : Result Page Refusal). IsNotData (output_by request wanted requests editions) (line_of refusal).status (line_of refusal).code (output requests editions))
    (sym asked)
    (subst (λ (bytes : List ℕ). IsNotData (bytes ++ output requests editions) (line_of refusal).status (line_of refusal).code (output requests editions))
    (sym (bytes_without request refusal get))
    (c.written_refusals_are_heard.ensures refusal None (is_some request.end) (output requests editions) tt))
