-- For private clauses: what answering one head does.
use Rattle.std.specs.Prelude.{◌⊎◌, ℕ, [], ◌∷◌}
use Rattle.edr_http.specs.declared.heads.Head.{Head}
use Rattle.edr_serve.specs.declared.reports.OneReport.{OneReport}
use Rattle.edr_serve.specs.Requests.{Request, IsOf}
use Rattle.edr_serve.specs.Sessions.{State, IsReplied, BrokeOff}

-- the request that the head makes was answered
pub record HeadReplied (turns : ℕ) (head : Head) (before after : State) (report : OneReport) : Type 0 where
  pub request : Request
  pub is_of : IsOf turns head request
  pub replied : IsReplied request before after report

-- it was answered in part
pub record HeadBroke (turns : ℕ) (head : Head) (before after : State) : Type 0 where
  pub request : Request
  pub is_of : IsOf turns head request
  pub broke_off : BrokeOff (request ∷ []) before after

-- it was so, or nothing was answered
abbrev pub HeadBroken : ℕ → Head → State → State → Type 0
HeadBroken turns head before after = HeadBroke turns head before after ⊎ BrokeOff [] before after
