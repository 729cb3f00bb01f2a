-- Requests as a server reads them.
use Rattle.std.specs.Prelude.{◌≡◌, ℕ, ◌≤◌, true, List, [], ◌∷◌, ◌++◌, length, codes, None}
use Rattle.edr_http.specs.declared.heads.Head.{Head}
use Rattle.edr_http.specs.Heads.{HeadOf, head_limit}
use Rattle.edr_http.specs.Checks.{Refuses, says_close}
use Rattle.edr_fetch.specs.declared.requests.Request.{Request}
use Rattle.edr_fetch.specs.Requests.{request_text, port_text}

-- what the head of a request says
abbrev pub head_said : Request → Head
head_said request = record {
  method = codes "GET";
  target = request.target;
  minor = 1;
  fields = (codes "Host", request.host ++ port_text request.port) ∷ (codes "Connection", codes "close") ∷ [];
}

-- its bytes are just that head, where a head may have so many; whatever follows is no part of it. No refusal of heads applies to it, and
-- it asks for the connection to be closed
pub record IsServed (request : Request) : Type 0 where
  pub head : (rest : List ℕ) → length (request_text request) ≤ head_limit → HeadOf (request_text request ++ rest) (head_said request) rest
  pub accepted : Refuses (head_said request) None
  pub closes : says_close (head_said request) ≡ true
