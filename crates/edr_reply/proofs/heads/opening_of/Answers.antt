use Rattle.std.proofs.Common.{List, subst}
use Rattle.edr_http.specs.Checks.{Field}
use Rattle.edr_reply.specs.Messages.{IsEdition, IsFraming}
use Rattle.edr_reply.proofs.heads.opening_of.Goals as goal

pub returns : goal.returns
returns c head at = record {
  len = at.len;
  status = at.code;
  edition = subst (λ (fields : List Field). IsEdition fields c.edition_of.result) at.fields c.edition_of.ensures;
  framed = subst (λ (fields : List Field). IsFraming fields c.framing_of.result) at.fields c.framing_of.ensures;
}
