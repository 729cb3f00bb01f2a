use Rattle.std.proofs.Common.{rules, ◌≤◌, length, sym}
use Rattle.edr_fetch.specs.Requests.{url_limit}
use Rattle.edr_fetch.proofs.RequestLemmas.{no_text, of_text}
use Rattle.edr_fetch.proofs.requests.request_of.Goals as goal

pub returns-in_default-clause-request : goal.returns-in_default-clause-request
returns-in_default-clause-request c = no_text c.args.text.now c.in_default.ensures.cases.0

pub returns-in-Ok-parse-clause-request : goal.returns-in-Ok-parse-clause-request
returns-in-Ok-parse-clause-request c =
    let short : length c.args.text.now ≤ url_limit = search rules in
    rw (of_text c.args.text.now short c.in-Ok.ensures.cases.1, sym c.in-Ok.ensures.cases.0, c.in-Ok-parse.ensures)
    c.request_by.ensures.request
