use Rattle.edr_describe.proofs.FoundTexts.{match_description}
use Rattle.edr_describe.proofs.describing.describe.Goals as goal

pub returns : goal.returns
returns c = match_description c.args.edition.now c.args.page.now c.found_text.result c.found_text.ensures.text c.found_text.ensures.fault
