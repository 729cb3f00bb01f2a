use Rattle.std.proofs.Common.{rules, ◌≡◌, get_or, subst, sym, refl}
use Rattle.covjson_value.specs.declared.coverages.Coverage.{Coverage}
use Rattle.edr_select.specs.Listings.{PlannedValue, ListingValue, coverage_of}
use Rattle.edr_send.specs.Filling.{grid_of}
use Rattle.edr_send.specs.Forms.{listing_sent}
use Rattle.edr_send.specs.SentReplies.{IsHeadOf}
use Rattle.edr_send.proofs.FormSteps.{head_told}
use Rattle.edr_send.proofs.streaming.ListingCoverages.head.Goals as goal

pub returns : goal.returns
returns c = λ held.
    let plan : ListingValue = c.args.self.now in
    let planned : PlannedValue = c.index-items-number.result in
    let is : planned ≡ get_or plan.coverages c.args.number planned = search rules in
    let same : c.planned.inside.head ≡ planned.head = search rules in
    subst (λ (h : Coverage). IsHeadOf h (listing_sent plan held) c.args.number) (sym same) (head_told (coverage_of (grid_of held) plan.parameters) plan.coverages c.args.number planned c.requires is planned.head refl)
