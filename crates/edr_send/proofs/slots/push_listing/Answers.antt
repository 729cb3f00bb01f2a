use Rattle.std.proofs.Common.{rules, ◌≡◌, ◌<◌, ℕ, List, [], ◌∷◌, ◌++◌, length, take, get_or, ap, ◌∙◌, arith}
use Rattle.edr_select.specs.Listings.{PlannedValue}
use Rattle.edr_send.specs.declared.slots.Slot.{Slot}
use Rattle.edr_send.specs.Filling.{SlotsGrew}
use Rattle.edr_send.specs.Gathered.{places_of_coverage, places_of_coverages}
use Rattle.edr_send.proofs.SlotLists.{from_none, slots_length, starts_more, grew_item, plan_within}
use Rattle.edr_send.proofs.slots.push_listing.Goals as goal

pub loop-planned-preserved : goal.loop-planned-preserved
loop-planned-preserved c =
    let shape = c.args.listing.now.shape in
    let ps : List ℕ = c.args.listing.now.parameters in
    let coverages : List PlannedValue = c.args.listing.now.coverages in
    let i : ℕ = c.loop-planned.planned-index in
    let planned : PlannedValue = c.planned-item.result in
    let listed : c.items-planned-items.result.now ≡ coverages = search rules in
    let inside : i < length coverages = search rules in
    let is : planned ≡ get_or coverages i planned = search rules in
    let grew : SlotsGrew shape (places_of_coverage ps planned) c.loop-planned.slots.items c.push_coverage.new.slots.items = search rules in
    let before : List Slot = c.loop-planned.slots.items in
    let many : c.len.result ≡ length (places_of_coverages ps (take i coverages)) =
    search rules ∙ ap length (from_none shape (places_of_coverages ps (take i coverages)) c.args.slots.now.items before c.requires.none c.loop-planned.invariant.slots) ∙ slots_length shape 0 (places_of_coverages ps (take i coverages)) in
    let pushed : c.push.new.self.items ≡ c.loop-planned.starts.items ++ c.len.result ∷ [] = c.in_ok-push.ensures.items in
    let more = starts_more (λ (k : ℕ). length (places_of_coverages ps (take k coverages))) c.loop-planned.starts.items c.push.new.self.items c.len.result i pushed c.loop-planned.invariant.long c.loop-planned.invariant.at many in
    record {
      slots = grew_item shape (places_of_coverage ps) coverages i planned c.args.slots.now.items before c.push_coverage.new.slots.items inside is c.loop-planned.invariant.slots grew;
      long = more.0;
      at = more.1;
    }

pub returns-in_err-push_coverage-clause-within : goal.returns-in_err-push_coverage-clause-within
returns-in_err-push_coverage-clause-within c = plan_within c.args.listing.now.shape c.args.listing.now.parameters c.args.listing.now.coverages c.listing_stands.ensures.is.parameters c.listing_stands.ensures.is.coverages

pub returns-clause-within : goal.returns-clause-within
returns-clause-within c = plan_within c.args.listing.now.shape c.args.listing.now.parameters c.args.listing.now.coverages c.listing_stands.ensures.is.parameters c.listing_stands.ensures.is.coverages

pub returns-in_err-push-clause-within : goal.returns-in_err-push-clause-within
returns-in_err-push-clause-within c = plan_within c.args.listing.now.shape c.args.listing.now.parameters c.args.listing.now.coverages c.listing_stands.ensures.is.parameters c.listing_stands.ensures.is.coverages

pub returns-clause-starts : goal.returns-clause-starts
returns-clause-starts c =
    let end : c.loop-planned.planned-index ≡ length c.args.listing.now.coverages = search rules in
    record {
      long = c.loop-planned.invariant.long ∙ end;
      at = λ i l. c.loop-planned.invariant.at i (omega (arith, l, end));
    }
