use Rattle.std.proofs.Common.{◌≡◌, true, inl, inr, Some, sym, ◌∙◌}
use Rattle.edr_ids.specs.Ids.{without_id}
use Rattle.edr_station.specs.Stations.{station_id}
use Rattle.edr_edition.specs.declared.kinds.Kind.TheVariants.{Station}
use Rattle.edr_draft.specs.Changes.{as_station, AppliesToSet}
use Rattle.edr_draft.proofs.KindLaws.{kind_differs, kind_is}
use Rattle.edr_draft.proofs.FaultLaws.{wrong_kind, first_beside, levels_first, none_first}
use Rattle.edr_draft.proofs.StepLaws.{still_finds}
use Rattle.edr_draft.proofs.SeriesLaws.{found_others, others_found, found_differs, found_alike, alike_without}
use Rattle.edr_draft.proofs.checks.check_series.Goals.{then-ne-via-then-ne, then-ne-via-else-ne+then-not-is_series}
use Rattle.edr_draft.proofs.checks.check_series.Goals as goal

pub returns-then-ne : goal.returns-then-ne
returns-then-ne c =
    let collection = c.args.collection.now in
    let wrong = wrong_kind (as_station c.args.id.now) collection c.args.coverage.now in
    λ own. elim c.then-ne.branch [
      | then-ne-via-then-ne w ↦ wrong (inl (kind_differs c.kind.result collection.kind Station c.ne.result c.kind.ensures.kind c.ne.ensures w.if-ne.true))
      | then-ne-via-else-ne+then-not-is_series w ↦ wrong (inr (sym w.is_series.ensures ∙ w.if-not-is_series.true))
    ]

pub returns-in_err-check_coverage : goal.returns-in_err-check_coverage
returns-in_err-check_coverage c =
    let collection = c.args.collection.now in
    let coverage = c.args.coverage.now in
    let setting = as_station c.args.id.now in
    let others = without_id station_id c.args.id.now collection.stations in
    let found = c.other_station-other.result in
    let there = c.other_station-other.ensures.other in
    let kind = kind_is c.kind.result collection.kind Station c.ne.result c.kind.ensures.kind c.ne.ensures c.if-ne.false in
    let place = sym c.is_series.ensures ∙ c.if-not-is_series.false in
    let fault = c.in_err-check_coverage.field-0.0 in
    still_finds (AppliesToSet setting (Some collection) coverage) c.from_residual.result fault c.from_residual.ensures.1
    (λ own. first_beside setting collection coverage (c.is_some.result ≡ true)
    (λ has. found_others others found there (sym c.is_some.ensures ∙ has)) (λ some. c.is_some.ensures ∙ others_found others found there some) kind place fault (c.in_err-check_coverage.ensures own))

pub returns-then-levels_differ : goal.returns-then-levels_differ
returns-then-levels_differ c =
    let collection = c.args.collection.now in
    let coverage = c.args.coverage.now in
    let others = without_id station_id c.args.id.now collection.stations in
    let found = c.other_station-other.result in
    let there = c.other_station-other.ensures.other in
    let kind = kind_is c.kind.result collection.kind Station c.ne.result c.kind.ensures.kind c.ne.ensures c.if-ne.false in
    let place = sym c.is_series.ensures ∙ c.if-not-is_series.false in
    λ own. levels_first (as_station c.args.id.now) collection coverage (c.is_some.result ≡ true)
    (λ has. found_others others found there (sym c.is_some.ensures ∙ has)) (λ some. c.is_some.ensures ∙ others_found others found there some) kind place c.in_ok-check_coverage.ensures
    (found_differs coverage others found there c.levels_differ.result c.if-levels_differ.true c.levels_differ.ensures.some c.levels_differ.ensures.none)

pub returns : goal.returns
returns c =
    let collection = c.args.collection.now in
    let coverage = c.args.coverage.now in
    let others = without_id station_id c.args.id.now collection.stations in
    let found = c.other_station-other.result in
    let there = c.other_station-other.ensures.other in
    let kind = kind_is c.kind.result collection.kind Station c.ne.result c.kind.ensures.kind c.ne.ensures c.if-ne.false in
    let place = sym c.is_series.ensures ∙ c.if-not-is_series.false in
    none_first (as_station c.args.id.now) collection coverage (c.is_some.result ≡ true)
    (λ has. found_others others found there (sym c.is_some.ensures ∙ has)) (λ some. c.is_some.ensures ∙ others_found others found there some) kind place c.in_ok-check_coverage.ensures
    (found_alike coverage others found there (alike_without c.args.id.now collection.stations c.other_station-other.ensures.collection.stations.alike) c.levels_differ.result c.if-levels_differ.false c.levels_differ.ensures.some)
