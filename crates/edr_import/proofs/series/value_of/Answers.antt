use Rattle.std.proofs.Common.{inl, inr, refl, ap, rules}
use Rattle.std.proofs.lemmas.Fn.{always_returns_same}
use Rattle.edr_csv.specs.declared.observations.Observation.{Observation}
use Rattle.edr_import.specs.Sorting.{Key, key_of, key_order}
use Rattle.edr_import.proofs.OrderLemmas.{here, found_key, no_key, same_key, key_itself}
use Rattle.edr_import.proofs.series.value_of.Goals as goal

pub returns-in-Ok : goal.returns-in-Ok
returns-in-Ok c =
    let key : Key = record { station = c.args.station.now; t = c.args.t; parameter = c.args.parameter.now } in
    let found = found_key c.args.observations.now c.requires key c.in-Ok.place c.index-observations-place.result c.in-Ok.ensures.bound
    (c.in-Ok.ensures.position (λ o. key_order (key_of o) key) (always_returns_same _ _ _ (λ a r f' k. search rules))) (here c.args.observations.now c.in-Ok.place c.index-observations-place.result c.in-Ok.ensures.bound c.index-observations-place.is) in
    inl (
      c.index-observations-place.result,
      found.0,
      same_key (key_of c.index-observations-place.result) key found.1,
      ap (λ (o : Observation). o.value) (here c.args.observations.now c.in-Ok.place c.index-observations-place.result c.in-Ok.ensures.bound c.index-observations-place.is c.index-observations-place.result),
    )

pub returns-in-Err : goal.returns-in-Err
returns-in-Err c =
    let key : Key = record { station = c.args.station.now; t = c.args.t; parameter = c.args.parameter.now } in
    inr (
      λ o has same. no_key c.args.observations.now c.requires key c.in-Err.field-0
          (c.in-Err.ensures.position (λ o. key_order (key_of o) key) (always_returns_same _ _ _ (λ a r f' k. search rules))) o has
          (key_itself (key_of o) key same.0 same.1 same.2),
      refl,
    )
