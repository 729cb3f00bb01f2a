use Rattle.std.proofs.Common.{rules, ◌≤◌, inl, refl, length}
use Rattle.edr_import.specs.Imports.{samples_in}
use Rattle.edr_import.specs.Limits.{parameter_limit, samples_limit}
use Rattle.edr_import.proofs.ValidLemmas.{stations_writable}
use Rattle.edr_import.proofs.importing.stations_within.Goals as goal

pub returns : goal.returns
returns c =
    let names = c.in_ok-names.names in
    let sites = c.in_ok-sites.sites in
    let stations = c.in_ok-stations_of.field-0.items in
    let few : length names ≤ parameter_limit = search rules in
    let within : samples_in names sites ≤ samples_limit = search rules in (
      (names, c.in_ok-names.ensures, inl (few, (sites, c.in_ok-sites.ensures, inl (within, (stations, c.in_ok-stations_of.ensures, refl))))),
      stations_writable c.args.observations.now c.requires.good names c.in_ok-names.ensures sites c.in_ok-sites.ensures stations c.in_ok-stations_of.ensures,
    )
