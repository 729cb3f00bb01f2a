use Rattle.std.proofs.Common.{◌≡◌, ◌++◌, ◌∷◌, [], IfOk, OnOk, sym, ap, subst}
use Rattle.edr_station.specs.Stations.{StationsValue}
use Rattle.edr_station.specs.Blocks.{IsBlock}
use Rattle.edr_edition.specs.Stores.{StoreValue, IsBlockOf}
use Rattle.edr_edition.proofs.HeldLaws.{holds_stations}
use Rattle.edr_edition.proofs.stores.Store.block.Goals as goal

pub returns-clause-block : goal.returns-clause-block
returns-clause-block c =
    let held = holds_stations c.self.inside.collection.now _ c.args.self.now c.self.inside.reads c.args.number c.self.invariant.held_by c.self.view_is c.requires in
    subst (λ held. IfOk c.open_block.result (λ values. IsBlockOf held c.args.number values.items)) (sym held)
    (subst (λ (stations : StationsValue). IfOk c.open_block.result (λ values. IsBlock stations c.args.number values.items)) c.in-Some.ensures.stations.1 c.open_block.ensures.ok)

pub returns-clause-read : goal.returns-clause-read
returns-clause-read c =
    subst (λ numbers. OnOk c.open_block.result (c.open_block.new.reads ≡ numbers ++ c.args.number ∷ [])) (ap (λ (store : StoreValue). store.numbers) c.self.view_is) c.open_block.ensures.read
