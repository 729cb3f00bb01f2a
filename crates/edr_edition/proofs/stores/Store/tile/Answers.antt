use Rattle.std.proofs.Common.{◌≡◌, ◌++◌, ◌∷◌, [], IfOk, OnOk, sym, ap, subst}
use Rattle.edr_chunk.specs.Grids.{Values}
use Rattle.edr_chunk.specs.Tiles.{IsTile}
use Rattle.edr_edition.specs.Stores.{StoreValue, IsTileOf}
use Rattle.edr_edition.proofs.HeldLaws.{holds_grid}
use Rattle.edr_edition.proofs.stores.Store.tile.Goals as goal

pub returns-clause-tile : goal.returns-clause-tile
returns-clause-tile c =
    let held = holds_grid (λ i. i.now) c.self.inside.collection.now c.self.inside.instance c.in-Some.instance c.args.self.now c.self.inside.reads c.in-Some.is c.self.view_is in
    subst (λ held. IfOk c.open.result (λ opened. IsTileOf held c.args.tile opened)) (sym held)
    (subst (λ (grid : Values). IfOk c.open.result (λ opened. IsTile grid c.args.tile opened)) c.grid.ensures c.open.ensures.ok)

pub returns-clause-read : goal.returns-clause-read
returns-clause-read c =
    subst (λ numbers. OnOk c.open.result (c.open.new.reads ≡ numbers ++ c.args.tile ∷ [])) (ap (λ (store : StoreValue). store.numbers) c.self.view_is) c.open.ensures.read
