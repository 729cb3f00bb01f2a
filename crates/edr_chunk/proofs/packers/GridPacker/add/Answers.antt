use Rattle.std.proofs.Common.{rules, ◌≡◌, ◌<◌, ◌^◌, ◌++◌, sym, ap, subst, ◌∙◌, List, Option, length, arith}
use Rattle.std.specs.Prelude.{ℤ, map}
use Rattle.edr_chunk.specs.declared.shapes.GridShape.{GridShape}
use Rattle.edr_chunk.specs.Places.{nodes, count}
use Rattle.edr_chunk.specs.AllPlaces.{places}
use Rattle.edr_chunk.specs.Grids.{Values}
use Rattle.edr_chunk.specs.KeptTiles.{one_more, stored, AreTiles}
use Rattle.edr_chunk.proofs.ParameterLaws.{more_tiles, more_values}
use Rattle.edr_chunk.proofs.packers.GridPacker.add.Goals as goal

pub invariant_of-self-2 : goal.invariant_of-self-2
invariant_of-self-2 c =
    let s : GridShape = c.self.inside.shape in
    let kept : List (List (Option ℤ)) = c.self.inside.kept.items in
    let more : List (List (Option ℤ)) = c.in_ok-tiles.tiles.items in
    let items : c.append.new.self.items ≡ kept ++ more = search rules in
    let fits = subst (λ (t : GridShape). count t < 2 ^ 64) c.in_ok-shape.ensures.more c.in_ok-shape.ensures.fits in
    subst (λ (t : GridShape). AreTiles t c.append.new.self.items) (sym c.in_ok-shape.ensures.more)
    (subst (λ (k : List (List (Option ℤ))). AreTiles (one_more s) k) (sym items) (more_tiles s kept more c.args.values.now c.self.invariant c.in_ok-tiles.ensures c.requires.samples fits))

pub returns-clause-values : goal.returns-clause-values
returns-clause-values c =
    let s : GridShape = c.self.inside.shape in
    let kept : List (List (Option ℤ)) = c.self.inside.kept.items in
    let more : List (List (Option ℤ)) = c.in_ok-tiles.tiles.items in
    let part : List (Option ℤ) = c.args.values.now in
    let items : c.append.new.self.items ≡ kept ++ more = search rules in
    let long = subst (λ (g : Values). length part ≡ nodes g.shape) (sym c.self.view_is) c.requires.whole in
    ap (λ (t : GridShape). map (stored t c.append.new.self.items) (places t)) c.in_ok-shape.ensures.more
    ∙ (ap (λ (k : List (List (Option ℤ))). map (stored (one_more s) k) (places (one_more s))) items
    ∙ (more_values s kept more part c.self.invariant c.in_ok-tiles.ensures long ∙ ap (λ (g : Values). g.values ++ part) c.self.view_is))

pub invariant_of-self : goal.invariant_of-self
invariant_of-self c =
    subst (λ (k : List (List (Option ℤ))). AreTiles c.self.inside.shape k) (sym c.in_err-append.ensures.items) c.self.invariant

pub packed_tiles-requires-clause-whole : goal.packed_tiles-requires-clause-whole
packed_tiles-requires-clause-whole c =
    let long = subst (λ (g : Values). length c.args.values.now ≡ nodes g.shape) (sym c.self.view_is) c.requires.whole in
    omega (arith, long)
