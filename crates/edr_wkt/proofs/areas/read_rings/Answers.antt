use Rattle.std.proofs.Common.{arith, refl, length, map, subst, ℕ}
use Rattle.edr_wkt.specs.Kept.{kept}
use Rattle.edr_wkt.specs.Grammar.{IsMark, IsRing}
use Rattle.edr_wkt.proofs.ListLemmas.{continues-none, continues-no_mark, mark-shorter}
use Rattle.edr_wkt.proofs.MemberLemmas.{unique_ring, shorter_ring}
use Rattle.edr_wkt.proofs.GatherLemmas.{passed_back, added-from, collects-next, collects-end, none-mark, other-mark, no_error}
use Rattle.edr_wkt.proofs.areas.read_rings.Goals as goal

pub returns-in_err-ring-clause-not_wkt : goal.returns-in_err-ring-clause-not_wkt
returns-in_err-ring-clause-not_wkt c =
    let i = c.rings.invariant.0 in
    λ e. continues-none (IsRing c.args.has_z c.args.has_m) c.args.text.now c.rings.rest.now i.items i.continues (c.in_err-ring.ensures.not_wkt (passed_back c.from_residual.result c.in_err-ring.field-0.0 _ c.from_residual.ensures e))

pub returns-in_default-clause-not_wkt : goal.returns-in_default-clause-not_wkt
returns-in_default-clause-not_wkt c =
    let i = c.rings.invariant.0 in
    let r = c.in_ok-ring.ensures.read in
    λ e. continues-no_mark (IsRing c.args.has_z c.args.has_m) c.args.text.now c.rings.rest.now _ i.items r.item (unique_ring _ _) i.continues r.is_item
    (none-mark _ 44 c.in_default.ensures refl) (none-mark _ 41 c.in_default.ensures refl)

pub returns-then-mark-eq41-clause-read : goal.returns-then-mark-eq41-clause-read
returns-then-mark-eq41-clause-read c =
    let added =
    added-from (IsRing c.args.has_z c.args.has_m) length (map kept) c.args.text.now c.args.count.now c.rings.count c.read_ring.new.count c.rings.rings.items c.keep.new.items.items
    c.rings.rest.now c.in_ok-ring.after.now c.in_ok-ring.ring c.rings.invariant.0 c.in_ok-ring.ensures.read c.in_ok-keep.ensures.kept in
    let P : ℕ → Type 0 = λ mark. IsMark mark c.in_ok-ring.after.now c.in-Some.next.now in
    rw c.of.ensures (collects-end _ _ _ _ _ _ _ _ _ _ added (subst P c.if-mark-eq41.true c.in-Some.ensures.1))

pub returns-then-mark-ne44-clause-not_wkt : goal.returns-then-mark-ne44-clause-not_wkt
returns-then-mark-ne44-clause-not_wkt c =
    let i = c.rings.invariant.0 in
    let r = c.in_ok-ring.ensures.read in
    let m = c.in-Some.ensures in
    λ e. continues-no_mark (IsRing c.args.has_z c.args.has_m) c.args.text.now c.rings.rest.now _ i.items r.item (unique_ring _ _) i.continues r.is_item
    (other-mark _ _ _ 44 m.0 m.1 c.if-mark-ne44.true refl) (other-mark _ _ _ 41 m.0 m.1 c.if-mark-eq41.false refl)

pub rings-smaller : goal.rings-smaller
rings-smaller c =
    let r = c.in_ok-ring.ensures.read in
    omega (arith, mark-shorter _ _ _ c.in-Some.ensures.1, (shorter_ring c.args.has_z c.args.has_m).le c.rings.rest.now r.item _ r.is_item)

pub rings-preserved : goal.rings-preserved
rings-preserved c =
    let added =
    added-from (IsRing c.args.has_z c.args.has_m) length (map kept) c.args.text.now c.args.count.now c.rings.count c.read_ring.new.count c.rings.rings.items c.keep.new.items.items
    c.rings.rest.now c.in_ok-ring.after.now c.in_ok-ring.ring c.rings.invariant.0 c.in_ok-ring.ensures.read c.in_ok-keep.ensures.kept in
    let P : ℕ → Type 0 = λ mark. IsMark mark c.in_ok-ring.after.now c.in-Some.next.now in
    (collects-next _ _ _ _ _ _ _ _ _ _ (unique_ring _ _) added (subst P c.if-mark-ne44.false c.in-Some.ensures.1), omega (arith, c.in_ok-ring.ensures.read.after_is))

pub returns-then-mark-eq41-clause-not_wkt : goal.returns-then-mark-eq41-clause-not_wkt
returns-then-mark-eq41-clause-not_wkt c = λ e. absurd (no_error _ _ e)
