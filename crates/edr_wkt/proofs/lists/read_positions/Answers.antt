use Rattle.std.proofs.Common.{arith, refl, subst, ℕ}
use Rattle.edr_wkt.specs.Grammar.{IsMember, IsMark}
use Rattle.edr_wkt.proofs.ListLemmas.{continues-no_mark, mark-shorter}
use Rattle.edr_wkt.proofs.MemberLemmas.{unique_member, shorter_member}
use Rattle.edr_wkt.proofs.GatherLemmas.{grown-from, gathers-next, gathers-end, none-mark, other-mark, no_error}
use Rattle.edr_wkt.proofs.lists.read_positions.Goals as goal

pub returns-in_default-read_mark-clause-not_wkt : goal.returns-in_default-read_mark-clause-not_wkt
returns-in_default-read_mark-clause-not_wkt c =
    let i = c.members.invariant in
    λ e. continues-no_mark (IsMember c.args.multi c.args.has_z c.args.has_m) c.args.text.now c.members.rest.now _ i.positions _ (unique_member _ _ _) i.continues c.in-Some.ensures.1
    (none-mark _ 44 c.in_default-read_mark.ensures refl) (none-mark _ 41 c.in_default-read_mark.ensures refl)

pub returns-then-mark-eq41-clause-read : goal.returns-then-mark-eq41-clause-read
returns-then-mark-eq41-clause-read c =
    let g = grown-from c.args.multi c.args.has_z c.args.has_m c.args.text.now c.args.count.now c.members.count c.min.result c.members.positions.items c.keep.new.items.items c.members.len c.min-len.result
    c.members.rest.now c.in-Some.after.now c.in-Some.ensures.0 c.in-Some.position c.members.invariant c.in-Some.ensures.1 c.in-Some.ensures.2 (omega (arith, c.min.ensures, c.saturating_add.ensures, c.members.invariant.after_is)) (omega (arith, c.min-len.ensures, c.saturating_add-in-members.ensures, c.members.invariant.len_is)) c.in_ok-keep.ensures.kept in
    let P : ℕ → Type 0 = λ mark. IsMark mark c.in-Some.after.now c.in-Some-read_mark.next.now in
    rw c.of.ensures (gathers-end _ _ _ _ _ _ _ _ _ _ _ g (subst P c.if-mark-eq41.true c.in-Some-read_mark.ensures.1))

pub returns-then-mark-ne44-clause-not_wkt : goal.returns-then-mark-ne44-clause-not_wkt
returns-then-mark-ne44-clause-not_wkt c =
    let i = c.members.invariant in
    let m = c.in-Some-read_mark.ensures in
    λ e. continues-no_mark (IsMember c.args.multi c.args.has_z c.args.has_m) c.args.text.now c.members.rest.now _ i.positions _ (unique_member _ _ _) i.continues c.in-Some.ensures.1
    (other-mark _ _ _ 44 m.0 m.1 c.if-mark-ne44.true refl) (other-mark _ _ _ 41 m.0 m.1 c.if-mark-eq41.false refl)

pub members-smaller : goal.members-smaller
members-smaller c =
    omega (arith, mark-shorter _ _ _ c.in-Some-read_mark.ensures.1, (shorter_member c.args.multi c.args.has_z c.args.has_m).le c.members.rest.now c.in-Some.ensures.0 c.in-Some.after.now c.in-Some.ensures.1)

pub members-preserved : goal.members-preserved
members-preserved c =
    let g = grown-from c.args.multi c.args.has_z c.args.has_m c.args.text.now c.args.count.now c.members.count c.min.result c.members.positions.items c.keep.new.items.items c.members.len c.min-len.result
    c.members.rest.now c.in-Some.after.now c.in-Some.ensures.0 c.in-Some.position c.members.invariant c.in-Some.ensures.1 c.in-Some.ensures.2 (omega (arith, c.min.ensures, c.saturating_add.ensures, c.members.invariant.after_is)) (omega (arith, c.min-len.ensures, c.saturating_add-in-members.ensures, c.members.invariant.len_is)) c.in_ok-keep.ensures.kept in
    let P : ℕ → Type 0 = λ mark. IsMark mark c.in-Some.after.now c.in-Some-read_mark.next.now in
    gathers-next _ _ _ _ _ _ _ _ _ _ _ g (subst P c.if-mark-ne44.false c.in-Some-read_mark.ensures.1)

pub returns-then-mark-eq41-clause-not_wkt : goal.returns-then-mark-eq41-clause-not_wkt
returns-then-mark-eq41-clause-not_wkt c = λ e. absurd (no_error _ _ e)
