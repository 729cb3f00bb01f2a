use Rattle.std.proofs.Common.{Bool, true, subst, sym, inl, inr, MatchOption}
use Rattle.edr_wkt.specs.Reads.{HasNoMember, BeginsWithMember, HasNoPosition, BeginsWithPosition, HasNoClosed, BeginsWithClosed}
use Rattle.edr_wkt.proofs.MemberLemmas.{member-open_none, member-bare_none, match-map}
use Rattle.edr_wkt.proofs.positions.read_member.Goals as goal

pub returns-in-Some : goal.returns-in-Some
returns-in-Some c =
    let z = c.args.has_z in
    let m = c.args.has_m in
    let text = c.args.text.now in
    let inside = c.in-Some.inside.now in
    let P : Bool → Type 0 = λ multi. MatchOption c.read_closed.result (HasNoMember multi z m text) (λ r. BeginsWithMember multi z m text r.0 r.1.now) in
    subst P (sym c.if-not-multi.false)
    (match-map c.read_closed.result (HasNoClosed z m inside) (HasNoMember true z m text) (λ r. BeginsWithClosed z m inside r.0 r.1.now) (λ r. BeginsWithMember true z m text r.0 r.1.now)
    (member-open_none z m text inside c.in-Some.ensures) (λ r h. (h.0, inr (inside, c.in-Some.ensures, h.1), h.2)) c.read_closed.ensures)

pub returns-in-None : goal.returns-in-None
returns-in-None c =
    let z = c.args.has_z in
    let m = c.args.has_m in
    let text = c.args.text.now in
    let P : Bool → Type 0 = λ multi. MatchOption c.read_position-in-None.result (HasNoMember multi z m text) (λ r. BeginsWithMember multi z m text r.0 r.1.now) in
    subst P (sym c.if-not-multi.false)
    (match-map c.read_position-in-None.result (HasNoPosition z m text) (HasNoMember true z m text) (λ r. BeginsWithPosition z m text r.0 r.1.now) (λ r. BeginsWithMember true z m text r.0 r.1.now)
    (member-bare_none z m text c.in-None.ensures) (λ r h. (h.0, inl h.1, h.2)) c.read_position-in-None.ensures)
