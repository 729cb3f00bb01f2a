use Rattle.std.proofs.Common.{rules, ap, sym, ◌∙◌, ◌≡◌, subst}
use Rattle.edr_query.specs.Queries.{with_name, with_names, AreNames}
use Rattle.edr_query.proofs.NameLemmas.{pieces, AreKept, kept_more, kept_names, front_utf8, back_utf8, names_cut, names_end}
use Rattle.edr_query.proofs.filters.names_of.Goals as goal

pub loop-front-preserved : goal.loop-front-preserved
loop-front-preserved c =
    let rest = c.loop-front.rest.now in let front = c.in-Some.front.now in let back = c.in-Some.back.now in
    let names = c.loop-front.names.items in let inv = c.loop-front.invariant in let cut = c.in-Some.ensures in
    let e : c.add_name.new.names.items ≡ with_name names front = search rules in
    record {
      left = ap (λ l. with_names l (pieces back)) e ∙ sym (names_cut names rest front back cut) ∙ inv.left;
      kept = subst AreKept (sym e) (kept_more names front inv.kept (front_utf8 rest front back cut inv.utf8) cut.first);
      seen = search rules;
      utf8 = back_utf8 rest front back cut inv.utf8;
    }

pub returns : goal.returns
returns c =
    let rest = c.loop-front.rest.now in let names = c.loop-front.names.items in let inv = c.loop-front.invariant in
    let none = c.in_default.ensures in
    let e : c.of.result ≡ with_name names rest = search rules in
    (e ∙ sym (names_end names rest none) ∙ inv.left, subst AreNames (sym e) (kept_names names rest inv.kept inv.utf8 none))
