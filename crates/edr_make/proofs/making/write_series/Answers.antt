use Rattle.std.proofs.Common.{◌≡◌, ℕ, ℤ, List, [], ◌∷◌, Option, codes, length, sym, subst, ap, ◌∙◌}
use Rattle.edr_base.specs.Calls.{Writes}
use Rattle.covjson_value.specs.declared.coverages.Coverage.{Coverage}
use Rattle.covjson_value.specs.Domains.{count_of}
use Rattle.covjson_write.specs.Writers.{IsHead}
use Rattle.edr_make.specs.Made.{series_values, series_domain}
use Rattle.edr_make.specs.MadeParts.{around}
use Rattle.edr_make.proofs.MadeHeads.{head_over, series_count, series_long, series_is_valid}
use Rattle.edr_make.proofs.MadeTexts.{series_parts}
use Rattle.edr_make.proofs.making.write_series.Goals as goal

pub write_coverage-requires : goal.write_coverage-requires
write_coverage-requires g c =
    let domain = series_domain c.args.times c.args.station in
    let values : List (Option ℤ) = series_values c.args.number c.args.times c.args.station in
    let are : c.deref.result.now ≡ values =
    ◌∙◌ {c = series_values c.args.number c.args.times c.args.station} c.deref.ensures.value c.in_ok-values.ensures in
    let long : length c.deref.result.now ≡ c.args.times = ap length are ∙ series_long c.args.number c.args.times c.args.station in
    let count : count_of c.in_ok-head.head.domain ≡ c.args.times = ap (λ (h : Coverage). count_of h.domain) c.in_ok-head.ensures ∙ series_count c.args.times c.args.station in
    record {
      head = subst IsHead (sym c.in_ok-head.ensures)
          (head_over domain (codes "level") (codes "m") (record { values = values } ∷ [])
          (series_is_valid c.args.number c.args.times c.args.station c.requires.times.0 c.requires.times.1 c.requires.station));
      one = ap (λ (h : Coverage). length h.parameters) c.in_ok-head.ensures;
      count = long ∙ sym count;
    }

pub returns-clause-text : goal.returns-clause-text
returns-clause-text g c =
    let before = g.K.Sink.written c.args.sink.now in
    let after = g.K.Sink.written c.write_coverage.new.sink in
    let are : c.deref.result.now ≡ series_values c.args.number c.args.times c.args.station =
    ◌∙◌ {c = series_values c.args.number c.args.times c.args.station} c.deref.ensures.value c.in_ok-values.ensures in
    subst (λ (l : List ℕ). Writes c.write_coverage.result l before after)
    (series_parts c.in_ok-head.head c.args.number c.args.times c.args.station c.requires.times.0 c.requires.times.1 c.requires.station c.in_ok-head.ensures)
    (subst (λ (values : List (Option ℤ)). Writes c.write_coverage.result (around c.in_ok-head.head values) before after) are c.write_coverage.ensures.text)
