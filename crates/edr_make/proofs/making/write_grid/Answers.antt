use Rattle.std.proofs.Common.{ℕ, List, [], ◌∷◌, codes, length, sym, subst, ap, ◌∙◌}
use Rattle.edr_base.specs.Calls.{Writes}
use Rattle.covjson_value.specs.declared.coverages.Coverage.{Coverage}
use Rattle.covjson_value.specs.Domains.{count_of}
use Rattle.covjson_write.specs.Writers.{IsHead}
use Rattle.edr_make.specs.Made.{grid_values, grid_domain}
use Rattle.edr_make.proofs.MadeHeads.{head_over, grid_count, grid_is_valid}
use Rattle.edr_make.proofs.MadeTexts.{grid_parts}
use Rattle.edr_make.proofs.making.write_grid.Goals as goal

pub write_grid_coverage-requires : goal.write_grid_coverage-requires
write_grid_coverage-requires g c = record {
  head = subst IsHead (sym c.in_ok-head.ensures)
      (head_over (grid_domain c.args.rows c.args.columns) (codes "temp") (codes "Cel") (record { values = grid_values c.args.number c.args.rows c.args.columns } ∷ [])
      (grid_is_valid c.args.number c.args.rows c.args.columns c.requires.rows.0 c.requires.rows.1 c.requires.columns.0 c.requires.columns.1));
  one = ap (λ (h : Coverage). length h.parameters) c.in_ok-head.ensures;
  count = sym (ap (λ (h : Coverage). count_of h.domain) c.in_ok-head.ensures ∙ grid_count c.args.rows c.args.columns);
}

pub returns-clause-text : goal.returns-clause-text
returns-clause-text g c =
    subst (λ (l : List ℕ). Writes c.write_grid_coverage.result l (g.K.Sink.written c.args.sink.now) (g.K.Sink.written c.write_grid_coverage.new.sink))
    (grid_parts c.in_ok-head.head c.args.number c.args.rows c.args.columns c.requires.rows.0 c.requires.rows.1 c.requires.columns.0 c.requires.columns.1 c.in_ok-head.ensures)
    c.write_grid_coverage.ensures.text
