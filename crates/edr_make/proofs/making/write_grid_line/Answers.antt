use Rattle.std.proofs.Common.{codes}
use Rattle.edr_make.specs.Made.{grid_text, grid_line}
use Rattle.edr_make.proofs.MadeTexts.{stopped_first, stopped, wrote_third}
use Rattle.edr_make.proofs.making.write_grid_line.Goals as goal

pub returns-in_err-send-clause-text : goal.returns-in_err-send-clause-text
unfolding grid_line
returns-in_err-send-clause-text g c =
    stopped_first c.from_residual.result _ _ (codes "{\"grid\":{\"collection\":\"grid\",\"coverage\":") (grid_text c.args.number c.args.rows c.args.columns) (codes ",\"instance\":\"1\"}}\n")
    c.from_residual.ensures.0 c.send.ensures.bytes.front

pub returns-in_err-write_grid-clause-text : goal.returns-in_err-write_grid-clause-text
unfolding grid_line
returns-in_err-write_grid-clause-text g c =
    stopped c.from_residual-in_err-write_grid.result _ _ _ (codes "{\"grid\":{\"collection\":\"grid\",\"coverage\":") (grid_text c.args.number c.args.rows c.args.columns) (codes ",\"instance\":\"1\"}}\n")
    c.from_residual-in_err-write_grid.ensures.0 c.in_ok-send.ensures.bytes.whole c.write_grid.ensures.text.front

pub returns-clause-text : goal.returns-clause-text
unfolding grid_line
returns-clause-text g c =
    wrote_third c.send-2.result _ _ _ _ (codes "{\"grid\":{\"collection\":\"grid\",\"coverage\":") (grid_text c.args.number c.args.rows c.args.columns) (codes ",\"instance\":\"1\"}}\n")
    c.in_ok-send.ensures.bytes.whole c.in_ok-write_grid.ensures.text.whole c.send-2.ensures.bytes
