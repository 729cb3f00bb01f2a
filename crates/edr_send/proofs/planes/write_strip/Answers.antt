use Rattle.std.proofs.Common.{rules, ◌-◌, ℕ, List, refl}
use Rattle.edr_base.specs.KnownBytes.{front_none}
use Rattle.edr_select.specs.Framings.{strip_cells}
use Rattle.edr_send.proofs.TextSteps.{writes_fault}
use Rattle.edr_send.proofs.FrameSteps.{text_from}
use Rattle.edr_send.proofs.planes.write_strip.Goals as goal

pub returns-in_err-fill_strip-clause-bytes : goal.returns-in_err-fill_strip-clause-bytes
returns-in_err-fill_strip-clause-bytes g c =
    let written = g.K.Sink.written in
    let text : List ℕ = text_from c.args.writer.now.values c.args.store.now.subject c.args.strip.layer.parameter (strip_cells c.args.frame.now c.args.strip.layer.t c.args.strip.layer.z c.args.strip.from (c.args.strip.to - c.args.strip.from)) in
    writes_fault c.from_residual.result text (written c.args.sink.now) (written c.args.sink.now) (search rules) (front_none (written c.args.sink.now) (written c.args.sink.now) text refl)
