use Rattle.std.proofs.Common.{◌≡◌, ℕ, length, OnOk, subst, ap, ◌∙◌, arith}
use Rattle.covjson_write.specs.Writers.{with_values}
use Rattle.edr_make.proofs.MadeHeads.{row_long}
use Rattle.edr_make.proofs.made_values.write_row.Goals as goal

pub values-requires-clause-room : goal.values-requires-clause-room
values-requires-clause-room g c =
    let long : length c.deref.result.now ≡ c.args.columns = ap length (c.deref.ensures.value ∙ c.in_ok-fill_row.ensures) ∙ row_long c.args.number c.args.columns c.args.row in
    omega (arith, long, c.requires.room)

pub returns-clause-writer : goal.returns-clause-writer
returns-clause-writer g c =
    let long : length c.deref.result.now ≡ c.args.columns = ap length (c.deref.ensures.value ∙ c.in_ok-fill_row.ensures) ∙ row_long c.args.number c.args.columns c.args.row in
    subst (λ (n : ℕ). OnOk c.values.result (c.values.new.self ≡ with_values c.args.writer.now n)) long c.values.ensures.writer
