use Rattle.std.proofs.Common.{rules, FitsSigned, w64}
use Rattle.std.proofs.lemmas.Int.{to_z-of_z}
use Rattle.edr_wkt.proofs.PositionLemmas.{no_x, no_y, no_z, no_m, position-from}
use Rattle.edr_wkt.proofs.positions.read_position.Goals as goal

pub returns-in_default : goal.returns-in_default
returns-in_default c = no_x c.args.has_z c.args.has_m c.args.text.now c.in_default.ensures

pub returns-in_default-read_number : goal.returns-in_default-read_number
returns-in_default-read_number c = no_y c.args.has_z c.args.has_m c.args.text.now _ _ c.in-Some.ensures.1 c.in_default-read_number.ensures

pub returns-in_default-read_number_if : goal.returns-in_default-read_number_if
returns-in_default-read_number_if c = no_z c.args.has_z c.args.has_m c.args.text.now _ _ _ _ c.in-Some.ensures.1 c.in-Some-read_number.ensures.1 c.in_default-read_number_if.ensures

pub returns-in_default-read_number_if-2 : goal.returns-in_default-read_number_if-2
returns-in_default-read_number_if-2 c =
    no_m c.args.has_z c.args.has_m c.args.text.now _ _ _ _ _ _ c.in-Some.ensures.1 c.in-Some-read_number.ensures.1 c.in-Some-read_number_if.ensures.1 c.in_default-read_number_if-2.ensures

pub returns : goal.returns
returns c =
    let fx : FitsSigned w64 c.in-Some.x = search rules in
    let fy : FitsSigned w64 c.in-Some-read_number.y = search rules in
    let fz : FitsSigned w64 c.in-Some-read_number_if.z = search rules in
    let fm : FitsSigned w64 c.in-Some-read_number_if-2.m = search rules in
    simp to_z-of_z (position-from c.args.has_z c.args.has_m c.args.text.now _ _ _ _ _ _ _ _ c.in-Some.ensures c.in-Some-read_number.ensures c.in-Some-read_number_if.ensures c.in-Some-read_number_if-2.ensures)
