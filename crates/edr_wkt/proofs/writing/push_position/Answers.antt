use Rattle.std.proofs.Common.{◌≡◌, ◌++◌, true, ℤ, FitsSigned, w64, rules}
use Rattle.std.proofs.lemmas.Result.{on_ok_weaker}
use Rattle.std.specs.Fmt.{signed_decimal}
use Rattle.edr_wkt.specs.Spelling.{number_text}
use Rattle.edr_wkt.proofs.CheckLemmas.{passed}
use Rattle.edr_wkt.proofs.SpellLemmas.{four-parts}
use Rattle.edr_wkt.proofs.writing.push_position.Goals as goal

pub returns : goal.returns
returns c =
    let p = c.args.p.now in
    let fx : FitsSigned w64 p.x = search rules in
    let fy : FitsSigned w64 p.y = search rules in
    let fz : FitsSigned w64 p.z = search rules in
    let fm : FitsSigned w64 p.m = search rules in
    let X : ℤ → Type 0 = λ n. c.push_number.new.out.items ≡ c.args.out.now.items ++ signed_decimal n in
    let Y : ℤ → Type 0 = λ n. c.push_number_if.new.out.items ≡ c.push_number.new.out.items ++ number_text true n in
    let Z : ℤ → Type 0 = λ n. c.push_number_if-2.new.out.items ≡ c.push_number_if.new.out.items ++ number_text c.args.has_z n in
    let M : ℤ → Type 0 = λ n. c.push_number_if-3.new.out.items ≡ c.push_number_if-2.new.out.items ++ number_text c.args.has_m n in
    on_ok_weaker c.push_number_if-3.result
    (λ last. four-parts _ _ _ _ _ _ _ _ _ (passed X p.x fx c.in_ok-push_number.ensures) (passed Y p.y fy c.in_ok-push_number_if.ensures) (passed Z p.z fz c.in_ok-push_number_if-2.ensures) (passed M p.m fm last))
    c.push_number_if-3.ensures
