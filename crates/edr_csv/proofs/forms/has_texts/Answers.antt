use Rattle.std.proofs.Common.{rules, [], get_or, IsUtf8, arith, refl}
use Rattle.csv.specs.Records.{fields_of}
use Rattle.edr_csv.proofs.FormLemmas.{texts_all, texts_on}
use Rattle.edr_csv.proofs.forms.has_texts.Goals as goal

pub loop-place-preserved : goal.loop-place-preserved
loop-place-preserved c =
    let here : IsUtf8 (get_or (fields_of c.args.record.now) c.loop-place.place []) = search rules in
    texts_on (fields_of c.args.record.now) c.loop-place.place c.loop-place.invariant here

pub returns : goal.returns
returns c = (λ is. texts_all (fields_of c.args.record.now) 7 c.requires (λ k before. c.loop-place.invariant k (omega arith)), λ all. refl)
