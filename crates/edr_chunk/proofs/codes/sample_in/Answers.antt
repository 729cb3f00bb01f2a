use Rattle.std.proofs.lemmas.List.{get_or-map}
use Rattle.std.proofs.lemmas.Int.{to_z-of_z}
use Rattle.std.proofs.Common.{None, ap, sym, ◌∙◌, w64}
use Rattle.edr_chunk.proofs.codes.sample_in.Goals as goal

pub returns : goal.returns
returns g c =
    let codes = c.args.codes.now in
    let item = c.index-codes-place.result in
    c.sample.ensures ∙ ap (λ floor. g.W.Width.sample floor item) (to_z-of_z w64 c.args.floor c.ranges.floor) ∙ ap (g.W.Width.sample c.args.floor) c.index-codes-place.is
    ∙ sym (get_or-map (g.W.Width.sample c.args.floor) codes c.args.place item None c.requires.place)
