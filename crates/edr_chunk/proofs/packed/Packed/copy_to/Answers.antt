use Rattle.std.proofs.Common.{ℕ, ◌≤◌, ◌+◌, length, sym, ap, subst, ◌∙◌}
use Rattle.edr_chunk.specs.Codes.{code_sample, triple_sample, whole_sample}
use Rattle.edr_chunk.specs.KeptCodes.{samples}
use Rattle.edr_chunk.proofs.SampleLists.{floor_back, codes_long}
use Rattle.edr_chunk.proofs.packed.Packed.copy_to.Goals as goal

pub samples_to-requires : goal.samples_to-requires
samples_to-requires c =
    let floor = c.self.inside.floor in
    let is = ap (samples floor) (sym c.in-Bytes.is) ∙ c.self.view_is in
    record {
      floor = floor_back floor c.self.invariant;
      inside = subst (λ (n : ℕ). c.args.place + length c.args.into.now ≤ n) (codes_long (code_sample floor) c.deref.result.now c.in-Bytes.codes.items c.args.self.now c.deref.ensures.value is) c.requires;
    }

pub samples_to-requires-in-Pairs : goal.samples_to-requires-in-Pairs
samples_to-requires-in-Pairs c =
    let floor = c.self.inside.floor in
    let is = ap (samples floor) (sym c.in-Pairs.is) ∙ c.self.view_is in
    record {
      floor = floor_back floor c.self.invariant;
      inside = subst (λ (n : ℕ). c.args.place + length c.args.into.now ≤ n) (codes_long (code_sample floor) c.deref-in-Pairs.result.now c.in-Pairs.codes.items c.args.self.now c.deref-in-Pairs.ensures.value is) c.requires;
    }

pub samples_to-requires-in-Triples : goal.samples_to-requires-in-Triples
samples_to-requires-in-Triples c =
    let floor = c.self.inside.floor in
    let is = ap (samples floor) (sym c.in-Triples.is) ∙ c.self.view_is in
    record {
      floor = floor_back floor c.self.invariant;
      inside = subst (λ (n : ℕ). c.args.place + length c.args.into.now ≤ n) (codes_long (triple_sample floor) c.deref-in-Triples.result.now c.in-Triples.codes.items c.args.self.now c.deref-in-Triples.ensures.value is) c.requires;
    }

pub samples_to-requires-in-Words : goal.samples_to-requires-in-Words
samples_to-requires-in-Words c =
    let floor = c.self.inside.floor in
    let is = ap (samples floor) (sym c.in-Words.is) ∙ c.self.view_is in
    record {
      floor = floor_back floor c.self.invariant;
      inside = subst (λ (n : ℕ). c.args.place + length c.args.into.now ≤ n) (codes_long (code_sample floor) c.deref-in-Words.result.now c.in-Words.codes.items c.args.self.now c.deref-in-Words.ensures.value is) c.requires;
    }

pub samples_to-requires-in-Whole : goal.samples_to-requires-in-Whole
samples_to-requires-in-Whole c =
    let floor = c.self.inside.floor in
    let is = ap (samples floor) (sym c.in-Whole.is) ∙ c.self.view_is in
    record {
      floor = floor_back floor c.self.invariant;
      inside = subst (λ (n : ℕ). c.args.place + length c.args.into.now ≤ n) (codes_long (whole_sample floor) c.deref-in-Whole.result.now c.in-Whole.numbers.items c.args.self.now c.deref-in-Whole.ensures.value is) c.requires;
    }
