use Rattle.std.proofs.Common.{◌≡◌, ◌<◌, ◌∙◌, List, ℕ, length, ap, ap₂, sym, subst, All, rules}
use Rattle.std.specs.Prelude.{nat_lt}
use Rattle.covjson_value.specs.declared.coverages.Parameter.{Parameter}
use Rattle.covjson_value.specs.declared.coverages.Referencing.{Referencing}
use Rattle.edr_chunk.specs.Grids as chunk
use Rattle.edr_select.specs.Limits.{value_limit}
use Rattle.edr_select.specs.Planned.{head_of, parameters_at}
use Rattle.edr_select.specs.AreaPlans.{domain_over, framed_count}
use Rattle.edr_select.proofs.FramePlans.{too_large, frame_inside, has_nodes, parameters_inside, framing_valid, framing_in}
use Rattle.edr_select.proofs.area_plans.framing_of.Goals as goal

pub returns-then-is_too_large-clause-refused : goal.returns-then-is_too_large-clause-refused
returns-then-is_too_large-clause-refused c =
    too_large c.args.collection.now c.args.query.now c.args.instance.now c.requires.asked c.requires.area c.in_ok-parameters.parameters.items c.in_ok-parameters.frame
    c.in_ok-parameters.ensures.taken
    (ap (λ (ps : List ℕ). nat_lt value_limit (framed_count ps c.in_ok-parameters.frame)) (sym c.deref.ensures.value) ∙ (sym c.is_too_large.ensures ∙ c.if-is_too_large.true))

pub domain_of-requires-clause-frame : goal.domain_of-requires-clause-frame
domain_of-requires-clause-frame c =
    frame_inside c.args.collection.now c.args.query.now c.args.instance.now c.requires.asked c.requires.area c.in_ok-parameters.parameters.items c.in_ok-parameters.frame
    c.in_ok-parameters.ensures.taken

pub domain_of-requires-clause-nodes : goal.domain_of-requires-clause-nodes
domain_of-requires-clause-nodes c =
    has_nodes c.args.collection.now c.args.query.now c.args.instance.now c.requires.asked c.requires.area c.in_ok-parameters.parameters.items c.in_ok-parameters.frame
    c.in_ok-parameters.ensures.taken

pub head_of-requires : goal.head_of-requires
head_of-requires c =
    subst (λ (ps : List Parameter). All (λ p. p < length ps) c.deref-2.result.now) (sym c.parameters.ensures.parameters)
    (subst (All (λ p. p < length c.args.instance.now.parameters)) (sym c.deref-2.ensures.value)
    (parameters_inside c.args.collection.now c.args.query.now c.args.instance.now c.requires.asked c.requires.area c.in_ok-parameters.parameters.items c.in_ok-parameters.frame
    c.in_ok-parameters.ensures.taken))

pub invariant_of-result : goal.invariant_of-result
invariant_of-result c =
    let shape : c.shape.result ≡ c.args.instance.now.grid.shape = c.shape.ensures.same ∙ ap (λ (grid : chunk.Values). grid.shape) c.grid.ensures in
    let places : c.of.result ≡ c.in_ok-parameters.parameters.items = search rules in
    let head : c.in_ok-head.head
    ≡ head_of c.args.collection.now.referencing (parameters_at c.args.instance.now.parameters c.in_ok-parameters.parameters.items) (domain_over c.args.instance.now c.in_ok-parameters.frame) =
    c.in_ok-head.ensures
    ∙ (ap (λ (r : Referencing). head_of r (parameters_at c.parameters.result.now c.deref-2.result.now) c.in_ok-domain.domain) c.referencing-referencing.ensures.referencing
    ∙ (ap₂ (λ (ps : List Parameter) (places : List ℕ). head_of c.args.collection.now.referencing (parameters_at ps places) c.in_ok-domain.domain) c.parameters.ensures.parameters c.deref-2.ensures.value
    ∙ ap (head_of c.args.collection.now.referencing (parameters_at c.args.instance.now.parameters c.in_ok-parameters.parameters.items)) c.in_ok-domain.ensures)) in (
      framing_valid c.args.collection.now c.args.query.now c.args.instance.now c.requires.asked c.requires.area c.in_ok-parameters.parameters.items c.in_ok-parameters.frame
          c.in_ok-parameters.ensures.taken c.shape.result c.of.result c.in_ok-head.head shape places head,
      c.shape.ensures.fits,
    )

pub returns-clause-framing : goal.returns-clause-framing
returns-clause-framing c =
    let shape : c.shape.result ≡ c.args.instance.now.grid.shape = c.shape.ensures.same ∙ ap (λ (grid : chunk.Values). grid.shape) c.grid.ensures in
    let places : c.of.result ≡ c.in_ok-parameters.parameters.items = search rules in
    let head : c.in_ok-head.head
    ≡ head_of c.args.collection.now.referencing (parameters_at c.args.instance.now.parameters c.in_ok-parameters.parameters.items) (domain_over c.args.instance.now c.in_ok-parameters.frame) =
    c.in_ok-head.ensures
    ∙ (ap (λ (r : Referencing). head_of r (parameters_at c.parameters.result.now c.deref-2.result.now) c.in_ok-domain.domain) c.referencing-referencing.ensures.referencing
    ∙ (ap₂ (λ (ps : List Parameter) (places : List ℕ). head_of c.args.collection.now.referencing (parameters_at ps places) c.in_ok-domain.domain) c.parameters.ensures.parameters c.deref-2.ensures.value
    ∙ ap (head_of c.args.collection.now.referencing (parameters_at c.args.instance.now.parameters c.in_ok-parameters.parameters.items)) c.in_ok-domain.ensures)) in
    framing_in c.args.collection.now c.args.query.now c.args.instance.now c.requires.asked c.requires.area c.in_ok-parameters.parameters.items c.in_ok-parameters.frame
    c.in_ok-parameters.ensures.taken c.shape.result c.of.result c.in_ok-head.head shape places head
    (ap (λ (ps : List ℕ). nat_lt value_limit (framed_count ps c.in_ok-parameters.frame)) (sym c.deref.ensures.value) ∙ (sym c.is_too_large.ensures ∙ c.if-is_too_large.false))
