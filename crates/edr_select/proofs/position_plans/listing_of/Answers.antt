use Rattle.std.proofs.Common.{◌≡◌, ◌∙◌, ap, sym, rules}
use Rattle.covjson_value.specs.declared.coverages.Referencing.{Referencing}
use Rattle.edr_chunk.specs.Grids as chunk
use Rattle.edr_select.specs.Steps.{planned_in}
use Rattle.edr_select.proofs.PlanForms.{small}
use Rattle.edr_select.proofs.PlanChoices.{choice_alone, choice_inside, choice_axes, too_large, listing_valid, plan_made}
use Rattle.edr_select.proofs.position_plans.listing_of.Goals as goal

pub form_of-form-requires : goal.form_of-form-requires
form_of-form-requires c =
    choice_alone c.args.collection.now c.args.query.now c.args.instance.now c.requires.asked c.in_ok-choice.choice c.in_ok-choice.ensures.choice c.args.geometry.now c.requires.shape

pub returns-then-is_too_large-clause-refused : goal.returns-then-is_too_large-clause-refused
returns-then-is_too_large-clause-refused c =
    too_large c.args.collection.now c.args.query.now c.args.instance.now c.requires.asked c.in_ok-choice.choice c.in_ok-choice.ensures.choice c.args.geometry.now c.requires.shape
    c.form_of-form.result c.form_of-form.ensures (sym c.is_too_large.ensures ∙ c.if-is_too_large.true)

pub coverages_of-requires-clause-inside : goal.coverages_of-requires-clause-inside
coverages_of-requires-clause-inside c =
    choice_inside c.args.collection.now c.args.query.now c.args.instance.now c.requires.asked c.in_ok-choice.choice c.in_ok-choice.ensures.choice

pub coverages_of-requires-clause-small : goal.coverages_of-requires-clause-small
coverages_of-requires-clause-small c = small c.args.instance.now c.requires.asked.grid

pub coverages_of-requires-clause-axes : goal.coverages_of-requires-clause-axes
coverages_of-requires-clause-axes c =
    choice_axes c.args.collection.now c.args.query.now c.args.instance.now c.requires.asked c.in_ok-choice.choice c.in_ok-choice.ensures.choice

pub invariant_of-result : goal.invariant_of-result
invariant_of-result c =
    let shape : c.shape.result ≡ c.args.instance.now.grid.shape = c.shape.ensures.same ∙ ap (λ (grid : chunk.Values). grid.shape) c.grid.ensures in
    let parameters : c.of.result ≡ c.in_ok-choice.choice.parameters = search rules in
    let coverages : c.of-2.result ≡ planned_in c.args.collection.now.referencing c.args.instance.now c.in_ok-choice.choice c.form_of-form.result =
    c.of-2.ensures
    ∙ (c.in_ok-coverages.ensures
    ∙ ap (λ (r : Referencing). planned_in r c.args.instance.now c.in_ok-choice.choice c.form_of-form.result) c.referencing-referencing.ensures.referencing) in (
      listing_valid c.args.collection.now c.args.query.now c.args.instance.now c.requires.asked c.in_ok-choice.choice c.in_ok-choice.ensures.choice c.args.geometry.now c.requires.shape
          c.form_of-form.result c.form_of-form.ensures
          (record { shape = c.shape.result; parameters = c.of.result; many = c.is_many.result; coverages = c.of-2.result })
          shape parameters c.is_many.ensures coverages,
      c.shape.ensures.fits,
    )

pub returns-clause-planned : goal.returns-clause-planned
returns-clause-planned c =
    let shape : c.shape.result ≡ c.args.instance.now.grid.shape = c.shape.ensures.same ∙ ap (λ (grid : chunk.Values). grid.shape) c.grid.ensures in
    let parameters : c.of.result ≡ c.in_ok-choice.choice.parameters = search rules in
    let coverages : c.of-2.result ≡ planned_in c.args.collection.now.referencing c.args.instance.now c.in_ok-choice.choice c.form_of-form.result =
    c.of-2.ensures
    ∙ (c.in_ok-coverages.ensures
    ∙ ap (λ (r : Referencing). planned_in r c.args.instance.now c.in_ok-choice.choice c.form_of-form.result) c.referencing-referencing.ensures.referencing) in
    plan_made c.args.collection.now c.args.query.now c.args.instance.now c.requires.asked c.in_ok-choice.choice c.in_ok-choice.ensures.choice c.args.geometry.now c.requires.shape
    c.form_of-form.result c.form_of-form.ensures (sym c.is_too_large.ensures ∙ c.if-is_too_large.false)
    (record { shape = c.shape.result; parameters = c.of.result; many = c.is_many.result; coverages = c.of-2.result })
    shape parameters c.is_many.ensures coverages
