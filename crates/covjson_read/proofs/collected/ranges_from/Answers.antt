use Rattle.std.proofs.Common.{rules, arith, ◌≡◌, [], ◌∷◌, ◌++◌, Ok, length, string_bytes, refl, ap}
use Rattle.std.proofs.lemmas.List.{length_push}
use Rattle.std.proofs.lemmas.List.Elements.{All-nil}
use Rattle.serde_json.specs.Find.{get}
use Rattle.edr_samples.specs.Trees.{tree_view}
use Rattle.covjson_value.specs.Coverages.{IsParameter, IsRange}
use Rattle.covjson_checks.specs.declared.faults.Member.TheVariants.{Parameters}
use Rattle.covjson_checks.specs.Members.{need}
use Rattle.edr_json.specs.AnswerLaws.{All-push, and_then_given, or_fault_ok}
use Rattle.covjson_read.specs.ParameterAnswers.{parameter_of}
use Rattle.covjson_read.proofs.ParameterNames.{named_found}
use Rattle.covjson_read.proofs.RangesInTurn.{range_with, from_none, one_more, id_is, ids_more, ids_ascend}
use Rattle.covjson_read.proofs.collected.ranges_from.Goals as goal

pub loop-id-init : goal.loop-id-init
loop-id-init c =
    let read = c.args.read.now in
    let d = tree_view c.args.parameters.now in
    let none_kept = c.requires.none_kept in
    let none_found = c.requires.none_found in
    let all : c.into_iter-id-iterator.result ≡ c.args.members.now.entries = search rules in
    record {
      answer = rw all (from_none read d c.args.kept.now.items c.args.found.now.items c.args.members.now.entries none_kept none_found);
      ids = rw (all, none_kept) refl;
      parameters = rw none_kept (All-nil IsParameter);
      as_many = rw (none_found, none_kept) refl;
      ranges = rw none_found (All-nil (IsRange read.domain));
    }

pub loop-id-preserved : goal.loop-id-preserved
loop-id-preserved c =
    let i = c.loop-id.invariant in
    let p = c.in_ok-parameter.parameter in
    let a = c.in_ok-array.array in
    let k = c.in-Some.id.now in
    let v = c.in-Some.range.now in
    let read = c.args.read.now in
    let d = tree_view c.args.parameters.now in
    let t = tree_view c.in_ok-tree.tree.now in
    let id = string_bytes k in
    let pushed : c.push.new.self.items ≡ c.loop-id.kept.items ++ p ∷ [] = c.in_ok-push.ensures.items in
    let put : c.push-in-loop-id.new.self.items ≡ c.loop-id.found.items ++ a ∷ [] = c.in_ok-push-2.ensures.items in
    let there : need id Parameters d ≡ Ok t = rw c.deref.ensures at c.in_ok-tree.ensures in
    let kept : parameter_of id t ≡ Ok p = rw c.deref-in-loop-id.ensures at c.in_ok-parameter.ensures.answer in
    let both : range_with read d id (tree_view v) ≡ Ok (p, a) =
    and_then_given _ _ t _ there (and_then_given _ _ p _ kept (and_then_given _ _ a _ c.in_ok-array.ensures.answer refl)) in
    let named = named_found id d t c.requires.named (or_fault_ok (get id d) _ t there) in
    let valid : IsParameter p = (rw c.deref-in-loop-id.ensures at c.in_ok-parameter.ensures.valid) named in
    record {
      answer = one_more read d c.loop-id.kept.items c.push.new.self.items c.loop-id.found.items c.push-in-loop-id.new.self.items c.loop-id.id-iterator c.next.new.self
          k v p a _ c.in-Some.ensures.steps i.answer both pushed put;
      ids = ids_more c.loop-id.kept.items c.push.new.self.items p c.loop-id.id-iterator c.next.new.self k v _ c.in-Some.ensures.steps (id_is read d id (tree_view v) p a both) pushed i.ids;
      parameters = All-push IsParameter c.loop-id.kept.items c.push.new.self.items p pushed i.parameters valid;
      as_many = omega (arith, i.as_many, ap length pushed, ap length put, length_push c.loop-id.kept.items p, length_push c.loop-id.found.items a);
      ranges = All-push (IsRange read.domain) c.loop-id.found.items c.push-in-loop-id.new.self.items a put i.ranges c.in_ok-array.ensures.valid;
    }

pub returns-clause-valid : goal.returns-clause-valid
returns-clause-valid c =
    let i = c.loop-id.invariant in
    record {
      parameters = i.parameters;
      ascending = ids_ascend c.loop-id.kept.items c.loop-id.id-iterator c.args.members.now.entries c.in-None.ensures.steps.0 i.ids c.iter-id-items.ensures.ordered;
      as_many = i.as_many;
      ranges = i.ranges;
    }
