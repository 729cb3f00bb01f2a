-- Labels and units: what the answer tells of them, and the answer to those that stand for some.
use Rattle.std.proofs.Common.{◌≡◌, ℕ, List, true, ◌&&◌, is_some, Option, Some, None, Ok, inl, inr, refl, sym, ap, ◌∙◌, subst, codes}
use Rattle.serde_json.specs.Data.{Data, null, boolean, number, string, array, object, Members, no_members, member}
use Rattle.serde_json.specs.Find.{get, get_member, as_str, as_object}
use Rattle.covjson_checks.specs.declared.faults.Member.{Member}
use Rattle.covjson_checks.specs.declared.faults.Member.TheVariants.{Unit}
use Rattle.covjson_checks.specs.declared.faults.CovFault.TheVariants.{WrongType}
use Rattle.edr_base.specs.FirstThatApplies.{or_fault, check}
use Rattle.covjson_checks.specs.Members.{part, object_at, text_at}
use Rattle.covjson_read.specs.Parameters.{EachIsText, IsSaid, StandsForLabel, StandsForLabelText, StandsForSymbol, StandsForUnit}
use Rattle.covjson_read.specs.ParameterAnswers.{all_texts, said_in, label_at, unit_label, unit_by_symbol, unit_if, parameter_unit}
use Rattle.covjson_checks.specs.RowLaws.{FaultIs, ok_fault, option_fault, check_fault, then_fault, Finds}
use Rattle.edr_json.specs.AnswerLaws.{and_then_ok, or_fault_ok, check_ok}
use Rattle.covjson_checks.specs.CheckLaws.{object_ok, text_ok}
use Rattle.edr_json.specs.AnswerLaws.{and_then_given, or_fault_given, check_given}
use Rattle.covjson_read.proofs.RowAnswers.{same_ok}

-- ---- labels

-- one text more
each_text : (d : Data) (lang : List ℕ) (ms : Members) → (all_texts ms ≡ true → EachIsText ms)
    → is_some (as_str d) && all_texts ms ≡ true → EachIsText (member lang d ms)
each_text null lang ms rest h = cc
each_text (boolean b) lang ms rest h = cc
each_text (number n) lang ms rest h = cc
each_text (string s) lang ms rest h = ((s, refl), rest h)
each_text (array ds) lang ms rest h = cc
each_text (object ns) lang ms rest h = cc

-- where all pass the test, each member is a text
each_is_text : (ms : Members) → all_texts ms ≡ true → EachIsText ms
each_is_text no_members h = tt
each_is_text (member lang d ms) h = each_text d lang ms (each_is_text ms) h

-- and texts pass it
texts_pass : (ms : Members) → EachIsText ms → all_texts ms ≡ true
texts_pass no_members each = refl
texts_pass (member lang d ms) each = ap (λ x. is_some (as_str x) && all_texts ms) each.0.1 ∙ texts_pass ms each.1

-- what is said of a label is a language and a text
said_lang : (s p : List ℕ × Data) → Some s ≡ Some p → s.0 ≡ p.0
said_lang s p h = let same : s ≡ p = cc in ap (λ x. x.0) same

said_text : (s p : List ℕ × Data) → Some s ≡ Some p → s.1 ≡ p.1
said_text s p h = let same : s ≡ p = cc in ap (λ x. x.1) same

-- the one that is found is said
said_tells : (ms : Members) (o : Option Data) (lang text : List ℕ) → get_member (codes "en") ms ≡ o → said_in o ms ≡ Some (lang, string text) → IsSaid ms lang text
said_tells ms (Some d) lang text found h =
    inl (found ∙ ap Some (said_text (codes "en", d) (lang, string text) h), sym (said_lang (codes "en", d) (lang, string text) h))
said_tells no_members None lang text found h = cc
said_tells (member l d ms) None lang text found h =
    let same = said_lang (l, d) (lang, string text) h in
    let is = said_text (l, d) (lang, string text) h in
    inr (found, (ms, ap (λ k. member k d ms) same ∙ ap (λ e. member lang e ms) is))

-- and the one that is said is found
said_passes : (ms : Members) (lang text : List ℕ) → IsSaid ms lang text → said_in (get_member (codes "en") ms) ms ≡ Some (lang, string text)
said_passes ms lang text said = elim said [
  | inl w ↦ ap (λ o. said_in o ms) w.0 ∙ ap (λ k. Some (k, string text)) (sym w.1)
  | inr w ↦ ap (λ o. said_in o ms) w.0 ∙ ap (said_in None) w.1.1
]

-- the text that is said of a label
label_said : (l : Data) (ms : Members) (s : List ℕ × Data) (text : List ℕ) (p : List ℕ × List ℕ) → l ≡ object ms
    → said_in (get (codes "en") l) ms ≡ Some s → s.1 ≡ string text → (s.0, text) ≡ p → said_in (get_member (codes "en") ms) ms ≡ Some (p.0, string p.1)
label_said l ms s text p is_object chosen is_text same =
    ap (λ x. said_in (get (codes "en") x) ms) (sym is_object) ∙ chosen
    ∙ ap (λ y. Some (s.0, y)) is_text ∙ ap (λ (x : List ℕ × List ℕ). Some (x.0, string x.1)) same

-- the label that is answered stands there
label_stands : (m : Member) (d : Data) (p : List ℕ × List ℕ) → label_at m d ≡ Ok p → StandsForLabel d p.0 p.1
label_stands m d p h =
    let a = and_then_ok (part (codes "label") m d) _ p h in
    let b = and_then_ok (object_at m a.0) _ p a.2 in
    let k = and_then_ok (check (all_texts b.0) (WrongType m)) _ p b.2 in
    let chosen = said_in (get (codes "en") a.0) b.0 in
    let s = and_then_ok (or_fault chosen (WrongType m)) _ p k.2 in
    let t = and_then_ok (text_at m s.0.1) _ p s.2 in
    let is_object = object_ok _ a.0 b.0 b.1 in
    let is_text = text_ok _ s.0.1 t.0 t.1 in
    let same : (s.0.0, t.0) ≡ p = same_ok (s.0.0, t.0) p t.2 in
    let said = label_said a.0 b.0 s.0 t.0 p is_object (or_fault_ok chosen _ s.0 s.1) is_text same in
    record {
      members = b.0;
      label = or_fault_ok (get (codes "label") d) _ a.0 a.1 ∙ ap Some is_object;
      texts = each_is_text b.0 (check_ok (all_texts b.0) _ _ k.1);
      said = said_tells b.0 (get_member (codes "en") b.0) p.0 p.1 refl said;
    }

-- and the label that stands there is answered
label_answers : (m : Member) (d : Data) (lang text : List ℕ) → StandsForLabel d lang text → label_at m d ≡ Ok (lang, text)
label_answers m d lang text s =
    and_then_given (part (codes "label") m d) _ (object s.members) (Ok (lang, text)) (or_fault_given _ (WrongType m) _ s.label)
    (and_then_given (check (all_texts s.members) (WrongType m)) _ tt (Ok (lang, text)) (check_given _ (WrongType m) (texts_pass s.members s.texts))
    (and_then_given (or_fault (said_in (get (codes "en") (object s.members)) s.members) (WrongType m)) _ (lang, string text) (Ok (lang, text))
    (or_fault_given _ (WrongType m) _ (said_passes s.members lang text s.said)) refl))

-- without one the answer is one fault
label_fault : (m : Member) (d : Data) → FaultIs (WrongType m) (label_at m d)
label_fault m d =
    then_fault (WrongType m) (part (codes "label") m d) _ (option_fault (WrongType m) (get (codes "label") d)) (λ label.
    then_fault (WrongType m) (object_at m label) _ (option_fault (WrongType m) (as_object label)) (λ members.
    then_fault (WrongType m) (check (all_texts members) (WrongType m)) _ (check_fault (WrongType m) (all_texts members)) (λ _.
    then_fault (WrongType m) (or_fault (said_in (get (codes "en") label) members) (WrongType m)) _ (option_fault (WrongType m) (said_in (get (codes "en") label) members)) (λ said.
    then_fault (WrongType m) (text_at m said.1) _ (option_fault (WrongType m) (as_str said.1)) (λ text.
    ok_fault (WrongType m) (said.0, text))))))

-- so the answer finds the label
pub label_finds : (m : Member) (d : Data) → Finds (λ (said : List ℕ × List ℕ). StandsForLabel d said.0 said.1) (WrongType m) (label_at m d)
label_finds m d = record { found = label_stands m d; finds = λ said s. label_answers m d said.0 said.1 s; none = label_fault m d }

-- ---- units

-- the text of a unit's label
label_text_stands : (unit : Data) (t : List ℕ) → unit_label unit ≡ Ok t → StandsForLabelText unit t
label_text_stands unit t h =
    let a = and_then_ok (label_at Unit unit) _ t h in
    let same : a.0.1 ≡ t = cc in
    (a.0.0, subst (λ x. StandsForLabel unit a.0.0 x) same (label_stands Unit unit a.0 a.1))

-- and that text is answered
label_text_answers : (unit : Data) (t : List ℕ) → StandsForLabelText unit t → unit_label unit ≡ Ok t
label_text_answers unit t s = and_then_given (label_at Unit unit) _ (s.0, t) (Ok t) (label_answers Unit unit s.0 t s.1) refl

-- the symbol of a unit, else its label
symbol_stands : (unit : Data) (o : Option Data) (t : List ℕ) → unit_by_symbol unit o ≡ Ok t → StandsForSymbol unit o t
symbol_stands unit None t h = label_text_stands unit t h
symbol_stands unit (Some null) t h = label_text_stands unit t h
symbol_stands unit (Some (boolean b)) t h = label_text_stands unit t h
symbol_stands unit (Some (number n)) t h = label_text_stands unit t h
symbol_stands unit (Some (string s)) t h = cc
symbol_stands unit (Some (array ds)) t h = label_text_stands unit t h
symbol_stands unit (Some (object ms)) t h =
    let a = and_then_ok (part (codes "value") Unit (object ms)) _ t h in
    or_fault_ok (get_member (codes "value") ms) _ a.0 a.1 ∙ ap Some (text_ok _ a.0 t a.2)

-- and that one is answered
symbol_answers : (unit : Data) (o : Option Data) (t : List ℕ) → StandsForSymbol unit o t → unit_by_symbol unit o ≡ Ok t
symbol_answers unit None t s = label_text_answers unit t s
symbol_answers unit (Some null) t s = label_text_answers unit t s
symbol_answers unit (Some (boolean b)) t s = label_text_answers unit t s
symbol_answers unit (Some (number n)) t s = label_text_answers unit t s
symbol_answers unit (Some (string x)) t s = ap Ok s
symbol_answers unit (Some (array ds)) t s = label_text_answers unit t s
symbol_answers unit (Some (object ms)) t s =
    and_then_given (part (codes "value") Unit (object ms)) _ (string t) (Ok t) (or_fault_given _ (WrongType Unit) _ s) refl

-- the unit of a parameter that has one
unit_if_stands : (o : Option Data) (u : Option (List ℕ)) → unit_if o ≡ Ok u → StandsForUnit o u
unit_if_stands None None h = tt
unit_if_stands None (Some t) h = cc
unit_if_stands (Some unit) None h =
    let a = and_then_ok (unit_by_symbol unit (get (codes "symbol") unit)) _ None h in
    cc
unit_if_stands (Some unit) (Some t) h =
    let a = and_then_ok (unit_by_symbol unit (get (codes "symbol") unit)) _ (Some t) h in
    let same : a.0 ≡ t = cc in
    symbol_stands unit (get (codes "symbol") unit) t (a.1 ∙ ap Ok same)

-- and that unit is answered
unit_if_answers : (o : Option Data) (u : Option (List ℕ)) → StandsForUnit o u → unit_if o ≡ Ok u
unit_if_answers None None s = refl
unit_if_answers None (Some t) s = absurd s
unit_if_answers (Some unit) None s = absurd s
unit_if_answers (Some unit) (Some t) s =
    and_then_given (unit_by_symbol unit (get (codes "symbol") unit)) _ t (Ok (Some t)) (symbol_answers unit (get (codes "symbol") unit) t s) refl

-- ---- without a unit

unit_label_fault : (unit : Data) → FaultIs (WrongType Unit) (unit_label unit)
unit_label_fault unit = then_fault (WrongType Unit) (label_at Unit unit) _ (label_fault Unit unit) (λ label. ok_fault (WrongType Unit) label.1)

symbol_fault : (unit : Data) (o : Option Data) → FaultIs (WrongType Unit) (unit_by_symbol unit o)
symbol_fault unit None = unit_label_fault unit
symbol_fault unit (Some null) = unit_label_fault unit
symbol_fault unit (Some (boolean b)) = unit_label_fault unit
symbol_fault unit (Some (number n)) = unit_label_fault unit
symbol_fault unit (Some (string s)) = ok_fault (WrongType Unit) s
symbol_fault unit (Some (array ds)) = unit_label_fault unit
symbol_fault unit (Some (object ms)) =
    then_fault (WrongType Unit) (part (codes "value") Unit (object ms)) _ (option_fault (WrongType Unit) (get_member (codes "value") ms)) (λ d. option_fault (WrongType Unit) (as_str d))

unit_fault : (o : Option Data) → FaultIs (WrongType Unit) (unit_if o)
unit_fault None = ok_fault (WrongType Unit) None
unit_fault (Some unit) =
    then_fault (WrongType Unit) (unit_by_symbol unit (get (codes "symbol") unit)) _ (symbol_fault unit (get (codes "symbol") unit)) (λ text. ok_fault (WrongType Unit) (Some text))

-- so the answer finds the unit
pub unit_finds : (d : Data) → Finds (StandsForUnit (get (codes "unit") d)) (WrongType Unit) (parameter_unit d)
unit_finds d = record { found = unit_if_stands (get (codes "unit") d); finds = unit_if_answers (get (codes "unit") d); none = unit_fault (get (codes "unit") d) }
