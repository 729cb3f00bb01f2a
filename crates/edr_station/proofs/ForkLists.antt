-- The stations of a fork: those of one side, and those of the other.
use Rattle.std.proofs.Common.{◌≡◌, ℕ, ◌+◌, ◌-◌, ◌^◌, ◌<◌, ◌≤◌, ◌++◌, List, length, take, drop, get_or, Option, Result, Ok, Err, IfOk, OnOk, OnErr, sym, ap, ◌∙◌, subst, arith, append_assoc, length-append}
use Rattle.std.specs.Option.{option_to_list}
use Rattle.std.specs.Arc.{arc_value}
use Rattle.std.specs.declared.sync.Arc.{Arc}
use Rattle.std.specs.declared.alloc.Global.{Global}
use Rattle.std.proofs.Math.Seq.{take-append-add, drop-append-add}
use Rattle.std.proofs.lemmas.List.{get_or-append-add}
use Rattle.std.proofs.lemmas.List.Sums.{sum_by-append}
use Rattle.edr_station.specs.declared.shelves.Top.{Top}
use Rattle.edr_station.specs.declared.shelves.Top.TheVariants.{Sides}
use Rattle.edr_station.specs.declared.shelves.Fork.{Fork}
use Rattle.edr_station.specs.Stations.{StationValue}
use Rattle.edr_station.specs.Blocks.{blocks_of}
use Rattle.edr_station.specs.Shelves.{blocks_in, splice, IsFound}
use Rattle.edr_station.specs.Forks.{all_in, IsCounted}

pub record AtFork (stations before behind : List StationValue) : Type 0 where
  pub is : stations ≡ before ++ behind
  pub len_fits : length before + length behind < 2 ^ 64
  pub blocks_fit : blocks_in before + blocks_in behind < 2 ^ 64

pub at_fork : (stations : List StationValue) (top : Top) (shared : Arc Fork Global) (fork : Fork)
    → all_in top ≡ stations → top ≡ Sides shared → fork ≡ arc_value shared → IsCounted top → AtFork stations fork.before fork.behind
at_fork stations top shared fork view is same counted =
    let c : IsCounted (Sides shared) = subst IsCounted is counted in
    let s = arc_value shared in
    record {
      is = sym view ∙ (ap all_in is ∙ ap (λ (f : Fork). f.before ++ f.behind) (sym same));
      len_fits = subst (λ (f : Fork). length f.before + length f.behind < 2 ^ 64) (sym same) (let e : length s.before + length s.behind < 2 ^ 64 = omega (arith, c.0, c.4) in e);
      blocks_fit = subst (λ (f : Fork). blocks_in f.before + blocks_in f.behind < 2 ^ 64) (sym same) (let e : blocks_in s.before + blocks_in s.behind < 2 ^ 64 = omega (arith, c.1, c.5) in e);
    }

module _ {V : Type 0} (before behind : List V) where
  pub take_behind : (n place : ℕ) → n ≡ length before → n ≤ place → take place (before ++ behind) ≡ before ++ take (place - n) behind
  take_behind n place long le =
      let e : place ≡ length before + (place - n) = omega arith in
      ap (λ k. take k (before ++ behind)) e ∙ take-append-add before behind (place - n)

  pub drop_behind : (n place : ℕ) → n ≡ length before → n ≤ place → drop place (before ++ behind) ≡ drop (place - n) behind
  drop_behind n place long le =
      let e : place ≡ length before + (place - n) = omega arith in
      ap (λ k. drop k (before ++ behind)) e ∙ drop-append-add before behind (place - n)

  pub splice_behind : (n place end : ℕ) (put : Option V) → n ≡ length before → n ≤ place → place ≤ end
      → splice place end put (before ++ behind) ≡ before ++ splice (place - n) (end - n) put behind
  splice_behind n place end put long le order =
      ap (λ (l : List V). l ++ (option_to_list put ++ drop end (before ++ behind))) (take_behind n place long le)
      ∙ (ap (λ (l : List V). (before ++ take (place - n) behind) ++ (option_to_list put ++ l)) (drop_behind n end long (omega arith))
      ∙ append_assoc before (take (place - n) behind) (option_to_list put ++ drop (end - n) behind))

-- the blocks before a place behind the first side
pub blocks_behind : (before behind : List StationValue) (n place : ℕ) → n ≡ length before → n ≤ place
    → blocks_in (take place (before ++ behind)) ≡ blocks_in before + blocks_in (take (place - n) behind)
blocks_behind before behind n place long le =
    ap blocks_in (take_behind before behind n place long le) ∙ sum_by-append blocks_of before (take (place - n) behind)

pub found_behind : (before behind : List StationValue) (number place stand : ℕ) → blocks_in before ≤ number → IsFound behind (number - blocks_in before) place stand
    → IsFound (before ++ behind) number (length before + place) (blocks_in before + stand)
found_behind before behind number place stand le h = record {
  inside = omega (arith, length-append before behind, h.inside);
  stand_before =
      let e = blocks_behind before behind (length before) (length before + place) (omega arith) (omega arith) in
      let back : length before + place - length before ≡ place = omega arith in
      let same : blocks_in (take (length before + place - length before) behind) ≡ blocks_in (take place behind) = ap (λ k. blocks_in (take k behind)) back in
      omega (arith, e, same, h.stand_before);
  begun = omega (arith, h.begun);
  ends = λ d.
      let at : blocks_of (get_or (before ++ behind) (length before + place) d) ≡ blocks_of (get_or behind place d) = ap blocks_of (get_or-append-add before behind place d) in
      omega (arith, at, h.ends d, h.begun);
}

-- a list of parts that are equal to others
pub joined_is : {T E : Type 0} (r : Result (List T) E) (before before' behind behind' whole : List T) → IfOk r (λ list. list ≡ before ++ behind)
    → before ≡ before' → behind ≡ behind' → before' ++ behind' ≡ whole → IfOk r (λ list. list ≡ whole)
joined_is (Err e) before before' behind behind' whole made front back is = tt
joined_is (Ok list) before before' behind behind' whole made front back is =
    made ∙ (ap (λ l. l ++ behind) front ∙ (ap (λ l. before' ++ l) back ∙ is))

pub on_ok_is : {T E : Type 0} {A B : Type 0} (r : Result T E) → OnOk r A → (A → B) → OnOk r B
on_ok_is (Err e) h f = tt
on_ok_is (Ok x) h f = f h

pub on_err : {T E : Type 0} {A : Type 0} (r : Result T E) → A → OnErr r A
on_err (Err e) a = a
on_err (Ok x) a = tt
