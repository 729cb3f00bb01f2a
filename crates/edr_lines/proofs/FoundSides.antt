-- A test of nodes that some node passes has sides.
use Rattle.std.proofs.Common.{◌≡◌, ℕ, zero, suc, ◌+◌, ◌-◌, ◌<◌, ◌≤◌, Bool, true, false, refl, ap, sym, ◌∙◌, arith, inl, inr}
use Rattle.std.specs.List.{filter, list_any, range_with_len}
use Rattle.std.proofs.lemmas.Bool.{cases_lt, false≢true}
use Rattle.edr_select.specs.Stacks.{SidesValue}
use Rattle.edr_select.specs.ListLaws.{passes_at, any_range}
use Rattle.edr_lines.specs.Taken.{Counts, NodeTest, some_at_time, some_at_level, some_in_row, some_in_column, IsSpan, AreSidesOf}
use Rattle.edr_lines.proofs.PassingNodes.{PassesAt, row_some, column_some}

-- ---- the least and the greatest number that pass

record Least (t : ℕ → Bool) (n : ℕ) : Type 0 where
  place : ℕ
  inside : place < n
  passes : t place ≡ true
  low : (k : ℕ) → k < n → t k ≡ true → place ≤ k

least : (t : ℕ → Bool) (n k : ℕ) → k < n → t k ≡ true → Least t n
least t zero k inside h = absurd (omega arith)
least t (suc n) k inside h = here (list_any t (range_with_len 0 n)) refl (least t n)
  where
    here : (b : Bool) → list_any t (range_with_len 0 n) ≡ b → ((m : ℕ) → m < n → t m ≡ true → Least t n) → Least t (suc n)
    here true e later =
        let p = passes_at t 0 n e in
        let l = later p.place (omega (arith, p.high)) p.passes in
        record {
          place = l.place;
          inside = omega (arith, l.inside);
          passes = l.passes;
          low = λ m below passes. elim (cases_lt m n) [ inl lt ↦ l.low m lt passes | inr ge ↦ omega (arith, l.inside, ge) ];
        }
    here false e later = record {
      place = k;
      inside = inside;
      passes = h;
      low = λ m below passes. elim (cases_lt m n) [
        | inl lt ↦ absurd (false≢true (sym e ∙ any_range t 0 n m (omega arith) (omega (arith, lt)) passes))
        | inr ge ↦ omega (arith, inside, ge)
      ];
    }

record Greatest (t : ℕ → Bool) (n : ℕ) : Type 0 where
  place : ℕ
  inside : place < n
  passes : t place ≡ true
  high : (k : ℕ) → k < n → t k ≡ true → k ≤ place

greatest : (t : ℕ → Bool) (n k : ℕ) → k < n → t k ≡ true → Greatest t n
greatest t zero k inside h = absurd (omega arith)
greatest t (suc n) k inside h = here (t n) refl (greatest t n)
  where
    last : (m : ℕ) → m < suc n → n ≤ m → n ≡ m
    last m below ge = omega arith

    here : (b : Bool) → t n ≡ b → ((m : ℕ) → m < n → t m ≡ true → Greatest t n) → Greatest t (suc n)
    here true e later = record { place = n; inside = omega arith; passes = e; high = λ m below passes. omega (arith, below) }
    here false e later = elim (cases_lt k n) [
      | inl lt ↦
          let g = later k lt h in
          record {
            place = g.place;
            inside = omega (arith, g.inside);
            passes = g.passes;
            high = λ m below passes. elim (cases_lt m n) [
              | inl l ↦ g.high m l passes
              | inr ge ↦ absurd (false≢true (sym e ∙ (ap t (last m below ge) ∙ passes)))
            ];
          }
      | inr ge ↦ absurd (false≢true (sym e ∙ (ap t (last k inside ge) ∙ h)))
    ]

-- ---- spans

record HasSpan (t : ℕ → Bool) (n : ℕ) : Type 0 where
  first : ℕ
  many : ℕ
  is : IsSpan t n first many

span_there : (t : ℕ → Bool) (n k : ℕ) → k < n → t k ≡ true → HasSpan t n
span_there t n k inside h =
    let l = least t n k inside h in
    let g = greatest t n k inside h in
    let order : l.place ≤ g.place = l.low g.place g.inside g.passes in
    record {
      first = l.place;
      many = g.place + 1 - l.place;
      is = record {
        some = omega (arith, order);
        inside = omega (arith, order, g.inside);
        first_passes = l.passes;
        last_passes = ap t (omega (arith, order)) ∙ g.passes;
        low = l.low;
        high = λ m below passes. omega (arith, order, g.high m below passes);
      };
    }

-- ---- sides

pub record HasSides (n : Counts) (takes : NodeTest) : Type 0 where
  pub sides : SidesValue
  pub are : AreSidesOf n takes sides

pub sides_there : (n : Counts) (takes : NodeTest) → PassesAt n takes → HasSides n takes
sides_there n takes p =
    let rows = span_there (some_in_row n takes) n.rows p.y p.y_in (row_some n takes p.t p.z p.y p.x p.t_in p.z_in p.y_in p.x_in p.passes) in
    let columns = span_there (some_in_column n takes) n.columns p.x p.x_in (column_some n takes p.t p.z p.y p.x p.t_in p.z_in p.y_in p.x_in p.passes) in
    record {
      sides = record {
        times = filter (some_at_time n takes) (range_with_len 0 n.times);
        levels = filter (some_at_level n takes) (range_with_len 0 n.levels);
        row = rows.first;
        rows = rows.many;
        column = columns.first;
        columns = columns.many;
      };
      are = record { times = refl; levels = refl; rows = rows.is; columns = columns.is };
    }
