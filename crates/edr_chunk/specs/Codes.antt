-- Codes that stand for samples: for private clauses.
use Rattle.std.specs.Prelude.{ℕ, ℤ, pos, ◌+ℤ◌, ◌<ℤ◌, ◌≤ℤ◌, ◌≤◌, ◌==◌, ◌+◌, ◌*◌, slice_index, negsuc, cond, List, Option, Some, None, All, IfSome, unsigned_abs}
use Rattle.std.specs.Ordering.{int_eq}
use Rattle.edr_base.specs.Limits.{sample_limit}

-- a number below samples, from which codes count
abbrev pub IsFloor : ℤ → Type 0
IsFloor floor = unsigned_abs floor ≤ sample_limit + 1

-- code 0 is a missing sample, code n the sample that lies n above the floor
abbrev pub code_sample : ℤ → ℕ → Option ℤ
code_sample floor code = cond (code == 0) None (Some (floor +ℤ pos code))

-- a code in three bytes, the lowest first
abbrev pub triple_code : List ℕ → ℕ
triple_code bytes = slice_index bytes 0 + 256 * slice_index bytes 1 + 65_536 * slice_index bytes 2

abbrev pub triple_sample : ℤ → List ℕ → Option ℤ
triple_sample floor bytes = code_sample floor (triple_code bytes)

-- a sample that has a code up to a greatest one
abbrev pub HasCode : ℕ → ℤ → Option ℤ → Type 0
HasCode most floor value = IfSome value (λ (v : ℤ). (floor <ℤ v) × (v ≤ℤ (floor +ℤ pos most)))

-- the least number of 64 bits is a missing sample, each other number is itself
abbrev pub whole_sample : ℤ → ℤ → Option ℤ
whole_sample floor number = cond (int_eq number (negsuc 9_223_372_036_854_775_807)) None (Some number)

-- no sample lies outside two bounds
abbrev pub IsBetween : ℤ → ℤ → Option ℤ → Type 0
IsBetween least greatest value = IfSome value (λ (v : ℤ). (least ≤ℤ v) × (v ≤ℤ greatest))

abbrev pub AreBetween : ℤ → ℤ → List (Option ℤ) → Type 0
AreBetween least greatest = All (IsBetween least greatest)
