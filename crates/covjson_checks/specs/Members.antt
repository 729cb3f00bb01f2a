-- Members of objects, and what each has to be.
use Rattle.std.specs.Prelude.{ℕ, ℤ, unsigned_abs, nat_le, List, Bool, true, is_some, ◌||◌, ◌&&◌, if◌then◌else◌, ⊤, Option, Some, None, Ok, Err}
use Rattle.std.specs.Option.{option_or}
use Rattle.serde_json.specs.Data.{Data, Items, no_items, item, Members, Num}
use Rattle.serde_json.specs.Find.{get, as_object, as_array, as_number, as_str, as_null, as_integer}
use Rattle.covjson_checks.specs.declared.faults.Member.{Member}
use Rattle.covjson_checks.specs.declared.faults.CovFault.{CovFault}
use Rattle.covjson_checks.specs.declared.faults.CovFault.TheVariants.{Missing, WrongType, NotWhole, OutOfRangeAt}
use Rattle.covjson_checks.specs.declared.members.Wanted.{Wanted}
use Rattle.covjson_checks.specs.declared.members.Wanted.TheVariants.{Texts, Numbers, Wholes, Naturals, NumbersOrNulls, WholesOrNulls}
use Rattle.covjson_checks.specs.Answers.{Answer}
use Rattle.edr_base.specs.FirstThatApplies.{and_then, or_fault, check}
use Rattle.edr_json.specs.Trees.{whole_of, natural_of}

-- the member of that name, or Missing
abbrev pub need : List ℕ → Member → Data → Answer Data
need name m d = or_fault (get name d) (Missing m)

-- the member of that name, or WrongType
abbrev pub part : List ℕ → Member → Data → Answer Data
part name m d = or_fault (get name d) (WrongType m)

-- the member of a tree, else of the collection that it is in, which is null where it is in none
abbrev pub lent : List ℕ → Data → Data → Option Data
lent name d collection = option_or (get name d) (get name collection)

-- an object, or WrongType
abbrev pub object_at : Member → Data → Answer Members
object_at m d = or_fault (as_object d) (WrongType m)

-- a list, or WrongType
abbrev pub list_at : Member → Data → Answer Items
list_at m d = or_fault (as_array d) (WrongType m)

-- a text, or WrongType
abbrev pub text_at : Member → Data → Answer (List ℕ)
text_at m d = or_fault (as_str d) (WrongType m)

-- a number, or WrongType
abbrev pub number_at : Member → Data → Answer Num
number_at m d = or_fault (as_number d) (WrongType m)

-- the number as it is held whole, or NotWhole
abbrev pub held_whole : Member → Num → Answer ℤ
held_whole m n = or_fault (as_integer n) (NotWhole m)

-- the size is at most that
abbrev pub is_within : ℕ → ℤ → Bool
is_within limit value = nat_le (unsigned_abs value) limit

-- a number at a place, held whole, of at most that size
abbrev pub whole_within : Member → ℕ → ℕ → Data → Answer ℤ
whole_within m limit place d =
    and_then (number_at m d) (λ n.
    and_then (held_whole m n) (λ z.
    if is_within limit z then Ok z else Err (OutOfRangeAt m place)))

-- the same, where null stands for an absent number
abbrev pub whole_or_null : Member → ℕ → ℕ → Data → Answer (Option ℤ)
whole_or_null m limit place d = if is_some (as_null d) then Ok None else and_then (whole_within m limit place d) (λ z. Ok (Some z))

-- the item is what is wanted
abbrev pub is_wanted : Wanted → Data → Bool
is_wanted Texts d = is_some (as_str d)
is_wanted Numbers d = is_some (as_number d)
is_wanted Wholes d = is_some (whole_of d)
is_wanted Naturals d = is_some (natural_of d)
is_wanted NumbersOrNulls d = is_some (as_null d) || is_some (as_number d)
is_wanted WholesOrNulls d = is_some (as_null d) || is_some (whole_of d)

-- each item is
abbrev pub all_wanted : Wanted → Items → Bool
all_wanted wanted no_items = true
all_wanted wanted (item d ds) = is_wanted wanted d && all_wanted wanted ds

-- each item is, or that fault
abbrev pub need_each : Wanted → CovFault → Items → Answer ⊤
need_each wanted fault ds = check (all_wanted wanted ds) fault
