-- Numbers among the words.
use Rattle.std.specs.Prelude.{ℕ, ◌^◌, nat_lt, nat_le, Bool, ◌&&◌, List, length}
use Rattle.std.specs.Char.{is_ascii_digit}
use Rattle.std.specs.List.{list_all}
use Rattle.std.specs.Str.Parse.{digits_value}

-- a number has at most so many digits
abbrev pub digit_limit : ℕ
digit_limit = 20

-- some digits, no more than that, of a number that 64 bits hold
abbrev pub is_number : List ℕ → Bool
is_number word = nat_le 1 (length word) && nat_le (length word) digit_limit && list_all is_ascii_digit word && nat_lt (digits_value 10 word) (2 ^ 64)
