-- For private clauses: the test of a name, as a computation.
use Rattle.std.specs.Prelude.{ℕ, ◌==◌, nat_le, List, [], ◌∷◌, length, Bool, true, not, ◌&&◌}
use Rattle.std.specs.Str.{is_utf8}
use Rattle.edr_base.specs.Limits.{name_limit}

-- a byte of a name: no control byte, and no comma
abbrev pub is_name_byte : ℕ → Bool
is_name_byte byte = nat_le 32 byte && not (byte == 127) && not (byte == 44)

abbrev pub all_name_bytes : List ℕ → Bool
all_name_bytes [] = true
all_name_bytes (byte ∷ bytes) = is_name_byte byte && all_name_bytes bytes

-- a name, such as the id of a parameter
abbrev pub is_name : List ℕ → Bool
is_name text = nat_le 1 (length text) && nat_le (length text) name_limit && all_name_bytes text && is_utf8 text
