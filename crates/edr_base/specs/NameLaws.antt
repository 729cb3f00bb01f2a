-- Laws of names: their test passes exactly these; for the proofs of callers.
use Rattle.std.proofs.Common.{◌≡◌, ℕ, ◌==◌, nat_le, List, [], ◌∷◌, length, All, Bool, true, not, ◌&&◌, IsTrue, ◌↔◌, refl}
use Rattle.std.proofs.lemmas.Bool.{and_parts, and_from, leb-true, le-leb, eqb-false, ne_eqb, not-true, not_from_false}
use Rattle.std.proofs.lemmas.Bool.Decides.{same_from_decides}
use Rattle.std.proofs.lemmas.List.Elements.{All-nil, All-cons, All-head, All-tail}
use Rattle.std.proofs.lemmas.Str.{IsUtf8-from_is_utf8, is_utf8-from_IsUtf8}
use Rattle.std.specs.Str.{is_utf8}
use Rattle.edr_base.specs.Limits.{name_limit}
use Rattle.edr_base.specs.Names.{IsNameByte, IsName}
use Rattle.edr_base.specs.NameTests.{is_name_byte, all_name_bytes, is_name}

-- a byte that passes the test is one of a name
byte_tells : (byte : ℕ) → is_name_byte byte ≡ true → IsNameByte byte
byte_tells byte h =
    let p = and_parts (nat_le 32 byte && not (byte == 127)) (not (byte == 44)) h in
    let q = and_parts (nat_le 32 byte) (not (byte == 127)) p.0 in
    record {
      printed = (leb-true 32 byte q.0, eqb-false byte 127 (not-true (byte == 127) q.1));
      no_comma = eqb-false byte 44 (not-true (byte == 44) p.1);
    }

-- and one of a name passes it
byte_passes : (byte : ℕ) → IsNameByte byte → is_name_byte byte ≡ true
byte_passes byte h =
    and_from (nat_le 32 byte && not (byte == 127)) (not (byte == 44))
    (and_from (nat_le 32 byte) (not (byte == 127)) (le-leb 32 byte h.printed.0) (not_from_false (byte == 127) (ne_eqb byte 127 h.printed.1)))
    (not_from_false (byte == 44) (ne_eqb byte 44 h.no_comma))

-- bytes that pass the test are those of a name
bytes_tell : (text : List ℕ) → all_name_bytes text ≡ true → All IsNameByte text
bytes_tell [] h = All-nil IsNameByte
bytes_tell (byte ∷ bytes) h =
    let p = and_parts (is_name_byte byte) (all_name_bytes bytes) h in
    All-cons IsNameByte byte bytes (byte_tells byte p.0) (bytes_tell bytes p.1)

-- and those of a name pass it
bytes_pass : (text : List ℕ) → All IsNameByte text → all_name_bytes text ≡ true
bytes_pass [] h = refl
bytes_pass (byte ∷ bytes) h =
    and_from (is_name_byte byte) (all_name_bytes bytes) (byte_passes byte (All-head IsNameByte byte bytes h)) (bytes_pass bytes (All-tail IsNameByte byte bytes h))

-- a text that passes the test is a name
pub name_tells : (text : List ℕ) → is_name text ≡ true → IsName text
name_tells text h =
    let p = and_parts (nat_le 1 (length text) && nat_le (length text) name_limit && all_name_bytes text) (is_utf8 text) h in
    let q = and_parts (nat_le 1 (length text) && nat_le (length text) name_limit) (all_name_bytes text) p.0 in
    let r = and_parts (nat_le 1 (length text)) (nat_le (length text) name_limit) q.0 in
    record {
      length_in = (leb-true 1 (length text) r.0, leb-true (length text) name_limit r.1);
      bytes = bytes_tell text q.1;
      utf8 = IsUtf8-from_is_utf8 text p.1;
    }

-- and a name passes it
pub name_passes : (text : List ℕ) → IsName text → is_name text ≡ true
name_passes text h =
    and_from (nat_le 1 (length text) && nat_le (length text) name_limit && all_name_bytes text) (is_utf8 text)
    (and_from (nat_le 1 (length text) && nat_le (length text) name_limit) (all_name_bytes text)
    (and_from (nat_le 1 (length text)) (nat_le (length text) name_limit) (le-leb 1 (length text) h.length_in.0) (le-leb (length text) name_limit h.length_in.1))
    (bytes_pass text h.bytes))
    (is_utf8-from_IsUtf8 text h.utf8)

-- so a test that passes exactly the names is that test
pub same_test : (test : Bool) (text : List ℕ) → (IsTrue test ↔ IsName text) → test ≡ is_name text
same_test test text says = same_from_decides {P = IsName text} test (is_name text) (says.0, says.1) (name_tells text, name_passes text)
