-- What a head is refused for, and whether the connection is closed after it (RFC 9112, sections 3.2, 6 and 9.6; RFC 9110, section 9).
use Rattle.std.specs.Prelude.{◌≡◌, ◌≢◌, ℕ, ◌==◌, Bool, not, ◌&&◌, ◌||◌, IsTrue, bytes_eq, codes, List, length, map, filter}
use Rattle.std.specs.declared.option.Option.{Option}
use Rattle.std.specs.List.{list_any, list_all, slice_split}
use Rattle.std.specs.Char.{to_ascii_lowercase}
use Rattle.httparse.specs.Grammar.{trim_ows}
use Rattle.edr_base.specs.FirstThatApplies.{IsLeastOrNone}
use Rattle.edr_base.specs.RefusalTable.{rank}
use Rattle.edr_base.specs.declared.refusals.Refusal.{Refusal}
use Rattle.edr_base.specs.declared.refusals.Refusal.TheVariants.{BodyNotAllowed, BadHost, VersionNotOffered, MethodNotOffered}
use Rattle.edr_http.specs.declared.heads.Head.{Head}

-- a field: its name and its value
abbrev pub Field : Type 0
Field = List ℕ × List ℕ

-- the text is the word in any case; the word is in small letters
abbrev pub is_word : List ℕ → List ℕ → Bool
is_word word text = bytes_eq (map to_ascii_lowercase text) word

-- the field is the one of this name, which is in small letters
abbrev pub is_named : List ℕ → Field → Bool
is_named name field = is_word name field.0

-- one or more zeros
abbrev pub are_zeros : List ℕ → Bool
are_zeros text = not (length text == 0) && list_all (λ byte. byte == 48) text

-- the field announces a body
abbrev pub brings_body : Field → Bool
brings_body field = is_named (codes "transfer-encoding") field || (is_named (codes "content-length") field && not (are_zeros field.1))

-- one of the texts between the commas is `close`, in any case and with blanks at its ends
abbrev pub lists_close : List ℕ → Bool
lists_close value = list_any (λ part. is_word (codes "close") (trim_ows part)) (slice_split (λ byte. byte == 44) value)

-- the field asks for the connection to be closed
abbrev pub closes : Field → Bool
closes field = is_named (codes "connection") field && lists_close field.1

-- the head asks for it
abbrev pub says_close : Head → Bool
says_close head = list_any closes head.fields

-- the head asks for a reply without its body
abbrev pub is_head : Head → Bool
is_head head = bytes_eq head.method (codes "HEAD")

-- the table: when each refusal applies to a head
abbrev pub Applies : Head → Refusal → Type 0
Applies head BodyNotAllowed = IsTrue (list_any brings_body head.fields)
Applies head BadHost = length (filter (is_named (codes "host")) head.fields) ≢ 1
Applies head VersionNotOffered = head.minor ≢ 1
Applies head MethodNotOffered = (head.method ≢ codes "GET") × (head.method ≢ codes "HEAD")
Applies head other = ⊥

-- the least refusal that applies to a head, or none where none does
abbrev pub Refuses : Head → Option Refusal → Type 0
Refuses head = IsLeastOrNone rank (Applies head)

-- a law: a head has one such refusal at most, or none
abbrev pub RefusalIsOne : Type 0
RefusalIsOne = (head : Head) (one other : Option Refusal) → Refuses head one → Refuses head other → one ≡ other
