-- The bodies that tell refusals are JSON whose code is the refusal's.
use Rattle.std.proofs.Common.{◌≡◌, ◌≢◌, ◌≤◌, inl, inr, length, codes, Some, IsUtf8, refl, arith}
use Rattle.std.specs.Fmt.{digits}
use Rattle.std.specs.Float.Numeral.{scan_numeral}
use Rattle.json.proofs.Printed.Utf8.{IsUtf8-are_ascii}
use Rattle.json.specs.Json.{value}
use Rattle.json.specs.Lex.{lex, punctuate}
use Rattle.json.specs.Text.{content}
use Rattle.json.specs.Word.{word, after_number}
use Rattle.serde_json.specs.Data.{Data, unsigned, number, string, object, no_members, member}
use Rattle.serde_json.specs.Read.{read, number_of}
use Rattle.edr_base.specs.RefusalTable.{line_of, body_of}
use Rattle.edr_base.specs.declared.refusals.Refusal.{Refusal}
use Rattle.edr_base.specs.declared.refusals.Refusal.TheVariants.{BadHead, BodyNotAllowed, BadHost, VersionNotOffered, MethodNotOffered, NoSuchPage, UnknownParameter, RepeatedParameter, BadFormat, MissingParameter, BadCoords, WrongGeometry, BadBbox, BadDatetime, BadLevel, BadDistance, Conflict, UnknownCollection, UnknownInstance, UnknownLocation, QueryNotOffered, UnknownParameterName, BadCrs, NoLevels, NoSamples, TooLarge}
use Rattle.edr_http.specs.Replies.{IsStatus}
use Rattle.edr_reply.specs.Messages.{body_limit}
use Rattle.edr_client.specs.Replies.{IsCode}

abbrev tree_of : Refusal → Data
tree_of refusal =
    object (member (codes "code") (string (line_of refusal).code) (member (codes "number") (number (unsigned (line_of refusal).number)) no_members))

reads : (refusal : Refusal) → read (body_of refusal) ≡ Some (tree_of refusal)
unfolding number_of value lex punctuate content word after_number digits scan_numeral
reads BadHead = refl
reads BodyNotAllowed = refl
reads BadHost = refl
reads VersionNotOffered = refl
reads MethodNotOffered = refl
reads NoSuchPage = refl
reads UnknownParameter = refl
reads RepeatedParameter = refl
reads BadFormat = refl
reads MissingParameter = refl
reads BadCoords = refl
reads WrongGeometry = refl
reads BadBbox = refl
reads BadDatetime = refl
reads BadLevel = refl
reads BadDistance = refl
reads Conflict = refl
reads UnknownCollection = refl
reads UnknownInstance = refl
reads UnknownLocation = refl
reads QueryNotOffered = refl
reads UnknownParameterName = refl
reads BadCrs = refl
reads NoLevels = refl
reads NoSamples = refl
reads TooLarge = refl

utf8 : (refusal : Refusal) → IsUtf8 (body_of refusal)
unfolding digits
utf8 BadHead = IsUtf8-are_ascii (body_of BadHead) refl
utf8 BodyNotAllowed = IsUtf8-are_ascii (body_of BodyNotAllowed) refl
utf8 BadHost = IsUtf8-are_ascii (body_of BadHost) refl
utf8 VersionNotOffered = IsUtf8-are_ascii (body_of VersionNotOffered) refl
utf8 MethodNotOffered = IsUtf8-are_ascii (body_of MethodNotOffered) refl
utf8 NoSuchPage = IsUtf8-are_ascii (body_of NoSuchPage) refl
utf8 UnknownParameter = IsUtf8-are_ascii (body_of UnknownParameter) refl
utf8 RepeatedParameter = IsUtf8-are_ascii (body_of RepeatedParameter) refl
utf8 BadFormat = IsUtf8-are_ascii (body_of BadFormat) refl
utf8 MissingParameter = IsUtf8-are_ascii (body_of MissingParameter) refl
utf8 BadCoords = IsUtf8-are_ascii (body_of BadCoords) refl
utf8 WrongGeometry = IsUtf8-are_ascii (body_of WrongGeometry) refl
utf8 BadBbox = IsUtf8-are_ascii (body_of BadBbox) refl
utf8 BadDatetime = IsUtf8-are_ascii (body_of BadDatetime) refl
utf8 BadLevel = IsUtf8-are_ascii (body_of BadLevel) refl
utf8 BadDistance = IsUtf8-are_ascii (body_of BadDistance) refl
utf8 Conflict = IsUtf8-are_ascii (body_of Conflict) refl
utf8 UnknownCollection = IsUtf8-are_ascii (body_of UnknownCollection) refl
utf8 UnknownInstance = IsUtf8-are_ascii (body_of UnknownInstance) refl
utf8 UnknownLocation = IsUtf8-are_ascii (body_of UnknownLocation) refl
utf8 QueryNotOffered = IsUtf8-are_ascii (body_of QueryNotOffered) refl
utf8 UnknownParameterName = IsUtf8-are_ascii (body_of UnknownParameterName) refl
utf8 BadCrs = IsUtf8-are_ascii (body_of BadCrs) refl
utf8 NoLevels = IsUtf8-are_ascii (body_of NoLevels) refl
utf8 NoSamples = IsUtf8-are_ascii (body_of NoSamples) refl
utf8 TooLarge = IsUtf8-are_ascii (body_of TooLarge) refl

pub code_is : (refusal : Refusal) → IsCode (body_of refusal) (line_of refusal).code
code_is refusal = inl (tree_of refusal, record { utf8 = utf8 refusal; tree_is = reads refusal }, refl)

-- ---- what else a reply of a refusal is asked for

pub is_status : (refusal : Refusal) → IsStatus (line_of refusal).status
is_status BadHead = inr (inl refl)
is_status BodyNotAllowed = inr (inl refl)
is_status BadHost = inr (inl refl)
is_status VersionNotOffered = inr (inr (inr (inr (inr refl))))
is_status MethodNotOffered = inr (inr (inr (inl refl)))
is_status NoSuchPage = inr (inr (inl refl))
is_status UnknownParameter = inr (inl refl)
is_status RepeatedParameter = inr (inl refl)
is_status BadFormat = inr (inl refl)
is_status MissingParameter = inr (inl refl)
is_status BadCoords = inr (inl refl)
is_status WrongGeometry = inr (inl refl)
is_status BadBbox = inr (inl refl)
is_status BadDatetime = inr (inl refl)
is_status BadLevel = inr (inl refl)
is_status BadDistance = inr (inl refl)
is_status Conflict = inr (inl refl)
is_status UnknownCollection = inr (inr (inl refl))
is_status UnknownInstance = inr (inr (inl refl))
is_status UnknownLocation = inr (inr (inl refl))
is_status QueryNotOffered = inr (inl refl)
is_status UnknownParameterName = inr (inl refl)
is_status BadCrs = inr (inl refl)
is_status NoLevels = inr (inl refl)
is_status NoSamples = inr (inr (inl refl))
is_status TooLarge = inr (inr (inr (inr (inl refl))))

pub not_data : (refusal : Refusal) → (line_of refusal).status ≢ 200
not_data BadHead = omega arith
not_data BodyNotAllowed = omega arith
not_data BadHost = omega arith
not_data VersionNotOffered = omega arith
not_data MethodNotOffered = omega arith
not_data NoSuchPage = omega arith
not_data UnknownParameter = omega arith
not_data RepeatedParameter = omega arith
not_data BadFormat = omega arith
not_data MissingParameter = omega arith
not_data BadCoords = omega arith
not_data WrongGeometry = omega arith
not_data BadBbox = omega arith
not_data BadDatetime = omega arith
not_data BadLevel = omega arith
not_data BadDistance = omega arith
not_data Conflict = omega arith
not_data UnknownCollection = omega arith
not_data UnknownInstance = omega arith
not_data UnknownLocation = omega arith
not_data QueryNotOffered = omega arith
not_data UnknownParameterName = omega arith
not_data BadCrs = omega arith
not_data NoLevels = omega arith
not_data NoSamples = omega arith
not_data TooLarge = omega arith

pub short : (refusal : Refusal) → length (body_of refusal) ≤ body_limit
unfolding digits
short BadHead = omega arith
short BodyNotAllowed = omega arith
short BadHost = omega arith
short VersionNotOffered = omega arith
short MethodNotOffered = omega arith
short NoSuchPage = omega arith
short UnknownParameter = omega arith
short RepeatedParameter = omega arith
short BadFormat = omega arith
short MissingParameter = omega arith
short BadCoords = omega arith
short WrongGeometry = omega arith
short BadBbox = omega arith
short BadDatetime = omega arith
short BadLevel = omega arith
short BadDistance = omega arith
short Conflict = omega arith
short UnknownCollection = omega arith
short UnknownInstance = omega arith
short UnknownLocation = omega arith
short QueryNotOffered = omega arith
short UnknownParameterName = omega arith
short BadCrs = omega arith
short NoLevels = omega arith
short NoSamples = omega arith
short TooLarge = omega arith
