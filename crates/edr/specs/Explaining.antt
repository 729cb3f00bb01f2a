-- The fault behind what a run names, in words: the first check of CoverageJSON that fails, why a line's change can't be made, or
-- where a reply breaks off.
use Rattle.std.specs.Prelude.{◌≡◌, ℕ, nat_le, Bool, true, false, ◌&&◌, if◌then◌else◌, List, [], ◌++◌, length, codes, Err, IfSome}
use Rattle.std.specs.declared.option.Option.{Option}
use Rattle.std.specs.Char.{is_ascii_graphic}
use Rattle.std.specs.Fmt.{decimal}
use Rattle.std.specs.List.{list_all}
use Rattle.covjson_checks.specs.declared.faults.Member.{Member}
use Rattle.covjson_checks.specs.declared.faults.Member.TheVariants.{Document, Kind, Coverages, Domain, DomainType, Axes, T, Z, Y, X, Composite, Referencing, Parameters, ObservedProperty, Unit as TheUnit, Ranges, DataType, AxisNames, Shape, Values}
use Rattle.covjson_checks.specs.declared.faults.CovFault.{CovFault}
use Rattle.covjson_checks.specs.declared.faults.CovFault.TheVariants.{NotJson, Missing, WrongType, UnsupportedDomain, UnsupportedSystem, UnsupportedRange, NotWhole, OutOfRange, OutOfRangeAt, BadTime, NotMonotonic, WrongCount, OutOfMemory}
use Rattle.covjson_read.specs.Rows.{DocumentRows}
use Rattle.edr_draft.specs.declared.changes.ChangeFault.{ChangeFault}
use Rattle.edr_draft.specs.declared.changes.ChangeFault.TheVariants as changes
use Rattle.edr_feed.specs.Feeds.{InnerStandsIn}
use Rattle.edr_feed.specs.declared.faults.FeedFault.TheVariants as faults
use Rattle.edr_feed.specs.declared.refusals.FeedRefusal.TheVariants as refusals
use Rattle.edr_client.specs.Replies.{Hears}
use Rattle.edr_client.specs.declared.replies.ReplyFault.TheVariants as replies
use Rattle.edr.specs.Documents.{OfInput}
use Rattle.edr.specs.declared.endings.Ending.{Ending}
use Rattle.edr.specs.declared.endings.Ending.TheVariants.{NotFeed, NoDocument}
use Rattle.edr.specs.declared.endings.DocumentRefusal.TheVariants.{Cov, BadReply, NotData}

-- the name of a member (OGC 21-069r2, CoverageJSON objects)
abbrev pub member_name : Member → List ℕ
member_name Document = codes "document"
member_name Kind = codes "type"
member_name Coverages = codes "coverages"
member_name Domain = codes "domain"
member_name DomainType = codes "domainType"
member_name Axes = codes "axes"
member_name T = codes "t"
member_name Z = codes "z"
member_name Y = codes "y"
member_name X = codes "x"
member_name Composite = codes "composite"
member_name Referencing = codes "referencing"
member_name Parameters = codes "parameters"
member_name ObservedProperty = codes "observedProperty"
member_name TheUnit = codes "unit"
member_name Ranges = codes "ranges"
member_name DataType = codes "dataType"
member_name AxisNames = codes "axisNames"
member_name Shape = codes "shape"
member_name Values = codes "values"

-- a text that was read, behind a blank, where it is 1 to 64 visible characters of ASCII, so that the line stays one
abbrev pub is_shown : List ℕ → Bool
is_shown text = nat_le 1 (length text) && nat_le (length text) 64 && list_all is_ascii_graphic text

abbrev pub shown : List ℕ → List ℕ
shown text = if is_shown text then codes " " ++ text else []

-- the fault of a coverage or a document, with the member, the place or the counts that it has
abbrev pub cov_said : CovFault → List ℕ
cov_said NotJson = codes "NotJson"
cov_said (Missing member) = codes "Missing " ++ member_name member
cov_said (WrongType member) = codes "WrongType " ++ member_name member
cov_said (UnsupportedDomain name) = codes "UnsupportedDomain" ++ shown name
cov_said (UnsupportedSystem name) = codes "UnsupportedSystem" ++ shown name
cov_said (UnsupportedRange name) = codes "UnsupportedRange" ++ shown name
cov_said (NotWhole member) = codes "NotWhole " ++ member_name member
cov_said (OutOfRange member) = codes "OutOfRange " ++ member_name member
cov_said (OutOfRangeAt member place) = codes "OutOfRange " ++ (member_name member ++ (codes " " ++ decimal place))
cov_said (BadTime place) = codes "BadTime " ++ decimal place
cov_said (NotMonotonic member) = codes "NotMonotonic " ++ member_name member
cov_said (WrongCount member wanted found) =
    codes "WrongCount " ++ (member_name member ++ (codes " " ++ (decimal wanted ++ (codes " " ++ decimal found))))
cov_said OutOfMemory = codes "OutOfMemory"

-- why a change can't be made
abbrev pub change_said : ChangeFault → List ℕ
change_said changes.SameCollection = codes "SameCollection"
change_said changes.UnknownCollection = codes "UnknownCollection"
change_said changes.WrongKind = codes "WrongKind"
change_said changes.UnknownInstance = codes "UnknownInstance"
change_said changes.UnknownStation = codes "UnknownStation"
change_said changes.NoTimes = codes "NoTimes"
change_said changes.CrsDiffers = codes "CrsDiffers"
change_said (changes.TooManyNodes count) = codes "TooManyNodes " ++ decimal count
change_said (changes.ParametersDiffer id) = codes "ParametersDiffer" ++ shown id
change_said changes.LevelsDiffer = codes "LevelsDiffer"
change_said changes.OutOfMemory = codes "OutOfMemory"

-- ---- what is said behind the line of an ending, where that is asked for

-- of a feed: the fault of the coverage, or of the change, of the line that is named
abbrev pub ExplainsFeed : Ending → Option (List ℕ) → List ℕ → Type 0
ExplainsFeed (NotFeed (refusals.Cov line)) input text =
    (fault : CovFault) × InnerStandsIn input (faults.Cov line fault) × (text ≡ codes ": " ++ cov_said fault)
ExplainsFeed (NotFeed (refusals.Change line)) input text =
    (fault : ChangeFault) × InnerStandsIn input (faults.Change line fault) × (text ≡ codes ": " ++ change_said fault)
ExplainsFeed ending input text = text ≡ []

-- of a document in the input
abbrev pub ExplainsDocument : Ending → Option (List ℕ) → List ℕ → Type 0
ExplainsDocument (NoDocument Cov) input text =
    OfInput (λ bytes. (fault : CovFault) × DocumentRows bytes (Err fault) × (text ≡ codes ": " ++ cov_said fault)) input
ExplainsDocument ending input text = text ≡ []

-- of a reply: where it breaks off, the code that its body gives, or the fault of its document
abbrev pub ExplainsReply : Ending → Option (List ℕ) → List ℕ → Type 0
ExplainsReply (NoDocument BadReply) incoming text =
    (place : ℕ) × IfSome incoming (λ bytes. Hears bytes (Err (replies.BadReply place))) × (text ≡ codes ": place " ++ decimal place)
ExplainsReply (NoDocument (NotData status)) incoming text =
    (code : List ℕ) × IfSome incoming (λ bytes. Hears bytes (Err (replies.NotData status code))) × (text ≡ shown code)
ExplainsReply (NoDocument Cov) incoming text =
    (fault : CovFault) × IfSome incoming (λ bytes. Hears bytes (Err (replies.Cov fault))) × (text ≡ codes ": " ++ cov_said fault)
ExplainsReply ending incoming text = text ≡ []

-- nothing is said where that isn't asked for
abbrev pub IfAsked : Bool → (List ℕ → Type 0) → List ℕ → Type 0
IfAsked true Explains text = Explains text
IfAsked false Explains text = text ≡ []
