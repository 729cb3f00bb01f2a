-- Laws of the least refusal, for the proofs of callers.
use Rattle.std.proofs.Common.{◌≡◌, ℕ, ◌==◌, refl, ap, sym, ◌∙◌}
use Rattle.std.specs.Prelude.{if◌then◌else◌, Option, Some, None}
use Rattle.edr_base.specs.FirstThatApplies.{IsLeast, IsLeastOrNone}
use Rattle.edr_base.specs.FirstLaws.{least_rank}
use Rattle.edr_base.specs.declared.refusals.Refusal.{Refusal}
use Rattle.edr_base.specs.declared.refusals.Refusal.TheVariants.{BadHead, BodyNotAllowed, BadHost, VersionNotOffered, MethodNotOffered, NoSuchPage, UnknownParameter, RepeatedParameter, BadFormat, MissingParameter, BadCoords, WrongGeometry, BadBbox, BadDatetime, BadLevel, BadDistance, Conflict, UnknownCollection, UnknownInstance, UnknownLocation, QueryNotOffered, UnknownParameterName, BadCrs, NoLevels, NoSamples, TooLarge}
use Rattle.edr_base.specs.RefusalTable.{rank}

-- the refusal of a number
abbrev refusal_at : ℕ → Refusal
refusal_at n =
    if n == 1 then BadHead else if n == 2 then BodyNotAllowed else if n == 3 then BadHost else if n == 4 then VersionNotOffered else
    if n == 5 then MethodNotOffered else if n == 6 then NoSuchPage else if n == 7 then UnknownParameter else if n == 8 then RepeatedParameter else
    if n == 9 then BadFormat else if n == 10 then MissingParameter else if n == 11 then BadCoords else if n == 12 then WrongGeometry else
    if n == 13 then BadBbox else if n == 14 then BadDatetime else if n == 15 then BadLevel else if n == 16 then BadDistance else
    if n == 17 then Conflict else if n == 18 then UnknownCollection else if n == 19 then UnknownInstance else if n == 20 then UnknownLocation else
    if n == 21 then QueryNotOffered else if n == 22 then UnknownParameterName else if n == 23 then BadCrs else if n == 24 then NoLevels else
    if n == 25 then NoSamples else TooLarge

rank_back : (r : Refusal) → refusal_at (rank r) ≡ r
rank_back BadHead = refl
rank_back BodyNotAllowed = refl
rank_back BadHost = refl
rank_back VersionNotOffered = refl
rank_back MethodNotOffered = refl
rank_back NoSuchPage = refl
rank_back UnknownParameter = refl
rank_back RepeatedParameter = refl
rank_back BadFormat = refl
rank_back MissingParameter = refl
rank_back BadCoords = refl
rank_back WrongGeometry = refl
rank_back BadBbox = refl
rank_back BadDatetime = refl
rank_back BadLevel = refl
rank_back BadDistance = refl
rank_back Conflict = refl
rank_back UnknownCollection = refl
rank_back UnknownInstance = refl
rank_back UnknownLocation = refl
rank_back QueryNotOffered = refl
rank_back UnknownParameterName = refl
rank_back BadCrs = refl
rank_back NoLevels = refl
rank_back NoSamples = refl
rank_back TooLarge = refl

-- a number is one refusal's
pub rank_same : (a b : Refusal) → rank a ≡ rank b → a ≡ b
rank_same a b e = sym (rank_back a) ∙ ap refusal_at e ∙ rank_back b

-- one refusal is the least, and so there is one that is first, or none
pub least_once : (Applies : Refusal → Type 0) (one other : Refusal) → IsLeast rank Applies one → IsLeast rank Applies other → one ≡ other
least_once Applies one other x y = rank_same one other (least_rank rank Applies one other x y)

pub first_once : (Applies : Refusal → Type 0) (one other : Option Refusal) → IsLeastOrNone rank Applies one → IsLeastOrNone rank Applies other → one ≡ other
first_once Applies None None x y = refl
first_once Applies None (Some other) x y = absurd (x other y.applies)
first_once Applies (Some one) None x y = absurd (y one x.applies)
first_once Applies (Some one) (Some other) x y = ap Some (least_once Applies one other x y)
