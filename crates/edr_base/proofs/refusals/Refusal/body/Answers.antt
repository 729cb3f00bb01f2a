use Rattle.std.proofs.Common.{rules}
use Rattle.std.specs.Fmt.{digits}
use Rattle.edr_base.proofs.refusals.Refusal.body.Goals as goal

pub returns-in-BadHead : goal.returns-in-BadHead
unfolding digits
returns-in-BadHead c = search rules

pub returns-in-BodyNotAllowed : goal.returns-in-BodyNotAllowed
unfolding digits
returns-in-BodyNotAllowed c = search rules

pub returns-in-BadHost : goal.returns-in-BadHost
unfolding digits
returns-in-BadHost c = search rules

pub returns-in-VersionNotOffered : goal.returns-in-VersionNotOffered
unfolding digits
returns-in-VersionNotOffered c = search rules

pub returns-in-MethodNotOffered : goal.returns-in-MethodNotOffered
unfolding digits
returns-in-MethodNotOffered c = search rules

pub returns-in-NoSuchPage : goal.returns-in-NoSuchPage
unfolding digits
returns-in-NoSuchPage c = search rules

pub returns-in-UnknownParameter : goal.returns-in-UnknownParameter
unfolding digits
returns-in-UnknownParameter c = search rules

pub returns-in-RepeatedParameter : goal.returns-in-RepeatedParameter
unfolding digits
returns-in-RepeatedParameter c = search rules

pub returns-in-BadFormat : goal.returns-in-BadFormat
unfolding digits
returns-in-BadFormat c = search rules

pub returns-in-MissingParameter : goal.returns-in-MissingParameter
unfolding digits
returns-in-MissingParameter c = search rules

pub returns-in-BadCoords : goal.returns-in-BadCoords
unfolding digits
returns-in-BadCoords c = search rules

pub returns-in-WrongGeometry : goal.returns-in-WrongGeometry
unfolding digits
returns-in-WrongGeometry c = search rules

pub returns-in-BadBbox : goal.returns-in-BadBbox
unfolding digits
returns-in-BadBbox c = search rules

pub returns-in-BadDatetime : goal.returns-in-BadDatetime
unfolding digits
returns-in-BadDatetime c = search rules

pub returns-in-BadLevel : goal.returns-in-BadLevel
unfolding digits
returns-in-BadLevel c = search rules

pub returns-in-BadDistance : goal.returns-in-BadDistance
unfolding digits
returns-in-BadDistance c = search rules

pub returns-in-Conflict : goal.returns-in-Conflict
unfolding digits
returns-in-Conflict c = search rules

pub returns-in-UnknownCollection : goal.returns-in-UnknownCollection
unfolding digits
returns-in-UnknownCollection c = search rules

pub returns-in-UnknownInstance : goal.returns-in-UnknownInstance
unfolding digits
returns-in-UnknownInstance c = search rules

pub returns-in-UnknownLocation : goal.returns-in-UnknownLocation
unfolding digits
returns-in-UnknownLocation c = search rules

pub returns-in-QueryNotOffered : goal.returns-in-QueryNotOffered
unfolding digits
returns-in-QueryNotOffered c = search rules

pub returns-in-UnknownParameterName : goal.returns-in-UnknownParameterName
unfolding digits
returns-in-UnknownParameterName c = search rules

pub returns-in-BadCrs : goal.returns-in-BadCrs
unfolding digits
returns-in-BadCrs c = search rules

pub returns-in-NoLevels : goal.returns-in-NoLevels
unfolding digits
returns-in-NoLevels c = search rules

pub returns-in-NoSamples : goal.returns-in-NoSamples
unfolding digits
returns-in-NoSamples c = search rules

pub returns-in-TooLarge : goal.returns-in-TooLarge
unfolding digits
returns-in-TooLarge c = search rules
