-- Whether the kind of a collection is the wanted one.
use Rattle.std.proofs.Common.{◌≡◌, ◌≢◌, Bool, true, false, not, sym}
use denote.Enum.Bare.{sameb}
use Rattle.edr_edition.specs.declared.kinds.Kind.{Kind}
use Rattle.edr_edition.specs.declared.kinds.Kind.TheVariants.{Grid, Station}
use Rattle.edr_edition.specs.contracts.kinds.Kind.{the_type}

pub kind_differs : (k kind wanted : Kind) (b : Bool) → k ≡ kind → b ≡ not (sameb the_type k wanted) → b ≡ true → kind ≢ wanted
kind_differs Grid kind Grid b same is h = cc
kind_differs Grid kind Station b same is h = λ own. cc
kind_differs Station kind Grid b same is h = λ own. cc
kind_differs Station kind Station b same is h = cc

pub kind_is : (k kind wanted : Kind) (b : Bool) → k ≡ kind → b ≡ not (sameb the_type k wanted) → b ≡ false → kind ≡ wanted
kind_is Grid kind Grid b same is h = sym same
kind_is Grid kind Station b same is h = cc
kind_is Station kind Grid b same is h = cc
kind_is Station kind Station b same is h = sym same
