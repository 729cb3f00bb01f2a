-- How a run ends that came to the shelf of some editions; for private clauses.
use Rattle.std.specs.Prelude.{◌≡◌, ◌⊎◌, ℕ, List, [], ◌∷◌, take, false, Some, IsSomeAnd}
use Rattle.std.specs.declared.option.Option.{Option}
use Rattle.edr_base.specs.Outside.{Rose}
use Rattle.edr_edition.specs.Values.{EditionValue}
use Rattle.edr_console.specs.declared.words.Settings.{Settings}
use Rattle.edrd.specs.declared.endings.Ending.{Ending}
use Rattle.edrd.specs.declared.endings.Ending.TheVariants.{Done, OutOfMemory, OpenFault, BindFault, ShelfFault}
use Rattle.edrd.specs.Ends.{AreServed, DoorsState, GateState, doors_asked}
use Rattle.edr_console.specs.Saying.{serving_lines, open_line, bind_line}

-- a log is of one edition, which has this number
abbrev pub IsFirst : ℕ → List EditionValue → Type 0
IsFirst number log = (first : EditionValue) × (log ≡ first ∷ []) × (first.number ≡ number)

-- what is said of a file that can't be opened, or of a port that can't be bound
abbrev pub fault_lines : Ending → Settings → List (List ℕ)
fault_lines OpenFault settings = open_line settings.feed ∷ []
fault_lines BindFault settings = bind_line settings.port ∷ []
fault_lines ending settings = []

-- the cause of an ending: the doors were opened and are closed, a count rose, or memory was wanting; and the lines that are said
abbrev pub ServeCause : Ending → Settings → DoorsState → DoorsState → ℕ → ℕ → List EditionValue → ℕ → GateState → Option GateState → List (List ℕ) → Type 0
ServeCause Done settings before after places places' editions behind gate ended lines =
    IsSomeAnd ended (λ ended. AreServed editions behind settings before after gate ended lines)
ServeCause OutOfMemory settings before after places places' editions behind gate ended lines =
    (lines ≡ []) ⊎ ((published : ℕ) × (lines ≡ serving_lines after.port behind (take published editions)))
ServeCause BindFault settings before after places places' editions behind gate ended lines =
    Rose before.faults after.faults × (after.tried ≡ Some (doors_asked settings, false)) × (after.opens ≡ before.opens)
    × (ended ≡ Some (record gate { seconds = settings.every })) × (lines ≡ [])
ServeCause ShelfFault settings before after places places' editions behind gate ended lines =
    Rose places places' × (ended ≡ Some gate) × (lines ≡ [])
ServeCause ending settings before after places places' editions behind gate ended lines = ⊥
