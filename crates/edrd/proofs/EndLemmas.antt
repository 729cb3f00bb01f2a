-- How a run ends, from what became of its parts.
use Rattle.std.proofs.Common.{◌≡◌, ◌∙◌, ◌⊎◌, ◌+◌, ℕ, List, [], ◌∷◌, ◌++◌, take, refl, sym, ap, subst, inl, inr, append-nil}
use Rattle.std.specs.declared.option.Option.{Option}
use Rattle.std.specs.Prelude.{Ok, None, Some}
use Rattle.edr_base.specs.Outside.{Aside}
use Rattle.edr_edition.specs.Values.{EditionValue}
use Rattle.edr_feed.specs.Feeds.{FeedStandsIn, LeavesBehindIn}
use Rattle.edrd.specs.Ends.{Moment, GateState, DoorsState, AreServed, served_of, HasCause, EndsBy, AsksFeed, ReadsFeed}
use Rattle.edrd.specs.Feeding.{IsCause}
use Rattle.edr_console.specs.Saying.{serving_lines, bind_line}
use Rattle.edr_console.specs.Settled.{TakesMemory}
use Rattle.edrd.specs.Shelving.{ServeCause, fault_lines}
use Rattle.edr_console.specs.declared.words.Settings.{Settings}
use Rattle.edr_console.specs.declared.words.Asked.{Asked}
use Rattle.edr_console.specs.declared.words.Asked.TheVariants.{Nothing, Help, Version, Serve}
use Rattle.edrd.specs.declared.endings.Ending.{Ending}
use Rattle.edrd.specs.declared.endings.Ending.TheVariants.{Done, Usage, NotFeed, ReadFault, OutOfMemory, OpenFault, BindFault, ShelfFault}

-- ---- want of memory, whatever the words ask for

pub memory_ends : (asked : Asked) (before after : Moment) (gate : GateState) (ended : Option GateState) → TakesMemory asked
    → EndsBy OutOfMemory asked before after gate ended []
memory_ends Nothing before after gate ended takes = (inr refl, refl)
memory_ends Help before after gate ended takes = absurd takes
memory_ends Version before after gate ended takes = absurd takes
memory_ends (Serve settings) before after gate ended takes = inl refl

pub memory_asks : {F : Type 0} (aside : F → Aside) (asked : Asked) (files : F) → AsksFeed aside asked 5 files files
memory_asks aside Nothing files = refl
memory_asks aside Help files = refl
memory_asks aside Version files = refl
memory_asks aside (Serve settings) files = inr (refl, refl)

pub memory_reads : {F : Type 0} (aside : F → Aside) (left : F → Option (List ℕ)) (asked : Asked) (files : F) → ReadsFeed aside left asked 5 files files
memory_reads aside left Nothing files = tt
memory_reads aside left Help files = tt
memory_reads aside left Version files = tt
memory_reads aside left (Serve settings) files = inr (refl, refl)

-- ---- what the words ask for

pub asked_is : (ending : Ending) (one asked : Asked) (before after : Moment) (gate : GateState) (ended : Option GateState) (lines : List (List ℕ)) → one ≡ asked
    → EndsBy ending one before after gate ended lines → EndsBy ending asked before after gate ended lines
asked_is ending one asked before after gate ended lines same ends = subst (λ (a : Asked). EndsBy ending a before after gate ended lines) same ends

-- ---- no editions

pub not_read : (ending : Ending) (settings : Settings) (before after : Moment) (gate : GateState) (ended : Option GateState)
    → IsCause ending (before.files.content settings.feed) before.file_faults after.file_faults after.files.idle
    → HasCause ending settings before after gate ended (fault_lines ending settings)
not_read Done settings before after gate ended cause = absurd cause
not_read Usage settings before after gate ended cause = cause
not_read (NotFeed refusal) settings before after gate ended cause = (cause, refl)
not_read ReadFault settings before after gate ended cause = (cause.0, cause.1, refl)
not_read OutOfMemory settings before after gate ended cause = inl refl
not_read OpenFault settings before after gate ended cause = (cause.0, cause.1, refl)
not_read BindFault settings before after gate ended cause = absurd cause
not_read ShelfFault settings before after gate ended cause = absurd cause

-- ---- serving

-- the gate paused first, which granted nothing
pub serve_paused : (ending : Ending) (settings : Settings) (before after : DoorsState) (places places' any : ℕ) (editions editions' : List EditionValue) (behind : ℕ)
    (gate paused : GateState) (ended : Option GateState) (lines : List (List ℕ)) → paused ≡ record gate { seconds = settings.every } → editions ≡ editions'
    → (ending ≡ Done) ⊎ (ending ≡ BindFault) ⊎ (ending ≡ OutOfMemory)
    → ServeCause ending settings before after any any editions behind paused ended lines
    → ServeCause ending settings before after places places' editions' behind gate ended lines
serve_paused Done settings before after places places' any editions editions' behind gate paused None lines same left came cause = cause
serve_paused Done settings before after places places' any editions editions' behind gate paused (Some ended) lines same left came cause =
    let served = subst (λ (all : List EditionValue). AreServed all behind settings before after paused ended lines) left cause in
    record {
      opened = served.opened;
      once = served.once;
      closed = served.closed;
      every = served.every;
      published = served.published;
      granted = served.granted ∙ ap (λ (g : GateState). g.granted + served.published) same;
      whole = served.whole;
      said = served.said;
    }
serve_paused Usage settings before after places places' any editions editions' behind gate paused ended lines same left came cause = cause
serve_paused (NotFeed refusal) settings before after places places' any editions editions' behind gate paused ended lines same left came cause = cause
serve_paused ReadFault settings before after places places' any editions editions' behind gate paused ended lines same left came cause = cause
serve_paused OutOfMemory settings before after places places' any editions editions' behind gate paused ended lines same left came (inl none) = inl none
serve_paused OutOfMemory settings before after places places' any editions editions' behind gate paused ended lines same left came (inr some) =
    inr (some.0, some.1 ∙ ap (λ (all : List EditionValue). serving_lines after.port behind (take some.0 all)) left)
serve_paused OpenFault settings before after places places' any editions editions' behind gate paused ended lines same left came cause = cause
serve_paused BindFault settings before after places places' any editions editions' behind gate paused ended lines same left came cause =
    (cause.0, cause.1, cause.2, cause.3 ∙ ap (λ (g : GateState). Some (record g { seconds = settings.every })) same, cause.4)
serve_paused ShelfFault settings before after places places' any editions editions' behind gate paused ended lines same left (inl e) cause = absurd cc
serve_paused ShelfFault settings before after places places' any editions editions' behind gate paused ended lines same left (inr (inl e)) cause = absurd cc
serve_paused ShelfFault settings before after places places' any editions editions' behind gate paused ended lines same left (inr (inr e)) cause = absurd cc

-- the feed was read before, and then it is said what couldn't be bound
pub served : (ending : Ending) (settings : Settings) (before after : Moment) (gate : GateState) (ended : Option GateState) (editions : List EditionValue) (behind : ℕ)
    (lines : List (List ℕ)) → FeedStandsIn (before.files.content settings.feed) (Ok editions) → LeavesBehindIn (before.files.content settings.feed) behind
    → ServeCause ending settings before.doors after.doors before.places after.places (served_of settings.last editions) behind gate ended lines
    → HasCause ending settings before after gate ended (lines ++ fault_lines ending settings)
served Done settings before after gate None editions behind lines feed left cause = cause
served Done settings before after gate (Some ended) editions behind lines feed left cause = record {
  editions = editions;
  behind = behind;
  feed = feed;
  left = left;
  served = subst (AreServed (served_of settings.last editions) behind settings before.doors after.doors gate ended) (sym (append-nil lines)) cause;
}
served Usage settings before after gate ended editions behind lines feed left cause = cause
served (NotFeed refusal) settings before after gate ended editions behind lines feed left cause = absurd cause
served ReadFault settings before after gate ended editions behind lines feed left cause = absurd cause
served OutOfMemory settings before after gate ended editions behind lines feed left (inl none) = inl (append-nil lines ∙ none)
served OutOfMemory settings before after gate ended editions behind lines feed left (inr some) =
    inr (record { editions = editions; behind = behind; feed = feed; left = left; published = some.0; said = append-nil lines ∙ some.1 })
served OpenFault settings before after gate ended editions behind lines feed left cause = absurd cause
served BindFault settings before after gate ended editions behind lines feed left cause =
    (cause.0, cause.1, cause.2, ap (λ (l : List (List ℕ)). l ++ bind_line settings.port ∷ []) cause.4)
served ShelfFault settings before after gate ended editions behind lines feed left cause = (cause.0, append-nil lines ∙ cause.2)
