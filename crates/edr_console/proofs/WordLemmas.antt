-- What words ask for, by what the command's parse found.
use Rattle.std.proofs.Common.{◌≡◌, ◌≢◌, ◌⊎◌, ◌∙◌, ◌&&◌, ◌+◌, ◌<◌, ℕ, Bool, Bor, true, false, if◌then◌else◌, List, [], ◌∷◌, ◌++◌, length, take, map, get_or, refl, sym, ap, ap₂, subst, inl, inr}
use Rattle.std.specs.Prelude.{IsUtf8, IfOk, Result, Ok, Err}
use Rattle.std.proofs.lemmas.List.{map-append, take_more}
use Rattle.std.proofs.lemmas.List.Folds.{list_all_more}
use Rattle.std.proofs.lemmas.List.Sums.{AllPass-from_list_all}
use Rattle.std.proofs.lemmas.Str.{IsUtf8-from_is_utf8, is_utf8-from_IsUtf8}
use Rattle.std.specs.declared.option.Option.{Option}
use Rattle.std.specs.Prelude.{None}
use Rattle.std.specs.List.{list_all}
use Rattle.std.specs.Str.{is_utf8}
use Rattle.clap.specs.Words.{App, Row, Text, HasKind, IsAmong, kind_of, is_simple, is_simple_and_free, fault_of, matches_of, Kinds}
use Rattle.clap.specs.declared.error.Error.{Error}
use Rattle.clap.specs.declared.error.kind.ErrorKind.{ErrorKind}
use Rattle.clap.specs.declared.error.kind.ErrorKind.TheVariants as kinds
use Rattle.clap.specs.Words.{first_of, first_value, rows_of}
use Rattle.clap.specs.declared.parser.matches.Found.{Found}
use Rattle.clap.proofs.OnLiterals.{clap_on_literals}
use Rattle.clap.proofs.WalkLemmas.{first_value-rows}
use Rattle.edr_console.specs.Words.{command, settings_in, unless, asked_of, settings_by, all_words}
use Rattle.edr_console.specs.declared.words.Settings.{Settings}

command_is_simple : is_simple command ≡ true
unfolding clap_on_literals
command_is_simple = refl

command_is_free : is_simple_and_free command ≡ true
unfolding clap_on_literals
command_is_free = refl

pub simple : (app : App) → app ≡ command → is_simple app ≡ true
simple app same = rw same command_is_simple

pub free : (app : App) → app ≡ command → is_simple_and_free app ≡ true
free app same = rw same command_is_free

-- the command took the texts
taken_by : (app : App) (texts : List Text) (rows : List Row) → fault_of app texts ≡ [] → rows ≡ matches_of app texts → settings_in rows ≡ asked_of app texts
taken_by app texts rows none found = rw (none, found) refl

pub taken : (app : App) (texts : List Text) (rows : List Row) (settings : Option Settings) → app ≡ command → fault_of app texts ≡ []
    → rows ≡ matches_of app texts → settings ≡ settings_in rows → settings ≡ asked_of command texts
taken app texts rows settings same none found is = is ∙ subst (λ (a : App). settings_in rows ≡ asked_of a texts) same (taken_by app texts rows none found)

-- it didn't
none_unless : (kind : ErrorKind) (all : Kinds) (settings : Option Settings) → IsAmong kind all → None ≡ unless all settings
none_unless kind [] settings among = absurd among
none_unless kind (one ∷ all) settings among = refl

pub refused : (app : App) (texts : List Text) (kind : ErrorKind) → app ≡ command → kind ≢ kinds.OutOfMemory
    → (kind ≡ kinds.OutOfMemory) ⊎ IsAmong kind (fault_of app texts) → None ≡ asked_of command texts
refused app texts kind same other (inl memory) = absurd (other memory)
refused app texts kind same other (inr among) =
    subst (λ (a : App). None ≡ asked_of a texts) same (none_unless kind (fault_of app texts) (settings_in (matches_of app texts)) among)

pub refused_in : (app : App) (texts : List Text) (error : Error) {kind : ErrorKind} → app ≡ command → kind ≡ kind_of error → kind ≢ kinds.OutOfMemory
    → HasKind (fault_of app texts) error → None ≡ asked_of command texts
refused_in app texts error same is other has = refused app texts (kind_of error) same (λ e. other (is ∙ e)) has

-- texts of words that are UTF-8, or aren't
by_test : (words : List Text) (answer : Option Settings) → list_all is_utf8 words ≡ true → answer ≡ (if list_all is_utf8 words then answer else None)
by_test words answer all = rw all refl

pub of_texts : (words texts : List Text) (settings : Option Settings) → list_all is_utf8 words ≡ true → texts ≡ all_words words
    → settings ≡ asked_of command texts → settings ≡ settings_by words
of_texts words texts settings all same is =
    is ∙ subst (λ (t : List Text). asked_of command texts ≡ asked_of command t) same refl ∙ by_test words (asked_of command (all_words words)) all

pub of_texts_ok : {E : Type 0} (result : Result (Option Settings) E) (words texts : List Text) → list_all is_utf8 words ≡ true → texts ≡ all_words words
    → IfOk result (λ settings. settings ≡ asked_of command texts) → IfOk result (λ settings. settings ≡ settings_by words)
of_texts_ok (Ok settings) words texts all same is = of_texts words texts settings all same is
of_texts_ok (Err fault) words texts all same is = tt

pub not_utf8 : (words : List Text) → list_all is_utf8 words ≡ false → None ≡ settings_by words
not_utf8 words none = by_none (asked_of command (all_words words)) none
  where
    by_none : (answer : Option Settings) → list_all is_utf8 words ≡ false → None ≡ (if list_all is_utf8 words then answer else None)
    by_none answer none' = rw none' refl

-- ---- one word after another

pub utf8_more : (words : List Text) (i : ℕ) (d : Text) → i < length words → list_all is_utf8 (take i words) ≡ true → IsUtf8 (get_or words i d)
    → list_all is_utf8 (take (i + 1) words) ≡ true
utf8_more words i d within before one = list_all_more is_utf8 words i d within ∙ ap₂ (λ a b. a && b) before (is_utf8-from_IsUtf8 _ one)

pub texts_more : (words : List Text) (i : ℕ) (d : Text) (texts more : List (Bor Text)) (text : Bor Text) → i < length words
    → map (λ text. text.now) texts ≡ all_words (take i words) → more ≡ texts ++ text ∷ [] → text.now ≡ get_or words i d
    → map (λ text. text.now) more ≡ all_words (take (i + 1) words)
texts_more words i d texts more text within before is one =
    ap (map (λ (t : Bor Text). t.now)) is ∙ map-append (λ (t : Bor Text). t.now) texts (text ∷ [])
    ∙ ap₂ (λ (a : List Text) (b : Text). a ++ b ∷ []) before one ∙ ap all_words (sym (take_more words i d within))

pub utf8_none : (words : List Text) (i : ℕ) (d : Text) → i < length words → ¬ (IsUtf8 (get_or words i d)) → list_all is_utf8 words ≡ false
utf8_none words i d within none = decided (list_all is_utf8 words) refl
  where
    decided : (b : Bool) → list_all is_utf8 words ≡ b → list_all is_utf8 words ≡ false
    decided true e = absurd (none (IsUtf8-from_is_utf8 _ (AllPass-from_list_all is_utf8 words e i d within)))
    decided false e = e

-- ---- what was found

pub first_in : (f : Found) (id : Text) (value : Option Text) → value ≡ first_value f id → value ≡ first_of id (rows_of f)
first_in f id value is = is ∙ first_value-rows f id
