-- The lines of feeds as they are written: compact JSON, with the members of each object in ascending order of their keys.
use Rattle.std.specs.Prelude.{◌≡◌, ◌≢◌, ℕ, ◌≤◌, codes, List, [], ◌∷◌, ◌++◌, length, Contains, All, Ok, option_map}
use Rattle.std.specs.List.{flat_map}
use Rattle.serde_json.specs.Data.{Data, string, object, Members, no_members, member}
use Rattle.serde_json.specs.Written.{compact_text}
use Rattle.edr_base.specs.Limits.{line_limit, feed_limit}
use Rattle.edr_json.specs.Json.{IsJson}
use Rattle.covjson_value.specs.Trees.{coverage_data, member_if}
use Rattle.edr_draft.specs.declared.changes.Change.TheVariants.{Collection, Grid, Station, DropCollection, DropInstance, DropStation, Bare}
use Rattle.edr_feed.specs.declared.entries.Entry.{Entry}
use Rattle.edr_feed.specs.declared.entries.Entry.TheVariants.{Change, Publish}
use Rattle.edr_feed.specs.Forms.{HasForm, IsEntry, kind_word}
use Rattle.edr_feed.specs.Lines.{IsBlank}
use Rattle.edr_feed.specs.Steps.{Progress, at_start, EntryMakes}
use Rattle.edr_feed.specs.Feeds.{FeedStands, LeavesBehind}

-- an object of one member
abbrev pub just : List ℕ → Data → Data
just key value = object (member key value no_members)

-- a member that is a text, before others
abbrev pub text_member : List ℕ → List ℕ → Members → Members
text_member key text rest = member key (string text) rest

-- the tree of an entry
abbrev pub entry_data : Entry → Data
entry_data (Change (Collection id kind title crs vertical)) =
    just (codes "collection") (object (text_member (codes "crs") crs (text_member (codes "id") id (text_member (codes "kind") (kind_word kind)
    (text_member (codes "title") title (member_if (codes "vertical") (option_map string vertical) no_members))))))
entry_data (Change (Grid collection instance coverage)) =
    just (codes "grid") (object (text_member (codes "collection") collection (member (codes "coverage") (coverage_data coverage)
    (text_member (codes "instance") instance no_members))))
entry_data (Change (Station collection id label coverage)) =
    just (codes "station") (object (text_member (codes "collection") collection (member (codes "coverage") (coverage_data coverage)
    (text_member (codes "id") id (text_member (codes "label") label no_members)))))
entry_data (Change (DropCollection collection)) = just (codes "drop") (just (codes "collection") (string collection))
entry_data (Change (DropInstance collection instance)) =
    just (codes "drop") (object (text_member (codes "collection") collection (text_member (codes "instance") instance no_members)))
entry_data (Change (DropStation collection id)) =
    just (codes "drop") (object (text_member (codes "collection") collection (text_member (codes "station") id no_members)))
entry_data (Change (Bare coverage)) = coverage_data coverage
entry_data Publish = just (codes "publish") (object no_members)

-- its text, and its line with the line feed
abbrev pub entry_text : Entry → List ℕ
entry_text entry = compact_text (entry_data entry)

abbrev pub entry_line : Entry → List ℕ
entry_line entry = entry_text entry ++ 10 ∷ []

-- a feed of entries
abbrev pub entries_text : List Entry → List ℕ
entries_text entries = flat_map entry_line entries

-- the text is within the limit of a line
abbrev pub IsShort : Entry → Type 0
IsShort entry = length (entry_text entry) ≤ line_limit

-- entries lead from one state to another, one after the other
abbrev pub EntriesMake : List Entry → Progress → Progress → Type 0
EntriesMake [] old new = new ≡ old
EntriesMake (entry ∷ entries) old new = (next : Progress) × EntryMakes old entry next × EntriesMake entries next new

-- ---- laws

-- a text is one line that isn't blank, and is JSON of the tree of an entry, which stands for that entry
pub record IsLineOf (entry : Entry) (text : List ℕ) : Type 0 where
  pub one_line : ¬ (Contains text 10)
  pub filled : ¬ (IsBlank text)
  pub is_json : IsJson text (entry_data entry)
  pub stands : HasForm (entry_data entry) entry

-- the text of an entry is such a line
abbrev pub WrittenLinesAreRead : Type 0
WrittenLinesAreRead = (entry : Entry) → IsEntry entry → IsLineOf entry (entry_text entry)

-- a feed within the limits, of entries that publish editions, is a feed of these editions, and leaves what stands behind the last
-- publish
abbrev pub WrittenFeedsAreRead : Type 0
WrittenFeedsAreRead =
    (entries : List Entry) (now : Progress) → All IsEntry entries → All IsShort entries → length (entries_text entries) ≤ feed_limit
    → EntriesMake entries at_start now → now.editions ≢ []
    → FeedStands (entries_text entries) (Ok now.editions) × LeavesBehind (entries_text entries) now.behind
