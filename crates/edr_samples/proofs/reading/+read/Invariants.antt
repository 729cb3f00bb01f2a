use Rattle.std.proofs.Common.{◌≡◌, ℕ, ◌+◌, ◌*◌, ◌<◌, ◌≤◌, ◌∷◌, length, map}
use Rattle.json.specs.Json.{items, members, value, parse_map}
use Rattle.json.specs.Reads.{token_of}
use Rattle.serde_json.specs.Data.{no_members}
use Rattle.serde_json.specs.Read.{of_items, of_members, converted}
use Rattle.edr_samples.specs.Tokens.{sample_data}
use Rattle.edr_samples.specs.Trees.{tree_view, members_view}
use Rattle.edr_samples.specs.Turns.{items_onto}
use Rattle.edr_samples.proofs.reading.+read.Given as goal

abbrev pub decreases-tree_from : goal.decreases-tree_from
decreases-tree_from l = 4 * l.depth

abbrev pub decreases-next_tree : goal.decreases-next_tree
decreases-next_tree l = 4 * l.depth + 1

abbrev pub decreases-first_from : goal.decreases-first_from
decreases-first_from l = 4 * l.depth + 1

abbrev pub decreases-mixed_from : goal.decreases-mixed_from
decreases-mixed_from l = 4 * l.depth + 2

abbrev pub decreases-list_from : goal.decreases-list_from
decreases-list_from l = 4 * l.depth + 3

abbrev pub decreases-members_from : goal.decreases-members_from
decreases-members_from l = 4 * l.depth + 2

abbrev pub invariant-list_from-samples : goal.invariant-list_from-samples
invariant-list_from-samples l =
    (n : ℕ) × (length l.reader ≤ n)
    × (converted of_items (items (value l.depth) (length l.initial.reader) l.initial.reader)
    ≡ parse_map (items_onto (map sample_data l.samples)) (converted of_items (items (value l.depth) n l.reader)))
    × (length l.reader ≤ length l.initial.reader)

abbrev pub decreases-list_from-samples : goal.decreases-list_from-samples
decreases-list_from-samples l = length l.reader

-- whatever the count of turns, that of what was left at the start is enough
abbrev pub invariant-mixed_from-items : goal.invariant-mixed_from-items
invariant-mixed_from-items l =
    (length l.reader ≤ length l.fn.reader)
    × ((n : ℕ) → length l.fn.reader < n → (m : ℕ) × (length l.reader ≤ m)
    × (parse_map (items_onto (map sample_data l.fn.samples)) (converted of_items (items (value l.depth) n (token_of l.fn.token ∷ l.fn.reader)))
    ≡ parse_map (items_onto (map tree_view l.found.items)) (converted of_items (items (value l.depth) m l.reader))))

abbrev pub decreases-mixed_from-items : goal.decreases-mixed_from-items
decreases-mixed_from-items l = length l.reader

abbrev pub invariant-members_from-members : goal.invariant-members_from-members
invariant-members_from-members l =
    (n : ℕ) × (length l.reader ≤ n)
    × (converted (λ ms. of_members ms no_members) (members (value l.depth) (length l.initial.reader) l.initial.reader) ≡ converted (λ ms. of_members ms (members_view l.found.entries)) (members (value l.depth) n l.reader))
    × (length l.reader ≤ length l.initial.reader)

abbrev pub decreases-members_from-members : goal.decreases-members_from-members
decreases-members_from-members l = length l.reader
