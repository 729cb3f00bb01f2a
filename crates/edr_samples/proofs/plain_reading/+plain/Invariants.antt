use Rattle.std.proofs.Common.{◌≡◌, ℕ, ◌+◌, ◌*◌, ◌≤◌, length, map}
use Rattle.json.specs.Json.{parse_map}
use Rattle.serde_json.specs.Data.{no_members}
use Rattle.serde_json.specs.Read.{of_members, converted}
use Rattle.json.specs.Json.{members, value}
use Rattle.edr_samples.specs.Tokens.{sample_data}
use Rattle.edr_samples.specs.Trees.{tree_view, members_view}
use Rattle.edr_samples.specs.Turns.{items_onto, items_from}
use Rattle.edr_samples.proofs.plain_reading.+plain.Given as goal

abbrev pub decreases-next_tree : goal.decreases-next_tree
decreases-next_tree l = 3 * l.depth

abbrev pub decreases-mixed_from : goal.decreases-mixed_from
decreases-mixed_from l = 3 * l.depth + 1

abbrev pub decreases-list_from : goal.decreases-list_from
decreases-list_from l = 3 * l.depth + 2

abbrev pub decreases-members_from : goal.decreases-members_from
decreases-members_from l = 3 * l.depth + 1

abbrev pub invariant-list_from-samples : goal.invariant-list_from-samples
invariant-list_from-samples l =
    (n : ℕ) × (length l.plain ≤ n)
    × (items_from l.depth (length l.initial.plain) l.initial.plain ≡ parse_map (items_onto (map sample_data l.samples)) (items_from l.depth n l.plain))
    × (length l.plain ≤ length l.initial.plain)

abbrev pub decreases-list_from-samples : goal.decreases-list_from-samples
decreases-list_from-samples l = length l.plain

-- whatever the count of turns, that of what was left at the start is enough
abbrev pub invariant-mixed_from-items : goal.invariant-mixed_from-items
invariant-mixed_from-items l =
    (length l.plain ≤ length l.fn.plain)
    × ((n : ℕ) → length l.fn.plain ≤ n → (m : ℕ) × (length l.plain ≤ m)
    × (parse_map (items_onto (map sample_data l.fn.samples)) (items_from l.depth n l.fn.plain)
    ≡ parse_map (items_onto (map tree_view l.found.items)) (items_from l.depth m l.plain)))

abbrev pub decreases-mixed_from-items : goal.decreases-mixed_from-items
decreases-mixed_from-items l = length l.plain

abbrev pub invariant-members_from-members : goal.invariant-members_from-members
invariant-members_from-members l =
    (n : ℕ) × (length l.plain ≤ n)
    × (converted (λ ms. of_members ms no_members) (members (value l.depth) (length l.initial.plain) l.initial.plain) ≡ converted (λ ms. of_members ms (members_view l.found.entries)) (members (value l.depth) n l.plain))
    × (length l.plain ≤ length l.initial.plain)

abbrev pub decreases-members_from-members : goal.decreases-members_from-members
decreases-members_from-members l = length l.plain
