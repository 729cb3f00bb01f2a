use Rattle.std.proofs.Common.{◌≡◌, ℕ, ◌<◌, false, length, get_or, take}
use Rattle.edr_lines.proofs.AskedAxes.{is_among}
use Rattle.edr_lines.proofs.corridors.are_among.Given as goal

abbrev pub invariant-loop-place : goal.invariant-loop-place
invariant-loop-place l = record {
  long : length l.among.items ≡ l.count;
  set : (k : ℕ) → k < l.count → get_or l.among.items k false ≡ is_among (take l.place-index l.places) k;
}
