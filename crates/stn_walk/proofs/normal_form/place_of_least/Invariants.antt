use Rattle.std.proofs.Common.{ℕ, ◌<◌, ◌≤◌, length, slice_index}
use Rattle.stn_walk.proofs.normal_form.place_of_least.Given as goal

abbrev pub invariant-loop-i : goal.invariant-loop-i
invariant-loop-i l = record {
  within : l.place < length l.numbers;
  least : (k : ℕ) → k < l.i → slice_index l.numbers l.place ≤ slice_index l.numbers k;
}
