use Rattle.std.specs.Prelude.{◌≡◌, ℕ, true, take}
use Rattle.stn_walk.specs.Eliminations.{is_in}
use Rattle.shared_graph.proofs.take.open_finals.Given as goal

abbrev pub invariant-loop-n : goal.invariant-loop-n
invariant-loop-n g l = record {
  places : g.R.Rows.places l.finals ≡ g.R.Rows.places l.fn.finals;
  cells : (p q : ℕ) → g.R.Rows.at l.finals p q ≡ g.R.Rows.at l.fn.finals p q;
  kept : (p q : ℕ) → g.R.Rows.has_room l.fn.finals p q ≡ true → g.R.Rows.has_room l.finals p q ≡ true;
  out : (m : ℕ) → is_in l.list m ≡ true → g.R.Rows.has_room l.finals l.place m ≡ true;
  back : (m : ℕ) → is_in (take l.n l.list) m ≡ true → g.R.Rows.has_room l.finals m l.place ≡ true;
}
