use Rattle.std.proofs.Common.{◌≡◌, ◌++◌, drop}
use Rattle.private_elim.specs.Locals.{window_arcs}
use Rattle.private_elim.proofs.local.add_windows.Given as goal

abbrev pub invariant-loop-window : goal.invariant-loop-window
invariant-loop-window l = l.arcs.items ++ window_arcs (drop l.window-index l.windows) ≡ l.initial.arcs.items ++ window_arcs l.windows
