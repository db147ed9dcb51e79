-- The lines so far, and those of the entries that are left, are the lines of all.
use Rattle.std.proofs.Common.{◌≡◌, ◌++◌, drop}
use Rattle.net_text.specs.Plain.{HasFront}
use Rattle.elim_journal.specs.Lines.{entry_lines}
use Rattle.elim_journal.proofs.print.add_entries.Given as goal

abbrev pub invariant-loop-entry : goal.invariant-loop-entry
invariant-loop-entry l = record {
  lines : l.out.items ++ entry_lines l.net (drop l.entry-index l.entries) ≡ l.fn.out.items ++ entry_lines l.net l.entries;
  kept : HasFront l.fn.out.items l.out.items;
}
