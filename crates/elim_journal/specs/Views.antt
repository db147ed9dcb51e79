-- How the fields of a section are seen, and what is true of them: section_view, IsSolve.
use Rattle.std.specs.Prelude.{◌≡◌, true}
use Rattle.elim_journal.specs.declared.section.Section.TheInside.{Inside}
use Rattle.elim_journal.specs.Sections.{SectionView, are_solving}

-- what contracts see of the fields
abbrev pub section_view : Inside → SectionView
section_view s = record { private = s.private.items; entries = s.entries.items }

-- each entry is one of a solve
abbrev pub IsSolve : Inside → Type 0
IsSolve s = are_solving (section_view s).entries ≡ true
