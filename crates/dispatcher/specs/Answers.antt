-- What a choice answers: AnswersChoice.
use Rattle.std.specs.Prelude.{◌≡◌, ℕ, ℤ, ◌≤ℤ◌, List, set, Option, Some}
use Rattle.stn_model.specs.declared.ids.Constraint.{Constraint}
use Rattle.dispatcher.specs.declared.plan.Chosen.{Chosen}
use Rattle.dispatcher.specs.declared.plan.Chosen.TheVariants.{Outside, Set}
use Rattle.dispatcher.specs.Choices.{HasWindow, LiesWithin}

-- Outside with the window where the time is not in it, and then no choice changes; else the point has that time, and no other choice changes
abbrev pub AnswersChoice : List Constraint → List (Option ℤ) → ℕ → ℤ → List (Option ℤ) → Chosen → Type 0
AnswersChoice arcs choices p t next (Outside lo hi) = HasWindow arcs choices p lo hi × (lo ≤ℤ t → t ≤ℤ hi → ⊥) × (next ≡ choices)
AnswersChoice arcs choices p t next Set = LiesWithin arcs choices p t × (next ≡ set choices p (Some t))
