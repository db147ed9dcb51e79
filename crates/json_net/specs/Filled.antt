-- How a path is kept: its steps, and fillers after them: filled, IsPath, fields_back.
use Rattle.std.specs.Prelude.{◌≡◌, ◌-◌, ◌≤◌, ◌++◌, ℕ, List, length, take, replicate}
use Rattle.std.proofs.Common.{sym, subst, length-take-le}
use Rattle.json_net.specs.declared.path.Step.{Step}
use Rattle.json_net.specs.declared.path.Step.TheVariants.{Item}
use Rattle.json_net.specs.declared.path.Path.TheInside.{Inside}
use Rattle.json_net.specs.Paths.{longest_path}

-- the steps with fillers after them
abbrev pub filled : List Step → List Step
filled xs = xs ++ replicate (longest_path - length xs) (Item 0)

-- so many steps, and fillers after them
pub record IsPath (p : Inside) : Type 0 where
  pub count : p.count ≤ longest_path
  pub room : length p.steps ≡ longest_path
  pub filled : p.steps ≡ filled (take p.count p.steps)

-- a path's fields are those of its steps
pub fields_back : (p : Inside) → IsPath p → record { steps = filled (take p.count p.steps); count = length (take p.count p.steps) } ≡ p
fields_back p h i = record {
  steps = sym h.filled i;
  count = length-take-le p.count p.steps (subst (λ (n : ℕ). p.count ≤ n) (sym h.room) h.count) i;
}
