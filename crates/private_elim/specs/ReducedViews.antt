-- What contracts see of a reduced local problem: ReducedView, first_there, weight_between, IsWeightBetween, IsReduced.
use Rattle.std.specs.Prelude.{◌≡◌, ◌≢◌, ◌⊎◌, ℕ, ℤ, List, true, ◌==◌, Option, Some, None, map, reverse, if◌then◌else◌}
use Rattle.std.specs.List.{AllByRecursion}
use Rattle.stn_model.specs.Net.{Net}
use Rattle.stn_model.specs.Valid.{IsNetwork}
use Rattle.stn_model.specs.Summaries.{IsSummary}
use Rattle.stn_model.specs.ArcWalks.{NoNegative}
use Rattle.stn_model.specs.Inner.{IsInnerWeight}
use Rattle.stn_model.specs.Walks.{AllDifferent}
use Rattle.stn_walk.specs.Eliminations.{is_in, before_both}
use Rattle.elim_step.specs.declared.summary.SummaryEntry.{SummaryEntry}
use Rattle.elim_step.specs.Summaries.{entry_of, entry_in}
use Rattle.elim_step.specs.Eliminated.{forward_of}
use Rattle.private_elim.specs.Locals.{LocalView, IsLocal, local_of, arcs_in, all_numbered, is_private_in}
use Rattle.private_elim.specs.Parts.{OfPart}
use Rattle.private_elim.specs.Taken.{NoneFails}

-- a local problem, the order in which its private points were taken, and its summary
pub record ReducedView : Type 0 where
  pub local : LocalView
  pub order : List ℕ
  pub summary : List SummaryEntry

-- the first of two that is there
abbrev pub first_there : Option ℤ → Option ℤ → Option ℤ
first_there None o = o
first_there (Some w) o = Some w

-- the weight of a pair's entry, and of its forward weight where it has no entry
abbrev pub weight_between : ReducedView → ℕ → ℕ → Option ℤ
weight_between r i j = first_there (entry_in r.summary i j) (if i == j then None else forward_of (arcs_in r.local) (reverse r.order) i j)

-- w is the weight of the pair's entry; or it has none, and w is the least weight of walks of own arcs from i to j whose inner points are
-- private and come before both
abbrev pub IsWeightBetween : ReducedView → ℕ → ℕ → ℤ → Type 0
IsWeightBetween r i j w =
    (entry_in r.summary i j ≡ Some w)
    ⊎ ((entry_in r.summary i j ≡ None) × (i ≢ j) × IsInnerWeight (is_in (before_both (reverse r.order) i j)) (arcs_in r.local) i j (Some w))

-- The order holds each private point once and nothing else, and no point of it failed; no closed walk through private points is negative. The summary
-- is that of the agent in every network in which it has this part, so also in each whose local problem it is.
pub record IsReduced (local : LocalView) (order : List ℕ) (summary : List SummaryEntry) : Type 0 where
  pub known : IsLocal local
  pub numbered : all_numbered local.arcs ≡ true
  pub private : AllByRecursion (λ p. is_private_in local p ≡ true) order
  pub once : AllDifferent order
  pub whole : (p : ℕ) → is_private_in local p ≡ true → is_in (reverse order) p ≡ true
  pub clear : NoneFails local (reverse order)
  pub none_below : NoNegative (is_private_in local) (arcs_in local)
  pub part_sums_up : OfPart local (λ net. IsSummary net local.agent (map entry_of summary))
  pub sums_up : (net : Net) → IsNetwork net → local ≡ local_of net local.agent → IsSummary net local.agent (map entry_of summary)
