-- Laws about local problems: LocalsSeeNoMore, LocalsAreOwn, NoneNegative, HasSameArcs, SummariesAgree, IsSamePart, AreSwept, SweepsAgree.
use Rattle.std.specs.Prelude.{◌≡◌, ℕ, ℤ, List, map, true, Option, is_some}
use Rattle.std.specs.List.{All}
use Rattle.stn_model.specs.ArcWalks.{NoNegative}
use Rattle.stn_model.specs.Net.{Net}
use Rattle.stn_model.specs.Valid.{IsNetwork}
use Rattle.stn_model.specs.Conflicts.{own_arcs, IsOwnConflict}
use Rattle.stn_model.specs.Kinds.{kind_of, is_private_of}
use Rattle.stn_model.specs.Summaries.{is_seen, IsSummary}
use Rattle.elim_step.specs.declared.summary.SummaryEntry.{SummaryEntry}
use Rattle.elim_step.specs.Summaries.{entry_of, is_summary}
use Rattle.private_elim.specs.Locals.{LocalView, points_of, numbered_own, local_of, all_numbered, arcs_in, is_private_in, is_seen_in}
use Rattle.private_elim.specs.ReducedViews.{ReducedView}
use Rattle.private_elim.specs.Parts.{HasPart, OfPart}
use Rattle.private_elim.specs.Backs.{IsPrivatePair, HoldsFinals, IsLeastIn}

-- two networks in which an agent has the same points, of the same kinds, and the same own arcs under the same numbers, have the same local
-- problem of that agent: nothing else of a network is in it
abbrev pub LocalsSeeNoMore : Type 0
LocalsSeeNoMore =
    (net other : Net) (agent : ℕ) → points_of net agent ≡ points_of other agent
    → All (λ p. kind_of net p ≡ kind_of other p) (points_of net agent)
    → numbered_own net agent ≡ numbered_own other agent
    → local_of net agent ≡ local_of other agent

-- each arc of an agent's local problem has a number, and without their numbers they are the agent's own arcs; its private points are the
-- agent's, and so are z and its shared points
abbrev pub LocalsAreOwn : Type 0
LocalsAreOwn =
    (net : Net) (agent : ℕ) → (all_numbered (local_of net agent).arcs ≡ true) × (arcs_in (local_of net agent) ≡ own_arcs net agent)
    × ((p : ℕ) → is_private_in (local_of net agent) p ≡ is_private_of net agent p) × ((p : ℕ) → is_seen_in (local_of net agent) p ≡ is_seen net agent p)

-- where an agent has no own conflict, no closed walk of its own arcs is negative whose points, but perhaps the one where it begins and ends, are
-- private points of the agent
abbrev pub NoneNegative : Type 0
NoneNegative =
    (net : Net) (agent : ℕ) → ((cycle : List ℕ) → IsOwnConflict net agent cycle → ⊥) → NoNegative (is_private_of net agent) (own_arcs net agent)

-- the same points of one agent, of the same kinds, and the same own arcs, whatever their numbers
pub record HasSameArcs (v w : LocalView) : Type 0 where
  pub agent : v.agent ≡ w.agent
  pub points : v.points ≡ w.points
  pub shared : v.shared ≡ w.shared
  pub arcs : arcs_in v ≡ arcs_in w

-- where some network has the part, two summaries of the same part are equal, in whatever order its private points were taken
abbrev pub SummariesAgree : Type 0
SummariesAgree =
    (v w : LocalView) (first second : List SummaryEntry) → HasSameArcs v w → is_summary first ≡ true → is_summary second ≡ true
    → OfPart v (λ net. IsSummary net v.agent (map entry_of first)) → OfPart w (λ net. IsSummary net w.agent (map entry_of second))
    → (net : Net) → IsNetwork net → HasPart net v → first ≡ second

-- the same points of one agent, of the same kinds, and the same own arcs, whatever their numbers, with the private points taken in the same order
pub record IsSamePart (r s : ReducedView) : Type 0 where
  pub agent : r.local.agent ≡ s.local.agent
  pub points : r.local.points ≡ s.local.points
  pub shared : r.local.shared ≡ s.local.shared
  pub arcs : arcs_in r.local ≡ arcs_in s.local
  pub order : r.order ≡ s.order

-- the bounds that a back sweep gives: only private pairs have one, and theirs are least wherever the agent has the part and `finals` are least bounds
pub record AreSwept (r : ReducedView) (finals : List SummaryEntry) (bounds : ℕ → ℕ → Option ℤ) : Type 0 where
  pub only : (i j : ℕ) → is_some (bounds i j) ≡ true → IsPrivatePair r i j
  pub least : OfPart r.local (λ net. HoldsFinals net r.local.agent finals → (i j : ℕ) → IsPrivatePair r i j → IsLeastIn net i j (bounds i j))

-- where some network has the part and `finals` are least bounds, back sweeps of the same part in the same order agree on every pair
abbrev pub SweepsAgree : Type 0
SweepsAgree =
    (r s : ReducedView) (finals : List SummaryEntry) (bounds others : ℕ → ℕ → Option ℤ) → IsSamePart r s
    → AreSwept r finals bounds → AreSwept s finals others
    → (net : Net) → IsNetwork net → HasPart net r.local → HoldsFinals net r.local.agent finals
    → (i j : ℕ) → bounds i j ≡ others i j
