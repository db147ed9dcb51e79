-- What the answers of an elimination say, sentence by sentence.
use Rattle.std.proofs.Common.{◌≡◌, ℕ, ◌<◌, List, true, false, ap, sym, ◌∙◌, refl, subst, map, length, take}
use Rattle.std.specs.Prelude.{reverse, slice_index, ◌↔◌}
use Rattle.std.specs.List.{AllByRecursion}
use Rattle.stn_model.specs.Walks.{AllDifferent, IsNormal}
use Rattle.stn_model.specs.Conflicts.{IsOwnConflict}
use Rattle.stn_model.specs.Summaries.{IsSummary}
use Rattle.stn_walk.specs.Eliminations.{is_in}
use Rattle.stn_walk.proofs.Joins.{is_in-reverse}
use Rattle.private_elim.specs.declared.outcome.PrivateOutcome.{PrivateOutcome}
use Rattle.private_elim.specs.declared.outcome.PrivateOutcome.TheVariants.{Reduced, Conflict}
use Rattle.private_elim.specs.Locals.{LocalView, is_private_in, local_of}
use Rattle.private_elim.specs.Taken.{StopsAt}
use Rattle.private_elim.specs.Picked.{ArePicked, IsStopped}
use Rattle.elim_step.specs.Summaries.{entry_of}
use Rattle.private_elim.specs.ReducedViews.{ReducedView}
use Rattle.private_elim.specs.Reductions.{OfNetwork, HasOwnConflict, is_conflict, IfReduced, IfConflict}
use Rattle.private_elim.specs.Outcomes.{IsReducedWith, IsConflictWith, IsPickedOutcome, IsListedOutcome}

-- the summary that is kept is that of the agent
sums_up : (v : LocalView) (order : List ℕ) (r : ReducedView) → IsReducedWith v order r → OfNetwork v (λ net. IsSummary net v.agent (map entry_of r.summary))
sums_up v order r h net valid e =
    subst (λ (w : LocalView). IsSummary net w.agent (map entry_of r.summary)) h.local
    (h.reduced.sums_up net valid (h.local ∙ e ∙ ap (λ (w : LocalView). local_of net w.agent) (sym h.local)))

-- either way
abbrev IsSound : LocalView → PrivateOutcome → Type 0
IsSound v (Reduced r) = IsReducedWith v r.order r
IsSound v (Conflict walk place other) = IsConflictWith v walk

pub sound_picked : (answers : ℕ → ℕ → ℕ → Type 0) (v : LocalView) (o : PrivateOutcome) → IsPickedOutcome answers v o → IsSound v o
sound_picked answers v (Reduced r) h = h.0
sound_picked answers v (Conflict walk place other) h = h.0

pub sound_listed : (v : LocalView) (order : List ℕ) (o : PrivateOutcome) → IsListedOutcome v order o → IsSound v o
sound_listed v order (Reduced r) h = subst (λ xs. IsReducedWith v xs r) (sym h.order_is) h
sound_listed v order (Conflict walk place other) h = h.0

pub exactly : (v : LocalView) (o : PrivateOutcome) → IsSound v o → OfNetwork v (λ net. is_conflict o ≡ true ↔ HasOwnConflict net v.agent)
exactly v (Reduced r) h net valid e = (
  λ t. absurd (let f : false ≡ true = t in cc),
  λ c. absurd ((sums_up v r.order r h net valid e).sound c.0 c.1),
)
exactly v (Conflict walk place other) h net valid e = (λ t. (walk, h.cycle net valid e), λ c. refl)

pub cycle_is : (v : LocalView) (o : PrivateOutcome) → IsSound v o → IfConflict (λ walk place other. OfNetwork v (λ net. IsOwnConflict net v.agent walk)) o
cycle_is v (Reduced r) h = tt
cycle_is v (Conflict walk place other) h = h.cycle

pub normal_is : (v : LocalView) (o : PrivateOutcome) → IsSound v o → IfConflict (λ walk place other. IsNormal walk) o
normal_is v (Reduced r) h = tt
normal_is v (Conflict walk place other) h = h.normal

pub local_is : (v : LocalView) (o : PrivateOutcome) → IsSound v o → IfReduced (λ r. r.local ≡ v) o
local_is v (Reduced r) h = h.local
local_is v (Conflict walk place other) h = tt

pub private_is : (v : LocalView) (o : PrivateOutcome) → IsSound v o → IfReduced (λ r. AllByRecursion (λ p. is_private_in v p ≡ true) r.order) o
private_is v (Reduced r) h = h.private
private_is v (Conflict walk place other) h = tt

pub once_is : (v : LocalView) (o : PrivateOutcome) → IsSound v o → IfReduced (λ r. AllDifferent r.order) o
once_is v (Reduced r) h = h.once
once_is v (Conflict walk place other) h = tt

pub whole_is : (v : LocalView) (o : PrivateOutcome) → IsSound v o → IfReduced (λ r. (p : ℕ) → is_private_in v p ≡ true → is_in r.order p ≡ true) o
whole_is v (Reduced r) h = λ p private. sym (is_in-reverse r.order p) ∙ h.reduced.whole p (ap (λ (w : LocalView). is_private_in w p) h.local ∙ private)
whole_is v (Conflict walk place other) h = tt

pub summary_is : (v : LocalView) (o : PrivateOutcome) → IsSound v o → IfReduced (λ r. OfNetwork v (λ net. IsSummary net v.agent (map entry_of r.summary))) o
summary_is v (Reduced r) h = sums_up v r.order r h
summary_is v (Conflict walk place other) h = tt

pub picks_is : (answers : ℕ → ℕ → ℕ → Type 0) (v : LocalView) (o : PrivateOutcome) → IsPickedOutcome answers v o
    → IfReduced (λ r. ArePicked answers v (reverse r.order)) o
picks_is answers v (Reduced r) h = h.1
picks_is answers v (Conflict walk place other) h = tt

pub stops_is : (answers : ℕ → ℕ → ℕ → Type 0) (v : LocalView) (o : PrivateOutcome) → IsPickedOutcome answers v o
    → IfConflict (λ walk place other. IsStopped answers v place other) o
stops_is answers v (Reduced r) h = tt
stops_is answers v (Conflict walk place other) h = h.1

pub order_is : (v : LocalView) (order : List ℕ) (o : PrivateOutcome) → IsListedOutcome v order o → IfReduced (λ r. r.order ≡ order) o
order_is v order (Reduced r) h = h.order_is
order_is v order (Conflict walk place other) h = tt

pub place_is : (v : LocalView) (order : List ℕ) (n : ℕ) (o : PrivateOutcome) → length order ≡ n → IsListedOutcome v order o
    → IfConflict (λ walk place other. place < n) o
place_is v order n (Reduced r) e h = tt
place_is v order n (Conflict walk place other) e h = subst (λ m. place < m) e h.1

pub listed_stops : (v : LocalView) (order : List ℕ) (o : PrivateOutcome) → IsListedOutcome v order o
    → IfConflict (λ walk place other. StopsAt v (reverse (take place order)) (slice_index order place) other) o
listed_stops v order (Reduced r) h = tt
listed_stops v order (Conflict walk place other) h = h.2
