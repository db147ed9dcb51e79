-- The walk of a forward weight, in an agent's part or in the shared graph.
--   weight_unique, weight_is         a forward weight is what the part's walk weighs
--   shared_leg, own_part             where the leg is
--   own_between, own_walk            the walk of a part
--   parts_read, none_told, some_told, hop_told   what is read of the back sweep of a point's owner
use Rattle.std.proofs.Common.{◌≡◌, ◌≢◌, ℕ, ◌<◌, List, ◌++◌, Bool, true, false, Option, Some, None, length, get_or, ap, sym, ◌∙◌, refl, subst, inl, inr}
use Rattle.std.specs.Prelude.{ℤ, slice_get, is_some}
use Rattle.std.proofs.lemmas.Bool.{false≢true}
use Rattle.std.proofs.lemmas.Int.{ints}
use Rattle.std.proofs.Common.{arith}
use Rattle.std.proofs.lemmas.Option.{slice_get-get_or, slice_get_within}
use Rattle.stn_model.specs.declared.ids.AgentId.{AgentId}
use Rattle.stn_model.specs.declared.ids.Constraint.{Constraint}
use Rattle.stn_model.specs.ArcWalks.{IsInnerLeast}
use Rattle.stn_model.specs.Net.{Net, arcs_of}
use Rattle.stn_model.specs.Walks.{IsWalk, weight}
use Rattle.elim_step.specs.Summaries.{entry_in}
use Rattle.private_elim.specs.Backs.{BoundsView, bound_between}
use Rattle.private_elim.specs.Locals.{LocalView, local_of}
use Rattle.private_elim.specs.ReducedViews.{ReducedView, IsWeightBetween}
use Rattle.private_elim.specs.Reductions.{OfNetwork}
use Rattle.private_elim.specs.Throughs.{IsForwardWeight, through_between}
use Rattle.shared_graph.specs.Interfaces.{interface_of}
use Rattle.shared_graph.specs.Weights.{forward}
use Rattle.conflict_cycle.specs.Belongs.{IsLegWalk}
use Rattle.conflict_cycle.specs.Edges.{HasLeg}
use Rattle.conflict_cycle.specs.Parts.{PartsView, BelongsTo}

-- there is at most one least weight
weight_unique : (inner : ℕ → Bool) (arcs : List Constraint) (i j : ℕ) (v w : ℤ) → IsInnerLeast inner arcs i j (Some v) → IsInnerLeast inner arcs i j (Some w)
    → v ≡ w
weight_unique inner arcs i j v w h g =
    let one = h.1 g.0.0 g.0.1 in
    let two = g.1 h.0.0 h.0.1 in
    let first = h.0.2 in
    let second = g.0.2 in
    omega (arith, ints)

weight_is : (r : ReducedView) (i j : ℕ) (v w : ℤ) → IsWeightBetween r i j v → IsForwardWeight r i j w → v ≡ w
weight_is r i j v w (inl entry) h = (let none = h.0 in absurd (lost (entry_in r.summary i j) entry none)) where
  lost : (o : Option ℤ) → o ≡ Some v → o ≡ None → ⊥
  lost o some none = absurd (cc)
weight_is r i j v w (inr between) h = weight_unique _ _ i j v w between.2.least h.2.least

-- an item that is read
read_is : {X : Type 0} (xs : List X) (k : ℕ) (x y : X) → slice_get xs k ≡ Some y → x ≡ get_or xs k x → x ≡ y
read_is xs k x y there is =
    (let low = slice_get_within xs k y there in
    let both : Some x ≡ Some y = sym (slice_get-get_or xs k x low ∙ ap (λ z. Some z) (sym is)) ∙ there in
    cc)

module _ (net : Net) (parts : PartsView) (belongs : BelongsTo net parts) (i j : ℕ) where
  pub shared_leg : (agent : Option AgentId) (w : ℤ) → agent ≡ None → HasLeg parts agent i j w
      → (i ≢ j) × (forward (interface_of net) parts.shared.state i j ≡ Some w)
  shared_leg agent w none h =
      let leg : HasLeg parts None i j w = subst (λ o. HasLeg parts o i j w) none h in
      (leg.0, subst (λ f. forward f parts.shared.state i j ≡ Some w) belongs.stands.face leg.1)

  pub own_part : (agent : Option AgentId) (a : AgentId) (w : ℤ) → agent ≡ Some a → HasLeg parts agent i j w
      → (r : ReducedView) × (slice_get parts.reduced a.0 ≡ Some r) × IsForwardWeight r i j w
  own_part agent a w some h = subst (λ o. HasLeg parts o i j w) some h

  pub own_low : (agent : Option AgentId) (a : AgentId) (w : ℤ) → agent ≡ Some a → HasLeg parts agent i j w → a.0 < length parts.reduced
  own_low agent a w some h = (let part = own_part agent a w some h in slice_get_within parts.reduced a.0 part.0 part.1)

  -- what a part's walk needs, and is
  pub own_between : (agent : Option AgentId) (a : AgentId) (r : ReducedView) (w : ℤ) → agent ≡ Some a → HasLeg parts agent i j w
      → r ≡ get_or parts.reduced a.0 r → IsWeightBetween r i j w
  own_between agent a r w some h is =
      let part = own_part agent a w some h in
      let same = read_is parts.reduced a.0 r part.0 part.1 is in
      inr (subst (λ x. IsForwardWeight x i j w) (sym same) part.2)

  pub own_walk : (agent : Option AgentId) (a : AgentId) (r : ReducedView) (own old new : List ℕ) → agent ≡ Some a → r ≡ get_or parts.reduced a.0 r
      → OfNetwork r.local (λ net. IsWalk (arcs_of net) i j own) → OfNetwork r.local (λ net. IsWeightBetween r i j (weight (arcs_of net) own))
      → new ≡ old ++ own → (w : ℤ) → HasLeg parts agent i j w → IsLegWalk net i j w old new
  own_walk agent a r own old new some is walk weighs grown w h =
      let part = own_part agent a w some h in
      let same = read_is parts.reduced a.0 r part.0 part.1 is in
      let local = belongs.reduced.each a.0 r (part.1 ∙ ap (λ x. Some x) (sym same)) in
      let mine : r.local ≡ local_of net r.local.agent = local ∙ ap (local_of net) (sym (ap (λ (l : LocalView). l.agent) local)) in
      let valid = belongs.stands.network in
      record {
        more = own;
        new_is = grown;
        walk = walk net valid mine;
        weighs = weight_is r i j (weight (arcs_of net) own) w (weighs net valid mine) (subst (λ x. IsForwardWeight x i j w) (sym same) part.2);
      }

-- what is read of the back sweep of a point's owner
pub none_told : (bounds : List BoundsView) (k : ℕ) (r : BoundsView) (i j : ℕ) → r ≡ get_or bounds k r → is_some (bound_between r i j) ≡ false
    → (o : Option ℕ) → Some k ≡ o → (a : ℕ) (v : BoundsView) → o ≡ Some a → slice_get bounds a ≡ Some v → bound_between v i j ≡ None
none_told bounds k r i j is none o first a v owned here =
    let both : Some k ≡ Some a = first ∙ owned in
    let same : k ≡ a = cc in
    let read = read_is bounds k r v (ap (slice_get bounds) same ∙ here) is in
    gone (bound_between v i j) (ap (λ x. is_some (bound_between x i j)) (sym read) ∙ none) where
      gone : (o : Option ℤ) → is_some o ≡ false → o ≡ None
      gone None h = refl
      gone (Some b) h = absurd (false≢true (sym h))

pub some_told : (bounds : List BoundsView) (agent : AgentId) (r : BoundsView) (i j m : ℕ) → agent.0 < length bounds → r ≡ get_or bounds agent.0 r
    → is_some (bound_between r i j) ≡ true → through_between r i j ≡ Some m
    → (a : AgentId) × (v : BoundsView) × (Some agent ≡ Some a) × (slice_get bounds a.0 ≡ Some v) × (is_some (bound_between v i j) ≡ true)
    × (through_between v i j ≡ Some m)
some_told bounds agent r i j m low is some through =
    (agent, r, refl, slice_get-get_or bounds agent.0 r low ∙ ap (λ x. Some x) (sym is), some, through)
