-- Closed walks where no point is passed between the ends, and walks where all arcs begin in a set: single_none_below, least_all.
use Rattle.std.proofs.Common.{◌≡◌, ◌≢◌, ℕ, List, [], ◌∷◌, Bool, true, false, Option, Some, None, sym, ◌∙◌}
use Rattle.std.specs.Prelude.{ℤ, Contains}
use Rattle.stn_model.specs.declared.ids.Constraint.{Constraint}
use Rattle.stn_model.specs.ArcWalks.{IsInnerLeast, NoNegative}
use Rattle.stn_walk.proofs.Exits.{every}
use Rattle.stn_walk.proofs.Finals.{inner_every}
use Rattle.meeting_arcs.proofs.WholeOrders.{inner_in}

-- no closed walk passes no point between its ends
pub single_none_below : (inner : ℕ → Bool) (arcs : List Constraint) → ((p : ℕ) → inner p ≡ false) → ((a : Constraint) → Contains arcs a → a.from.0 ≢ a.to.0)
    → NoNegative inner arcs
single_none_below inner arcs out loops p [] h = absurd h
single_none_below inner arcs out loops p (a ∷ []) h = absurd (loops a h.0 (h.1 ∙ sym h.2))
single_none_below inner arcs out loops p (a ∷ b ∷ w) h = absurd (let e : inner a.to.0 ≡ true = h.2.0 in let f = out a.to.0 in cc)

-- where all arcs begin in the set, least weights through it are those of all walks
pub least_all : (inner : ℕ → Bool) (arcs : List Constraint) (i j : ℕ) (o : Option ℤ) → ((a : Constraint) → Contains arcs a → inner a.from.0 ≡ true)
    → IsInnerLeast inner arcs i j o → IsInnerLeast every arcs i j o
least_all inner arcs i j None has least = λ w h. least w (inner_in inner arcs i j w has h)
least_all inner arcs i j (Some b) has least = (
  (least.0.0, inner_every inner arcs i j least.0.0 least.0.1, least.0.2),
  λ w h. least.1 w (inner_in inner arcs i j w has h),
)
