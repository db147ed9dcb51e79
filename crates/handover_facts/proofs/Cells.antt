-- What elimination of an agent's private points shows of its summary, where some times keep its own arcs.
--   keeps_no_negative     times that keep the arcs show that no closed walk is negative
--   weight-by_cells       the cells are inner weights
--   entry-by_cells        a joined pair of seen points, and the weight of its entry
use Rattle.std.proofs.Common.{◌≡◌, ◌≢◌, ℕ, ℤ, Bool, true, List, subst, arith}
use Rattle.std.proofs.lemmas.Int.{ints}
use Rattle.std.specs.Prelude.{IsTrue}
use Rattle.stn_model.specs.declared.ids.Constraint.{Constraint}
use Rattle.stn_model.specs.Net.{Net}
use Rattle.stn_model.specs.Kinds.{is_private_of}
use Rattle.stn_model.specs.Schedules.{KeepsArcs}
use Rattle.stn_model.specs.ArcWalks.{IsInnerLeast, NoNegative}
use Rattle.stn_model.specs.Conflicts.{own_arcs}
use Rattle.stn_model.specs.Inner.{IsInnerWeight}
use Rattle.stn_model.specs.Summaries.{is_seen, entry_weight, IsSeenPair, IsEntryWeight}
use Rattle.stn_model.proofs.Bridges.{inner_bounds}
use Rattle.stn_walk.specs.Eliminations.{is_in, cell_of}
use Rattle.stn_walk.specs.Joins.{joined_of, HasPath}
use Rattle.stn_walk.proofs.Eliminations.{cell-least}
use Rattle.stn_walk.proofs.Joins.{path-from_joined}

pub keeps_no_negative : (arcs : List Constraint) (times : List ℤ) → KeepsArcs arcs times → (inner : ℕ → Bool) → NoNegative inner arcs
keeps_no_negative arcs times keeps inner p w h = let b = inner_bounds arcs times keeps inner p p w h in omega (arith, ints)

module _ (net : Net) (agent : ℕ) (taken : List ℕ) (times : List ℤ) (keeps : KeepsArcs (own_arcs net agent) times)
    (same : (p : ℕ) → is_in taken p ≡ is_private_of net agent p) where
  pub weight-by_cells : (i j : ℕ) → IsInnerWeight (is_private_of net agent) (own_arcs net agent) i j (cell_of (own_arcs net agent) taken i j)
  weight-by_cells i j = record {
    sound = λ p w at h. keeps_no_negative (own_arcs net agent) times keeps (is_private_of net agent) p w h;
    least = subst (λ (inner : ℕ → Bool). IsInnerLeast inner (own_arcs net agent) i j (cell_of (own_arcs net agent) taken i j)) (λ t p. same p t)
        (cell-least (own_arcs net agent) taken (keeps_no_negative (own_arcs net agent) times keeps (is_in taken)) i j);
  }

  pub entry-by_cells : (i j : ℕ) (w : ℤ) → i ≢ j → IsTrue (is_seen net agent i) → IsTrue (is_seen net agent j)
      → joined_of (own_arcs net agent) taken i j ≡ true → w ≡ entry_weight net.horizon (cell_of (own_arcs net agent) taken i j)
      → IsSeenPair net agent i j × IsEntryWeight net agent i j w
  entry-by_cells i j w apart from to joined weighs =
      let path =
      subst (λ (inner : ℕ → Bool). HasPath inner (own_arcs net agent) i j) (λ t p. same p t) (path-from_joined (own_arcs net agent) taken i j joined) in (
        record { different = apart; from = from; to = to; inner = path.0; path = path.1; privately = path.2 },
        (cell_of (own_arcs net agent) taken i j, weight-by_cells i j, weighs),
      )
