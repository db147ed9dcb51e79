-- At rest last arcs make a tree: each is tight and leads to a point of smaller stamp.
use Rattle.std.proofs.Common.{◌≡◌, ◌≢◌, ℕ, zero, suc, ◌+◌, ◌-◌, ◌<◌, ◌≤◌, ℤ, pos, ◌-ℤ◌, ◌<ℤ◌, ◌≤ℤ◌, List, length, get_or, refl, sym, ap, subst, ◌∙◌, ⊎_elim, arith}
use Rattle.std.proofs.lemmas.Int.{ints}
use Rattle.std.proofs.lemmas.Bool.{cases_eq}
use Rattle.stn_model.specs.Valid.{IsArcWithin}
use Rattle.stn_model.specs.Arcs.{from_at, to_at, bound_at, no_arc}
use Rattle.stn_model.specs.Schedules.{KeepsArcs, time_at}
use Rattle.plain_solve.specs.declared.graph.Graph.{Graph}
use Rattle.plain_solve.specs.Graphs.{IsGraph}
use Rattle.plain_solve.specs.LabelFacts.{IsLast, IsForcing}
use Rattle.plain_solve.specs.OrderFacts.{parent, IsTried}

-- the last arc of p at rest
pub record IsBranch (g : Graph) (times : List ℤ) (last stamps : List ℕ) (p : ℕ) : Type 0 where
  pub within : get_or last p 0 < length g.arcs.items
  pub starts : from_at g.arcs.items (get_or last p 0) ≡ p
  pub parent_in : parent g last p < g.points
  pub equal : time_at times p ≡ time_at times (parent g last p) -ℤ bound_at g.arcs.items (get_or last p 0)
  pub falls : get_or stamps (parent g last p) 0 < get_or stamps p 0

module _ (g : Graph) (times : List ℤ) (last : List ℕ) (raises : ℕ) (h : IsForcing g times last raises) (valid : IsGraph g) where
  pub parent_in : (p : ℕ) → p ≢ g.root → p < g.points → parent g last p < g.points
  parent_in p away within = let l = h.each p away within in let w : IsArcWithin g.points (get_or g.arcs.items (get_or last p 0) no_arc) = valid.arcs (get_or last p 0) no_arc l.within in w.ends

  pub branch : KeepsArcs g.arcs.items times → (p : ℕ) → p ≢ g.root → p < g.points → IsBranch g times last h.stamps p
  branch keeps p away within =
      let l = h.each p away within in
      let tail = ap (time_at times) l.starts in
      let k = keeps (get_or last p 0) l.within in
      ⊎_elim
      (λ (tight : (time_at times p ≡ time_at times (parent g last p) -ℤ bound_at g.arcs.items (get_or last p 0)) × (get_or h.stamps (parent g last p) 0 < get_or h.stamps p 0)).
      record { within = l.within; starts = l.starts; parent_in = parent_in p away within; equal = tight.0; falls = tight.1 })
      (λ (slack : time_at times p <ℤ (time_at times (parent g last p) -ℤ bound_at g.arcs.items (get_or last p 0))). absurd (omega (arith, ints)))
      l.forces

  -- where each point without a place leads to one without, none is without: stamps fall to the root's
  pub all_placed : KeepsArcs g.arcs.items times → (places : List ℕ) → ((p : ℕ) → p < g.points → IsTried g last places p)
      → (k p : ℕ) → get_or h.stamps p 0 < k → p ≢ g.root → p < g.points → get_or places p 0 ≡ 0 → ⊥
  all_placed keeps places tried zero p low away within fresh = absurd (omega arith)
  all_placed keeps places tried (suc k) p low away within fresh =
      let b = branch keeps p away within in
      let falls = b.falls in
      let t = tried p within within away fresh in
      all_placed keeps places tried k (parent g last p) (omega arith) t.0 b.parent_in t.1
