-- How many points are left about a point: left_counted, degree_none, degree_taken, degree_some.
use Rattle.std.proofs.Common.{◌≡◌, ℕ, ◌+◌, ◌<◌, true, false, ◌&&◌, not, Some, None, ap, sym, ◌∙◌, length, subst, filter, get_or, arith}
use Rattle.std.specs.Prelude.{if◌then◌else◌}
use Rattle.stn_walk.specs.Eliminations.{is_in}
use Rattle.elim_step.specs.Eliminated.{point_at}
use Rattle.elim_step.specs.Eliminates.{count_below}
use Rattle.elim_step.specs.JoinedPlaces.{is_joined as are_joined}
use Rattle.shared_graph.specs.Graphs.{GraphView, places_in, Fields, IsGraph}
use Rattle.shared_graph.specs.Interfaces.{InterfaceView, is_listed}
use Rattle.shared_graph.specs.States.{State}
use Rattle.shared_graph.specs.Takes.{is_left, left_count, degree_of}
use Rattle.shared_graph.specs.Weights.{is_joined}
use Rattle.shared_graph.proofs.graphs.Counts.{count_same, count_filter, count_split}

module _ (g : Fields) (h : IsGraph g) (k : ℕ) (lk : k < length g.points) (fresh : is_in g.state.order (point_at g.points k) ≡ false) where
  -- the joined places are those whose points are
  joined_many : count_below (are_joined g.joins k) g.joins.size
      ≡ count_below (λ m. is_joined g.face g.state (point_at g.points k) (point_at g.points m)) (length g.points)
  joined_many =
      ap (count_below (are_joined g.joins k)) h.joins_size
      ∙ count_same (are_joined g.joins k) (λ m. is_joined g.face g.state (point_at g.points k) (point_at g.points m)) (length g.points) (λ m lm. h.joined k m lk lm)

  left_many : count_below (λ m. is_left g.face g.state (point_at g.points k) (point_at g.points m)) (length g.points)
      ≡ left_count g.face g.state (point_at g.points k)
  left_many =
      count_filter (is_left g.face g.state (point_at g.points k)) g.points
      ∙ ap (λ ps. length (filter (is_left g.face g.state (point_at g.points k)) ps)) h.points

  -- those that are left and those that are gone are all
  all_many : count_below (are_joined g.joins k) g.joins.size ≡ left_count g.face g.state (point_at g.points k) + get_or g.gone k 0
  all_many =
      joined_many
      ∙ count_split (λ m. is_joined g.face g.state (point_at g.points k) (point_at g.points m)) (λ m. is_in g.state.order (point_at g.points m))
      (length g.points)
      ∙ (λ t. left_many t + sym (h.gone.each k lk fresh) t)

-- the same in what contracts see
pub left_counted : (g : Fields) → IsGraph g → (v : GraphView) → record { face = g.face; state = g.state } ≡ v → (x k : ℕ)
    → k < length (places_in v.face) → point_at (places_in v.face) k ≡ x → is_in v.state.order x ≡ false
    → (k < length g.gone) × (count_below (are_joined g.joins k) g.joins.size ≡ left_count v.face v.state x + get_or g.gone k 0)
left_counted g h v e = subst
    (λ (v : GraphView). (x k : ℕ) → k < length (places_in v.face) → point_at (places_in v.face) k ≡ x → is_in v.state.order x ≡ false
    → (k < length g.gone) × (count_below (are_joined g.joins k) g.joins.size ≡ left_count v.face v.state x + get_or g.gone k 0)) e
    (λ x k low is left.
    let lk : k < length g.points = subst (λ ps. k < length ps) (sym h.points) low in
    let here : point_at g.points k ≡ x = ap (λ ps. point_at ps k) h.points ∙ is in
    let len = h.gone.len in
    (omega arith, all_many g h k lk (ap (is_in g.state.order) here ∙ left) ∙ ap (λ p. left_count g.face g.state p + get_or g.gone k 0) here))

-- which points have a degree
pub degree_none : (face : InterfaceView) (s : State) (p : ℕ) → is_listed face p ≡ false → None ≡ degree_of face s p
degree_none face s p e = sym (ap (λ b. if b && not (is_in s.order p) then Some (left_count face s p) else None) e)

pub degree_taken : (face : InterfaceView) (s : State) (p : ℕ) → is_listed face p ≡ true → is_in s.order p ≡ true → None ≡ degree_of face s p
degree_taken face s p e t = sym (λ i. if e i && not (t i) then Some (left_count face s p) else None)

pub degree_some : (face : InterfaceView) (s : State) (p n : ℕ) → is_listed face p ≡ true → is_in s.order p ≡ false → n ≡ left_count face s p
    → Some n ≡ degree_of face s p
degree_some face s p n e t is = ap (λ m. Some m) is ∙ sym (λ i. if e i && not (t i) then Some (left_count face s p) else None)
