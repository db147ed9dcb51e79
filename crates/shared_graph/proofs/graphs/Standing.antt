-- What every graph has: its places rise and are apart, a shared point has a place above 0 and the other way round, its arcs join places, and its
-- cells are light: places_rise, places_apart, place_of_listed, listed_at, above_at, not_z_at, place_above, state_grounded, fields_grounded, cells_light.
use Rattle.std.proofs.Common.{zero, suc, ◌≡◌, ◌≢◌, ℕ, ◌<◌, ◌≤◌, List, [], ◌∷◌, true, sym, refl, arith, length, subst}
use Rattle.std.proofs.Common.{get_or}
use Rattle.std.specs.Prelude.{is_some}
use Rattle.std.specs.List.{AllPairs}
use Rattle.stn_walk.proofs.Members.{is_in-at}
use Rattle.dist_rows.specs.Cells.{AllLight}
use Rattle.elim_step.specs.Eliminated.{point_at, IsGround}
use Rattle.elim_step.proofs.Sound.{all_light}
use Rattle.shared_graph.specs.Graphs.{places_in, Fields, IsGraph}
use Rattle.shared_graph.specs.Interfaces.{InterfaceView, IsInterface, points_of, is_listed}
use Rattle.shared_graph.specs.States.{State, meeting_of}
use Rattle.shared_graph.specs.Together.{HoldsTogether}
use Rattle.shared_graph.proofs.states.Grounds.{member_at, rises_apart, state_ground}
use Rattle.shared_graph.proofs.states.Passing.{listed_in, in_listed}
use Rattle.shared_graph.proofs.states.Meetings.{listed_not_z}
use Rattle.shared_graph.proofs.states.Rising.{Rises, all_rise}

-- numbers that rise, by place
low_at : (low : ℕ) (xs : List ℕ) → Rises low xs → (k d : ℕ) → k < length xs → low ≤ get_or xs k d
low_at low [] h k d lt = absurd (omega arith)
low_at low (x ∷ xs) h zero d lt = h.0
low_at low (x ∷ xs) h (suc k) d lt = (let more = low_at (suc x) xs h.1 k d (omega arith) in let le = h.0 in omega arith)

pub rises_pairs : (low : ℕ) (xs : List ℕ) → Rises low xs → AllPairs (λ (p q : ℕ). p < q) xs
rises_pairs low [] h i j d lt inside = absurd (omega arith)
rises_pairs low (x ∷ xs) h zero zero d lt inside = absurd (omega arith)
rises_pairs low (x ∷ xs) h zero (suc j) d lt inside = (let more = low_at (suc x) xs h.1 j d (omega arith) in omega arith)
rises_pairs low (x ∷ xs) h (suc i) zero d lt inside = absurd (omega arith)
rises_pairs low (x ∷ xs) h (suc i) (suc j) d lt inside = rises_pairs (suc x) xs h.1 i j d (omega arith) (omega arith)

module _ (face : InterfaceView) (known : IsInterface face) where
  pub places_rise : AllPairs (λ (p q : ℕ). p < q) (places_in face)
  places_rise = rises_pairs 0 (places_in face) (all_rise face known)

  pub places_apart : (i j : ℕ) → i < length (places_in face) → j < length (places_in face) → point_at (places_in face) i ≡ point_at (places_in face) j → i ≡ j
  places_apart = rises_apart 0 (places_in face) (all_rise face known)

  -- a shared point has a place above 0
  pub place_of_listed : (p : ℕ) → is_listed face p ≡ true → (k : ℕ) × (0 < k) × (k < length (places_in face)) × (point_at (places_in face) k ≡ p)
  place_of_listed p listed =
      let r = member_at (points_of face) p (listed_in face.points p listed) in
      let lt = r.1 in
      (suc r.0, omega arith, omega arith, r.2)

  -- and such a place has a shared point, which is not z
  pub listed_at : (k : ℕ) → 0 < k → k < length (places_in face) → is_listed face (point_at (places_in face) k) ≡ true
  listed_at zero above lt = absurd (omega arith)
  listed_at (suc k) above lt = in_listed face.points (point_at (points_of face) k) (is_in-at (points_of face) k (omega arith))

  pub not_z_at : (k : ℕ) → 0 < k → k < length (places_in face) → point_at (places_in face) k ≢ 0
  not_z_at k above lt = listed_not_z face known (point_at (places_in face) k) (listed_at k above lt)

  -- the place of a shared point is above 0
  pub above_at : (k : ℕ) → is_listed face (point_at (places_in face) k) ≡ true → 0 < k
  above_at zero listed = absurd (listed_not_z face known 0 listed refl)
  above_at (suc k) listed = omega arith

  pub place_above : (p k : ℕ) → is_listed face p ≡ true → point_at (places_in face) k ≡ p → 0 < k
  place_above p k listed e = above_at k (subst (λ q. is_listed face q ≡ true) (sym e) listed)

  pub state_grounded : (s : State) → HoldsTogether face s → IsGround (places_in face) (meeting_of face s)
  state_grounded s together = state_ground face known s together.fitting

module _ (g : Fields) (h : IsGraph g) where
  pub fields_grounded : IsGround g.points (meeting_of g.face g.state)
  fields_grounded = subst (λ ps. IsGround ps (meeting_of g.face g.state)) (sym h.points) (state_grounded g.face h.interface g.state h.together)

  -- the cells are light where only places have them
  pub cells_light : ((p q : ℕ) → is_some (g.at p q) ≡ true → (p < g.places) × (q < g.places) × (p ≢ q)) → AllLight 99 g.at
  cells_light room = all_light g.points (meeting_of g.face g.state) fields_grounded g.state.order g.at g.remain h.cells
      (λ p q there. let w = room p q there in let lp = w.0 in let lq = w.1 in let same = h.places in (omega arith, omega arith, w.2))
