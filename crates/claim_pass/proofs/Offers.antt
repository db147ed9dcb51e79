-- What an agent may take, point by point, and the least revisit as the least step: is_open, taken_from, taken_own, pushed, passed, ended; least_by,
-- none_by.
use Rattle.std.proofs.Common.{◌≡◌, ℕ, zero, suc, ◌+◌, ◌<◌, ◌≤◌, List, [], ◌∷◌, ◌++◌, Bool, true, false, Some, None, refl, ap, sym, ◌∙◌, arith, length}
use Rattle.std.proofs.Common.{map, filter, drop, get_or, inl, inr}
use Rattle.std.specs.Prelude.{if◌then◌else◌, is_some, ◌==◌, ◌&&◌, not}
use Rattle.std.specs.List.{AllPairs}
use Rattle.std.proofs.lemmas.Bool.{false≢true, cases_lt}
use Rattle.std.proofs.lemmas.Bool.Decides.{nat_tests}
use Rattle.std.proofs.lemmas.List.{drop_more, drop_all, append_assoc, append-nil, get_or_append_left, get_or_at}
use Rattle.stn_model.specs.declared.ids.AgentId.{AgentId}
use Rattle.stn_model.specs.declared.ids.PointId.{PointId}
use Rattle.stn_walk.specs.Eliminations.{is_in}
use Rattle.elim_step.specs.declared.pick.Candidate.{Candidate}
use Rattle.shared_graph.specs.declared.events.By.{By}
use Rattle.shared_graph.specs.declared.events.By.TheVariants.{Agent}
use Rattle.shared_graph.specs.declared.events.Event.{Event}
use Rattle.shared_graph.specs.declared.events.Event.TheVariants.{Publish, Eliminate, Stop, Revisit, Assign, Widen}
use Rattle.shared_graph.specs.declared.events.Phase.TheVariants.{Reverse}
use Rattle.shared_graph.specs.Firsts.{IsLeastRevisit}
use Rattle.shared_graph.specs.Interfaces.{SharedPoint, InterfaceView, IsInterface, owner_among, owner_in, is_listed, own_among, own_points_of}
use Rattle.shared_graph.specs.Journals.{is_step_of, rank_of}
use Rattle.shared_graph.specs.Refusals.{refusal, is_that}
use Rattle.shared_graph.specs.States.{State, point_id}
use Rattle.shared_graph.specs.Takes.{degree_of}
use Rattle.claim_pass.specs.Lent.{entry_of, is_own, candidate_of, candidates_in, IsLeastBy}

-- a point that is listed and not eliminated
abbrev pub is_open : InterfaceView → State → ℕ → Bool
is_open face s p = is_listed face p && not (is_in s.order p)

-- a listed point has the owner that it is listed with
own_owner : (points : List SharedPoint) → AllPairs (λ q r. q.point < r.point) points → (i : ℕ) (d : SharedPoint) → i < length points
    → owner_among points (get_or points i d).point ≡ Some (get_or points i d).owner
own_owner [] rising i d lt = absurd (omega arith)
own_owner (q ∷ qs) rising zero d lt =
    let same : (q.point == q.point) ≡ true = grind (arith, nat_tests) in
    ap (λ b. if b then Some q.owner else owner_among qs q.point) same
own_owner (q ∷ qs) rising (suc i) d lt =
    let above : q.point < (get_or qs i d).point = rising 0 (suc i) d (omega arith) lt in
    let off : ((get_or qs i d).point == q.point) ≡ false =
    (let apart : (get_or qs i d).point ≡ q.point → ⊥ = λ e. absurd (omega arith) in grind (arith, nat_tests)) in
    ap (λ b. if b then Some q.owner else owner_among qs (get_or qs i d).point) off
    ∙ own_owner qs (λ m n e low inside. rising (suc m) (suc n) e (omega arith) (omega arith)) i d (omega arith)

-- one point more, with its owner
one_open : (face : InterfaceView) (s : State) (agent : ℕ) (q : SharedPoint) (others : List SharedPoint) (own : List ℕ)
    → owner_in face q.point ≡ Some q.owner → filter (is_open face s) (map (λ (r : SharedPoint). r.point) others) ≡ own
    → filter (is_open face s) (map (λ (r : SharedPoint). r.point) (if q.owner == agent then q ∷ others else others))
    ≡ (if is_own face s agent q.point then q.point ∷ own else own)
one_open face s agent q others own owner rest =
    elim (q.owner == agent) as (λ b. filter (is_open face s) (map (λ (r : SharedPoint). r.point) (if b then q ∷ others else others))
    ≡ (if b && not (is_in s.order q.point) then q.point ∷ own else own)) [
      | true ↦ ap (λ o. if is_some o && not (is_in s.order q.point) then q.point ∷ filter (is_open face s) (map (λ (r : SharedPoint). r.point) others)
          else filter (is_open face s) (map (λ (r : SharedPoint). r.point) others)) owner
          ∙ ap (λ (ps : List ℕ). if not (is_in s.order q.point) then q.point ∷ ps else ps) rest
      | false ↦ rest
    ] ∙ sym (ap (λ o. if is_that o agent && not (is_in s.order q.point) then q.point ∷ own else own) owner)

-- those of an agent's points that are not eliminated, and those of all points that are the agent's and not eliminated
same_open : (face : InterfaceView) (s : State) (agent : ℕ) (points : List SharedPoint)
    → ((i : ℕ) (d : SharedPoint) → i < length points → owner_in face (get_or points i d).point ≡ Some (get_or points i d).owner)
    → filter (is_open face s) (own_among points agent) ≡ filter (is_own face s agent) (map (λ (q : SharedPoint). q.point) points)
same_open face s agent [] owned = refl
same_open face s agent (q ∷ qs) owned =
    one_open face s agent q (filter (λ (r : SharedPoint). r.owner == agent) qs) (filter (is_own face s agent) (map (λ (r : SharedPoint). r.point) qs))
    (owned 0 q (omega arith)) (same_open face s agent qs (λ i d lt. owned (suc i) d (omega arith)))

module _ (face : InterfaceView) (s : State) where
  -- the candidates among some points
  abbrev pub taken_from : List PointId → List Candidate
  taken_from items = map (candidate_of face s) (filter (is_open face s) (map (λ (p : PointId). p.0) items))

  -- among an agent's points they are all of its candidates
  pub taken_own : (agent : ℕ) (items : List PointId) → IsInterface face → map (λ (p : PointId). p.0) items ≡ own_points_of face agent
      → taken_from items ≡ candidates_in face s agent
  taken_own agent items valid is =
      ap (λ (ps : List ℕ). map (candidate_of face s) (filter (is_open face s) ps)) is
      ∙ ap (map (candidate_of face s)) (same_open face s agent face.points (own_owner face.points valid.rising))

  by_own : (p n : ℕ) (b : Bool) → is_open face s p ≡ b → Some n ≡ degree_of face s p → (b ≡ true) × (record { degree = n; number = p } ≡ candidate_of face s p)
  by_own p n true own e = (refl, (let same = e ∙ ap (λ t. if t then Some (candidate_of face s p).degree else None) own in ap (λ d. record { degree = d; number = p }) (some_of same))) where
    some_of : {a b : ℕ} → Some a ≡ Some b → a ≡ b
    some_of e = cc
  by_own p n false own e = absurd (let same = e ∙ ap (λ t. if t then Some (candidate_of face s p).degree else None) own in cc)

  by_none : (p : ℕ) (b : Bool) → is_open face s p ≡ b → None ≡ degree_of face s p → b ≡ false
  by_none p false own e = refl
  by_none p true own e = absurd (let same = e ∙ ap (λ t. if t then Some (candidate_of face s p).degree else None) own in cc)

  ahead : (items : List PointId) (i : ℕ) → i < length items
      → taken_from (drop i items) ≡ (if is_open face s (get_or items i (point_id 0)).0
      then candidate_of face s (get_or items i (point_id 0)).0 ∷ taken_from (drop (i + 1) items) else taken_from (drop (i + 1) items))
  ahead items i lt =
      ap taken_from (drop_more items i (point_id 0) lt)
      ∙ go (is_open face s (get_or items i (point_id 0)).0) where
        go : (b : Bool)
            → map (candidate_of face s) (if b then (get_or items i (point_id 0)).0 ∷ filter (is_open face s) (map (λ (p : PointId). p.0) (drop (i + 1) items))
            else filter (is_open face s) (map (λ (p : PointId). p.0) (drop (i + 1) items)))
            ≡ (if b then candidate_of face s (get_or items i (point_id 0)).0 ∷ taken_from (drop (i + 1) items) else taken_from (drop (i + 1) items))
        go true = refl
        go false = refl

  -- a candidate is pushed
  pub pushed : (items : List PointId) (i n : ℕ) (done all : List Candidate) → i < length items
      → Some n ≡ degree_of face s (get_or items i (point_id 0)).0 → done ++ taken_from (drop i items) ≡ all
      → (done ++ record { degree = n; number = (get_or items i (point_id 0)).0 } ∷ []) ++ taken_from (drop (i + 1) items) ≡ all
  pushed items i n done all lt here h =
      let own = by_own (get_or items i (point_id 0)).0 n (is_open face s (get_or items i (point_id 0)).0) refl here in
      let next = ahead items i lt ∙ ap (λ b. if b then candidate_of face s (get_or items i (point_id 0)).0 ∷ taken_from (drop (i + 1) items)
      else taken_from (drop (i + 1) items)) own.0 in
      append_assoc done (record { degree = n; number = (get_or items i (point_id 0)).0 } ∷ []) (taken_from (drop (i + 1) items))
      ∙ ap (λ c. done ++ c ∷ taken_from (drop (i + 1) items)) own.1 ∙ sym (ap (λ xs. done ++ xs) next) ∙ h

  -- a point is passed over
  pub passed : (items : List PointId) (i : ℕ) (done all : List Candidate) → i < length items
      → None ≡ degree_of face s (get_or items i (point_id 0)).0 → done ++ taken_from (drop i items) ≡ all
      → done ++ taken_from (drop (i + 1) items) ≡ all
  passed items i done all lt here h =
      let off = by_none (get_or items i (point_id 0)).0 (is_open face s (get_or items i (point_id 0)).0) refl here in
      let next = ahead items i lt ∙ ap (λ b. if b then candidate_of face s (get_or items i (point_id 0)).0 ∷ taken_from (drop (i + 1) items)
      else taken_from (drop (i + 1) items)) off in
      sym (ap (λ xs. done ++ xs) next) ∙ h

  -- none is left
  pub ended : (items : List PointId) (i : ℕ) (done all : List Candidate) → length items ≤ i → done ++ taken_from (drop i items) ≡ all → done ≡ all
  ended items i done all le h = sym (append-nil done) ∙ sym (ap (λ xs. done ++ taken_from xs) (drop_all i items le)) ∙ h

-- the least revisit is the least step of its phase, whoever makes it
pub least_by : (agent : AgentId) (face : InterfaceView) (s : State) (k : PointId) → IsLeastRevisit face s k → IsLeastBy agent Reverse face s k
least_by agent face s k h = record { step = refl; legal = h.legal (Agent agent); least = first } where
  first : (f : Event) → is_step_of Reverse f ≡ true → refusal face s (entry_of agent f) ≡ None → k.0 ≤ rank_of f
  first (Publish b) is ok = absurd (false≢true is)
  first (Eliminate p) is ok = absurd (false≢true is)
  first (Stop p i) is ok = absurd (false≢true is)
  first (Revisit p) is ok = h.least (Agent agent) p ok
  first (Assign p v) is ok = absurd (false≢true is)
  first (Widen p end) is ok = absurd (false≢true is)

pub none_by : (agent : AgentId) (face : InterfaceView) (s : State)
    → ((by : By) (k : PointId) → is_some (refusal face s (record { by = by; event = Revisit k })) ≡ true)
    → (f : Event) → is_step_of Reverse f ≡ true → is_some (refusal face s (entry_of agent f)) ≡ true
none_by agent face s none (Publish b) is = absurd (false≢true is)
none_by agent face s none (Eliminate p) is = absurd (false≢true is)
none_by agent face s none (Stop p i) is = absurd (false≢true is)
none_by agent face s none (Revisit p) is = none (Agent agent) p
none_by agent face s none (Assign p v) is = absurd (false≢true is)
none_by agent face s none (Widen p end) is = absurd (false≢true is)

-- one pass more, by agent
pub pass_pushed : {X : Type 0} (xs : List X) (x : X) (n : ℕ) (number count : X → ℕ) → length xs ≡ n → number x ≡ n → count x ≡ 0
    → ((i : ℕ) (d : X) → i < n → (number (get_or xs i d) ≡ i) × (count (get_or xs i d) ≡ 0))
    → (i : ℕ) (d : X) → i < n + 1 → (number (get_or (xs ++ x ∷ []) i d) ≡ i) × (count (get_or (xs ++ x ∷ []) i d) ≡ 0)
pass_pushed xs x n number count len is none before i d lt = elim (cases_lt i n) [
  | inl less ↦
      (let same = get_or_append_left xs (x ∷ []) d i (omega arith) in
      let h = before i d less in
      (ap number same ∙ h.0, ap count same ∙ h.1))
  | inr more ↦
      (let e : i ≡ n = omega arith in
      let same = get_or_at xs x [] d i (omega arith) in
      (ap number same ∙ is ∙ sym e, ap count same ∙ none))
]
