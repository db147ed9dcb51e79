-- The meeting arcs of a state join the places of z and the shared points, and weigh little, as steps over rows of cells want them: state_ground.
use Rattle.std.proofs.Common.{zero, suc, ◌≡◌, ℕ, ◌<◌, ◌≤◌, List, [], ◌∷◌, ◌++◌, true, false, ap, sym, refl, arith, inl, inr}
use Rattle.std.proofs.Common.{length, map, subst}
use Rattle.std.specs.Prelude.{pos, neg_ℤ, ◌≤ℤ◌, Contains, ◌==◌, nat_eq, Some, if◌then◌else◌}
use Rattle.std.specs.Option.{option_eq}
use Rattle.std.proofs.lemmas.Int.{ints}
use Rattle.std.proofs.lemmas.Bool.{or_cases}
use Rattle.std.proofs.lemmas.Bool.Decides.{nat_tests}
use Rattle.std.proofs.lemmas.List.Elements.{Contains-append_cases}
use Rattle.std.proofs.lemmas.List.Folds.{Any-from_list_any}
use Rattle.stn_model.specs.declared.ids.Constraint.{Constraint}
use Rattle.stn_model.specs.Limits.{most_points, greatest_walk}
use Rattle.stn_model.specs.Net.{horizon_pair}
use Rattle.stn_model.specs.Kinds.{names_point}
use Rattle.stn_walk.specs.Eliminations.{is_in}
use Rattle.stn_walk.proofs.Members.{is_in-at}
use Rattle.meeting_arcs.proofs.MeetingLists.{map_contains}
use Rattle.elim_step.specs.Eliminated.{point_at, IsListed, IsGround}
use Rattle.shared_graph.specs.Interfaces.{InterfaceView, IsInterface, IsFitting, owner_in, points_of, is_listed}
use Rattle.shared_graph.specs.States.{State, Published, agent_pairs, summary_arc, agent_arcs, arcs_after, meeting_of}
use Rattle.shared_graph.proofs.states.Passing.{listed_in, in_listed}
use Rattle.shared_graph.proofs.states.Meetings.{IsPlace, meeting_ends}
use Rattle.shared_graph.proofs.states.Rising.{Rises, all_rise}

-- a member stands at some place
pub member_at : (xs : List ℕ) (p : ℕ) → is_in xs p ≡ true → IsListed xs p
member_at [] p h = absurd (cc)
member_at (x ∷ xs) p h = elim (or_cases (is_in xs p) (p == x) h) [
  | inl later ↦ (let r = member_at xs p later in let lt = r.1 in (suc r.0, omega arith, r.2))
  | inr here ↦ (0, omega arith, grind (arith, nat_tests))
]

-- numbers that rise are apart
rises_low : (low : ℕ) (xs : List ℕ) → Rises low xs → (k : ℕ) → k < length xs → low ≤ point_at xs k
rises_low low [] h k lt = absurd (omega arith)
rises_low low (x ∷ xs) h zero lt = h.0
rises_low low (x ∷ xs) h (suc k) lt = (let more = rises_low (suc x) xs h.1 k (omega arith) in let le = h.0 in omega arith)

pub rises_apart : (low : ℕ) (xs : List ℕ) → Rises low xs → (i j : ℕ) → i < length xs → j < length xs → point_at xs i ≡ point_at xs j → i ≡ j
rises_apart low [] h i j one two e = absurd (omega arith)
rises_apart low (x ∷ xs) h zero zero one two e = refl
rises_apart low (x ∷ xs) h zero (suc j) one two e = absurd (let more = rises_low (suc x) xs h.1 j (omega arith) in omega arith)
rises_apart low (x ∷ xs) h (suc i) zero one two e = absurd (let more = rises_low (suc x) xs h.1 i (omega arith) in omega arith)
rises_apart low (x ∷ xs) h (suc i) (suc j) one two e = ap suc (rises_apart (suc x) xs h.1 i j (omega arith) (omega arith) e)

-- of magnitude at most 2^53
abbrev IsLightArc : Constraint → Type 0
IsLightArc a = (neg_ℤ (pos greatest_walk) ≤ℤ a.bound) × (a.bound ≤ℤ pos greatest_walk)

module _ (face : InterfaceView) (known : IsInterface face) where
  -- a shared point is below the most points, since an external arc names it
  listed_below : (p : ℕ) → is_listed face p ≡ true → p < most_points
  listed_below p h =
      let some = Any-from_list_any (names_point p) face.externals (known.named p h) in
      let w = known.bounds some.1 (some.0, some.2, some.3) in
      elim (or_cases (nat_eq some.1.from.0 p) (nat_eq some.1.to.0 p) some.4) [
        | inl from ↦ (let e : some.1.from.0 ≡ p = grind (arith, nat_tests) in let lt = w.starts in omega arith)
        | inr to ↦ (let e : some.1.to.0 ≡ p = grind (arith, nat_tests) in let lt = w.ends in omega arith)
      ]

  pub place_listed : (p : ℕ) → IsPlace face p → IsListed (0 ∷ points_of face) p
  place_listed p (inl z) = (0, omega arith, sym z)
  place_listed p (inr listed) = (let r = member_at (points_of face) p (listed_in face.points p listed) in let lt = r.1 in (suc r.0, omega arith, r.2))

  places_below : (k : ℕ) → k < length (0 ∷ points_of face) → point_at (0 ∷ points_of face) k < most_points
  places_below zero lt = omega arith
  places_below (suc k) lt =
      listed_below (point_at (points_of face) k) (in_listed face.points (point_at (points_of face) k) (is_in-at (points_of face) k (omega arith)))

  pair_light : (p : ℕ) (a : Constraint) → Contains (horizon_pair face.horizon p) a → IsLightArc a
  pair_light p a (zero, lt, is) = (let low = known.horizon_low in let high = known.horizon_high in
      subst IsLightArc is (omega (arith, ints), omega (arith, ints)))
  pair_light p a (suc zero, lt, is) = subst IsLightArc is (omega (arith, ints), omega (arith, ints))
  pair_light p a (suc (suc k), lt, is) = absurd (omega arith)

  pairs_light : (agent : ℕ) (ps : List ℕ) (a : Constraint) → Contains (agent_pairs face agent ps) a → IsLightArc a
  pairs_light agent [] a h = absurd (let low : h.0 < 0 = h.1 in omega arith)
  pairs_light agent (p ∷ ps) a h =
      elim (option_eq nat_eq (owner_in face p) (Some agent)) as
      (λ b. Contains ((if b then horizon_pair face.horizon p else []) ++ agent_pairs face agent ps) a → IsLightArc a) [
        | true ↦ λ g. elim (Contains-append_cases (horizon_pair face.horizon p) (agent_pairs face agent ps) a g) [
          | inl here ↦ pair_light p a here
          | inr later ↦ pairs_light agent ps a later
        ]
        | false ↦ λ g. pairs_light agent ps a g
      ] h

  arcs_light : (ps : List Published) → ((p : Published) → Contains ps p → IsFitting face p.agent p.entries) → (a : Constraint)
      → Contains (arcs_after face ps) a → IsLightArc a
  arcs_light [] fits a h = (let w = known.bounds a h in let low = w.low in let high = w.high in (omega (arith, ints), omega (arith, ints)))
  arcs_light (p ∷ ps) fits a h =
      elim (Contains-append_cases (arcs_after face ps) (agent_arcs face p) a h) [
        | inl old ↦ arcs_light ps (λ q there. fits q (suc there.0, omega (arith, there.1), there.2)) a old
        | inr new ↦ elim (Contains-append_cases (agent_pairs face p.agent (points_of face)) (map summary_arc p.entries) a new) [
          | inl pair ↦ pairs_light p.agent (points_of face) a pair
          | inr entry ↦
              (let e = map_contains summary_arc p.entries a entry in
              let light = (fits p (0, omega arith, refl) e.0 e.1).3 in
              subst IsLightArc (sym e.2) (omega (arith, ints), omega (arith, ints)))
        ]
      ]

  pub state_ground : (s : State) → ((p : Published) → Contains s.published p → IsFitting face p.agent p.entries)
      → IsGround (0 ∷ points_of face) (meeting_of face s)
  state_ground s fits = record {
    apart = rises_apart 0 (0 ∷ points_of face) (all_rise face known);
    starts = λ a h. place_listed a.from.0 (meeting_ends face known s.published fits a h).0;
    ends = λ a h. place_listed a.to.0 (meeting_ends face known s.published fits a h).1;
    below = places_below;
    light = arcs_light s.published fits;
  }
