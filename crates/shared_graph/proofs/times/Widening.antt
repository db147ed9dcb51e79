-- The widest ends are there, and with an end widened what stands stands: widest_low_there, widest_high_there, moved_here, moved_other, widen_passes, widened_on.
use Rattle.std.proofs.Common.{◌≡◌, ◌≢◌, ℕ, List, [], ◌∷◌, Bool, true, false, not, ◌||◌, Option, Some, None, sym, ap, ◌∙◌, refl, arith, subst, inl, inr, ◌⊎◌}
use Rattle.std.specs.Prelude.{◌↔◌, ℤ, pos, neg_ℤ, ◌+ℤ◌, ◌≤ℤ◌, ◌<ℤ◌, ◌==◌, is_some, int_lt, if◌then◌else◌, Contains}
use Rattle.std.specs.Option.{unwrap_or, option_map}
use Rattle.std.proofs.lemmas.Bool.{ne_eqb, cases_eq}
use Rattle.std.proofs.lemmas.Bool.Decides.{nat_tests}
use Rattle.std.proofs.lemmas.Int.{ints}
use Rattle.stn_model.specs.declared.ids.Constraint.{Constraint}
use Rattle.stn_walk.specs.Eliminations.{sum_of, lesser}
use Rattle.decoupling_facts.specs.Assignments.{IsWidened}
use Rattle.decoupling_facts.specs.Boxes.{Widens, IsWidestHigh, IsWidestLow}
use Rattle.decoupling_facts.proofs.Assignments.{widened_stands}
use Rattle.decoupling_facts.proofs.Lists.{contains_cases, contains_first, contains_rest}
use Rattle.shared_graph.specs.declared.events.By.{By}
use Rattle.shared_graph.specs.declared.events.End.{End}
use Rattle.shared_graph.specs.declared.events.End.TheVariants.{Low, High}
use Rattle.shared_graph.specs.declared.events.Event.TheVariants.{Widen}
use Rattle.shared_graph.specs.declared.events.Illegal.TheVariants.{NotShared, AlreadyDone}
use Rattle.shared_graph.specs.declared.events.Phase.TheVariants.{Reverse, Assign as AssignPhase}
use Rattle.shared_graph.specs.Interfaces.{InterfaceView, IsInterface, Summary, is_listed, points_of}
use Rattle.shared_graph.specs.Journals.{IsDone}
use Rattle.shared_graph.specs.Refusals.{cause_of, order_open}
use Rattle.shared_graph.specs.Replays.{after}
use Rattle.shared_graph.specs.States.{State, Assigned, point_id}
use Rattle.shared_graph.specs.Timed.{bound_in, setting_in, end_of, ends_in, times_in, HoldsTimes}
use Rattle.shared_graph.specs.Together.{HoldsTogether}
use Rattle.shared_graph.specs.Weights.{final, first_passing}
use Rattle.shared_graph.specs.Windows.{assigned_in, is_assigned, low_in, high_in, is_widened, end_widened, negated, least_to, least_out}
use Rattle.shared_graph.specs.Windows.{widest_high, widest_low, moved, moved_at, widest, widened}
use Rattle.shared_graph.proofs.graphs.FirstTimes.{joins_z, joined_z}
use Rattle.shared_graph.proofs.states.Meetings.{listed_not_z}
use Rattle.shared_graph.proofs.states.Passing.{if_none, or_none, map_none, not_false, passing_none, listed_in}
use Rattle.shared_graph.proofs.times.Settings.{setting_holds, final_there}

-- the least number of the arcs at y
abbrev least_at : (Constraint → ℕ) → (Constraint → Option ℤ) → ℕ → List Constraint → Option ℤ
least_at at number y [] = None
least_at at number y (a ∷ arcs) = if at a == y then lesser (number a) (least_at at number y arcs) else least_at at number y arcs

abbrev IsLeastAt : (Constraint → ℕ) → (Constraint → ℤ) → ℕ → List Constraint → Option ℤ → Type 0
IsLeastAt at f y arcs None = (a : Constraint) → Contains arcs a → at a ≡ y → ⊥
IsLeastAt at f y arcs (Some m) =
    ((a : Constraint) × Contains arcs a × (at a ≡ y) × (m ≡ f a)) × ((a : Constraint) → Contains arcs a → at a ≡ y → m ≤ℤ f a)

module _ (at : Constraint → ℕ) (number : Constraint → Option ℤ) (f : Constraint → ℤ) (y : ℕ) where
  more : (x : Constraint) (arcs : List Constraint) (o : Option ℤ) → IsLeastAt at f y arcs o → at x ≡ y → IsLeastAt at f y (x ∷ arcs) (lesser (Some (f x)) o)
  more x arcs None h here = (
    (x, contains_first x arcs, here, refl),
    λ a c is. elim (contains_cases x a arcs c) [
      | inl e ↦ (let same : f x ≡ f a = ap f e in omega (arith, ints))
      | inr rest ↦ absurd (h a rest is)
    ],
  )
  more x arcs (Some m) h here =
      elim (int_lt m (f x)) as (λ b. int_lt m (f x) ≡ b → IsLeastAt at f y (x ∷ arcs) (if b then Some m else Some (f x))) [
        | true ↦ λ t. (let lt : m <ℤ f x = grind (arith, ints) in (
          (h.0.0, contains_rest x h.0.0 arcs h.0.1, h.0.2, h.0.3),
          λ a c is. elim (contains_cases x a arcs c) [
            | inl e ↦ (let same : f x ≡ f a = ap f e in omega (arith, ints))
            | inr rest ↦ h.1 a rest is
          ],
        ))
        | false ↦ λ t. (let le : f x ≤ℤ m = grind (arith, ints) in (
          (x, contains_first x arcs, here, refl),
          λ a c is. elim (contains_cases x a arcs c) [
            | inl e ↦ (let same : f x ≡ f a = ap f e in omega (arith, ints))
            | inr rest ↦ (let low = h.1 a rest is in omega (arith, ints))
          ],
        ))
      ] refl

  skip : (x : Constraint) (arcs : List Constraint) (o : Option ℤ) → IsLeastAt at f y arcs o → at x ≢ y → IsLeastAt at f y (x ∷ arcs) o
  skip x arcs None h off = λ a c is. elim (contains_cases x a arcs c) [
    | inl e ↦ off (ap at e ∙ is)
    | inr rest ↦ h a rest is
  ]
  skip x arcs (Some m) h off = (
    (h.0.0, contains_rest x h.0.0 arcs h.0.1, h.0.2, h.0.3),
    λ a c is. elim (contains_cases x a arcs c) [
      | inl e ↦ absurd (off (ap at e ∙ is))
      | inr rest ↦ h.1 a rest is
    ],
  )

  least_is : (arcs : List Constraint) → ((a : Constraint) → Contains arcs a → number a ≡ Some (f a)) → IsLeastAt at f y arcs (least_at at number y arcs)
  least_is [] each = λ a c is. (let low = c.1 in omega arith)
  least_is (x ∷ arcs) each =
      let rest = least_is arcs (λ a c. each a (contains_rest x a arcs c)) in
      elim (at x == y) as (λ b. (at x == y) ≡ b
      → IsLeastAt at f y (x ∷ arcs) (if b then lesser (number x) (least_at at number y arcs) else least_at at number y arcs)) [
        | true ↦ λ t.
            (let here : at x ≡ y = grind (arith, nat_tests) in
            subst (λ (o : Option ℤ). IsLeastAt at f y (x ∷ arcs) (lesser o (least_at at number y arcs))) (sym (each x (contains_first x arcs)))
            (more x arcs (least_at at number y arcs) rest here))
        | false ↦ λ t. skip x arcs (least_at at number y arcs) rest (let off : at x ≢ y = grind (arith, nat_tests) in off)
      ] refl

to_is : (s : State) (y : ℕ) (arcs : List Constraint)
    → least_to s y arcs ≡ least_at (λ a. a.to.0) (λ a. sum_of (low_in s a.from.0) (Some a.bound)) y arcs
to_is s y [] = refl
to_is s y (a ∷ arcs) = ap (λ o. if a.to.0 == y then lesser (sum_of (low_in s a.from.0) (Some a.bound)) o else o) (to_is s y arcs)

out_is : (s : State) (x : ℕ) (arcs : List Constraint)
    → least_out s x arcs ≡ least_at (λ a. a.from.0) (λ a. sum_of (negated (high_in s a.to.0)) (Some a.bound)) x arcs
out_is s x [] = refl
out_is s x (a ∷ arcs) = ap (λ o. if a.from.0 == x then lesser (sum_of (negated (high_in s a.to.0)) (Some a.bound)) o else o) (out_is s x arcs)

-- an assigned point but z has its ends
pub assigned_there : (s : State) (p : ℕ) → is_assigned s p ≡ true → p ≢ 0 → (a : Assigned) × (assigned_in s.assigned p ≡ Some a)
assigned_there s p h apart = go (assigned_in s.assigned p) refl h where
  go : (o : Option Assigned) → assigned_in s.assigned p ≡ o → (is_some o || (p == 0)) ≡ true → (a : Assigned) × (assigned_in s.assigned p ≡ Some a)
  go None is g = absurd (let off : (p == 0) ≡ false = ne_eqb p 0 apart in cc)
  go (Some a) is g = (a, is)

-- so all shared points were revisited
pub done_with : (face : InterfaceView) → IsInterface face → (s : State) → HoldsTimes face s → IsDone face s AssignPhase → (k : ℕ) → is_listed face k ≡ true
    → IsDone face s Reverse
done_with face known s holds set k listed =
    let a = assigned_there s k (set k listed) (listed_not_z face known k listed) in
    holds.revisited k (ap is_some a.1)

low_there : (s : State) (p : ℕ) → is_assigned s p ≡ true → p ≢ 0 → low_in s p ≡ Some ((ends_in s).lo p)
low_there s p h apart =
    let a = assigned_there s p h apart in
    ap (λ o. option_map (λ (x : Assigned). x.lo) o) a.1 ∙ sym (ap (λ o. Some (unwrap_or (option_map (λ (x : Assigned). x.lo) o) (pos 0))) a.1)

high_there : (s : State) (p : ℕ) → is_assigned s p ≡ true → p ≢ 0 → high_in s p ≡ Some ((ends_in s).hi p)
high_there s p h apart =
    let a = assigned_there s p h apart in
    ap (λ o. option_map (λ (x : Assigned). x.hi) o) a.1 ∙ sym (ap (λ o. Some (unwrap_or (option_map (λ (x : Assigned). x.hi) o) (pos 0))) a.1)

module _ (face : InterfaceView) (known : IsInterface face) (s : State) (together : HoldsTogether face s) (done : IsDone face s Reverse)
    (set : IsDone face s AssignPhase) (k : ℕ) (listed : is_listed face k ≡ true) where
  to_least : IsLeastAt (λ a. a.to.0) (λ a. (ends_in s).lo a.from.0 +ℤ a.bound) k face.externals (least_to s k face.externals)
  to_least = subst (IsLeastAt (λ a. a.to.0) (λ a. (ends_in s).lo a.from.0 +ℤ a.bound) k face.externals) (sym (to_is s k face.externals))
      (least_is (λ a. a.to.0) (λ a. sum_of (low_in s a.from.0) (Some a.bound)) (λ a. (ends_in s).lo a.from.0 +ℤ a.bound) k face.externals
      (λ a c. ap (λ o. sum_of o (Some a.bound))
      (low_there s a.from.0 (set a.from.0 (known.starts a c)) (listed_not_z face known a.from.0 (known.starts a c)))))

  out_least : IsLeastAt (λ a. a.from.0) (λ a. neg_ℤ ((ends_in s).hi a.to.0) +ℤ a.bound) k face.externals (least_out s k face.externals)
  out_least = subst (IsLeastAt (λ a. a.from.0) (λ a. neg_ℤ ((ends_in s).hi a.to.0) +ℤ a.bound) k face.externals) (sym (out_is s k face.externals))
      (least_is (λ a. a.from.0) (λ a. sum_of (negated (high_in s a.to.0)) (Some a.bound)) (λ a. neg_ℤ ((ends_in s).hi a.to.0) +ℤ a.bound) k face.externals
      (λ a c. ap (λ o. sum_of (negated o) (Some a.bound))
      (high_there s a.to.0 (set a.to.0 (known.ends a c)) (listed_not_z face known a.to.0 (known.ends a c)))))

  final_out : final face s 0 k ≡ Some (bound_in face s 0 k)
  final_out = (final_there face known s together done 0 k (joined_z face known s together k listed (together.revisits k (done k listed)).whole)).0

  final_back : final face s k 0 ≡ Some (bound_in face s k 0)
  final_back = (final_there face known s together done k 0 (joins_z face known s together k listed (together.revisits k (done k listed)).whole)).0

  pub widest_high_there : (high : ℤ) × (widest_high face s k ≡ Some high) × IsWidestHigh (bound_in face s) face.externals (ends_in s).lo k high
  widest_high_there =
      let got = go (least_to s k face.externals) to_least in
      (got.0, ap (λ o. lesser o (least_to s k face.externals)) final_out ∙ got.1, got.2) where
        go : (o : Option ℤ) → IsLeastAt (λ a. a.to.0) (λ a. (ends_in s).lo a.from.0 +ℤ a.bound) k face.externals o
            → (high : ℤ) × (lesser (Some (bound_in face s 0 k)) o ≡ Some high) × IsWidestHigh (bound_in face s) face.externals (ends_in s).lo k high
        go None h = (
          bound_in face s 0 k,
          refl,
          record { bound = omega (arith, ints); arcs = λ a c is. absurd (h a c is); met = inl refl },
        )
        go (Some m) h =
            elim (int_lt m (bound_in face s 0 k)) as (λ b. int_lt m (bound_in face s 0 k) ≡ b → (high : ℤ)
            × ((if b then Some m else Some (bound_in face s 0 k)) ≡ Some high) × IsWidestHigh (bound_in face s) face.externals (ends_in s).lo k high) [
              | true ↦ λ t. (let lt : m <ℤ bound_in face s 0 k = grind (arith, ints) in
                  (m, refl, record { bound = omega (arith, ints); arcs = h.1; met = inr h.0 }))
              | false ↦ λ t. (let le : bound_in face s 0 k ≤ℤ m = grind (arith, ints) in (
                bound_in face s 0 k,
                refl,
                record { bound = omega (arith, ints); arcs = λ a c is. (let low = h.1 a c is in omega (arith, ints)); met = inl refl },
              ))
            ] refl

  pub widest_low_there : (low : ℤ) × (widest_low face s k ≡ Some low) × IsWidestLow (bound_in face s) face.externals (ends_in s).hi k low
  widest_low_there =
      let got = go (least_out s k face.externals) out_least in
      (got.0, ap (λ o. negated (lesser o (least_out s k face.externals))) final_back ∙ got.1, got.2) where
        go : (o : Option ℤ) → IsLeastAt (λ a. a.from.0) (λ a. neg_ℤ ((ends_in s).hi a.to.0) +ℤ a.bound) k face.externals o
            → (low : ℤ) × (negated (lesser (Some (bound_in face s k 0)) o) ≡ Some low) × IsWidestLow (bound_in face s) face.externals (ends_in s).hi k low
        go None h = (
          neg_ℤ (bound_in face s k 0),
          refl,
          record { bound = omega (arith, ints); arcs = λ a c is. absurd (h a c is); met = inl refl },
        )
        go (Some m) h =
            elim (int_lt m (bound_in face s k 0)) as (λ b. int_lt m (bound_in face s k 0) ≡ b → (low : ℤ)
            × (negated (if b then Some m else Some (bound_in face s k 0)) ≡ Some low) × IsWidestLow (bound_in face s) face.externals (ends_in s).hi k low) [
              | true ↦ λ t. (let lt : m <ℤ bound_in face s k 0 = grind (arith, ints) in (
                neg_ℤ m,
                refl,
                record {
                  bound = omega (arith, ints);
                  arcs = λ a c is. (let low = h.1 a c is in omega (arith, ints));
                  met = inr (h.0.0, h.0.1, h.0.2, (let e = h.0.3 in omega (arith, ints)));
                },
              ))
              | false ↦ λ t. (let le : bound_in face s k 0 ≤ℤ m = grind (arith, ints) in (
                neg_ℤ (bound_in face s k 0),
                refl,
                record { bound = omega (arith, ints); arcs = λ a c is. (let low = h.1 a c is in omega (arith, ints)); met = inl refl },
              ))
            ] refl

moved_point : (end : End) (to : Option ℤ) (a : Assigned) → (moved end to a).point ≡ a.point
moved_point Low to a = refl
moved_point High to a = refl

-- what a widening leaves of each point
pub moved_here : (k : ℕ) (end : End) (to : Option ℤ) (as_ : List Assigned) → assigned_in (moved_at k end to as_) k ≡ option_map (moved end to) (assigned_in as_ k)
moved_here k end to [] = refl
moved_here k end to (a ∷ as_) =
    elim (k == a.point) as (λ b. (k == a.point) ≡ b
    → assigned_in (if b then moved end to a ∷ as_ else a ∷ moved_at k end to as_) k ≡ option_map (moved end to) (if b then Some a else assigned_in as_ k)) [
      | true ↦ λ t.
          (let is : (k == (moved end to a).point) ≡ true = ap (λ p. k == p) (moved_point end to a) ∙ t in
          ap (λ b. if b then Some (moved end to a) else assigned_in as_ k) is)
      | false ↦ λ t. ap (λ b. if b then Some a else assigned_in (moved_at k end to as_) k) t ∙ moved_here k end to as_
    ] refl

pub moved_other : (k : ℕ) (end : End) (to : Option ℤ) (as_ : List Assigned) (p : ℕ) → p ≢ k → assigned_in (moved_at k end to as_) p ≡ assigned_in as_ p
moved_other k end to [] p ne = refl
moved_other k end to (a ∷ as_) p ne =
    elim (k == a.point) as (λ b. (k == a.point) ≡ b
    → assigned_in (if b then moved end to a ∷ as_ else a ∷ moved_at k end to as_) p ≡ (if p == a.point then Some a else assigned_in as_ p)) [
      | true ↦ λ t.
          (let e : k ≡ a.point = grind (arith, nat_tests) in
          let apart : p ≢ a.point = λ f. ne (f ∙ sym e) in
          let off : (p == a.point) ≡ false = ne_eqb p a.point apart in
          let also : (p == (moved end to a).point) ≡ false = ap (λ q. p == q) (moved_point end to a) ∙ off in
          ap (λ b. if b then Some (moved end to a) else assigned_in as_ p) also ∙ sym (ap (λ b. if b then Some a else assigned_in as_ p) off))
      | false ↦ λ t. ap (λ o. if p == a.point then Some a else o) (moved_other k end to as_ p ne)
    ] refl

pub widen_passes : (face : InterfaceView) (s : State) (by : By) (k : ℕ) (end : End) → cause_of face s by (Widen (point_id k) end) ≡ None
    → (is_listed face k ≡ true) × IsDone face s AssignPhase × (is_widened s k end ≡ false)
widen_passes face s by k end h =
    let one = if_none (not (is_listed face k)) NotShared _ h in
    let two = or_none (option_map order_open (first_passing (λ p. not (is_assigned s p)) (points_of face))) _ one.1 in
    let three = if_none (is_widened s k end) AlreadyDone None two.1 in
    let done = passing_none (λ p. not (is_assigned s p)) (points_of face) (map_none order_open _ two.0) in
    (not_false (is_listed face k) one.0, λ p there. not_false (is_assigned s p) (done p (listed_in face.points p there)), three.0)

-- an end by whether it is the high one, and back
abbrev pub is_high : End → Bool
is_high Low = false
is_high High = true

module _ (s : State) (k : ℕ) (to : Option ℤ) (a : Assigned) (is : assigned_in s.assigned k ≡ Some a) where
  after_here : (end : End) → assigned_in (moved_at k end to s.assigned) k ≡ Some (moved end to a)
  after_here end = moved_here k end to s.assigned ∙ ap (λ o. option_map (moved end to) o) is

  -- a reading of a point that does not look at the end reads the same
  same_read : {X : Type 0} (end : End) (read : Assigned → X) → read (moved end to a) ≡ read a → (p : ℕ)
      → option_map read (assigned_in (moved_at k end to s.assigned) p) ≡ option_map read (assigned_in s.assigned p)
  same_read end read same p = elim (cases_eq p k) [
    | inl e ↦
        ap (λ q. option_map read (assigned_in (moved_at k end to s.assigned) q)) e ∙ ap (λ o. option_map read o) (after_here end) ∙ ap (λ x. Some x) same
        ∙ sym (ap (λ o. option_map read o) is) ∙ sym (ap (λ q. option_map read (assigned_in s.assigned q)) e)
    | inr ne ↦ ap (λ o. option_map read o) (moved_other k end to s.assigned p ne)
  ]

  some_read : (end : End) (p : ℕ) → is_some (assigned_in (moved_at k end to s.assigned) p) ≡ is_some (assigned_in s.assigned p)
  some_read end p = elim (cases_eq p k) [
    | inl e ↦
        ap (λ q. is_some (assigned_in (moved_at k end to s.assigned) q)) e ∙ ap is_some (after_here end) ∙ sym (ap is_some is)
        ∙ sym (ap (λ q. is_some (assigned_in s.assigned q)) e)
    | inr ne ↦ ap is_some (moved_other k end to s.assigned p ne)
  ]

  value_same : (end : End) → (moved end to a).value ≡ a.value
  value_same Low = refl
  value_same High = refl

  wide_same : (end other : End) → end ≢ other → end_widened other (moved end to a) ≡ end_widened other a
  wide_same Low Low ne = absurd (ne refl)
  wide_same Low High ne = refl
  wide_same High Low ne = refl
  wide_same High High ne = absurd (ne refl)

  wide_now : (end : End) → end_widened end (moved end to a) ≡ true
  wide_now Low = refl
  wide_now High = refl

-- an end by its point
abbrev pub end_at : ℕ → Bool → ℕ × Bool
end_at p high = (p, high)

end_back : (end : End) → end_of (is_high end) ≡ end
end_back Low = refl
end_back High = refl

ends_apart : (p k : ℕ) (high : Bool) (end : End) → p ≡ k → end_at p high ≢ end_at k (is_high end) → end ≢ end_of high
ends_apart p k true Low e ne = λ f. absurd (cc)
ends_apart p k true High e ne = λ f. ne (ap (λ (q : ℕ). end_at q true) e)
ends_apart p k false Low e ne = λ f. ne (ap (λ (q : ℕ). end_at q false) e)
ends_apart p k false High e ne = λ f. absurd (cc)

module _ (face : InterfaceView) (known : IsInterface face) (s : State) (together : HoldsTogether face s) (done : IsDone face s Reverse)
    (set : IsDone face s AssignPhase) (k : ℕ) (listed : is_listed face k ≡ true) where
  given : (a : Assigned) × (assigned_in s.assigned k ≡ Some a)
  given = assigned_there s k (set k listed) (listed_not_z face known k listed)

  -- the moved end is the widest
  widens : (end : End) → Widens (bound_in face s) face.externals (k, is_high end) (ends_in s) (ends_in (record s { assigned = widened face s k end }))
  widens High =
      let w = widest_high_there face known s together done set k listed in
      let to = widest_high face s k in
      let here = after_here s k (widest_high face s k) given.0 given.1 High in
      let now : (ends_in (record s { assigned = widened face s k High })).hi k ≡ w.0 =
      ap (λ o. unwrap_or (option_map (λ (x : Assigned). x.hi) o) (pos 0)) here ∙ ap (λ o. unwrap_or o given.0.hi) w.1 in
      record {
        widest = subst (IsWidestHigh (bound_in face s) face.externals (ends_in s).lo k) (sym now) w.2;
        others = λ p ne. ap (λ o. unwrap_or (option_map (λ (x : Assigned). x.hi) o) (pos 0)) (moved_other k High (widest_high face s k) s.assigned p ne);
        lows = λ p. ap (λ o. unwrap_or o (pos 0)) (same_read s k (widest_high face s k) given.0 given.1 High (λ (x : Assigned). x.lo) refl p);
      }
  widens Low =
      let w = widest_low_there face known s together done set k listed in
      let here = after_here s k (widest_low face s k) given.0 given.1 Low in
      let now : (ends_in (record s { assigned = widened face s k Low })).lo k ≡ w.0 =
      ap (λ o. unwrap_or (option_map (λ (x : Assigned). x.lo) o) (pos 0)) here ∙ ap (λ o. unwrap_or o given.0.lo) w.1 in
      record {
        widest = subst (IsWidestLow (bound_in face s) face.externals (ends_in s).hi k) (sym now) w.2;
        others = λ p ne. ap (λ o. unwrap_or (option_map (λ (x : Assigned). x.lo) o) (pos 0)) (moved_other k Low (widest_low face s k) s.assigned p ne);
        highs = λ p. ap (λ o. unwrap_or o (pos 0)) (same_read s k (widest_low face s k) given.0 given.1 Low (λ (x : Assigned). x.hi) refl p);
      }

  module _ (end : End) where
    abbrev now : State
    now = record s { assigned = widened face s k end }

    wide_here : is_widened now k end ≡ true
    wide_here = ap (λ o. unwrap_or (option_map (end_widened end) o) false) (after_here s k (widest end face s k) given.0 given.1 end)
        ∙ wide_now s k (widest end face s k) given.0 given.1 end

    wide_else : (p : ℕ) (high : Bool) → end_at p high ≢ end_at k (is_high end) → is_widened now p (end_of high) ≡ is_widened s p (end_of high)
    wide_else p high ne = elim (cases_eq p k) [
      | inl e ↦ ap (λ o. unwrap_or o false) (same_read s k (widest end face s k) given.0 given.1 end (end_widened (end_of high))
          (wide_same s k (widest end face s k) given.0 given.1 end (end_of high) (ends_apart p k high end e ne)) p)
      | inr off ↦ ap (λ o. unwrap_or (option_map (end_widened (end_of high)) o) false) (moved_other k end (widest end face s k) s.assigned p off)
    ]

    same_end : (p : ℕ) (high : Bool) → (end_at p high ≡ end_at k (is_high end)) ⊎ (end_at p high ≢ end_at k (is_high end))
    same_end p high = elim (cases_eq p k) [
      | inl e ↦ both high end e
      | inr ne ↦ inr (λ f. ne (ap (λ (w : ℕ × Bool). w.0) f))
    ] where
      both : (high : Bool) (end : End) → p ≡ k → (end_at p high ≡ end_at k (is_high end)) ⊎ (end_at p high ≢ end_at k (is_high end))
      both true High e = inl (ap (λ (q : ℕ). end_at q true) e)
      both true Low e = inr (λ f. let g : true ≡ false = ap (λ (w : ℕ × Bool). w.1) f in absurd (cc))
      both false High e = inr (λ f. let g : false ≡ true = ap (λ (w : ℕ × Bool). w.1) f in absurd (cc))
      both false Low e = inl (ap (λ (q : ℕ). end_at q false) e)

    wide_is : (v : ℕ × Bool) → (is_widened now v.0 (end_of v.1) ≡ true) ↔ ((v ≡ end_at k (is_high end)) ⊎ (is_widened s v.0 (end_of v.1) ≡ true))
    wide_is v = elim (same_end v.0 v.1) [
      | inl e ↦ (
        λ t. inl e,
        λ t. ap (λ (w : ℕ × Bool). is_widened now w.0 (end_of w.1)) e ∙ ap (is_widened now k) (end_back end) ∙ wide_here,
      )
      | inr ne ↦ (
        λ t. inr (sym (wide_else v.0 v.1 ne) ∙ t),
        λ t. elim t [ inl e ↦ absurd (ne e) | inr was ↦ wide_else v.0 v.1 ne ∙ was ],
      )
    ]

    pub widened_is : IsWidened (bound_in face s) face.externals (k, is_high end) (times_in s) (times_in now)
    widened_is = record {
      set = λ p. ap (λ b. b || (p == 0)) (some_read s k (widest end face s k) given.0 given.1 end p);
      value = λ p. ap (λ o. unwrap_or (if p == 0 then Some (pos 0) else o) (pos 0))
          (same_read s k (widest end face s k) given.0 given.1 end (λ (x : Assigned). x.value) (value_same s k (widest end face s k) given.0 given.1 end) p);
      ends = widens end;
      wide = wide_is;
    }

-- so what stood stands
pub widened_on : (face : InterfaceView) → IsInterface face → (summaries : List Summary) (s : State) → HoldsTogether face s → HoldsTimes face s
    → (by : By) (k : ℕ) (end : End) → cause_of face s by (Widen (point_id k) end) ≡ None → HoldsTimes face (after face summaries s (Widen (point_id k) end))
widened_on face known summaries s together holds by k end legal =
    let passes = widen_passes face s by k end legal in
    let listed = passes.0 in
    let set = passes.1 in
    let a = assigned_there s k (set k listed) (listed_not_z face known k listed) in
    let done = holds.revisited k (ap is_some a.1) in
    record {
      listed = λ p h. holds.listed p (sym (some_read s k (widest end face s k) a.0 a.1 end p) ∙ h);
      revisited = λ p h. holds.revisited p (sym (some_read s k (widest end face s k) a.0 a.1 end p) ∙ h);
      stands =
          widened_stands (setting_in face s) (setting_holds face known s together done) (times_in s) holds.stands set (k, is_high end) listed
          (times_in (after face summaries s (Widen (point_id k) end))) (widened_is face known s together done set k listed end);
    }
