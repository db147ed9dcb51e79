-- The joined order has each point of the network once, and z last: in_list, list_in, different-append, many_points, once_after, private_once, once,
-- listed, points_of_order.
use Rattle.std.proofs.Common.{zero, suc, ◌≡◌, ◌≢◌, ◌⊎◌, ℕ, ◌+◌, ◌<◌, List, [], ◌∷◌, ◌++◌, Bool, true, false, ◌||◌, not, nat_eq, Option, None, Some, length, map, get_or}
use Rattle.std.proofs.Common.{ap, sym, ◌∙◌, refl, arith, inl, inr, subst, append_assoc}
use Rattle.std.specs.Prelude.{◌==◌, ◌↔◌, Contains, reverse, slice_get, is_some, if◌then◌else◌}
use Rattle.std.specs.List.{AllByRecursion, range_with_len}
use Rattle.std.specs.Option.{option_eq}
use Rattle.std.proofs.Math.Bool.{or-true}
use Rattle.std.proofs.lemmas.Bool.{and_parts, or_cases, false≢true}
use Rattle.std.proofs.lemmas.Bool.Decides.{nat_tests}
use Rattle.std.proofs.lemmas.List.{get_or_default, get_or-map, length-map}
use Rattle.std.proofs.lemmas.List.FromFn.{length-map-range_with_len, get_or-map-range_with_len}
use Rattle.std.proofs.lemmas.Option.{slice_get-get_or}
use Rattle.stn_model.specs.Kinds.{is_owned_by, is_private_of, is_shared}
use Rattle.stn_model.specs.Net.{Net, point_count, owner_of}
use Rattle.stn_model.specs.Valid.{IsNetwork}
use Rattle.stn_model.specs.Walks.{AllDifferent}
use Rattle.stn_model.proofs.ArcKinds.{owner_there, owned_by}
use Rattle.stn_walk.specs.Eliminations.{is_in}
use Rattle.stn_walk.proofs.Different.{AllDifferent-from_index, few_different}
use Rattle.stn_walk.proofs.Joins.{is_in-reverse}
use Rattle.stn_walk.proofs.Members.{is_in-first, is_in-at, is_in-behind, is_in-apart, AllByRecursion-append}
use Rattle.elim_step.proofs.Parts.{is_in-append}
use Rattle.meeting_arcs.specs.Meeting.{meets, is_hidden}
use Rattle.meeting_arcs.proofs.HiddenPoints.{hidden_parts, owned_hidden}
use Rattle.private_elim.specs.Locals.{local_of, is_private_in}
use Rattle.private_elim.specs.ReducedViews.{ReducedView}
use Rattle.private_elim.proofs.taking.TakenFacts.{in_all}
use Rattle.shared_graph.specs.declared.events.Entry.{Entry}
use Rattle.shared_graph.specs.declared.events.Event.{Event}
use Rattle.shared_graph.specs.declared.events.Event.TheVariants.{Publish, Eliminate, Stop, Revisit, Assign, Widen}
use Rattle.shared_graph.specs.Interfaces.{InterfaceView, Summary, interface_of}
use Rattle.shared_graph.specs.Refusals.{cause_of, refusal}
use Rattle.shared_graph.specs.Replays.{after, replay}
use Rattle.shared_graph.specs.States.{State, start}
use Rattle.shared_graph.specs.Together.{HoldsTogether}
use Rattle.shared_graph.proofs.interfaces.SharedPoints.{owner_shared, shared_listed_in}
use Rattle.shared_graph.proofs.states.Passing.{no_stop, eliminate_passes}
use Rattle.conflict_cycle.specs.PartOrders.{order_of}
use Rattle.conflict_cycle.specs.Parts.{PartsView, BelongsTo, IsParts}
use Rattle.conflict_cycle.proofs.GraphFinals.{held, whole, order_shared}
use Rattle.conflict_cycle.proofs.LaidOrders.{all_private, laid, private_is, private_laid, laid_hidden}
use Rattle.conflict_cycle.proofs.OrderPlaces.{order_within}
use Rattle.conflict_cycle.proofs.PartLists.{orders}
use Rattle.tri_solve.proofs.Orders.{different-reverse}
use Rattle.tri_solve.proofs.Places.{at_place}
use Rattle.tri_solve.specs.Layouts.{place}
use Rattle.joined_answer.specs.Points.{ArePointsOf}

pub in_list : (xs : List ℕ) (p : ℕ) → is_in xs p ≡ true → Contains xs p
in_list [] p h = absurd (false≢true h)
in_list (x ∷ xs) p h = elim (or_cases (is_in xs p) (p == x) h) [
  | inl later ↦ (let c = in_list xs p later in (suc c.0, omega (arith, c.1), c.2))
  | inr here ↦ (0, omega arith, (let e : x ≡ p = grind (arith, nat_tests) in e))
]

pub list_in : (xs : List ℕ) (p : ℕ) → Contains xs p → is_in xs p ≡ true
list_in xs p c = subst (λ q. is_in xs q ≡ true) (get_or_default xs c.0 0 p c.1 ∙ c.2) (is_in-at xs c.0 c.1)

-- what is not in a list differs from each item
not_in : (x : ℕ) (ys : List ℕ) → is_in ys x ≡ false → AllByRecursion (λ y. x ≢ y) ys
not_in x [] h = tt
not_in x (y ∷ ys) h = (λ e. absurd (is_in-apart (y ∷ ys) y x (is_in-first y ys) h (sym e)), not_in x ys (front (is_in ys x) (x == y) h)) where
  front : (a b : Bool) → (a || b) ≡ false → a ≡ false
  front true b h = absurd (cc)
  front false b h = refl

pub different-append : (xs ys : List ℕ) → AllDifferent xs → AllDifferent ys → ((p : ℕ) → is_in xs p ≡ true → is_in ys p ≡ false)
    → AllDifferent (xs ++ ys)
different-append [] ys d e apart = e
different-append (x ∷ xs) ys d e apart = (
  AllByRecursion-append (λ y. x ≢ y) xs ys d.0 (not_in x ys (apart x (is_in-first x xs))),
  different-append xs ys d.1 e (λ p h. apart p (ap (λ b. b || (p == x)) h)),
)

-- a list that has each number below n once, and no other, has n
below_all : (n : ℕ) (xs : List ℕ) → ((p : ℕ) → Contains xs p → p < n) → AllByRecursion (λ x. x < n) xs
below_all n [] h = tt
below_all n (x ∷ xs) h = (h x (0, omega arith, refl), below_all n xs (λ p c. h p (suc c.0, omega (arith, c.1), c.2)))

map_below : (f : ℕ → ℕ) (n a bound : ℕ) → ((p : ℕ) → p < a + n → f p < bound) → AllByRecursion (λ x. x < bound) (map f (range_with_len a n))
map_below f zero a bound h = tt
map_below f (suc n) a bound h = (h a (omega arith), map_below f n (a + 1) bound (λ p lt. h p (omega arith)))

pub many_points : (n : ℕ) (xs : List ℕ) → AllDifferent xs → ((p : ℕ) → (p < n) ↔ Contains xs p) → length xs ≡ n
many_points n xs once listed =
    let most = few_different n xs once (below_all n xs (λ p c. (listed p).1 c)) in
    let len : length (map (place xs) (range_with_len 0 n)) ≡ n = length-map-range_with_len (place xs) 0 n in
    let least = few_different (length xs) (map (place xs) (range_with_len 0 n)) apart
    (map_below (place xs) n 0 (length xs) (λ p lt. (at_place xs once p ((listed p).0 (omega arith))).0)) in
    omega arith where
      there : (k : ℕ) → k < n → get_or xs (place xs k) 0 ≡ k
      there k lt = (at_place xs once k ((listed k).0 lt)).1

      read : (k : ℕ) → k < n → get_or (map (place xs) (range_with_len 0 n)) k 0 ≡ place xs k
      read k lt = get_or-map-range_with_len (place xs) 0 n k k 0 lt (omega arith)

      apart : AllDifferent (map (place xs) (range_with_len 0 n))
      apart = AllDifferent-from_index (map (place xs) (range_with_len 0 n)) (λ m k lt less e.
          let len : length (map (place xs) (range_with_len 0 n)) ≡ n = length-map-range_with_len (place xs) 0 n in
          let low : m < n = omega arith in
          let same : place xs k ≡ place xs m = sym (read k (omega arith)) ∙ e ∙ read m low in
          let is : k ≡ m = sym (there k (omega arith)) ∙ ap (λ q. get_or xs q 0) same ∙ there m low in
          absurd (omega arith))

-- a point is eliminated once
module _ (face : InterfaceView) (summaries : List Summary) where
  once_more : (s : State) (e : Entry) → refusal face s e ≡ None → AllDifferent s.order → AllDifferent (after face summaries s e.event).order
  once_more s e legal d = go e.event (no_stop face s e legal).1 where
    go : (event : Event) → cause_of face s e.by event ≡ None → AllDifferent (after face summaries s event).order
    go (Publish a) h = d
    go (Eliminate k) h = (not_in k.0 s.order (eliminate_passes face s e.by k.0 h).1, d)
    go (Stop k i) h = d
    go (Revisit k) h = d
    go (Assign k v) h = d
    go (Widen k end) h = d

  pub once_after : (es : List Entry) (s t : State) → AllDifferent s.order → replay face summaries s es ≡ Some t → AllDifferent t.order
  once_after [] s t d h = (let e : s ≡ t = cc in subst (λ (u : State). AllDifferent u.order) e d)
  once_after (x ∷ es) s t d h =
      elim (refusal face s x) as (λ o. refusal face s x ≡ o → (if is_some o then None else replay face summaries (after face summaries s x.event) es) ≡ Some t
      → AllDifferent t.order) [
        | None ↦ λ legal g. once_after es (after face summaries s x.event) t (once_more s x legal d) g
        | Some c ↦ λ legal g. absurd (cc)
      ] refl h

one_owner : (o : Option ℕ) (a b : ℕ) → option_eq nat_eq o (Some a) ≡ true → option_eq nat_eq o (Some b) ≡ true → a ≡ b
one_owner None a b h g = absurd (false≢true h)
one_owner (Some o) a b h g = grind (arith, nat_tests)

-- a private point has one agent
one_agent : (net : Net) (a b p : ℕ) → is_private_of net a p ≡ true → is_private_of net b p ≡ true → a ≡ b
one_agent net a b p h g =
    one_owner (owner_of net p) a b (and_parts (is_owned_by net a p) (not (is_shared net p)) h).0 (and_parts (is_owned_by net b p) (not (is_shared net p)) g).0

-- lists that have private points of agents in turn, each once
module _ (net : Net) where
  -- the list of number k has points of agent n + k
  abbrev ArePrivate : ℕ → List (List ℕ) → Type 0
  ArePrivate n lists = (k a p : ℕ) → a ≡ n + k → k < length lists → is_in (get_or lists k []) p ≡ true → is_private_of net a p ≡ true

  from_lists : (lists : List (List ℕ)) (p : ℕ) → is_in (all_private lists) p ≡ true → (k : ℕ) × (k < length lists) × (is_in (get_or lists k []) p ≡ true)
  from_lists [] p h = absurd (false≢true h)
  from_lists (xs ∷ lists) p h = elim (or_cases (is_in xs p) (is_in (all_private lists) p) (sym (is_in-append xs (all_private lists) p) ∙ h)) [
    | inl here ↦ (0, omega arith, here)
    | inr later ↦ (let c = from_lists lists p later in (suc c.0, omega (arith, c.1), c.2))
  ]

  pub private_once : (n : ℕ) (lists : List (List ℕ)) → ((k : ℕ) → k < length lists → AllDifferent (get_or lists k [])) → ArePrivate n lists
      → AllDifferent (all_private lists)
  private_once n [] each own = tt
  private_once n (xs ∷ lists) each own =
      different-append xs (all_private lists) (each 0 (omega arith)) (private_once (suc n) lists (λ k lt. each (suc k) (omega arith)) rest) apart where
        rest : ArePrivate (suc n) lists
        rest k a p is lt here = own (suc k) a p (omega arith) (omega arith) here

        apart : (p : ℕ) → is_in xs p ≡ true → is_in (all_private lists) p ≡ false
        apart p here = elim (is_in (all_private lists) p) as (λ b. is_in (all_private lists) p ≡ b → b ≡ false) [
          | false ↦ λ t. refl
          | true ↦ λ t.
              (let c = from_lists lists p t in
              let is = one_agent net n (suc n + c.0) p (own 0 n p (omega arith) (omega arith) here) (rest c.0 (suc n + c.0) p refl c.1 c.2) in
              absurd (omega arith))
        ] refl

module _ (parts : PartsView) (known : IsParts parts) (together : HoldsTogether parts.shared.face parts.shared.state) (net : Net)
    (belongs : BelongsTo net parts) where
  abbrev s : State
  s = parts.shared.state

  abbrev private : List ℕ
  private = all_private (orders parts.reduced)

  abbrev order : List ℕ
  order = order_of parts.reduced s

  valid : IsNetwork net
  valid = belongs.stands.network

  shared_order : (p : ℕ) → is_in s.order p ≡ true → is_shared net p ≡ true
  shared_order = order_shared net parts.shared belongs.stands known.ordered known.revisited together

  -- an agent's order
  read_order : (k : ℕ) → k < length parts.reduced → (r : ReducedView) × (slice_get parts.reduced k ≡ Some r) × (get_or (orders parts.reduced) k [] ≡ r.order)
  read_order k lt = (let d : ReducedView = record { local = local_of net k; order = []; summary = [] } in (
    get_or parts.reduced k d,
    slice_get-get_or parts.reduced k d lt,
    get_or-map (λ (r : ReducedView). r.order) parts.reduced k d [] lt,
  ))

  all_once : AllDifferent private
  all_once = private_once net 0 (orders parts.reduced) each own where
    many : length (orders parts.reduced) ≡ length parts.reduced
    many = length-map parts.reduced (λ r. r.order)

    each : (k : ℕ) → k < length (orders parts.reduced) → AllDifferent (get_or (orders parts.reduced) k [])
    each k lt = (let r = read_order k (omega (arith, many)) in subst AllDifferent (sym r.2) (known.reduced k r.0 r.1).once)

    own : ArePrivate net 0 (orders parts.reduced)
    own k a p is lt here = (let r = read_order k (omega (arith, many)) in
        let in_order : is_in r.0.order p ≡ true = subst (λ xs. is_in xs p ≡ true) r.2 here in
        let e : k ≡ a = omega arith in
        subst (λ b. is_private_of net b p ≡ true) e
        (sym (private_is net parts.reduced belongs.reduced known.reduced k r.0 r.1 p)
        ∙ in_all (λ q. is_private_in r.0.local q ≡ true) r.0.order p (known.reduced k r.0 r.1).private in_order))

  -- behind the private points stand those that others see: the shared ones, and z
  abbrev seen : List ℕ
  seen = reverse s.order ++ 0 ∷ []

  seen_point : (p : ℕ) → is_in seen p ≡ true → (is_shared net p ≡ true) ⊎ (p ≡ 0)
  seen_point p here = elim (or_cases (is_in (reverse s.order) p) (p == 0) (sym (is_in-append (reverse s.order) (0 ∷ []) p) ∙ here)) [
    | inl shared ↦ inl (shared_order p (sym (is_in-reverse s.order p) ∙ shared))
    | inr z ↦ inr (grind (arith, nat_tests))
  ]

  shared_not_z : (p : ℕ) → is_in s.order p ≡ true → p ≢ 0
  shared_not_z p here =
      let own = (held net parts.shared belongs.stands known.ordered known.revisited together).owned p here in
      (owner_shared net valid p own.0 own.1).0

  shared_once : AllDifferent s.order
  shared_once = once_after (interface_of net) belongs.stands.summaries parts.shared.journal start s tt belongs.stands.replays

  seen_once : AllDifferent seen
  seen_once = different-append (reverse s.order) (0 ∷ []) (different-reverse s.order shared_once) (tt, tt)
      (λ p here. let other = shared_not_z p (sym (is_in-reverse s.order p) ∙ here) in grind (arith, nat_tests))

  away : (p : ℕ) → is_in private p ≡ true → is_in seen p ≡ false
  away p here =
      let hidden = hidden_parts net p (laid_hidden net parts.reduced belongs.reduced known.reduced p here) in
      elim (is_in seen p) as (λ b. is_in seen p ≡ b → b ≡ false) [
        | false ↦ λ t. refl
        | true ↦ λ t. elim (seen_point p t) [
          | inl shared ↦ absurd (false≢true (sym hidden.1 ∙ shared))
          | inr z ↦ absurd (hidden.0 z)
        ]
      ] refl

  laid_so : order ≡ private ++ seen
  laid_so = laid (orders parts.reduced) (reverse s.order)

  once : AllDifferent order
  once = subst AllDifferent (sym laid_so) (different-append private seen all_once seen_once away)

  -- a point of the network is private to its owner, or shared, or z
  has_point : (p : ℕ) → p < point_count net → is_in (private ++ seen) p ≡ true
  has_point p lt = go (meets net p) refl where
    go : (b : Bool) → meets net p ≡ b → is_in (private ++ seen) p ≡ true
    go false out =
        (let hidden : is_hidden net p ≡ true = ap not out in
        let owner = owner_there net valid p (hidden_parts net p hidden).0 lt in
        let own = owned_hidden net owner.0 p (owned_by net valid p owner.0 owner.2) hidden in
        is_in-append private seen p ∙ ap (λ b. b || is_in seen p) (private_laid net parts.reduced belongs.reduced known.reduced owner.0 p owner.1 own))
    go true in_it = is_in-behind private seen p (is_in-append (reverse s.order) (0 ∷ []) p ∙ elim (or_cases (nat_eq p 0) (is_shared net p) in_it) [
      | inl z ↦ ap (λ b. is_in (reverse s.order) p || b) z ∙ or-true (is_in (reverse s.order) p)
      | inr shared ↦
          ap (λ b. b || (p == 0)) (is_in-reverse s.order p
          ∙ whole net parts.shared belongs.stands known.ordered known.revisited together p (shared_listed_in net valid p shared))
    ])

  listed : (p : ℕ) → (p < point_count net) ↔ Contains order p
  listed p = (
    λ lt. in_list order p (subst (λ xs. is_in xs p ≡ true) (sym laid_so) (has_point p lt)),
    λ c. order_within net valid parts.reduced s belongs.reduced known.reduced shared_order p (list_in order p c),
  )

  pub points_of_order : ArePointsOf net order
  points_of_order = record {
    once = once;
    points = listed;
    many = many_points (point_count net) order once listed;
    last = (private ++ reverse s.order, laid_so ∙ sym (append_assoc private (reverse s.order) (0 ∷ [])));
  }
