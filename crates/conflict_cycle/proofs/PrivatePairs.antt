-- A private point of an agent is joined over all arcs where it is over the agent's own arcs.
--   joined_turned                       the order of two joined points does not matter
--   IsPartOf                            some of the arcs, and a part of a laid order, where the edges at its points are edges of the part
--   joined_in_part, joined_in_whole     the same pairs are joined in the part and in the whole
--   private_before, private_pairs       so it is in the order of all points of a network, which keeps what comes before what
--   private_pairs_join                  the law
use Rattle.conflict_cycle.specs.PrivatePairs.{PrivatePairsJoin}
use Rattle.std.proofs.Common.{◌≡◌, ℕ, List, [], ◌∷◌, ◌++◌, true, false, ◌||◌, nat_eq, Option, Some, None}
use Rattle.std.proofs.Common.{ap, sym, ◌∙◌, refl, arith, subst, inl, inr}
use Rattle.std.specs.Prelude.{◌↔◌, reverse, slice_get}
use Rattle.std.specs.List.{AllByRecursion}
use Rattle.std.specs.Option.{option_eq}
use Rattle.std.proofs.lemmas.Bool.{false≢true, or_cases}
use Rattle.std.proofs.lemmas.Bool.Decides.{nat_tests}
use Rattle.std.proofs.Math.Bool.{or-true}
use Rattle.stn_model.specs.declared.ids.Constraint.{Constraint}
use Rattle.stn_model.specs.Conflicts.{own_arcs}
use Rattle.stn_model.specs.Joined.{HasEdge, IsPath, ComesBefore, IsJoined}
use Rattle.stn_model.specs.Kinds.{is_owned_by, is_private_of}
use Rattle.stn_model.specs.Net.{Net, arcs_of, owner_of}
use Rattle.stn_walk.specs.Eliminations.{is_in, before_both}
use Rattle.stn_walk.specs.Joins.{joined_of}
use Rattle.stn_walk.proofs.Joins.{joined-symmetric, joined-from_order, order-from_joined, is_in-reverse}
use Rattle.stn_walk.proofs.PrivateArcs.{private_owned, own_contained}
use Rattle.private_elim.specs.Locals.{LocalView, local_of, arcs_in, is_private_in}
use Rattle.private_elim.specs.ReducedViews.{ReducedView}
use Rattle.private_elim.proofs.locals.LocalFacts.{arcs_of_net}
use Rattle.private_elim.proofs.taking.Orders.{before-turned}
use Rattle.private_elim.proofs.taking.TakenFacts.{in_all}
use Rattle.shared_graph.specs.States.{State}
use Rattle.conflict_cycle.specs.Belongs.{AreReducedOf}
use Rattle.conflict_cycle.specs.PartOrders.{order_of, AreReduced}
use Rattle.conflict_cycle.proofs.HiddenPaths.{edge_ends, own_edge}
use Rattle.conflict_cycle.proofs.LaidOrders.{private_is}
use Rattle.conflict_cycle.proofs.LaidParts.{LaidAround, laid_around, part_before, part_has, part_first, whole_before}

-- the order of two joined points does not matter
pub joined_turned : (arcs : List Constraint) (order : List ℕ) (i j : ℕ) → IsJoined arcs order i j → IsJoined arcs order j i
joined_turned arcs order i j h =
    let found = joined-from_order arcs order i j h in
    order-from_joined arcs order j i (λ e. found.0 (sym e))
    (ap (λ (es : List ℕ). joined_of arcs es j i) (before-turned (reverse order) j i)
    ∙ joined-symmetric arcs (before_both (reverse order) i j) j i ∙ found.1)

-- some of the arcs, and a part of an order behind a front: at a point of the part all edges are those of these arcs, whose edges have no end in
-- the front; the front has no point of the part
pub record IsPartOf (arcs own : List Constraint) (front part : List ℕ) : Type 0 where
  pub apart : (p : ℕ) → is_in part p ≡ true → is_in front p ≡ false
  pub here : (p q : ℕ) → is_in part p ≡ true → HasEdge arcs p q → HasEdge own p q
  pub there : (p q : ℕ) → HasEdge own p q → HasEdge arcs p q
  pub ends : (p q : ℕ) → HasEdge own p q → (is_in front p ≡ false) × (is_in front q ≡ false)

module _ (arcs own : List Constraint) (front part rest : List ℕ) (h : IsPartOf arcs own front part) where
  -- a path from a point of the part, by points that come before another one of it, stays in the part
  path_in_part : (start i j : ℕ) (ps : List ℕ) → is_in part start ≡ true → is_in part i ≡ true → IsPath arcs i j ps
      → AllByRecursion (λ p. ComesBefore (front ++ (part ++ rest)) p start × ComesBefore (front ++ (part ++ rest)) p j) ps
      → IsPath own i j ps × AllByRecursion (λ p. ComesBefore part p start × ComesBefore part p j) ps
  path_in_part start i j [] first now path before = (h.here i j now path, tt)
  path_in_part start i j (p ∷ ps) first now path before =
      let edge = h.here i p now path.0 in
      let next = part_has front part rest h.apart p start first (h.ends i p edge).1 before.0.0 in
      let more = path_in_part start p j ps first next path.1 before.1 in
      let early = part_before front part rest h.apart p start next before.0.0 in
      let late = part_before front part rest h.apart p j next before.0.1 in
      ((edge, more.0), ((early, late), more.1))

  -- so the part joins a point of its own with each point that the whole joins it with
  from_joined : (i j : ℕ) → is_in part i ≡ true → IsJoined arcs (front ++ (part ++ rest)) i j → IsJoined own part i j
  from_joined i j now joined =
      let in_part = path_in_part i i j joined.inner now now joined.path joined.before in
      record { different = joined.different; inner = joined.inner; path = in_part.0; before = in_part.1 }

  pub joined_in_part : (i j : ℕ) → (is_in part i || is_in part j) ≡ true → IsJoined arcs (front ++ (part ++ rest)) i j → IsJoined own part i j
  joined_in_part i j either joined =
      elim (or_cases (is_in part i) (is_in part j) either) [
        | inl now ↦ from_joined i j now joined
        | inr other ↦ joined_turned own part j i (from_joined j i other (joined_turned arcs (front ++ (part ++ rest)) i j joined))
      ]

  -- a path of the part is one of the whole, and its ends are not in the front
  path_in_whole : (i j : ℕ) (ps : List ℕ) → IsPath own i j ps → IsPath arcs i j ps
  path_in_whole i j [] path = h.there i j path
  path_in_whole i j (p ∷ ps) path = (h.there i p path.0, path_in_whole p j ps path.1)

  path_ends : (i j : ℕ) (ps : List ℕ) → IsPath own i j ps → (is_in front i ≡ false) × (is_in front j ≡ false)
  path_ends i j [] path = h.ends i j path
  path_ends i j (p ∷ ps) path = ((h.ends i p path.0).0, (path_ends p j ps path.1).1)

  -- what comes before both in the part does so in the whole
  all_before : (i j : ℕ) → is_in front i ≡ false → is_in front j ≡ false → (ps : List ℕ)
      → AllByRecursion (λ p. ComesBefore part p i × ComesBefore part p j) ps
      → AllByRecursion (λ p. ComesBefore (front ++ (part ++ rest)) p i × ComesBefore (front ++ (part ++ rest)) p j) ps
  all_before i j no_i no_j [] before = tt
  all_before i j no_i no_j (p ∷ ps) before =
      let now = part_first part p i before.0.0 in
      let early = whole_before front part rest h.apart p i now no_i before.0.0 in
      let late = whole_before front part rest h.apart p j now no_j before.0.1 in
      ((early, late), all_before i j no_i no_j ps before.1)

  pub joined_in_whole : (i j : ℕ) → IsJoined own part i j → IsJoined arcs (front ++ (part ++ rest)) i j
  joined_in_whole i j joined =
      let ends = path_ends i j joined.inner joined.path in
      record {
        different = joined.different;
        inner = joined.inner;
        path = path_in_whole i j joined.inner joined.path;
        before = all_before i j ends.0 ends.1 joined.inner joined.before;
      }

-- a point has one owner at most
one_owner : (o : Option ℕ) (a b : ℕ) → option_eq nat_eq o (Some a) ≡ true → option_eq nat_eq o (Some b) ≡ true → a ≡ b
one_owner None a b h g = absurd (false≢true h)
one_owner (Some o) a b h g = grind (arith, nat_tests)

module _ (net : Net) (a : ℕ) where
  -- an edge of an agent's own arcs is one of the network
  net_edge : (p q : ℕ) → HasEdge (own_arcs net a) p q → HasEdge (arcs_of net) p q
  net_edge p q (arc, listed, ends) = (arc, own_contained net a arc listed, ends)

  -- z and the agent's points are no private points of another agent
  other_owner : (b p : ℕ) → (nat_eq p 0 || is_owned_by net a p) ≡ true → is_private_of net b p ≡ true → b ≡ a
  other_owner b p own private =
      let owned = private_owned net b p private in
      elim (or_cases (nat_eq p 0) (is_owned_by net a p) own) [
        | inl z ↦ absurd (false≢true (sym owned.1 ∙ z))
        | inr mine ↦ one_owner (owner_of net p) b a owned.0 mine
      ]

module _ (net : Net) (reduced : List ReducedView) (s : State) (known : AreReducedOf net reduced) (parts : AreReduced reduced) where
  module _ (a : ℕ) (r : ReducedView) (there : slice_get reduced a ≡ Some r) where
    local_is : r.local ≡ local_of net r.local.agent
    local_is = (let e = known.each a r there in e ∙ ap (local_of net) (sym (ap (λ (v : LocalView). v.agent) e)))

    agent_is : r.local.agent ≡ a
    agent_is = ap (λ (v : LocalView). v.agent) (known.each a r there)

    -- the arcs of the part are own arcs, and its private points, which are those of its order, private points of the agent
    pub part_arcs : arcs_in r.local ≡ own_arcs net a
    part_arcs = arcs_of_net r.local net local_is ∙ ap (own_arcs net) agent_is

    pub part_private : (p : ℕ) → is_private_in r.local p ≡ is_private_of net a p
    part_private = private_is net reduced known parts a r there

    pub order_private : (p : ℕ) → is_in r.order p ≡ true → is_private_of net a p ≡ true
    order_private p here =
        sym (part_private p) ∙ in_all (λ p. is_private_in r.local p ≡ true) r.order p (parts a r there).private here

    private_in_order : (p : ℕ) → is_private_in r.local p ≡ true → is_in r.order p ≡ true
    private_in_order p private = sym (is_in-reverse r.order p) ∙ (parts a r there).whole p private

    -- its order is a part of the order of all points
    laid : LaidAround (λ (x : ReducedView). x.order) (reverse s.order) reduced a r
    laid = laid_around (λ (x : ReducedView). x.order) (reverse s.order) reduced a r there

  module _ (a : ℕ) (r : ReducedView) (there : slice_get reduced a ≡ Some r) where
    -- z and the points of the agent are not among those of the agents before
    not_in_front : (p : ℕ) → (nat_eq p 0 || is_owned_by net a p) ≡ true → is_in (laid a r there).front p ≡ false
    not_in_front p own =
        elim (is_in (laid a r there).front p) as (λ b. is_in (laid a r there).front p ≡ b → b ≡ false) [
          | true ↦ λ t.
              let e = (laid a r there).earlier p t in
              let low = e.2 in
              let same = other_owner net a e.0 p own (order_private e.0 e.1 e.3 p e.4) in
              absurd (omega arith)
          | false ↦ λ t. refl
        ] refl

    -- a point of its order is one of its points
    owned_part : (p : ℕ) → is_in r.order p ≡ true → (nat_eq p 0 || is_owned_by net a p) ≡ true
    owned_part p here =
        ap (λ b. nat_eq p 0 || b) (private_owned net a p (order_private a r there p here)).0 ∙ or-true (nat_eq p 0)

    -- so its own arcs are a part of the network's arcs, and the two join the same pairs
    agent_part : IsPartOf (arcs_of net) (own_arcs net a) (laid a r there).front r.order
    agent_part = record {
      apart = λ p here. not_in_front p (owned_part p here);
      here = λ p q now. own_edge net a p q (order_private a r there p now);
      there = net_edge net a;
      ends = λ p q edge. (let both = edge_ends net a p q edge in (not_in_front p both.0, not_in_front q both.1));
    }

    -- what comes before a joined point in the part does so in the order of all points
    pub private_before : (p q : ℕ) → IsJoined (arcs_in r.local) r.order p q → ComesBefore r.order p q → ComesBefore (order_of reduced s) p q
    private_before p q joined before =
        let l = laid a r there in
        let own = subst (λ arcs. IsJoined arcs r.order p q) (part_arcs a r there) joined in
        let ends = path_ends (arcs_of net) (own_arcs net a) l.front r.order l.rest agent_part p q own.inner own.path in
        subst (λ order. ComesBefore order p q) (sym l.is)
        (whole_before l.front r.order l.rest agent_part.apart p q (part_first r.order p q before) ends.1 before)

    pub private_pairs : (i j : ℕ) → (is_private_in r.local i || is_private_in r.local j) ≡ true
        → IsJoined (arcs_of net) (order_of reduced s) i j ↔ IsJoined (arcs_in r.local) r.order i j
    private_pairs i j private =
        let l = laid a r there in
        let either : (is_in r.order i || is_in r.order j) ≡ true = elim (or_cases (is_private_in r.local i) (is_private_in r.local j) private) [
          | inl now ↦ ap (λ b. b || is_in r.order j) (private_in_order a r there i now)
          | inr other ↦ ap (λ b. is_in r.order i || b) (private_in_order a r there j other) ∙ or-true (is_in r.order i)
        ] in (
          λ h. subst (λ arcs. IsJoined arcs r.order i j) (sym (part_arcs a r there))
              (joined_in_part (arcs_of net) (own_arcs net a) l.front r.order l.rest agent_part i j either
              (subst (λ order. IsJoined (arcs_of net) order i j) l.is h)),
          λ h. subst (λ order. IsJoined (arcs_of net) order i j) (sym l.is)
              (joined_in_whole (arcs_of net) (own_arcs net a) l.front r.order l.rest agent_part i j
              (subst (λ arcs. IsJoined arcs r.order i j) (part_arcs a r there) h)),
        )

pub private_pairs_join : PrivatePairsJoin
private_pairs_join net reduced s valid known parts shared a r there = private_pairs net reduced s known parts a r there
