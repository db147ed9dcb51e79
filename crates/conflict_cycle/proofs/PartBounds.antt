-- What the bounds of parts are in a network to which they belong: they are there exactly for joined pairs, and are the least ones: held_by, final_by,
-- part_of, NoOwners, bound_joined, bound_told, joined_bound, joined_told, least_told, unjoined_told.
use Rattle.std.proofs.Common.{◌≡◌, ◌≢◌, ◌↔◌, ◌⊎◌, ℕ, ◌<◌, List, [], ◌∷◌, Bool, true}
use Rattle.std.proofs.Common.{false, ◌||◌, not, nat_eq, Option, Some, None, IfSome, IfNone, length, get_or}
use Rattle.std.proofs.Common.{⊎_elim, ap, sym, ◌∙◌, refl, arith, subst, inl, inr}
use Rattle.std.specs.Prelude.{ℤ, slice_get, is_some}
use Rattle.std.specs.Option.{option_eq}
use Rattle.std.proofs.Math.Bool.{or-true}
use Rattle.std.proofs.lemmas.Bool.{cases_eq, false≢true}
use Rattle.std.proofs.lemmas.Bool.Decides.{nat_tests}
use Rattle.std.proofs.lemmas.List.{length-map}
use Rattle.std.proofs.lemmas.Option.{slice_get-get_or, slice_get_within}
use Rattle.stn_model.specs.declared.ids.Constraint.{Constraint}
use Rattle.stn_model.specs.Joined.{HasEdge, IsPath, IsJoined}
use Rattle.stn_model.specs.Kinds.{is_owned_by, is_private_of, is_shared}
use Rattle.stn_model.specs.Net.{Net, arcs_of, point_count, owner_of}
use Rattle.stn_model.specs.Schedules.{IsConsistent, IsLeastBound}
use Rattle.stn_model.specs.Valid.{IsNetwork}
use Rattle.stn_model.proofs.ArcKinds.{owner_there}
use Rattle.stn_walk.specs.Eliminations.{is_in}
use Rattle.meeting_arcs.specs.Meeting.{meets, is_hidden}
use Rattle.meeting_arcs.proofs.HiddenPoints.{hidden_parts, owned_hidden}
use Rattle.private_elim.specs.Backs.{BoundsView, bound_between, HoldsFinals, IsLeastIn, IsPrivatePair}
use Rattle.private_elim.specs.Locals.{LocalView, is_private_in, local_of}
use Rattle.private_elim.specs.Parts.{HasPart}
use Rattle.private_elim.specs.ReducedViews.{ReducedView}
use Rattle.private_elim.proofs.locals.PartNetworks.{has_part, private_of_part}
use Rattle.private_elim.proofs.summary.EntryLookups.{found_some}
use Rattle.shared_graph.specs.Histories.{SharedView, IsJournal}
use Rattle.shared_graph.specs.Interfaces.{interface_of}
use Rattle.shared_graph.specs.Journals.{IsVerdictOn}
use Rattle.shared_graph.specs.States.{State}
use Rattle.shared_graph.specs.Together.{HoldsTogether, IsAllPublished, IsWhole}
use Rattle.shared_graph.proofs.interfaces.SharedPoints.{interface_is}
use Rattle.shared_graph.proofs.networks.Networks.{summaries_fit}
use Rattle.shared_graph.specs.Replays.{plain_entries}
use Rattle.shared_graph.specs.Weights.{final, is_joined}
use Rattle.conflict_cycle.proofs.GraphFinals.{final_parts, held, all, whole, judged, consistent, visited_seen, order_shared, joined_final, seen_final}
use Rattle.conflict_cycle.specs.Nexts.{HasPrivate}
use Rattle.conflict_cycle.specs.PartOrders.{order_of}
use Rattle.conflict_cycle.specs.Parts.{PartsView, BelongsTo, IsBackOf, IsParts}
use Rattle.conflict_cycle.proofs.HiddenPaths.{edge_within}
use Rattle.conflict_cycle.proofs.PrivatePairs.{private_pairs_join}
use Rattle.conflict_cycle.proofs.SharedPairs.{shared_pairs_join}

-- an item below the length
item_at : {X : Type 0} (xs : List X) (k : ℕ) → k < length xs → (x : X) × (slice_get xs k ≡ Some x)
item_at [] k low = absurd (omega arith)
item_at (x ∷ xs) k low = (get_or (x ∷ xs) k x, slice_get-get_or (x ∷ xs) k x low)

-- the last edge of a path
last_edge : (arcs : List Constraint) (i j : ℕ) (inner : List ℕ) → IsPath arcs i j inner → (x : ℕ) × HasEdge arcs x j
last_edge arcs i j [] path = (i, path)
last_edge arcs i j (p ∷ ps) path = last_edge arcs p j ps path.1

first_edge : (arcs : List Constraint) (i j : ℕ) (inner : List ℕ) → IsPath arcs i j inner → (x : ℕ) × HasEdge arcs i x
first_edge arcs i j [] path = (j, path)
first_edge arcs i j (p ∷ ps) path = (p, path.0)

-- what is read of the graph of parts
pub held_by : (parts : PartsView) (v : SharedView) → v ≡ parts.shared → HoldsTogether v.face v.state → HoldsTogether parts.shared.face parts.shared.state
held_by parts v is held = subst (λ (w : SharedView). HoldsTogether w.face w.state) is held

pub final_by : (parts : PartsView) (v : SharedView) → v ≡ parts.shared → (i j : ℕ) (o : Option ℤ) → o ≡ final v.face v.state i j
    → o ≡ final parts.shared.face parts.shared.state i j
final_by parts v is i j o h = h ∙ ap (λ (w : SharedView). final w.face w.state i j) is

module _ (net : Net) (valid : IsNetwork net) where
  -- an end of an arc that others do not see is a private point of an agent
  hidden_owned : (p : ℕ) → p < point_count net → meets net p ≡ false
      → (a : ℕ) × (a < length net.agents) × (is_private_of net a p ≡ true) × (owner_of net p ≡ Some a)
  hidden_owned p low out =
      let hidden : is_hidden net p ≡ true = ap not out in
      let other = (hidden_parts net p hidden).0 in
      let owner = owner_there net valid p other low in
      let own : is_owned_by net owner.0 p ≡ true = owned p owner.0 owner.2 in
      (owner.0, owner.1, owned_hidden net owner.0 p own hidden, owner.2) where
        owned : (p a : ℕ) → owner_of net p ≡ Some a → is_owned_by net a p ≡ true
        owned p a is = ap (λ o. option_eq nat_eq o (Some a)) is ∙ (let e : nat_eq a a ≡ true = grind (arith, nat_tests) in e)

  -- the ends of a joined pair are points of the network
  pub joined_ends : (order : List ℕ) (i j : ℕ) → IsJoined (arcs_of net) order i j → (i < point_count net) × (j < point_count net)
  joined_ends order i j joined =
      let first = first_edge (arcs_of net) i j joined.inner joined.path in
      let last = last_edge (arcs_of net) i j joined.inner joined.path in
      ((edge_within net valid i first.0 first.1).0, (edge_within net valid last.0 j last.1).1)

  -- the owner of a point is an agent
  pub owner_known : (p a : ℕ) → p < point_count net → owner_of net p ≡ Some a → a < length net.agents
  owner_known p a low is =
      ⊎_elim (λ (z : p ≡ 0). absurd (let none : owner_of net p ≡ None = ap (owner_of net) z in none_some (owner_of net p) a none is))
      (λ (other : p ≢ 0).
      let owner = owner_there net valid p other low in
      let many = owner.1 in
      let same : owner.0 ≡ a = one_number (owner_of net p) owner.0 a owner.2 is in
      omega arith)
      (cases_eq p 0)
    where
      none_some : (o : Option ℕ) (a : ℕ) → o ≡ None → o ≡ Some a → ⊥
      none_some o a h g = absurd (cc)

      one_number : (o : Option ℕ) (a b : ℕ) → o ≡ Some a → o ≡ Some b → a ≡ b
      one_number o a b h g = cc

module _ (parts : PartsView) (known : IsParts parts)
    (together : HoldsTogether parts.shared.face parts.shared.state) (net : Net) (belongs : BelongsTo net parts) where
  abbrev pub s : State
  s = parts.shared.state

  abbrev pub joins : ℕ → ℕ → Type 0
  joins i j = IsJoined (arcs_of net) (order_of parts.reduced s) i j

  pub valid : IsNetwork net
  valid = belongs.stands.network

  pub shared_order : (p : ℕ) → is_in s.order p ≡ true → is_shared net p ≡ true
  shared_order = order_shared net parts.shared belongs.stands known.ordered known.revisited together

  pub net_held : HoldsTogether (interface_of net) s
  net_held = held net parts.shared belongs.stands known.ordered known.revisited together

  pub net_all : IsAllPublished (interface_of net) s
  net_all = all net parts.shared belongs.stands known.ordered known.revisited together

  pub net_whole : IsWhole (interface_of net) s
  net_whole = whole net parts.shared belongs.stands known.ordered known.revisited together

  pub journal_known : IsJournal (interface_of net) s parts.shared.journal
  journal_known =
      let st = belongs.stands in
      let many = st.right.one_each in
      let plain = length-map st.summaries plain_entries in
      let leans = length-map net.agents (λ a. a.lean) in
      record {
        interface = interface_is net valid;
        summaries = st.summaries;
        one_each = omega arith;
        fitting = summaries_fit net valid st.summaries st.right;
        replays = st.replays;
      }

  -- points that others see are joined as in the graph
  seen_pairs : (i j : ℕ) → meets net i ≡ true → meets net j ≡ true → joins i j ↔ (is_joined (interface_of net) s i j ≡ true)
  seen_pairs = shared_pairs_join net parts.reduced s parts.shared.journal valid belongs.reduced known.reduced belongs.published journal_known net_all net_whole

  net_judged : IsVerdictOn net parts.shared
  net_judged = judged net parts.shared belongs.stands known.ordered known.revisited together

  pub net_consistent : IsConsistent (point_count net) (arcs_of net)
  net_consistent = consistent net parts.shared belongs.stands known.ordered known.revisited together

  pub final_joined : (i j : ℕ) (b : ℤ) → final parts.shared.face s i j ≡ Some b → joins i j
  final_joined i j b is =
      let there = final_parts (interface_of net) s i j b (subst (λ f. final f s i j ≡ Some b) belongs.stands.face is) in
      let one = visited_seen net parts.shared belongs.stands known.ordered known.revisited together i there.1 in
      let two = visited_seen net parts.shared belongs.stands known.ordered known.revisited together j there.2 in
      (seen_pairs i j one two).1 there.0

  module _ (a : ℕ) (r : ReducedView) (v : BoundsView) (there : slice_get parts.reduced a ≡ Some r) (here : slice_get parts.bounds a ≡ Some v) where
    pub local : r.local ≡ local_of net a
    local = belongs.reduced.each a r there

    pub agent : r.local.agent ≡ a
    agent = ap (λ (l : LocalView). l.agent) local

    pub own : r.local ≡ local_of net r.local.agent
    own = local ∙ ap (local_of net) (sym agent)

    pub part : HasPart net r.local
    part = has_part r.local net own

    pub low : r.local.agent < length net.agents
    low =
        let inside = slice_get_within parts.reduced a r there in
        let many = belongs.reduced.one_each in
        let is = agent in
        omega arith

    pub back : IsBackOf parts.shared.face s r v
    back = belongs.back a r v there here

    finals_hold : HoldsFinals net r.local.agent back.finals
    finals_hold = record {
      consistent = net_consistent;
      bounds = λ i j pair.
          let sums = (known.reduced a r there).sums_up net valid own in
          let entry = sums.whole i j pair in
          let is = back.hold i j (found_some r.summary i j entry.0 entry.1) in
          let b = seen_final net parts.shared belongs.stands known.ordered known.revisited together r.local.agent i j low pair in
          (b.0, is ∙ b.1, b.2);
    }

    private_least : (i j : ℕ) → IsPrivatePair r i j → IsLeastIn net i j (bound_between v i j)
    private_least i j pair = back.swept.least net valid part finals_hold i j pair

    private_joined : (i j : ℕ) → IsPrivatePair r i j → joins i j
    private_joined i j pair =
        (private_pairs_join net parts.reduced s valid belongs.reduced known.reduced shared_order a r there i j pair.private).1 pair.joined

    -- a bound of its back sweep
    pub back_joined : (i j : ℕ) (b : ℤ) → bound_between v i j ≡ Some b → joins i j × IsLeastBound (point_count net) (arcs_of net) i j b
    back_joined i j b is =
        let pair = back.swept.only i j (ap is_some is) in
        (private_joined i j pair, subst (IsLeastIn net i j) is (private_least i j pair))

    -- a joined pair with a private point of the agent has one
    pub back_there : (i j : ℕ) → joins i j → (is_private_in r.local i || is_private_in r.local j) ≡ true → bound_between v i j ≡ None → ⊥
    back_there i j joined private none =
        let pair : IsPrivatePair r i j = record {
          joined = (private_pairs_join net parts.reduced s valid belongs.reduced known.reduced shared_order a r there i j private).0 joined;
          private = private;
        } in
        subst (IsLeastIn net i j) none (private_least i j pair)

    private_is : (p : ℕ) → is_private_of net a p ≡ true → is_private_in r.local p ≡ true
    private_is p h = private_of_part r.local net part p ∙ ap (λ k. is_private_of net k p) agent ∙ h

  -- the reduced part of a back sweep
  pub part_of : (a : ℕ) (v : BoundsView) → slice_get parts.bounds a ≡ Some v → (r : ReducedView) × (slice_get parts.reduced a ≡ Some r)
  part_of a v here =
      let inside = slice_get_within parts.bounds a v here in
      let many = belongs.one_each in
      item_at parts.reduced a (omega arith)

  -- what a bound of some back sweep is
  pub bound_joined : (a : ℕ) (v : BoundsView) (i j : ℕ) (b : ℤ) → slice_get parts.bounds a ≡ Some v → bound_between v i j ≡ Some b
      → joins i j × IsLeastBound (point_count net) (arcs_of net) i j b
  bound_joined a v i j b here is =
      let r = part_of a v here in
      back_joined a r.0 v r.1 here i j b is

  -- the same where it is found
  pub bound_told : (i j : ℕ) (o : Option ℤ) → is_some o ≡ true
      → IfSome o (λ b. (a : ℕ) × ((v : BoundsView) × (slice_get parts.bounds a ≡ Some v) × (bound_between v i j ≡ Some b)))
      → joins i j × IfSome o (λ b. IsLeastBound (point_count net) (arcs_of net) i j b)
  bound_told i j None there found = absurd (cc)
  bound_told i j (Some b) there found = bound_joined found.0 found.1.0 i j b found.1.1 found.1.2

  pub private_told : (i j : ℕ) (o : Option ℤ) → IfSome o (λ b. (a : ℕ) × ((v : BoundsView) × (slice_get parts.bounds a ≡ Some v) × (bound_between v i j ≡ Some b)))
      → IfSome o (λ b. IsLeastBound (point_count net) (arcs_of net) i j b)
  private_told i j None found = tt
  private_told i j (Some b) found = (bound_joined found.0 found.1.0 i j b found.1.1 found.1.2).1

  -- the back sweeps of the owners of two points have no bound between them
  abbrev pub NoOwners : ℕ → ℕ → Type 0
  NoOwners i j =
      (a : ℕ) (v : BoundsView) → (owner_of net i ≡ Some a) ⊎ (owner_of net j ≡ Some a) → slice_get parts.bounds a ≡ Some v → bound_between v i j ≡ None

  -- a joined pair with a point that others do not see has one, by that point's owner
  pub hidden_bound : (i j p : ℕ) → joins i j → p < point_count net → meets net p ≡ false → (p ≡ i) ⊎ (p ≡ j)
      → (a : ℕ) × (v : BoundsView) × (slice_get parts.bounds a ≡ Some v) × (is_some (bound_between v i j) ≡ true) × (owner_of net p ≡ Some a)
  hidden_bound i j p joined lt out which =
      let own = hidden_owned net valid p lt out in
      let agents = belongs.reduced.one_each in
      let many = belongs.one_each in
      let known_low = own.1 in
      let r = item_at parts.reduced own.0 (omega arith) in
      let v = item_at parts.bounds own.0 (omega arith) in
      let lost = back_there own.0 r.0 v.0 r.1 v.1 i j joined (private_one r.0 (private_is own.0 r.0 v.0 r.1 v.1 p own.2) which) in
      (own.0, v.0, v.1, there (bound_between v.0 i j) lost, own.3) where
        private_one : (r : ReducedView) → is_private_in r.local p ≡ true → (p ≡ i) ⊎ (p ≡ j) → (is_private_in r.local i || is_private_in r.local j) ≡ true
        private_one r h (inl is) = ap (λ b. b || is_private_in r.local j) (ap (is_private_in r.local) (sym is) ∙ h)
        private_one r h (inr is) =
            ap (λ b. is_private_in r.local i || b) (ap (is_private_in r.local) (sym is) ∙ h) ∙ or-true (is_private_in r.local i)

        there : (o : Option ℤ) → (o ≡ None → ⊥) → is_some o ≡ true
        there None lost = absurd (lost refl)
        there (Some b) lost = refl

  hidden_there : (i j p : ℕ) → joins i j → p < point_count net → meets net p ≡ false → (p ≡ i) ⊎ (p ≡ j) → NoOwners i j → ⊥
  hidden_there i j p joined lt out which none =
      let found = hidden_bound i j p joined lt out which in
      false≢true (sym (ap is_some (none found.0 found.1 (owned_one found.0 found.4 which) found.2)) ∙ found.3) where
        owned_one : (a : ℕ) → owner_of net p ≡ Some a → (p ≡ i) ⊎ (p ≡ j) → (owner_of net i ≡ Some a) ⊎ (owner_of net j ≡ Some a)
        owned_one a h (inl is) = inl (subst (λ q. owner_of net q ≡ Some a) is h)
        owned_one a h (inr is) = inr (subst (λ q. owner_of net q ≡ Some a) is h)

  -- a joined pair has a bound of a back sweep, or a final bound
  pub joined_either : (i j : ℕ) → joins i j → HasPrivate parts.bounds i j ⊎ (is_some (final parts.shared.face s i j) ≡ true)
  joined_either i j joined = go (meets net i) (meets net j) refl refl where
    by_sweep : (p : ℕ) → p < point_count net → meets net p ≡ false → (p ≡ i) ⊎ (p ≡ j) → HasPrivate parts.bounds i j
    by_sweep p lt out which = (let found = hidden_bound i j p joined lt out which in (found.0, found.1, found.2, found.3))

    go : (x y : Bool) → meets net i ≡ x → meets net j ≡ y → HasPrivate parts.bounds i j ⊎ (is_some (final parts.shared.face s i j) ≡ true)
    go true true one two =
        (let b = joined_final net parts.shared belongs.stands known.ordered known.revisited together i j one two
        ((seen_pairs i j one two).0 joined) in
        inr (ap is_some b.1))
    go false y one two = inl (by_sweep i (joined_ends net valid (order_of parts.reduced s) i j joined).0 one (inl refl))
    go true false one two = inl (by_sweep j (joined_ends net valid (order_of parts.reduced s) i j joined).1 two (inr refl))

  -- a joined pair without such a bound has a final bound
  pub joined_bound : (i j : ℕ) → NoOwners i j → joins i j → is_some (final parts.shared.face s i j) ≡ true
  joined_bound i j none joined = go (meets net i) (meets net j) refl refl where
    go : (x y : Bool) → meets net i ≡ x → meets net j ≡ y → is_some (final parts.shared.face s i j) ≡ true
    go true true one two =
        (let b = joined_final net parts.shared belongs.stands known.ordered known.revisited together i j one two
        ((seen_pairs i j one two).0 joined) in
        ap is_some b.1)
    go false y one two = absurd (hidden_there i j i joined (joined_ends net valid (order_of parts.reduced s) i j joined).0 one (inl refl) none)
    go true false one two = absurd (hidden_there i j j joined (joined_ends net valid (order_of parts.reduced s) i j joined).1 two (inr refl) none)

  -- the same of a final bound that is read
  pub joined_told : (i j : ℕ) (o : Option ℤ) → o ≡ final parts.shared.face s i j → is_some o ≡ true → joins i j
  joined_told i j None is there = absurd (cc)
  joined_told i j (Some b) is there = final_joined i j b (sym is)

  pub least_told : (i j : ℕ) (o : Option ℤ) → o ≡ final parts.shared.face s i j → IfSome o (λ b. IsLeastBound (point_count net) (arcs_of net) i j b)
  least_told i j o is = subst (λ (o : Option ℤ). IfSome o (λ b. IsLeastBound (point_count net) (arcs_of net) i j b)) (sym is) (net_judged.finals i j)

  pub unjoined_told : (i j : ℕ) (private o : Option ℤ) → is_some private ≡ false → o ≡ final parts.shared.face s i j
      → IfNone private ((a : ℕ) (v : BoundsView) → slice_get parts.bounds a ≡ Some v → bound_between v i j ≡ None) → joins i j → is_some o ≡ true
  unjoined_told i j None o none is absent joined = ap is_some is ∙ joined_bound i j (λ a v which here. absent a v here) joined
  unjoined_told i j (Some b) o none is absent joined = absurd (cc)
