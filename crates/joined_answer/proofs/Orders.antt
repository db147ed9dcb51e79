-- The order of eliminations by a journal, and the private orders of all agents: order_of, eliminated_are, solving,
-- private_order, private_orders.
use Rattle.std.proofs.Common.{◌≡◌, ℕ, List, [], ◌∷◌, ◌++◌, true, ◌&&◌, Some, None, map, get_or, ap, sym, ◌∙◌, refl, arith, subst, append_assoc}
use Rattle.std.specs.Prelude.{reverse, is_some, if◌then◌else◌, slice_get}
use Rattle.std.specs.List.{flat_map, list_all}
use Rattle.std.proofs.lemmas.Bool.{and_parts}
use Rattle.std.proofs.lemmas.List.{get_or-map, length-map, map-append, reverse-append, reverse-reverse}
use Rattle.std.proofs.lemmas.Option.{slice_get-get_or}
use Rattle.stn_model.specs.declared.ids.PointId.{PointId}
use Rattle.stn_model.specs.Net.{Net}
use Rattle.stn_walk.proofs.Joins.{is_in-reverse}
use Rattle.private_elim.specs.Locals.{LocalView, local_of}
use Rattle.private_elim.specs.ReducedViews.{ReducedView, IsReduced}
use Rattle.shared_graph.specs.declared.events.Entry.{Entry}
use Rattle.shared_graph.specs.declared.events.Event.{Event}
use Rattle.shared_graph.specs.declared.events.Event.TheVariants.{Publish, Eliminate, Stop, Revisit, Assign, Widen}
use Rattle.shared_graph.specs.declared.events.Illegal.TheVariants.{Stopped}
use Rattle.shared_graph.specs.declared.events.SharedCycle.{SharedCycle}
use Rattle.shared_graph.specs.Journals.{is_before_times}
use Rattle.elim_journal.specs.Sections.{is_solving, are_solving}
use Rattle.shared_graph.specs.Interfaces.{InterfaceView, Summary}
use Rattle.shared_graph.specs.Refusals.{cause_of, refusal}
use Rattle.shared_graph.specs.Replays.{after, replay}
use Rattle.shared_graph.specs.States.{State, start}
use Rattle.joined_answer.specs.Joins.{points_eliminated, eliminated_in, IsPrivateOrder, ArePrivateOrders, private_of, orders_of}
use Rattle.conflict_cycle.specs.Belongs.{AreReducedOf}

-- the numbers of points
abbrev pub numbers : List PointId → List ℕ
numbers ps = map (λ p. p.0) ps

-- what an entry appends to the order
order_after : (face : InterfaceView) (summaries : List Summary) (event : Event) (s : State)
    → (after face summaries s event).order ≡ reverse (numbers (points_eliminated event)) ++ s.order
order_after face summaries (Publish a) s = refl
order_after face summaries (Eliminate k) s = refl
order_after face summaries (Stop k i) s = refl
order_after face summaries (Revisit k) s = refl
order_after face summaries (Assign k v) s = refl
order_after face summaries (Widen k end) s = refl

reverse-numbers : (xs ys : List PointId) → reverse (numbers (xs ++ ys)) ≡ reverse (numbers ys) ++ reverse (numbers xs)
reverse-numbers xs ys = ap reverse (map-append (λ (p : PointId). p.0) xs ys) ∙ reverse-append (numbers xs) (numbers ys)

-- the order after a journal has the points that its entries eliminate
order_of : (face : InterfaceView) (summaries : List Summary) (es : List Entry) (s t : State) → replay face summaries s es ≡ Some t
    → t.order ≡ reverse (numbers (eliminated_in es)) ++ s.order
order_of face summaries [] s t h = (let e : s ≡ t = cc in ap (λ (u : State). u.order) (sym e))
order_of face summaries (x ∷ es) s t h =
    elim (refusal face s x) as (λ o. (if is_some o then None else replay face summaries (after face summaries s x.event) es) ≡ Some t
    → t.order ≡ reverse (numbers (points_eliminated x.event ++ eliminated_in es)) ++ s.order) [
      | None ↦ λ g.
          (let next = after face summaries s x.event in
          order_of face summaries es next t g ∙ ap (λ (ys : List ℕ). reverse (numbers (eliminated_in es)) ++ ys) (order_after face summaries x.event s)
          ∙ sym (append_assoc (reverse (numbers (eliminated_in es))) (reverse (numbers (points_eliminated x.event))) s.order)
          ∙ ap (λ (ys : List ℕ). ys ++ s.order) (sym (reverse-numbers (points_eliminated x.event) (eliminated_in es))))
      | Some c ↦ λ g. absurd (cc)
    ] h

-- points of the same numbers are the same
same_points : (xs ys : List PointId) → numbers xs ≡ numbers ys → xs ≡ ys
same_points [] [] h = refl
same_points [] (y ∷ ys) h = absurd (cc)
same_points (x ∷ xs) [] h = absurd (cc)
same_points (x ∷ xs) (y ∷ ys) h =
    let first : x.0 ≡ y.0 = cc in
    let rest : numbers xs ≡ numbers ys = cc in
    let here : x ≡ y = (λ i. record { 0 = first i }) in
    (λ i. here i ∷ same_points xs ys rest i)

-- so a graph's order has the points that its journal eliminates
pub eliminated_are : (face : InterfaceView) (summaries : List Summary) (es : List Entry) (s : State) (order : List PointId)
    → replay face summaries start es ≡ Some s → reverse (numbers order) ≡ s.order → order ≡ eliminated_in es
eliminated_are face summaries es s order h is =
    same_points order (eliminated_in es)
    (sym (reverse-reverse (numbers order))
    ∙ ap reverse (is ∙ order_of face summaries es start s h ∙ nil_end (reverse (numbers (eliminated_in es))))
    ∙ reverse-reverse (numbers (eliminated_in es))) where
      nil_end : (zs : List ℕ) → zs ++ [] ≡ zs
      nil_end [] = refl
      nil_end (z ∷ zs) = ap (λ (ws : List ℕ). z ∷ ws) (nil_end zs)

-- nothing comes after a stop
stop_stays : (face : InterfaceView) (summaries : List Summary) (es : List Entry) (s t : State) (c : SharedCycle) → s.stop ≡ Some c
    → replay face summaries s es ≡ Some t → t.stop ≡ Some c
stop_stays face summaries [] s t c stop h = (let e : s ≡ t = cc in ap (λ (u : State). u.stop) (sym e) ∙ stop)
stop_stays face summaries (x ∷ es) s t c stop h =
    let refused : refusal face s x ≡ Some Stopped = ap (λ o. if is_some o then Some Stopped else cause_of face s x.by x.event) stop in
    let none : replay face summaries s (x ∷ es) ≡ None =
    ap (λ o. if is_some o then None else replay face summaries (after face summaries s x.event) es) refused in
    absurd (let both : None ≡ Some t = sym none ∙ h in cc)

-- entries before times that lead to no stop are those of a solve
pub solving : (face : InterfaceView) (summaries : List Summary) (es : List Entry) (s t : State) → replay face summaries s es ≡ Some t → t.stop ≡ None
    → list_all (λ e. is_before_times e.event) es ≡ true → are_solving es ≡ true
solving face summaries [] s t h none all = refl
solving face summaries (x ∷ es) s t h none all =
    elim (refusal face s x) as (λ o. (if is_some o then None else replay face summaries (after face summaries s x.event) es) ≡ Some t
    → (is_solving x.event && are_solving es) ≡ true) [
      | None ↦ λ g.
          (let both = and_parts (is_before_times x.event) (list_all (λ e. is_before_times e.event) es) all in
          ap (λ b. b && are_solving es) (one x.event both.0 g) ∙ solving face summaries es (after face summaries s x.event) t g none both.1)
      | Some c ↦ λ g. absurd (cc)
    ] h where
      one : (event : Event) → is_before_times event ≡ true → replay face summaries (after face summaries s event) es ≡ Some t → is_solving event ≡ true
      one (Publish a) before g = refl
      one (Eliminate k) before g = refl
      one (Stop k i) before g =
          absurd (let stays = stop_stays face summaries es (after face summaries s (Stop k i)) t (record { point = k; other = i }) refl g in
          let both : None ≡ Some (record { point = k; other = i }) = sym none ∙ stays in cc)
      one (Revisit k) before g = refl
      one (Assign k v) before g = absurd (cc)
      one (Widen k end) before g = absurd (cc)

-- the private order of a reduced part
pub private_order : (r : ReducedView) → IsReduced r.local r.order r.summary → IsPrivateOrder r.local r.order
private_order r h = record {
  private = h.private;
  once = h.once;
  whole = λ p private. sym (is_in-reverse r.order p) ∙ h.whole p private;
  clear = h.clear;
}

-- the private orders of all agents
private_flat : (reduced : List ReducedView) → private_of reduced ≡ flat_map (λ (order : List ℕ). order) (orders_of reduced)
private_flat [] = refl
private_flat (r ∷ rs) = ap (λ (ys : List ℕ). r.order ++ ys) (private_flat rs)

pub private_orders : (net : Net) (reduced : List ReducedView) (private : List ℕ) → AreReducedOf net reduced
    → ((a : ℕ) (r : ReducedView) → slice_get reduced a ≡ Some r → IsReduced r.local r.order r.summary) → private ≡ private_of reduced
    → ArePrivateOrders net private (orders_of reduced)
private_orders net reduced private parts known is = record {
  is = is ∙ private_flat reduced;
  one_each = length-map reduced (λ r. r.order) ∙ parts.one_each;
  each = λ a low.
      let d : ReducedView = record { local = local_of net a; order = []; summary = [] } in
      let many = parts.one_each in
      let there : slice_get reduced a ≡ Some (get_or reduced a d) = slice_get-get_or reduced a d (omega arith) in
      let order : get_or (orders_of reduced) a [] ≡ (get_or reduced a d).order = get_or-map (λ (r : ReducedView). r.order) reduced a d [] (omega arith) in
      let one = private_order (get_or reduced a d) (known a (get_or reduced a d) there) in
      subst (IsPrivateOrder (local_of net a)) (sym order)
      (subst (λ (v : LocalView). IsPrivateOrder v (get_or reduced a d).order) (parts.each a (get_or reduced a d) there) one);
}
