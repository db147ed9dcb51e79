-- What a revisit asks of a graph: visit_parts, before_once, IsVisit, visit_of, later_read, list_low, later_list, not_revisited, origin_later, later_at,
-- asks_all, asks_some, asks_others, asks_fresh, asks_finals, some_left, room_left.
use Rattle.std.proofs.Common.{suc, ◌≡◌, ◌≢◌, ℕ, ◌<◌, ◌≤◌, ◌^◌, List, [], ◌∷◌, Bool, true, false, ◌||◌, ◌&&◌, not, Option, Some, None, ap, sym, ◌∙◌}
use Rattle.std.proofs.Common.{refl, arith, length, map, subst, set, get_or, Vec, Global}
use Rattle.std.specs.Prelude.{ℤ, pos, ◌==◌, is_some, nat_abs, IfSome, if◌then◌else◌}
use Rattle.std.specs.Option.{option_map}
use Rattle.std.proofs.lemmas.Bool.{false≢true}
use Rattle.std.proofs.lemmas.Bool.Decides.{nat_tests}
use Rattle.std.proofs.lemmas.List.{get_or-map, length-map}
use Rattle.stn_model.specs.ArcWalks.{NoNegative}
use Rattle.stn_model.specs.declared.ids.Constraint.{Constraint}
use Rattle.stn_model.specs.declared.ids.PointId.{PointId}
use Rattle.stn_walk.specs.Eliminations.{is_in, before_both}
use Rattle.stn_walk.specs.Joins.{joined_of}
use Rattle.stn_walk.proofs.Eliminations.{before-in}
use Rattle.stn_walk.proofs.Exits.{every}
use Rattle.stn_walk.proofs.Joins.{joined-from_walk}
use Rattle.stn_walk.proofs.Visits.{inner_in}
use Rattle.dist_rows.specs.Cells.{IsLight, AllLight}
use Rattle.dist_rows.specs.declared.cell.Cell.{Cell}
use Rattle.elim_step.specs.Eliminated.{point_at, weight_at}
use Rattle.elim_step.specs.Eliminates.{count_below}
use Rattle.elim_step.proofs.Sound.{weights_light}
use Rattle.shared_graph.specs.declared.events.By.{By}
use Rattle.shared_graph.specs.declared.events.By.TheVariants.{Joiner}
use Rattle.shared_graph.specs.declared.events.Event.TheVariants.{Revisit}
use Rattle.shared_graph.specs.declared.events.Illegal.TheVariants.{NotShared, AlreadyDone}
use Rattle.shared_graph.specs.Graphs.{places_in, list_at, flag_at, Fields, GraphView, IsLaterList, IsGraph}
use Rattle.shared_graph.specs.Interfaces.{InterfaceView, IsInterface, points_of, is_listed}
use Rattle.shared_graph.specs.Refusals.{refusal, cause_of, first_below, not_published, order_open}
use Rattle.shared_graph.specs.States.{State, meeting_of, is_published, is_revisited}
use Rattle.shared_graph.specs.Together.{IsRevisit, HoldsTogether}
use Rattle.shared_graph.specs.Weights.{is_joined, is_later, final, final_weight, first_passing}
use Rattle.shared_graph.proofs.cells.Neighbours.{later_parts}
use Rattle.shared_graph.proofs.graphs.Counts.{count_on}
use Rattle.shared_graph.proofs.graphs.Standing.{fields_grounded}
use Rattle.shared_graph.proofs.states.Keeps.{sound_of, whole_light, in_places, later_place}
use Rattle.shared_graph.proofs.states.Meetings.{listed_not_z, pair_meets}
use Rattle.shared_graph.proofs.states.Passing.{if_none, or_none, no_stop, revisit_passes, listed_in}

-- the point of a legal revisit was not revisited
fresh_passes : (face : InterfaceView) (s : State) (by : By) (k : PointId) → cause_of face s by (Revisit k) ≡ None → is_in s.revisited k.0 ≡ false
fresh_passes face s by k legal =
    let one = if_none (not (is_listed face k.0)) NotShared _ legal in
    let two = or_none (option_map not_published (first_below (λ a. not (is_published s a)) (length face.leans))) _ one.1 in
    let three = or_none (option_map order_open (first_passing (λ p. not (is_in s.order p)) (points_of face))) _ two.1 in
    (if_none (is_in s.revisited k.0) AlreadyDone _ three.1).0

pub visit_parts : (face : InterfaceView) → IsInterface face → (s : State) → HoldsTogether face s → (k : PointId)
    → refusal face s (record { by = Joiner; event = Revisit k }) ≡ None → IsRevisit face s k.0 × (is_in s.revisited k.0 ≡ false)
visit_parts face known s holds k legal =
    let going = no_stop face s (record { by = Joiner; event = Revisit k }) legal in
    let p = revisit_passes face s Joiner k.0 going.1 in
    let sound = sound_of face known s holds in (
      record {
        listed = p.0;
        all_published = p.1;
        whole = p.2;
        later = λ q later. p.3 q (in_places face known s sound q (later_place face known s sound k.0 q later)) later;
      },
      fresh_passes face s Joiner k going.1,
    )

-- of two points, one comes before the other
pub before_once : (es : List ℕ) (x y : ℕ) → is_in (before_both es x x) y ≡ true → is_in (before_both es y y) x ≡ false
before_once [] x y here = refl
before_once (e ∷ es) x y here = by (before_once es x y) (is_in (e ∷ es) x) refl here where
  out : (xs : List ℕ) → is_in xs x ≡ false → is_in (before_both xs y y) x ≡ false
  out xs away = go (is_in (before_both xs y y) x) refl where
    go : (b : Bool) → is_in (before_both xs y y) x ≡ b → b ≡ false
    go true t = absurd (false≢true (sym away ∙ before-in xs y y x t))
    go false t = refl

  by : (is_in (before_both es x x) y ≡ true → is_in (before_both es y y) x ≡ false) → (b : Bool) → is_in (e ∷ es) x ≡ b
      → is_in (if b || b then before_both es x x else e ∷ es) y ≡ true → is_in (before_both (e ∷ es) y y) x ≡ false
  by rest true t g =
      let there : is_in (e ∷ es) y ≡ true = ap (λ b. b || (y == e)) (before-in es x x y g) in
      ap (λ b. is_in (if b || b then before_both es y y else e ∷ es) x) there ∙ rest g
  by rest false t g = out (e ∷ es) t

-- what is known of the place of a point that may be revisited
pub record IsVisit (g : Fields) (x k : ℕ) : Type 0 where
  pub low : k < length g.points
  pub is : point_at g.points k ≡ x
  pub ready : IsRevisit g.face g.state (point_at g.points k)
  pub fresh : is_in g.state.revisited (point_at g.points k) ≡ false
  pub legal : refusal g.face g.state (record { by = Joiner; event = Revisit (record { 0 = point_at g.points k }) }) ≡ None

pub visit_of : (g : Fields) → IsGraph g → (v : GraphView) → record { face = g.face; state = g.state } ≡ v → (x : PointId) (k : ℕ)
    → refusal v.face v.state (record { by = Joiner; event = Revisit x }) ≡ None → k < length (places_in v.face) → point_at (places_in v.face) k ≡ x.0
    → IsVisit g x.0 k
visit_of g h v e = subst
    (λ (v : GraphView). (x : PointId) (k : ℕ) → refusal v.face v.state (record { by = Joiner; event = Revisit x }) ≡ None → k < length (places_in v.face)
    → point_at (places_in v.face) k ≡ x.0 → IsVisit g x.0 k) e
    (λ x k legal low is.
    let parts = visit_parts g.face h.interface g.state h.together x legal in
    let many = ap length h.points in
    let here : point_at g.points k ≡ x.0 = ap (λ ps. point_at ps k) h.points ∙ is in
    record {
      low = omega arith;
      is = here;
      ready = subst (IsRevisit g.face g.state) (sym here) parts.0;
      fresh = ap (is_in g.state.revisited) here ∙ parts.1;
      legal = ap (λ p. refusal g.face g.state (record { by = Joiner; event = Revisit (record { 0 = p }) })) here ∙ legal;
    })

-- a list of lists that is read
pub later_read : (lists : List (Vec ℕ Global)) (k : ℕ) (read : Vec ℕ Global) (list : List ℕ) → k < length (map (λ (l : Vec ℕ Global). l.items) lists)
    → read ≡ get_or lists k read → list ≡ read.items → list ≡ list_at (map (λ (l : Vec ℕ Global). l.items) lists) k
later_read lists k read list low is same =
    let many = length-map lists (λ (l : Vec ℕ Global). l.items) in
    same ∙ ap (λ (l : Vec ℕ Global). l.items) is ∙ sym (get_or-map (λ (l : Vec ℕ Global). l.items) lists k read [] (omega arith))

module _ (g : Fields) (h : IsGraph g) (x k : ℕ) (visit : IsVisit g x k) where
  gone : is_in g.state.order (point_at g.points k) ≡ true
  gone = visit.ready.whole (point_at g.points k) visit.ready.listed

  pub list_low : k < length g.later
  list_low = (let low = visit.low in let len = h.later_len in omega arith)

  pub later_list : (list : List ℕ) → list ≡ list_at g.later k → IsLaterList g k list
  later_list list same = subst (IsLaterList g k) (sym same) (h.later k visit.low gone)

  point_apart : point_at g.points k ≢ 0
  point_apart = listed_not_z g.face h.interface (point_at g.points k) visit.ready.listed

  pub not_revisited : is_revisited g.state (point_at g.points k) ≡ false
  not_revisited =
      let differ : (point_at g.points k == 0) ≡ false = (let apart = point_apart in grind (arith, nat_tests)) in
      (λ t. visit.fresh t || differ t)

  -- z is never eliminated, and the horizon's arcs join it with each point
  origin_out : is_in g.state.order 0 ≡ false
  origin_out = go (is_in g.state.order 0) refl where
    go : (b : Bool) → is_in g.state.order 0 ≡ b → b ≡ false
    go true t = absurd (let o = h.together.owned 0 t in listed_not_z g.face h.interface 0 (ap (λ p. is_some p) o.1) refl)
    go false t = refl

  pub origin_later : is_later g.face g.state (point_at g.points k) 0 ≡ true
  origin_later =
      let p = point_at g.points k in
      let s = g.state in
      let own = h.together.owned p gone in
      let a : Constraint = record { from = record { 0 = p }; to = record { 0 = 0 }; bound = pos 0 } in
      let meets = pair_meets g.face own.0 p s.published a own.1 (listed_in g.face.points p visit.ready.listed) own.2 (1, omega arith, refl) in
      let joined : joined_of (meeting_of g.face s) (before_both s.order p 0) p 0 ≡ true =
      joined-from_walk (meeting_of g.face s) (before_both s.order p 0) p 0 (a ∷ []) (meets, refl, refl) in
      let differ : (p == 0) ≡ false = (let apart = point_apart in grind (arith, nat_tests)) in
      let out : is_in (before_both s.order p p) 0 ≡ false = away (is_in (before_both s.order p p) 0) refl in
      (λ t. (not (differ t) && joined t) && not (out t)) where
        away : (b : Bool) → is_in (before_both g.state.order (point_at g.points k) (point_at g.points k)) 0 ≡ b → b ≡ false
        away true t = absurd (false≢true (sym origin_out ∙ before-in g.state.order (point_at g.points k) (point_at g.points k) 0 t))
        away false t = refl

  module _ (list : List ℕ) (l : IsLaterList g k list) where
    pub later_at : (m : ℕ) → is_in list m ≡ true → is_later g.face g.state (point_at g.points k) (point_at g.points m) ≡ true
    later_at m here = sym (l.each m (l.within m here)) ∙ here

    pub asks_all : (m : ℕ) → is_in list m ≡ true → (m < g.places) × (m < g.final_places)
    asks_all m here = (let low = l.within m here in let many = h.places in let final_many = h.final_places in (omega arith, omega arith))

    pub asks_some : 0 < length list
    asks_some =
        let low : 0 < length g.points = (let l = visit.low in omega arith) in
        let z : point_at g.points 0 ≡ 0 = ap (λ ps. point_at ps 0) h.points in
        some list 0 (l.each 0 low ∙ ap (is_later g.face g.state (point_at g.points k)) z ∙ origin_later) where
          some : (xs : List ℕ) (p : ℕ) → is_in xs p ≡ true → 0 < length xs
          some [] p here = absurd (cc)
          some (y ∷ ys) p here = omega arith

    pub asks_others : is_in list k ≡ false
    asks_others = go (is_in list k) refl where
      go : (b : Bool) → is_in list k ≡ b → b ≡ false
      go true t = absurd ((later_parts g.face g.state (point_at g.points k) (point_at g.points k) (later_at k t)).0 refl)
      go false t = refl

    no_cell : (o : Option Cell) → weight_at o ≡ None → o ≡ None
    no_cell None e = refl
    no_cell (Some c) e = absurd (cc)

    pub asks_fresh : (j : ℕ) → is_in list j ≡ true → (g.final_at k j ≡ None) × (g.final_at j k ≡ None)
    asks_fresh j here =
        let lj = l.within j here in
        let p = point_at g.points k in
        let q = point_at g.points j in
        let s = g.state in (
          no_cell (g.final_at k j) (h.finals k j visit.low lj
              ∙ first (is_joined g.face s p q) (is_revisited s p) (is_revisited s q) (final_weight g.face s p q) not_revisited),
          no_cell (g.final_at j k) (h.finals j k lj visit.low
              ∙ second (is_joined g.face s q p) (is_revisited s q) (is_revisited s p) (final_weight g.face s q p) not_revisited),
        ) where
          first : (a b c : Bool) (o : Option ℤ) → b ≡ false → (if a && b && c then o else None) ≡ None
          first true true c o e = absurd (cc)
          first true false c o e = refl
          first false b c o e = refl

          second : (a b c : Bool) (o : Option ℤ) → c ≡ false → (if a && b && c then o else None) ≡ None
          second true true true o e = absurd (cc)
          second true true false o e = refl
          second true false c o e = refl
          second false b c o e = refl

  -- final weights are least weights of all walks, so they are light
  whole_none_below : NoNegative (is_in (0 ∷ g.state.order)) (meeting_of g.face g.state)
  whole_none_below =
      let light = whole_light g.face h.interface g.state (sound_of g.face h.interface g.state h.together) visit.ready.whole in
      λ p w walk. light p w (inner_in (is_in (0 ∷ g.state.order)) every (meeting_of g.face g.state) p p w (λ q t. refl) walk)

  final_light : (i j : ℕ) (b : ℤ) → final g.face g.state i j ≡ Some b → nat_abs b ≤ 2 ^ 99
  final_light i j b is =
      let light =
      weights_light g.points (meeting_of g.face g.state) (fields_grounded g h) (0 ∷ g.state.order) whole_none_below i j in
      go (is_joined g.face g.state i j && is_revisited g.state i && is_revisited g.state j) (final_weight g.face g.state i j) light is where
        go : (t : Bool) (o : Option ℤ) → IfSome o (λ w. nat_abs w ≤ 2 ^ 99) → (if t then o else None) ≡ Some b → nat_abs b ≤ 2 ^ 99
        go true None light e = absurd (cc)
        go true (Some w) light e = (let same : w ≡ b = cc in subst (λ z. nat_abs z ≤ 2 ^ 99) same light)
        go false o light e = absurd (cc)

  pub asks_finals : ((p q : ℕ) → is_some (g.final_at p q) ≡ true → (p < g.final_places) × (q < g.final_places) × (p ≢ q)) → AllLight 99 g.final_at
  asks_finals inside p q = go (g.final_at p q) refl where
    go : (o : Option Cell) → g.final_at p q ≡ o → IfSome o (λ c. IsLight 99 c.weight)
    go None is = tt
    go (Some c) is =
        let room = inside p q (ap is_some is) in
        let many = h.final_places in
        let lp : p < length g.points = (let l = room.0 in omega arith) in
        let lq : q < length g.points = (let l = room.1 in omega arith) in
        final_light (point_at g.points p) (point_at g.points q) c.weight (sym (h.finals p q lp lq) ∙ ap weight_at is)

  -- one point less is left to be revisited
  pub some_left : g.unvisited ≡ suc (count_below (λ m. not (flag_at (set g.done k true) m)) (length g.points))
  some_left =
      let len = h.done_len in
      let low = visit.low in
      h.unvisited ∙ count_on g.done k (length g.points) (omega arith) low (h.done k low ∙ not_revisited)

  pub room_left : length g.state.revisited < g.revisit_room
  room_left = (let fit = h.revisits_fit in let left = some_left in omega arith)
