-- How final cells came to be, from step to step.
--   final_there           where a final weight is there, its points are joined and revisited
--   final_kept            it stays where one point more is revisited
--   stopped_came          what came stays so where a stop is entered
--   nothing_came          where there is no weight, nothing came
--   all_came              after a revisit, each final cell came through a place
use Rattle.std.proofs.Common.{◌≡◌, ◌≢◌, ℕ, ◌<◌, List, ◌∷◌, Bool, true, false, ◌||◌, ◌&&◌, Option, Some, None, ap, sym, ◌∙◌, refl}
use Rattle.std.proofs.Common.{arith, length, subst, inl, inr}
use Rattle.std.specs.Prelude.{ℤ, pos, ◌+ℤ◌, ◌==◌, IfSome, if◌then◌else◌}
use Rattle.std.proofs.lemmas.Bool.{and_parts, cases_eq}
use Rattle.std.proofs.lemmas.Bool.Decides.{nat_tests}
use Rattle.std.proofs.Math.Bool.{or-true}
use Rattle.stn_walk.specs.Eliminations.{is_in}
use Rattle.dist_rows.specs.declared.cell.Cell.{Cell}
use Rattle.dist_rows.specs.declared.cell.Via.{Via}
use Rattle.dist_rows.specs.declared.cell.Via.TheVariants.{Given, Published as PublishedBy, Through}
use Rattle.elim_step.specs.Eliminated.{point_at, weight_at}
use Rattle.elim_step.specs.Eliminates.{sum_through}
use Rattle.elim_step.specs.Revisits.{reach_of, out_sum, in_sum, IsLeastSum, Revisits}
use Rattle.shared_graph.specs.declared.events.SharedCycle.{SharedCycle}
use Rattle.shared_graph.specs.Graphs.{Fields, IsLaterList, IsGraph, IsFinalVia, HaveCome}
use Rattle.shared_graph.specs.Interfaces.{InterfaceView}
use Rattle.shared_graph.specs.States.{State, is_revisited}
use Rattle.shared_graph.specs.Throughs.{CameThrough}
use Rattle.shared_graph.specs.Weights.{is_joined, is_later, forward, final, final_weight, rest_from, rest_to}
use Rattle.shared_graph.proofs.cells.Neighbours.{later_parts}
use Rattle.shared_graph.proofs.graphs.Readying.{IsVisit, later_at}
use Rattle.shared_graph.proofs.graphs.Standing.{fields_grounded}

-- where a final weight is there, its points are joined and revisited
pub final_there : (face : InterfaceView) (s : State) (i j : ℕ) (b : ℤ) → final face s i j ≡ Some b
    → (is_joined face s i j ≡ true) × (is_revisited s i ≡ true) × (is_revisited s j ≡ true)
final_there face s i j b h = go (is_joined face s i j) (is_revisited s i) (is_revisited s j) h where
  go : (x y z : Bool) → (if x && y && z then final_weight face s i j else None) ≡ Some b → (x ≡ true) × (y ≡ true) × (z ≡ true)
  go true true true g = (refl, refl, refl)
  go true true false g = absurd (cc)
  go true false z g = absurd (cc)
  go false y z g = absurd (cc)

-- it stays where one point more is revisited
pub final_kept : (face : InterfaceView) (s : State) (p i j : ℕ) (w : ℤ) → final face s i j ≡ Some w
    → final face (record s { revisited = p ∷ s.revisited }) i j ≡ Some w
final_kept face s p i j w is =
    let there = final_there face s i j w is in
    let joined = there.0 in
    let from = there.1 in
    let to = there.2 in
    let a = wider (is_in s.revisited i) (i == 0) (i == p) from in
    let b = wider (is_in s.revisited j) (j == 0) (j == p) to in
    (λ t. if joined t && a t && b t then final_weight face s i j else None)
    ∙ sym (λ t. if joined t && from t && to t then final_weight face s i j else None) ∙ is where
      wider : (a b c : Bool) → (a || b) ≡ true → ((a || c) || b) ≡ true
      wider true b c e = refl
      wider false b c e = ap (λ y. c || y) e ∙ or-true c

-- what came in a state came in one with another stop and other revisited points, where its final weights stay
module _ (face : InterfaceView) (s : State) (stop : Option SharedCycle) (revisited : List ℕ)
    (kept : (i j : ℕ) (w : ℤ) → final face s i j ≡ Some w → final face (record s { stop = stop; revisited = revisited }) i j ≡ Some w) where
  abbrev next : State
  next = record s { stop = stop; revisited = revisited }

  from_kept : (j m : ℕ) (w : ℤ) → rest_from (final face s) j m ≡ Some w → rest_from (final face next) j m ≡ Some w
  from_kept j m w = elim (m == j) as (λ b. (if b then Some (pos 0) else final face s m j) ≡ Some w
      → (if b then Some (pos 0) else final face next m j) ≡ Some w) [
        | true ↦ λ e. e
        | false ↦ kept m j w
      ]

  to_kept : (j m : ℕ) (w : ℤ) → rest_to (final face s) j m ≡ Some w → rest_to (final face next) j m ≡ Some w
  to_kept j m w = elim (m == j) as (λ b. (if b then Some (pos 0) else final face s j m) ≡ Some w
      → (if b then Some (pos 0) else final face next j m) ≡ Some w) [
        | true ↦ λ e. e
        | false ↦ kept j m w
      ]

  came_kept : (i j m : ℕ) → CameThrough face s i j m → CameThrough face next i j m
  came_kept i j m (inl l) = inl (record {
    taken = l.taken;
    first = l.first;
    later = l.later;
    weight = l.weight;
    forward = l.forward;
    rest = l.rest;
    onward = from_kept j m l.rest l.onward;
    sum = kept i j (l.weight +ℤ l.rest) l.sum;
  })
  came_kept i j m (inr a) = inr (record {
    taken = a.taken;
    first = a.first;
    later = a.later;
    weight = a.weight;
    forward = a.forward;
    rest = a.rest;
    onward = to_kept i m a.rest a.onward;
    sum = kept i j (a.rest +ℤ a.weight) a.sum;
  })

  via_kept : (points : List ℕ) (i j : ℕ) (v : Via) → IsFinalVia face s points i j v → IsFinalVia face next points i j v
  via_kept points i j (Given e) h = h
  via_kept points i j (PublishedBy a) h = h
  via_kept points i j (Through k) h = (h.0, came_kept i j (point_at points k) h.1)

some_of : (P Q : Cell → Type 0) (o : Option Cell) → ((c : Cell) → P c → Q c) → IfSome o P → IfSome o Q
some_of P Q None h p = tt
some_of P Q (Some c) h p = h c p

pub nothing_came : (P : Cell → Type 0) (o : Option Cell) → weight_at o ≡ None → IfSome o P
nothing_came P None none = tt
nothing_came P (Some c) none = absurd (cc)

pub stopped_came : (face : InterfaceView) (s : State) (stop : Option SharedCycle) (points : List ℕ) (at : ℕ → ℕ → Option Cell)
    → HaveCome face s points at → HaveCome face (record s { stop = stop }) points at
stopped_came face s stop points at h p q lp lq =
    let i = point_at points p in
    let j = point_at points q in
    some_of (λ c. IsFinalVia face s points i j c.via) (λ c. IsFinalVia face (record s { stop = stop }) points i j c.via) (at p q)
    (λ c came. via_kept face s stop s.revisited (λ i j w is. is) points i j c.via came) (h p q lp lq)

-- what the sum of two cells through m is
record SumParts (m : ℕ) (x y : Option Cell) (c : Cell) : Type 0 where
  first : ℤ
  second : ℤ
  is_first : weight_at x ≡ Some first
  is_second : weight_at y ≡ Some second
  via : c.via ≡ Through m
  sum : c.weight ≡ first +ℤ second

sum_parts : (m : ℕ) (x y : Option Cell) (c : Cell) → sum_through m x y ≡ Some c → SumParts m x y c
sum_parts m None y c is = absurd (cc)
sum_parts m (Some a) None c is = absurd (cc)
sum_parts m (Some a) (Some b) c is = record {
  first = a.weight;
  second = b.weight;
  is_first = refl;
  is_second = refl;
  via = (let same : record { weight = a.weight +ℤ b.weight; via = Through m } ≡ c = cc in ap (λ (d : Cell). d.via) (sym same));
  sum = (let same : record { weight = a.weight +ℤ b.weight; via = Through m } ≡ c = cc in ap (λ (d : Cell). d.weight) (sym same));
}

via_is : (face : InterfaceView) (s : State) (points : List ℕ) (i j : ℕ) (v : Via) (m : ℕ) → v ≡ Through m → m < length points
    → CameThrough face s i j (point_at points m) → IsFinalVia face s points i j v
via_is face s points i j v m is low came = subst (IsFinalVia face s points i j) (sym is) (low, came)

module _ (g : Fields) (h : IsGraph g) (x k : ℕ) (visit : IsVisit g x k) (list : List ℕ) (l : IsLaterList g k list) (after : ℕ → ℕ → Option Cell)
    (revisits : Revisits g.at k list g.final_at after)
    (finals : (p q : ℕ) → p < length g.points → q < length g.points
    → weight_at (after p q)
    ≡ final g.face (record g.state { revisited = point_at g.points k ∷ g.state.revisited }) (point_at g.points p) (point_at g.points q)) where
  abbrev grown : State
  grown = record g.state { revisited = point_at g.points k ∷ g.state.revisited }

  abbrev pt : ℕ → ℕ
  pt p = point_at g.points p

  gone : is_in g.state.order (pt k) ≡ true
  gone = visit.ready.whole (pt k) visit.ready.listed

  later_here : (m : ℕ) → is_in list m ≡ true → is_later g.face g.state (pt k) (pt m) ≡ true
  later_here = later_at g h x k visit list l

  apart : (m : ℕ) → is_in list m ≡ true → m ≢ k
  apart m here e = (later_parts g.face g.state (pt k) (pt m) (later_here m here)).0 (sym (ap (point_at g.points) e))

  -- the weights of which a sum is made, by points
  first_is : (m : ℕ) (w : ℤ) → is_in list m ≡ true → weight_at (g.at k m) ≡ Some w → forward g.face grown (pt k) (pt m) ≡ Some w
  first_is m w here is = sym (h.cells.cells k m visit.low (l.within m here) (λ e. apart m here (sym e))) ∙ is

  last_is : (m : ℕ) (w : ℤ) → is_in list m ≡ true → weight_at (g.at m k) ≡ Some w → forward g.face grown (pt m) (pt k) ≡ Some w
  last_is m w here is = sym (h.cells.cells m k (l.within m here) visit.low (apart m here)) ∙ is

  rest_is : (m j : ℕ) (w : ℤ) → m < length g.points → j < length g.points → weight_at (reach_of g.final_at m j) ≡ Some w
      → (if pt m == pt j then Some (pos 0) else final g.face grown (pt m) (pt j)) ≡ Some w
  rest_is m j w lm lj is = elim (cases_eq m j) [
    | inl e ↦
        let same : (m == j) ≡ true = grind (arith, nat_tests) in
        let points : (pt m == pt j) ≡ true = (let f = ap (point_at g.points) e in grind (arith, nat_tests)) in
        ap (λ b. if b then Some (pos 0) else final g.face grown (pt m) (pt j)) points
        ∙ ap (λ b. weight_at (if b then Some (record { weight = pos 0; via = Given 0 }) else g.final_at m j)) (sym same) ∙ is
    | inr ne ↦
        let off : (m == j) ≡ false = grind (arith, nat_tests) in
        let differ : pt m ≢ pt j = λ e. ne ((fields_grounded g h).apart m j lm lj e) in
        let points : (pt m == pt j) ≡ false = grind (arith, nat_tests) in
        let old : weight_at (g.final_at m j) ≡ Some w =
        ap (λ b. weight_at (if b then Some (record { weight = pos 0; via = Given 0 }) else g.final_at m j)) (sym off) ∙ is in
        ap (λ b. if b then Some (pos 0) else final g.face grown (pt m) (pt j)) points
        ∙ final_kept g.face g.state (pt k) (pt m) (pt j) w (sym (h.finals m j lm lj) ∙ old)
  ]

  turned : (a b : ℕ) (o : Option ℤ) (w : ℤ) → (if a == b then Some (pos 0) else o) ≡ Some w → (if b == a then Some (pos 0) else o) ≡ Some w
  turned a b o w is = (let same : (b == a) ≡ (a == b) = grind (arith, nat_tests) in ap (λ t. if t then Some (pos 0) else o) same ∙ is)

  out_of : (j : ℕ) (o : Option Cell) → is_in list j ≡ true → after k j ≡ o → IsLeastSum (out_sum g.at g.final_at k j) list o
      → IfSome o (λ c. IsFinalVia g.face grown g.points (pt k) (pt j) c.via)
  out_of j None here is least = tt
  out_of j (Some c) here is least =
      let m = least.0.0 in
      let there = least.0.1 in
      let parts = sum_parts m (g.at k m) (reach_of g.final_at m j) c least.0.2 in
      let lm = l.within m there in
      let lj = l.within j here in
      via_is g.face grown g.points (pt k) (pt j) c.via m parts.via lm (inl (record {
        taken = gone;
        first = later_here j here;
        later = later_here m there;
        weight = parts.first;
        forward = first_is m parts.first there parts.is_first;
        rest = parts.second;
        onward = rest_is m j parts.second lm lj parts.is_second;
        sum = sym (finals k j visit.low lj) ∙ ap weight_at is ∙ ap (λ (z : ℤ). Some z) parts.sum;
      }))

  back_of : (j : ℕ) (o : Option Cell) → is_in list j ≡ true → after j k ≡ o → IsLeastSum (in_sum g.at g.final_at k j) list o
      → IfSome o (λ c. IsFinalVia g.face grown g.points (pt j) (pt k) c.via)
  back_of j None here is least = tt
  back_of j (Some c) here is least =
      let m = least.0.0 in
      let there = least.0.1 in
      let parts = sum_parts m (reach_of g.final_at j m) (g.at m k) c least.0.2 in
      let lm = l.within m there in
      let lj = l.within j here in
      via_is g.face grown g.points (pt j) (pt k) c.via m parts.via lm (inr (record {
        taken = gone;
        first = later_here j here;
        later = later_here m there;
        weight = parts.second;
        forward = last_is m parts.second there parts.is_second;
        rest = parts.first;
        onward = turned (pt j) (pt m) (final g.face grown (pt j) (pt m)) parts.first (rest_is j m parts.first lj lm parts.is_first);
        sum = sym (finals j k lj visit.low) ∙ ap weight_at is ∙ ap (λ (z : ℤ). Some z) parts.sum;
      }))

  pub all_came : HaveCome g.face grown g.points after
  all_came p q lp lq = go ((p == k) && is_in list q) refl ((q == k) && is_in list p) refl where
    go : (a : Bool) → ((p == k) && is_in list q) ≡ a → (b : Bool) → ((q == k) && is_in list p) ≡ b
        → IfSome (after p q) (λ c. IsFinalVia g.face grown g.points (pt p) (pt q) c.via)
    go true t b u =
        let parts = and_parts (p == k) (is_in list q) t in
        let here = parts.0 in
        let e : k ≡ p = grind (arith, nat_tests) in
        subst (λ n. IfSome (after n q) (λ c. IsFinalVia g.face grown g.points (pt n) (pt q) c.via)) e
        (out_of q (after k q) parts.1 refl (revisits.out q parts.1))
    go false t true u =
        let parts = and_parts (q == k) (is_in list p) u in
        let here = parts.0 in
        let e : k ≡ q = grind (arith, nat_tests) in
        subst (λ n. IfSome (after p n) (λ c. IsFinalVia g.face grown g.points (pt p) (pt n) c.via)) e
        (back_of p (after p k) parts.1 refl (revisits.back p parts.1))
    go false t false u =
        subst (λ (o : Option Cell). IfSome o (λ c. IsFinalVia g.face grown g.points (pt p) (pt q) c.via)) (sym (revisits.others p q t u))
        (some_of (λ c. IsFinalVia g.face g.state g.points (pt p) (pt q) c.via) (λ c. IsFinalVia g.face grown g.points (pt p) (pt q) c.via) (g.final_at p q)
        (λ c came. via_kept g.face g.state g.state.stop (pt k ∷ g.state.revisited) (final_kept g.face g.state (pt k)) g.points (pt p) (pt q) c.via came)
        (h.throughs p q lp lq))
