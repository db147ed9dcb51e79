-- A pass over labels, one point at a time.
use Rattle.std.proofs.Common.{◌≡◌, ◌≢◌, ℕ, ◌+◌, ◌-◌, ◌*◌, ◌<◌, ◌≤◌, Bool, true, false, List, [], ◌∷◌, ◌++◌, length, set, take, drop, Option, Some, None, sym, ap, ◌∙◌, refl, arith, inl, inr, ◌⊎◌, subst}
use Rattle.std.specs.Prelude.{ℤ, ◌==◌, if◌then◌else◌, Contains, reverse, slice_index}
use Rattle.std.proofs.lemmas.Bool.Decides.{nat_tests}
use Rattle.std.proofs.lemmas.Int.{ints}
use Rattle.std.proofs.lemmas.List.{get_or-set_same, get_or-set_other, length-set, get_or_default, length-append, length-reverse, reverse-reverse, take-append-drop, take-append-le, take_all, drop_more}
use Rattle.std.proofs.lemmas.List.Elements.{Contains-get_or}
use Rattle.stn_model.specs.Limits.{greatest_walk, greatest_time, most_points}
use Rattle.stn_walk.specs.Eliminations.{lesser}
use Rattle.stn_model.specs.Walks.{AllDifferent}
use Rattle.tri_solve.specs.declared.edge.Edge.{Edge}
use Rattle.tri_solve.specs.declared.label.Label.{Label}
use Rattle.tri_solve.specs.Edges.{Bounds, AreBounds, no_edge, edge_at, is_edge, bound_between}
use Rattle.tri_solve.specs.Layouts.{key, side, is_up, turned, froms_of}
use Rattle.tri_solve.specs.Passes.{IsLight, least_over, by_way_of}
use Rattle.tri_solve.specs.Tables.{put, IsTable}
use Rattle.tri_solve.specs.Labels.{number_of, label_at, number_at, IsLightLabel, IsBelow, Offered, Came}
use Rattle.tri_solve.specs.Turns.{IsPassing, IsPassed}
use Rattle.tri_solve.proofs.EdgeBounds.{joined_found}
use Rattle.tri_solve.proofs.Follows.{different_back, different-turned, rest_side, side_rest}
use Rattle.tri_solve.proofs.Froms.{side_is, froms_have, froms_are}
use Rattle.tri_solve.proofs.Light.{pass_light}
use Rattle.tri_solve.proofs.Lists.{contains_cases, contains_first, contains_rest, all_at, in_or_not}
use Rattle.tri_solve.proofs.Orders.{contains-reverse}
use Rattle.tri_solve.proofs.Tables.{table_step, table_begins}

-- a table is what it is point by point
table_same : (joined : ℕ → ℕ → Bool) (bound : ℕ → ℕ → ℤ) (start : ℕ → Option ℤ) (xs : List ℕ) (f g : ℕ → Option ℤ)
    → ((p : ℕ) → g p ≡ f p) → IsTable joined bound start xs f → IsTable joined bound start xs g
table_same joined bound start xs f g same h = record { set = λ p c. same p ∙ h.set p c; unset = λ p c. same p ∙ h.unset p c }

pub passing_first : (b : Bounds) (up : Bool) (old : List (Option Label)) → IsPassing b up old [] old
passing_first b up old = record {
  len = refl;
  table = table_begins (is_edge b.edges) (bound_between b.edges) (number_at old);
  unset = λ p c. refl;
  vias = λ p c. absurd (omega (arith, c.1));
}

module _ (b : Bounds) (are : AreBounds b) (up : Bool) (old now : List (Option Label)) (front xs : List ℕ) (x : ℕ) (is : turned up b.order ≡ front ++ x ∷ xs)
    (h : IsPassing b up old xs now) (o : Option Label) (room : x < length now) (within : x < length b.order)
    (number : number_of o ≡ lesser (number_at now x)
    (least_over (by_way_of (is_edge b.edges) (bound_between b.edges) (number_at now) x) (froms_of b.order b.edges (side x up) (length b.edges))))
    (came : (o ≡ label_at now x) ⊎ Offered b.order b.edges now x up o) where
  abbrev neighbours : List ℕ
  neighbours = froms_of b.order b.edges (side x up) (length b.edges)

  once : AllDifferent (x ∷ xs)
  once = different_back front (x ∷ xs) (subst AllDifferent is (different-turned b.order are.once up))

  apart : (q : ℕ) → Contains xs q → q ≢ x
  apart q c e = all_at (λ y. x ≢ y) xs q once.0 c (sym e)

  -- each point of the pass that is joined with x is among the neighbours, and they are points of the pass
  all : (q : ℕ) → Contains xs q → is_edge b.edges q x ≡ true → Contains neighbours q
  all q c j =
      let f = joined_found b.edges q x j in
      let n = f.listed.0 in
      let at : edge_at b.edges n ≡ f.edge = get_or_default b.edges n no_edge f.edge f.listed.1 ∙ f.listed.2 in
      let from : (edge_at b.edges n).from.0 ≡ q = ap (λ e. e.from.0) at ∙ f.from_is in
      let to : (edge_at b.edges n).to.0 ≡ x = ap (λ e. e.to.0) at ∙ f.to_is in
      let up_is = rest_side b.order are.once up front xs x is q c in
      let has : key b.order (edge_at b.edges n) ≡ side x up =
      ap (λ (p : ℕ). side p (is_up b.order (edge_at b.edges n).from.0 p)) to ∙ ap (λ (p : ℕ). side x (is_up b.order p x)) from ∙ ap (side x) up_is in
      subst (Contains neighbours) from (froms_have b.order b.edges (side x up) (length b.edges) n f.listed.1 has)

  among_edge : (e : Edge) → Contains b.edges e → e.to.0 ≡ x → is_up b.order e.from.0 x ≡ up → Contains xs e.from.0
  among_edge e c to t =
      side_rest b.order are.once up front xs x is e.from.0 ((are.points e.from.0).0 (are.from_in e c)) ((are.points x).0 within)
      (λ same. are.apart e c (same ∙ sym to)) t

  among : (q : ℕ) → Contains neighbours q → Contains xs q
  among q c =
      let f = froms_are b.order b.edges (side x up) (length b.edges) q c in
      let e = edge_at b.edges f.number in
      let listed = Contains-get_or b.edges f.number no_edge f.below in
      let sides = side_is (edge_at b.edges f.number).to.0 x (is_up b.order (edge_at b.edges f.number).from.0 (edge_at b.edges f.number).to.0) up f.has in
      let leads : is_up b.order (edge_at b.edges f.number).from.0 x ≡ up = ap (λ (p : ℕ). is_up b.order (edge_at b.edges f.number).from.0 p) (sym sides.0) ∙ sides.1 in
      subst (Contains xs) f.begins (among_edge (edge_at b.edges f.number) listed sides.0 leads)

  other : (p : ℕ) → p ≢ x → label_at (set now x o) p ≡ label_at now p
  other p ne = get_or-set_other now x p o None ne

  here : label_at (set now x o) x ≡ o
  here = get_or-set_same now x o None room

  put_is : (p : ℕ) → number_at (set now x o) p
      ≡ put x (lesser (number_at now x) (least_over (by_way_of (is_edge b.edges) (bound_between b.edges) (number_at now) x) neighbours)) (number_at now) p
  put_is p =
      elim (p == x) as (λ t. (p == x) ≡ t → number_at (set now x o) p
      ≡ (if t then lesser (number_at now x) (least_over (by_way_of (is_edge b.edges) (bound_between b.edges) (number_at now) x) neighbours) else number_at now p)) [
        | true ↦ λ t. let e : p ≡ x = grind (arith, nat_tests) in ap (λ (q : ℕ). number_at (set now x o) q) e ∙ ap number_of here ∙ number
        | false ↦ λ t. let ne : p ≢ x = grind (arith, nat_tests) in ap number_of (other p ne)
      ] refl

  unset_here : label_at now x ≡ label_at old x
  unset_here = h.unset x (λ c. apart x c refl)

  offered_came : Offered b.order b.edges now x up o → Came b.order b.edges old (set now x o) (x ∷ xs) x up
  offered_came f =
      let set = among_edge (record { from = f.label.via; to = record { 0 = x }; bound = _ }) f.edge refl f.side in
      record {
        label = f.label;
        is = here ∙ f.is;
        set = contains_rest x f.label.via.0 xs set;
        before = f.before;
        known = ap number_of (other f.label.via.0 (apart f.label.via.0 set)) ∙ f.known;
        edge = f.edge;
        side = f.side;
        less = subst (λ (l : Option Label). IsBelow f.label.number (number_of l)) unset_here f.less;
      }

  still_came : (p : ℕ) → Contains xs p → Came b.order b.edges old now xs p up → Came b.order b.edges old (set now x o) (x ∷ xs) p up
  still_came p c f = record {
    label = f.label;
    is = other p (apart p c) ∙ f.is;
    set = contains_rest x f.label.via.0 xs f.set;
    before = f.before;
    known = ap number_of (other f.label.via.0 (apart f.label.via.0 f.set)) ∙ f.known;
    edge = f.edge;
    side = f.side;
    less = f.less;
  }

  via_here : (label_at (set now x o) x ≡ label_at old x) ⊎ Came b.order b.edges old (set now x o) (x ∷ xs) x up
  via_here = elim came [ inl e ↦ inl (here ∙ e ∙ unset_here) | inr f ↦ inr (offered_came f) ]

  via_behind : (p : ℕ) → Contains xs p → (label_at (set now x o) p ≡ label_at old p) ⊎ Came b.order b.edges old (set now x o) (x ∷ xs) p up
  via_behind p c = elim (h.vias p c) [ inl e ↦ inl (other p (apart p c) ∙ e) | inr f ↦ inr (still_came p c f) ]

  pub passing_more : IsPassing b up old (x ∷ xs) (set now x o)
  passing_more = record {
    len = length-set now x o ∙ h.len;
    table = table_same (is_edge b.edges) (bound_between b.edges) (number_at old) (x ∷ xs) _ (number_at (set now x o)) put_is
        (table_step (is_edge b.edges) (bound_between b.edges) (number_at old) x xs neighbours once (number_at now) h.table all among);
    unset = λ p c. other p (λ e. c (subst (λ (q : ℕ). Contains (x ∷ xs) q) (sym e) (contains_first x xs))) ∙ h.unset p (λ d. c (contains_rest x p xs d));
    vias = λ p c. elim (contains_cases x p xs c) [
      | inl e ↦ subst (λ (q : ℕ). (label_at (set now x o) q ≡ label_at old q) ⊎ Came b.order b.edges old (set now x o) (x ∷ xs) q up) e via_here
      | inr d ↦ via_behind p d
    ];
  }

-- the bounds of edges are light
pub bounds_light : (b : Bounds) → AreBounds b → (p q : ℕ) → is_edge b.edges p q ≡ true → IsLight greatest_walk (bound_between b.edges p q)
bounds_light b are p q j = let f = joined_found b.edges p q j in subst (IsLight greatest_walk) f.bound_is (are.range f.edge f.listed)

pub length-turned : (up : Bool) (order : List ℕ) → length (turned up order) ≡ length order
length-turned true order = length-reverse order
length-turned false order = refl

-- no label of a pass is heavy
module _ (b : Bounds) (are : AreBounds b) (few : length b.order ≤ most_points) (up : Bool) (old now : List (Option Label))
    (light : (p : ℕ) (d : ℤ) → number_at old p ≡ Some d → IsLight (greatest_walk * length b.order) d) where
  pub passing_light : (front xs : List ℕ) → turned up b.order ≡ front ++ xs → IsPassing b up old xs now → (q : ℕ) → IsLightLabel greatest_time (label_at now q)
  passing_light front xs is h q = by (label_at now q) refl where
    short : length xs ≤ length b.order
    short =
        let sum = length-append front xs in
        let all = ap length is in
        let same = length-turned up b.order in
        omega arith

    number_light : (d : ℤ) → number_at now q ≡ Some d → IsLight greatest_time d
    number_light d e = elim (in_or_not xs q) [
      | inl c ↦
          (let l = pass_light (is_edge b.edges) (bound_between b.edges) greatest_walk (bounds_light b are) (number_at old) (greatest_walk * length b.order) light xs q d
          (sym (h.table.set q c) ∙ e) in
          let low = l.0 in
          let high = l.1 in
          let s = short in
          let n = few in
          (omega (arith, ints), omega (arith, ints)))
      | inr no_c ↦
          (let l = light q d (ap number_of (sym (h.unset q no_c)) ∙ e) in
          let low = l.0 in
          let high = l.1 in
          let n = few in
          (omega (arith, ints), omega (arith, ints)))
    ]

    by : (o : Option Label) → label_at now q ≡ o → IsLightLabel greatest_time o
    by None e = tt
    by (Some l) e = number_light l.number (ap number_of e)

pub turned-contains : (up : Bool) (order : List ℕ) (p : ℕ) → Contains (turned up order) p → Contains order p
turned-contains true order p c = subst (λ (l : List ℕ). Contains l p) (reverse-reverse order) (contains-reverse (reverse order) p c)
turned-contains false order p c = c

-- the pass as the code takes it: the point of a turn, and the points that are set before
module _ (b : Bounds) (are : AreBounds b) (up : Bool) (turn x : ℕ) (lt : turn < length b.order) (x_is : x ≡ slice_index (turned up b.order) (length b.order - 1 - turn)) where
  place_in : length b.order - 1 - turn < length (turned up b.order)
  place_in = let n = length-turned up b.order in omega arith

  pub point_within : x < length b.order
  point_within =
      (are.points x).1 (turned-contains up b.order x (subst (Contains (turned up b.order)) (sym x_is) (Contains-get_or (turned up b.order) (length b.order - 1 - turn) 0 place_in)))

  rest_is : drop (length b.order - 1 - turn) (turned up b.order) ≡ x ∷ drop (length b.order - turn) (turned up b.order)
  rest_is =
      let next : length b.order - 1 - turn + 1 ≡ length b.order - turn = omega arith in
      drop_more (turned up b.order) (length b.order - 1 - turn) 0 place_in
      ∙ ap (λ (k : ℕ). slice_index (turned up b.order) (length b.order - 1 - turn) ∷ drop k (turned up b.order)) next
      ∙ ap (λ (y : ℕ). y ∷ drop (length b.order - turn) (turned up b.order)) (sym x_is)

  cut_is : turned up b.order ≡ take (length b.order - 1 - turn) (turned up b.order) ++ x ∷ drop (length b.order - turn) (turned up b.order)
  cut_is =
      sym (take-append-drop (length b.order - 1 - turn) (turned up b.order))
      ∙ ap (λ (l : List ℕ). take (length b.order - 1 - turn) (turned up b.order) ++ l) rest_is

  pub turn_light : (few : length b.order ≤ most_points) (old now : List (Option Label))
      → ((p : ℕ) (d : ℤ) → number_at old p ≡ Some d → IsLight (greatest_walk * length b.order) d)
      → IsPassing b up old (drop (length b.order - turn) (turned up b.order)) now → (q : ℕ) → IsLightLabel greatest_time (label_at now q)
  turn_light few old now light h q =
      passing_light b are few up old now light (take (length b.order - turn) (turned up b.order)) (drop (length b.order - turn) (turned up b.order))
      (sym (take-append-drop (length b.order - turn) (turned up b.order))) h q

  pub turn_more : (old now : List (Option Label)) → length old ≡ length b.order → IsPassing b up old (drop (length b.order - turn) (turned up b.order)) now → (o : Option Label)
      → number_of o ≡ lesser (number_at now x)
      (least_over (by_way_of (is_edge b.edges) (bound_between b.edges) (number_at now) x) (froms_of b.order b.edges (side x up) (length b.edges)))
      → (o ≡ label_at now x) ⊎ Offered b.order b.edges now x up o
      → IsPassing b up old (drop (length b.order - (turn + 1)) (turned up b.order)) (set now x o)
  turn_more old now many h o number came =
      let within = point_within in
      let room : x < length now = (let m = h.len in omega arith) in
      let whole = passing_more b are up old now (take (length b.order - 1 - turn) (turned up b.order)) (drop (length b.order - turn) (turned up b.order)) x cut_is h o room within number came in
      let same : length b.order - 1 - turn ≡ length b.order - (turn + 1) = omega arith in
      subst (λ (k : ℕ). IsPassing b up old (drop k (turned up b.order)) (set now x o)) same (subst (λ (xs : List ℕ). IsPassing b up old xs (set now x o)) (sym rest_is) whole)

-- the pass is whole after as many turns as there are points
pub passed_whole : (b : Bounds) (up : Bool) (old now : List (Option Label)) (turn : ℕ) → length b.order ≤ turn
    → IsPassing b up old (drop (length b.order - turn) (turned up b.order)) now → IsPassed b up old now
passed_whole b up old now turn end h =
    let none : length b.order - turn ≡ 0 = omega arith in
    subst (λ (k : ℕ). IsPassing b up old (drop k (turned up b.order)) now) none h

-- a list that was lent whole comes back whole
pub take_lent : {X : Type 0} (n : ℕ) (xs ys : List X) → length xs ≡ n → take n (xs ++ ys) ≡ xs
take_lent n xs ys same = take-append-le n xs ys (omega arith) ∙ take_all n xs (omega arith)
