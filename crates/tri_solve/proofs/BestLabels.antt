-- The least label of a point over the edges of one side, edge by edge.
use Rattle.std.proofs.Common.{◌≡◌, ℕ, ◌+◌, ◌-◌, ◌<◌, Bool, true, false, List, length, get_or, Option, Some, None, sym, ap, ◌∙◌, refl, arith, inl, inr, ◌⊎◌, subst}
use Rattle.std.specs.Prelude.{ℤ, ◌+ℤ◌, ◌-ℤ◌, ◌<ℤ◌, int_lt, if◌then◌else◌, Contains}
use Rattle.std.proofs.lemmas.Int.{ints}
use Rattle.std.proofs.lemmas.List.{get_or_read}
use Rattle.std.proofs.lemmas.List.Elements.{Contains-get_or}
use Rattle.stn_walk.specs.Eliminations.{lesser}
use Rattle.stn_walk.proofs.Finals.{IsLower}
use Rattle.stn_walk.proofs.Potentials.{lower_left}
use Rattle.stn_model.specs.declared.ids.PointId.{PointId}
use Rattle.tri_solve.specs.declared.edge.Edge.{Edge}
use Rattle.tri_solve.specs.declared.label.Label.{Label}
use Rattle.tri_solve.specs.Edges.{Bounds, AreBounds, no_edge, edge_at, is_edge, bound_between}
use Rattle.tri_solve.specs.Layouts.{key, side, is_up, last_of, froms_of}
use Rattle.tri_solve.specs.Passes.{IsLight, least_over, by_way_of}
use Rattle.tri_solve.specs.Labels.{number_of, label_at, number_at, offered, lesser_label, IsBelow, Offered}
use Rattle.tri_solve.specs.Layouts.{IsLaidOut}
use Rattle.stn_model.specs.Limits.{greatest_walk}
use Rattle.tri_solve.proofs.EdgeBounds.{way_of_edge}
use Rattle.tri_solve.proofs.Froms.{IsLast, last_is, side_is, side_below, froms_here, froms_skip}
use Rattle.tri_solve.proofs.Numbers.{lesser-assoc, lesser-none, none_is, some_is}

-- the number of the lesser label
pub number-lesser : (a b : Option Label) → number_of (lesser_label a b) ≡ lesser (number_of a) (number_of b)
number-lesser None b = refl
number-lesser (Some a) None = refl
number-lesser (Some a) (Some b) =
    elim (int_lt b.number a.number) as (λ t. number_of (if t then Some b else Some a) ≡ (if t then Some b.number else Some a.number)) [ true ↦ refl | false ↦ refl ]

-- a label that is there and whose number is below all that a number is at most
record IsLess (a b : Option Label) : Type 0 where
  label : Label
  there : b ≡ Some label
  below : (x : ℤ) → IsLower x (number_of a) → label.number <ℤ x

-- it is the first, or the second, which is less
chosen : (a b : Option Label) → (lesser_label a b ≡ a) ⊎ ((lesser_label a b ≡ b) × IsLess a b)
chosen None None = inl refl
chosen None (Some b) = inr (refl, record { label = b; there = refl; below = λ x h. absurd h })
chosen (Some a) None = inl refl
chosen (Some a) (Some b) =
    elim (int_lt b.number a.number) as (λ t. int_lt b.number a.number ≡ t
    → ((if t then Some b else Some a) ≡ Some a) ⊎ (((if t then Some b else Some a) ≡ Some b) × IsLess (Some a) (Some b))) [
      | true ↦ λ t. let lt : b.number <ℤ a.number = grind (arith, ints) in inr (refl, record { label = b; there = refl; below = λ x h. omega (arith, ints) })
      | false ↦ λ t. inl refl
    ] refl

-- what is at most all that another number is at most, strictly, is below it
below_number : (d : ℤ) (o : Option ℤ) → ((x : ℤ) → IsLower x o → d <ℤ x) → IsBelow d o
below_number d None h = tt
below_number d (Some e) h = h e (omega (arith, ints))

-- where an offer came from
record IsOffer (o : Option Label) (e : Edge) (l : Label) : Type 0 where
  before : ℤ
  known : number_of o ≡ Some before
  number : l.number ≡ before +ℤ e.bound
  via : l.via ≡ e.from

abbrev via_or : PointId → Option Label → PointId
via_or p None = p
via_or p (Some l) = l.via

offer_is : (o : Option Label) (e : Edge) (l : Label) → offered o e ≡ Some l → IsOffer o e l
offer_is None e l h = absurd (none_is l.number (ap number_of h))
offer_is (Some m) e l h = record {
  before = m.number;
  known = refl;
  number = some_is l.number (m.number +ℤ e.bound) (ap number_of (sym h));
  via = ap (via_or l.via) (sym h);
}

-- an edge by its parts
edge_is : (e : Edge) (p : ℕ) (b : ℤ) → e.to.0 ≡ p → b ≡ e.bound → e ≡ record { from = e.from; to = record { 0 = p }; bound = b }
edge_is e p b to is = ap (λ (q : ℕ). record { from = e.from; to = record { 0 = q }; bound = e.bound }) to ∙ ap (λ (c : ℤ). record { from = e.from; to = record { 0 = p }; bound = c }) (sym is)

module _ (b : Bounds) (are : AreBounds b) (labels : List (Option Label)) (p : ℕ) (up : Bool) where
  abbrev way : ℕ → Option ℤ
  way = by_way_of (is_edge b.edges) (bound_between b.edges) (number_at labels) p

  abbrev ways : ℕ → Option ℤ
  ways n = least_over way (froms_of b.order b.edges (side p up) n)

  -- the best label so far, where the edges of the first `at` are left
  pub record IsBest (at : ℕ) (best : Option Label) : Type 0 where
    pub left : lesser (number_of best) (ways at) ≡ lesser (number_at labels p) (ways (length b.edges))
    pub via : (best ≡ label_at labels p) ⊎ Offered b.order b.edges labels p up best
    pub lower : (x : ℤ) → IsLower x (number_at labels p) → IsLower x (number_of best)
    pub last : IsLast b.order b.edges (side p up) (length b.edges) at

  pub best_first : (at : ℕ) → at ≡ last_of b.order b.edges (side p up) (length b.edges) → IsBest at (label_at labels p)
  best_first at is = record {
    left = ap (λ n. lesser (number_at labels p) (ways n)) is
        ∙ ap (λ ps. lesser (number_at labels p) (least_over way ps)) (froms_skip b.order b.edges (side p up) (length b.edges));
    via = inl refl;
    lower = λ x h. h;
    last = subst (IsLast b.order b.edges (side p up) (length b.edges)) (sym is) (last_is b.order b.edges (side p up) (length b.edges));
  }

  pub best_last : (at : ℕ) (best : Option Label) → at ≡ 0 → IsBest at best → number_of best ≡ lesser (number_at labels p) (ways (length b.edges))
  best_last at best end h = let last : IsBest 0 best = subst (λ (n : ℕ). IsBest n best) end h in sym (lesser-none (number_of best)) ∙ last.left

  module _ (n : ℕ) (best : Option Label) (h : IsBest (n + 1) best) where
    pub edge_in : n < length b.edges
    edge_in = elim h.last [ inl z ↦ absurd (omega arith) | inr l ↦ (let lt = l.2 in let e = l.1 in omega arith) ]

    pub has_key : key b.order (edge_at b.edges n) ≡ side p up
    has_key = elim h.last [
      | inl z ↦ absurd (omega arith)
      | inr l ↦ (let e = l.1 in let same : l.0 ≡ n = omega arith in ap (λ i. key b.order (edge_at b.edges i)) (sym same) ∙ l.3)
    ]

    edge : Edge
    edge = edge_at b.edges n

    listed : Contains b.edges (edge_at b.edges n)
    listed = Contains-get_or b.edges n no_edge edge_in

    ends : (edge_at b.edges n).to.0 ≡ p
    ends = (side_is (edge_at b.edges n).to.0 p (is_up b.order (edge_at b.edges n).from.0 (edge_at b.edges n).to.0) up has_key).0

    leads : is_up b.order (edge_at b.edges n).from.0 p ≡ up
    leads = ap (λ (q : ℕ). is_up b.order (edge_at b.edges n).from.0 q) (sym ends)
        ∙ (side_is (edge_at b.edges n).to.0 p (is_up b.order (edge_at b.edges n).from.0 (edge_at b.edges n).to.0) up has_key).1

    abbrev here : Option Label
    here = label_at labels (edge_at b.edges n).from.0

    abbrev offer : Option Label
    offer = offered here (edge_at b.edges n)

    offer_way : way (edge_at b.edges n).from.0 ≡ number_of offer
    offer_way =
        subst (λ (q : ℕ). by_way_of (is_edge b.edges) (bound_between b.edges) (number_at labels) q (edge_at b.edges n).from.0 ≡ number_of offer) ends
        (way_of_edge b.edges are.single (number_at labels) (edge_at b.edges n) here listed refl)

    less_offered : IsLess best offer → Offered b.order b.edges labels p up offer
    less_offered l =
        let o = offer_is here (edge_at b.edges n) l.label l.there in
        let sum = o.number in
        let from : (edge_at b.edges n).from ≡ l.label.via = sym o.via in
        let bound : l.label.number -ℤ o.before ≡ (edge_at b.edges n).bound = omega (arith, ints) in
        record {
          label = l.label;
          is = l.there;
          before = o.before;
          known = subst (λ q. number_at labels q.0 ≡ Some o.before) from o.known;
          edge = subst (λ q. Contains b.edges (record { from = q; to = record { 0 = p }; bound = l.label.number -ℤ o.before })) from
              (subst (Contains b.edges) (edge_is (edge_at b.edges n) p (l.label.number -ℤ o.before) ends bound) listed);
          side = subst (λ q. is_up b.order q.0 p ≡ up) from leads;
          less = below_number l.label.number (number_at labels p) (λ x low. l.below x (h.lower x low));
        }

    pub best_more : (at : ℕ) → at ≡ last_of b.order b.edges (side p up) n → IsBest at (lesser_label best offer)
    best_more at is = record {
      left = ap (λ m. lesser (number_of (lesser_label best offer)) (ways m)) is
          ∙ ap (λ ps. lesser (number_of (lesser_label best offer)) (least_over way ps)) (froms_skip b.order b.edges (side p up) n)
          ∙ ap (λ o. lesser o (ways n)) (number-lesser best offer)
          ∙ lesser-assoc (number_of best) (number_of offer) (ways n)
          ∙ ap (λ o. lesser (number_of best) (lesser o (ways n))) (sym offer_way)
          ∙ ap (λ ps. lesser (number_of best) (least_over way ps)) (sym (froms_here b.order b.edges (side p up) n has_key))
          ∙ h.left;
      via = elim (chosen best offer) [
        | inl e ↦ subst (λ (o : Option Label). (o ≡ label_at labels p) ⊎ Offered b.order b.edges labels p up o) (sym e) h.via
        | inr e ↦ subst (λ (o : Option Label). (o ≡ label_at labels p) ⊎ Offered b.order b.edges labels p up o) (sym e.0) (inr (less_offered e.1))
      ];
      lower = λ x low. subst (IsLower x) (sym (number-lesser best offer)) (lower_left x (number_of best) (number_of offer) (h.lower x low));
      last = wider (subst (IsLast b.order b.edges (side p up) n) (sym is) (last_is b.order b.edges (side p up) n));
    } where
      wider : IsLast b.order b.edges (side p up) n at → IsLast b.order b.edges (side p up) (length b.edges) at
      wider (inl z) = inl z
      wider (inr (e, m, lt, k)) = let room = edge_in in inr (e, m, omega arith, k)

    -- the next edge comes before this one
    pub at_falls : (at : ℕ) → at ≡ last_of b.order b.edges (side p up) n → at < n + 1
    at_falls at is = elim (last_is b.order b.edges (side p up) n) [ inl z ↦ omega arith | inr l ↦ (let e = l.1 in let lt = l.2 in omega arith) ]

  -- the turn of the loop as the code takes it
  module _ (at : ℕ) (best : Option Label) (h : IsBest at best) (on : at ≡ 0 → ⊥) where
    before_at : IsBest (at - 1 + 1) best
    before_at = let e : at ≡ at - 1 + 1 = omega arith in subst (λ (n : ℕ). IsBest n best) e h

    pub edge_within : at - 1 < length b.edges
    edge_within = edge_in (at - 1) best before_at

    module _ (e : Edge) (read : e ≡ get_or b.edges (at - 1) e) where
      edge_read : e ≡ edge_at b.edges (at - 1)
      edge_read = get_or_read b.edges (at - 1) e edge_within read no_edge

      edge_listed : Contains b.edges e
      edge_listed = subst (Contains b.edges) (sym edge_read) (Contains-get_or b.edges (at - 1) no_edge edge_within)

      pub edge_begins : e.from.0 < length b.order
      edge_begins = are.from_in e edge_listed

      pub edge_light : IsLight greatest_walk e.bound
      edge_light = are.range e edge_listed

      module _ (lasts befores : List ℕ) (laid : IsLaidOut b.order b.edges (length b.edges) lasts befores) (next : ℕ) (linked : next ≡ get_or befores (at - 1) next) where
        next_is : next ≡ last_of b.order b.edges (side p up) (at - 1)
        next_is =
            get_or_read befores (at - 1) next (let m = laid.numbers in let lt = edge_within in omega arith) linked 0
            ∙ laid.before (at - 1) edge_within
            ∙ ap (λ k. last_of b.order b.edges k (at - 1)) (has_key (at - 1) best before_at)

        pub next_falls : next < at
        next_falls = let lt = at_falls (at - 1) best before_at next next_is in omega arith

        pub best_next : (o r : Option Label) → o ≡ offered (label_at labels e.from.0) e → r ≡ lesser_label best o → IsBest next r
        best_next o r is_offer is_lesser =
            let offer_at : o ≡ offered (label_at labels (edge_at b.edges (at - 1)).from.0) (edge_at b.edges (at - 1)) =
            is_offer ∙ ap (λ (f : Edge). offered (label_at labels f.from.0) f) edge_read in
            subst (IsBest next) (sym (is_lesser ∙ ap (lesser_label best) offer_at)) (best_more (at - 1) best before_at next next_is)

  pub first_is : (lasts befores : List ℕ) → IsLaidOut b.order b.edges (length b.edges) lasts befores → p < length b.order
      → (place first : ℕ) → place ≡ side p up → first ≡ get_or lasts place first → first ≡ last_of b.order b.edges (side p up) (length b.edges)
  first_is lasts befores laid lt place first is read =
      let below = side_below p (length b.order) up lt in
      let in_lasts : place < length lasts = (let m = laid.keys in omega arith) in
      get_or_read lasts place first in_lasts read 0 ∙ ap (λ k. get_or lasts k 0) is ∙ laid.last (side p up) below
