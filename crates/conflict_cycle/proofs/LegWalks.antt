-- Lists that go on by walks: nothing, an arc, one walk after another, there and back: no_leg, one_arc, leg_then, closed_of; and the walk of some legs
-- under way: IsUnderWay, blank_leg, way_start, way_next, way_more, way_told.
use Rattle.std.proofs.Common.{◌≡◌, ℕ, ◌+◌, ◌<◌, ◌≤◌, List, [], ◌∷◌, ◌++◌, length, drop, get_or, ap, sym, ◌∙◌, refl, arith, subst, Option, Some, None}
use Rattle.std.specs.Prelude.{ℤ, pos, ◌+ℤ◌, ◌<ℤ◌, IfSome}
use Rattle.std.specs.List.{AllByRecursion}
use Rattle.std.proofs.lemmas.Int.{ints}
use Rattle.std.proofs.lemmas.List.{append-nil, append_assoc, drop_more, drop_all}
use Rattle.dist_rows.specs.declared.cell.Via.TheVariants.{Given}
use Rattle.stn_model.specs.Arcs.{from_at, to_at, bound_at}
use Rattle.stn_model.specs.Net.{Net, arcs_of}
use Rattle.stn_model.specs.Walks.{IsNegativeClosed}
use Rattle.stn_model.proofs.WalkLemmas.{IsWalk-append, weight-append}
use Rattle.shared_graph.specs.declared.unfold.Leg.{Leg}
use Rattle.shared_graph.specs.Interfaces.{interface_of}
use Rattle.shared_graph.specs.Legs.{IsLeg, LegsLead, legs_weight}
use Rattle.conflict_cycle.specs.Belongs.{Whole, IsLegWalk}

module _ (net : Net) where
  -- nothing more
  pub no_leg : (i : ℕ) (walk : List ℕ) → IsLegWalk net i i (pos 0) walk walk
  no_leg i walk = record { more = []; new_is = sym (append-nil walk); walk = refl; weighs = refl }

  -- an arc
  pub one_arc : (n i j : ℕ) (w : ℤ) (old new : List ℕ) → n < length (arcs_of net) → from_at (arcs_of net) n ≡ i → to_at (arcs_of net) n ≡ j
      → bound_at (arcs_of net) n ≡ w → new ≡ old ++ n ∷ [] → IsLegWalk net i j w old new
  one_arc n i j w old new lt from to bound is =
      record { more = n ∷ []; new_is = is; walk = (lt, from, to); weighs = omega (arith, ints) }

  -- one walk after another
  pub leg_then : (i j k : ℕ) (v w : ℤ) (old middle new : List ℕ) → IsLegWalk net i j v old middle → IsLegWalk net j k w middle new
      → IsLegWalk net i k (v +ℤ w) old new
  leg_then i j k v w old middle new p q = record {
    more = p.more ++ q.more;
    new_is = q.new_is ∙ ap (λ xs. xs ++ q.more) p.new_is ∙ append_assoc old p.more q.more;
    walk = IsWalk-append (arcs_of net) i j k p.more q.more p.walk q.walk;
    weighs = weight-append (arcs_of net) p.more q.more ∙ (λ t. p.weighs t +ℤ q.weighs t);
  }

  -- there and back
  pub closed_of : (i j : ℕ) (v w : ℤ) (middle new : List ℕ) → IsLegWalk net i j v [] middle → IsLegWalk net j i w middle new
      → (v +ℤ w) <ℤ pos 0 → IsNegativeClosed (arcs_of net) new
  closed_of i j v w middle new p q below =
      let both = leg_then i j i v w [] middle new p q in
      subst (IsNegativeClosed (arcs_of net)) (sym both.new_is)
      (record { start = i; walk = both.walk; negative = subst (λ (x : ℤ). x <ℤ pos 0) (sym both.weighs) below })

-- the walk of the first legs ends where the next one begins
pub record IsUnderWay (whole : Whole) (i j : ℕ) (old new : List ℕ) (legs : List Leg) (k : ℕ) : Type 0 where
  pub middle : ℕ
  pub sum : ℤ
  pub walk : IsLegWalk whole.net i middle sum old new
  pub lead : LegsLead (drop k legs) middle j
  pub each : AllByRecursion (IsLeg (interface_of whole.net) whole.state) (drop k legs)
  pub weighs : (sum +ℤ legs_weight (drop k legs)) ≡ legs_weight legs

-- what stands past the end of the legs
abbrev pub blank_leg : Leg
blank_leg = record { from = record { 0 = 0 }; to = record { 0 = 0 }; weight = pos 0; via = Given 0 }

module _ (whole : Whole) (i j : ℕ) (old : List ℕ) (legs : List Leg) where
  pub way_start : LegsLead legs i j → AllByRecursion (IsLeg (interface_of whole.net) whole.state) legs → IsUnderWay whole i j old old legs 0
  way_start lead each = record {
    middle = i;
    sum = pos 0;
    walk = no_leg whole.net i old;
    lead = lead;
    each = each;
    weighs = omega (arith, ints);
  }

  rest_is : (k : ℕ) → k < length legs → drop k legs ≡ get_or legs k blank_leg ∷ drop (k + 1) legs
  rest_is k lt = drop_more legs k blank_leg lt

  pub way_next : (k : ℕ) (new : List ℕ) → k < length legs → IsUnderWay whole i j old new legs k
      → IsLeg (interface_of whole.net) whole.state (get_or legs k blank_leg)
  way_next k new lt h = (subst (AllByRecursion (IsLeg (interface_of whole.net) whole.state)) (rest_is k lt) h.each).0

  pub way_more : (k : ℕ) (new after : List ℕ) → k < length legs → IsUnderWay whole i j old new legs k
      → IsLegWalk whole.net (get_or legs k blank_leg).from.0 (get_or legs k blank_leg).to.0 (get_or legs k blank_leg).weight new after
      → IsUnderWay whole i j old after legs (k + 1)
  way_more k new after lt h walk =
      let leg = get_or legs k blank_leg in
      let lead = subst (λ ls. LegsLead ls h.middle j) (rest_is k lt) h.lead in
      let each = subst (AllByRecursion (IsLeg (interface_of whole.net) whole.state)) (rest_is k lt) h.each in
      let weighs : (h.sum +ℤ (leg.weight +ℤ legs_weight (drop (k + 1) legs))) ≡ legs_weight legs =
      ap (λ ls. h.sum +ℤ legs_weight ls) (sym (rest_is k lt)) ∙ h.weighs in
      record {
        middle = leg.to.0;
        sum = h.sum +ℤ leg.weight;
        walk = leg_then whole.net i h.middle leg.to.0 h.sum leg.weight old new after h.walk
            (subst (λ m. IsLegWalk whole.net m leg.to.0 leg.weight new after) lead.0 walk);
        lead = lead.1;
        each = each.1;
        weighs = omega (arith, ints);
      }

  way_end : (k : ℕ) (new : List ℕ) (w : ℤ) → length legs ≤ k → legs_weight legs ≡ w → IsUnderWay whole i j old new legs k
      → IsLegWalk whole.net i j w old new
  way_end k new w all is h =
      let none : drop k legs ≡ [] = drop_all k legs all in
      let ends : h.middle ≡ j = subst (λ ls. LegsLead ls h.middle j) none h.lead in
      let weighs : (h.sum +ℤ pos 0) ≡ legs_weight legs = ap (λ ls. h.sum +ℤ legs_weight ls) (sym none) ∙ h.weighs in
      let sum : h.sum ≡ w = omega (arith, ints) in
      subst (λ m. IsLegWalk whole.net i m w old new) ends (subst (λ s. IsLegWalk whole.net i h.middle s old new) sum h.walk)

  -- after all legs, in the terms of a weight that is there
  pub way_told : (k : ℕ) (new : List ℕ) (o : Option ℤ) → length legs ≤ k → Some (legs_weight legs) ≡ o → IsUnderWay whole i j old new legs k
      → IfSome o (λ w. IsLegWalk whole.net i j w old new)
  way_told k new None all is h = tt
  way_told k new (Some w) all is h = (let same : legs_weight legs ≡ w = cc in way_end k new w all same h)
