use Rattle.std.proofs.Common.{◌≡◌, pos, neg_ℤ, List, [], ◌∷◌, refl, sym, subst, arith}
use Rattle.std.proofs.lemmas.Int.{ints}
use Rattle.stn_model.specs.declared.ids.Constraint.{Constraint}
use Rattle.stn_model.specs.Walks.{IsNegativeClosed, weight}
use Rattle.stn_walk.proofs.tests.other_lists_are_pruned.Goals as goal

-- the arcs of the test
abbrev pair : List Constraint
pair =
    record { from = record { 0 = 0 }; to = record { 0 = 1 }; bound = pos 5 } ∷ record { from = record { 0 = 1 }; to = record { 0 = 0 }; bound = neg_ℤ (pos 7) } ∷ []

-- twice back and there
twice_round : IsNegativeClosed pair (1 ∷ 0 ∷ 1 ∷ 0 ∷ [])
twice_round =
    let sum : weight pair (1 ∷ 0 ∷ 1 ∷ 0 ∷ []) ≡ neg_ℤ (pos 4) = refl in
    record {
      start = 1;
      walk = (omega arith, refl, (omega arith, refl, (omega arith, refl, (omega arith, refl, refl))));
      negative = omega (arith, ints);
    }

pub negative_cycle-requires : goal.negative_cycle-requires
negative_cycle-requires g c = subst (IsNegativeClosed pair) (sym c.as_slice.ensures) twice_round
