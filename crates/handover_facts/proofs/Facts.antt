-- The handover is a network, and the refused one has a negative cycle.
use Rattle.std.proofs.Common.{◌≡◌, ◌≢◌, ℕ, ◌<◌, false, List, [], ◌∷◌, refl, sym, ◌∙◌, arith}
use Rattle.std.proofs.lemmas.Int.{ints}
use Rattle.std.proofs.lemmas.List.Elements.{All-from_recursion}
use Rattle.std.proofs.lemmas.List.Kept.{AllPairs-cons}
use Rattle.std.proofs.lemmas.Slice.Eq.{bytes_eq-Decides}
use Rattle.std.proofs.lemmas.Bool.{false≢true}
use Rattle.std.specs.Str.{bytes_eq}
use Rattle.std.specs.List.{AllPairs}
use Rattle.std.specs.Prelude.{IsTrue}
use Rattle.stn_model.specs.Net.{arcs_of}
use Rattle.stn_model.specs.Refusals.{is_name}
use Rattle.stn_model.specs.Valid.{IsNetwork, IsArcWithin, IsActWithin}
use Rattle.stn_model.specs.Walks.{IsNegativeCycle}
use Rattle.sample_nets.specs.Samples.{handover}
use Rattle.handover_facts.specs.Handover.{refused}

pub negative : IsNegativeCycle (arcs_of refused) (1 ∷ 15 ∷ 12 ∷ 10 ∷ [])
negative = record {
  start = 1;
  walk = (omega arith, refl, (omega arith, refl, (omega arith, refl, (omega arith, refl, refl))));
  simple = ((omega arith, (omega arith, (omega arith, tt))), ((omega arith, (omega arith, tt)), ((omega arith, tt), (tt, tt))));
  negative = omega (arith, ints);
}

differ : (x y : List ℕ) → bytes_eq x y ≡ false → x ≢ y
differ x y d e = false≢true (sym d ∙ (bytes_eq-Decides x y).1 e)

none : AllPairs (λ (x y : List ℕ). x ≢ y) []
none i j d lt within = absurd (omega arith)

abbrev ann : List ℕ
ann = 97 ∷ 110 ∷ 110 ∷ []

abbrev bob : List ℕ
bob = 98 ∷ 111 ∷ 98 ∷ []

abbrev a1 : List ℕ
a1 = 97 ∷ 49 ∷ []

abbrev a2 : List ℕ
a2 = 97 ∷ 50 ∷ []

abbrev b1 : List ℕ
b1 = 98 ∷ 49 ∷ []

abbrev b2 : List ℕ
b2 = 98 ∷ 50 ∷ []

pub is_network : IsNetwork handover
is_network = record {
  horizon_low = omega (arith, ints);
  horizon_high = omega (arith, ints);
  few_agents = omega arith;
  few_points = omega arith;
  few_acts = omega arith;
  few_arcs = omega arith;
  agent_forms = All-from_recursion (λ a. IsTrue (is_name a.name)) handover.agents (refl, (refl, tt));
  point_forms = All-from_recursion (λ p. IsTrue (is_name p.name)) handover.places (refl, (refl, (refl, (refl, tt))));
  agents_differ =
      AllPairs-cons (λ x y. x ≢ y) ann (bob ∷ []) (All-from_recursion (λ y. ann ≢ y) (bob ∷ []) (differ ann bob refl, tt))
      (AllPairs-cons (λ x y. x ≢ y) bob [] (All-from_recursion (λ y. bob ≢ y) [] tt) none);
  points_differ =
      AllPairs-cons (λ x y. x ≢ y) a1 (a2 ∷ b1 ∷ b2 ∷ [])
      (All-from_recursion (λ y. a1 ≢ y) (a2 ∷ b1 ∷ b2 ∷ []) (differ a1 a2 refl, (differ a1 b1 refl, (differ a1 b2 refl, tt))))
      (AllPairs-cons (λ x y. x ≢ y) a2 (b1 ∷ b2 ∷ []) (All-from_recursion (λ y. a2 ≢ y) (b1 ∷ b2 ∷ []) (differ a2 b1 refl, (differ a2 b2 refl, tt)))
      (AllPairs-cons (λ x y. x ≢ y) b1 (b2 ∷ []) (All-from_recursion (λ y. b1 ≢ y) (b2 ∷ []) (differ b1 b2 refl, tt))
      (AllPairs-cons (λ x y. x ≢ y) b2 [] (All-from_recursion (λ y. b2 ≢ y) [] tt) none)));
  not_z = All-from_recursion (λ p. p.name ≢ 122 ∷ []) handover.places
      (differ a1 (122 ∷ []) refl, (differ a2 (122 ∷ []) refl, (differ b1 (122 ∷ []) refl, (differ b2 (122 ∷ []) refl, tt))));
  owners = All-from_recursion (λ p. p.owner < 2) handover.places (omega arith, (omega arith, (omega arith, (omega arith, tt))));
  acts = All-from_recursion (IsActWithin handover.places) [] tt;
  in_order = λ i j d lt within. absurd (omega arith);
  arcs = All-from_recursion (IsArcWithin 5) handover.given (
    record { starts = omega arith; ends = omega arith; different = omega arith; low = omega (arith, ints); high = omega (arith, ints) },
    (
      record { starts = omega arith; ends = omega arith; different = omega arith; low = omega (arith, ints); high = omega (arith, ints) },
      (
        record { starts = omega arith; ends = omega arith; different = omega arith; low = omega (arith, ints); high = omega (arith, ints) },
        (
          record { starts = omega arith; ends = omega arith; different = omega arith; low = omega (arith, ints); high = omega (arith, ints) },
          (
            record { starts = omega arith; ends = omega arith; different = omega arith; low = omega (arith, ints); high = omega (arith, ints) },
            (
              record { starts = omega arith; ends = omega arith; different = omega arith; low = omega (arith, ints); high = omega (arith, ints) },
              (
                record { starts = omega arith; ends = omega arith; different = omega arith; low = omega (arith, ints); high = omega (arith, ints) },
                tt,
              ),
            ),
          ),
        ),
      ),
    ),
  );
}
