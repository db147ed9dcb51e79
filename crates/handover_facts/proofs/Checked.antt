-- What a test of every item shows of a list.
--   keeps-from_test    times that pass the test keep the arcs
--   once-from_test     entries that pass the test are of different pairs
--   private-past_end, seen-past_end   a number past the end is no private and no seen point
use Rattle.std.proofs.Common.{◌≡◌, ℕ, ◌<◌, ◌-ℤ◌, ℤ, Bool, true, false, not, List, [], ◌∷◌, length, refl, ap, ◌∙◌, arith}
use Rattle.std.proofs.Common.{nat_eq, ◌||◌, ◌&&◌, Some, None, slice_get, ◌-◌, if◌then◌else◌}
use Rattle.std.proofs.lemmas.Int.{ints}
use Rattle.std.proofs.lemmas.Bool.Decides.{nat_tests}
use Rattle.std.proofs.lemmas.Option.{slice_get_past}
use Rattle.std.proofs.lemmas.List.Kept.{AllPairs-cons}
use Rattle.std.proofs.lemmas.List.Sums.{AllPass-from_list_all}
use Rattle.std.specs.Prelude.{int_le}
use Rattle.std.specs.List.{AllPairs, list_all}
use Rattle.std.specs.Option.{option_eq, option_map}
use Rattle.stn_model.specs.declared.ids.Constraint.{Constraint}
use Rattle.stn_model.specs.Arcs.{no_arc}
use Rattle.stn_model.specs.Net.{Net, owner_of}
use Rattle.stn_model.specs.Kinds.{is_owned_by, is_shared, is_private_of}
use Rattle.stn_model.specs.Schedules.{KeepsArcs, time_at}
use Rattle.stn_model.specs.Summaries.{is_seen, Entry}

-- whether the arc holds
abbrev pub is_kept : List ℤ → Constraint → Bool
is_kept times a = int_le (time_at times a.to.0 -ℤ time_at times a.from.0) a.bound

pub keeps-from_test : (arcs : List Constraint) (times : List ℤ) → list_all (is_kept times) arcs ≡ true → KeepsArcs arcs times
keeps-from_test arcs times h n lt = let kept = AllPass-from_list_all (is_kept times) arcs h n no_arc lt in grind (arith, ints)

-- two entries are of different pairs
abbrev pub Differ : Entry → Entry → Type 0
Differ e f = e.from ≡ f.from → e.to ≡ f.to → ⊥

abbrev is_other : Entry → Entry → Bool
is_other e f = not (nat_eq e.from f.from && nat_eq e.to f.to)

abbrev pub are_once : List Entry → Bool
are_once [] = true
are_once (e ∷ es) = list_all (is_other e) es && are_once es

pub once-from_test : (es : List Entry) → are_once es ≡ true → AllPairs Differ es
once-from_test [] h = λ i j d lt within. absurd (omega arith)
once-from_test (e ∷ es) h =
    let parts = both (list_all (is_other e) es) (are_once es) h in
    AllPairs-cons Differ e es
    (λ i d lt from to. let other = AllPass-from_list_all (is_other e) es parts.0 i d lt in grind (arith, nat_tests))
    (once-from_test es parts.1)
  where
    both : (a b : Bool) → (a && b) ≡ true → (a ≡ true) × (b ≡ true)
    both true b h = (refl, h)
    both false b h = absurd (cc)

-- points that are not there have no owner
not_owned : (net : Net) (agent p : ℕ) → length net.places < p → is_owned_by net agent p ≡ false
not_owned net agent p past =
    let off : nat_eq p 0 ≡ false = grind (arith, nat_tests) in
    let none : owner_of net p ≡ None =
    ap (λ b. if b then None else option_map (λ q. q.owner) (slice_get net.places (p - 1))) off
    ∙ ap (option_map (λ q. q.owner)) (slice_get_past net.places (p - 1) (omega arith)) in
    ap (λ o. option_eq nat_eq o (Some agent)) none

pub private-past_end : (net : Net) (agent p : ℕ) → length net.places < p → is_private_of net agent p ≡ false
private-past_end net agent p past = ap (λ b. b && not (is_shared net p)) (not_owned net agent p past)

pub seen-past_end : (net : Net) (agent p : ℕ) → length net.places < p → is_seen net agent p ≡ false
seen-past_end net agent p past =
    let off : nat_eq p 0 ≡ false = grind (arith, nat_tests) in
    ap (λ b. b || is_owned_by net agent p && is_shared net p) off ∙ ap (λ b. b && is_shared net p) (not_owned net agent p past)
