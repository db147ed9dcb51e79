-- The line of a negative cycle in normal form is accepted.
use Rattle.std.proofs.Common.{◌≡◌, ℕ, ◌<◌, ◌≤◌, ℤ, pos, Bool, true, false, not, List, [], ◌∷◌, ◌++◌, map, length, codes, nat_lt, nat_le, Option, Some, None, Ok, Err, refl, sym, ap, ◌∙◌, arith, if◌then◌else◌}
use Rattle.std.specs.List.{AllByRecursion, list_all}
use Rattle.std.specs.Option.{option_map}
use Rattle.std.specs.Result.{is_ok}
use Rattle.std.specs.Fmt.{decimal}
use Rattle.std.proofs.lemmas.Bool.Decides.{nat_tests}
use Rattle.std.proofs.lemmas.Int.{ints}
use Rattle.stn_model.specs.Limits.{greatest_bound}
use Rattle.stn_model.specs.declared.ids.Constraint.{Constraint}
use Rattle.stn_model.specs.Arcs.{to_at}
use Rattle.stn_model.specs.Net.{Net, arcs_of}
use Rattle.stn_model.specs.Valid.{IsNetwork}
use Rattle.stn_model.specs.Walks.{IsWalk, IsNegativeCycle, IsNormal}
use Rattle.stn_model.proofs.ArcLemmas.{arcs_within}
use Rattle.stn_model.proofs.NetLemmas.{length-arcs_of, length-map}
use Rattle.net_text.specs.Plain.{spaced}
use Rattle.net_text.specs.Numbers.{number_of}
use Rattle.net_text.proofs.FieldsOfLines.{IsField}
use Rattle.cert_check.specs.declared.stage.Stage.TheVariants as stage
use Rattle.cert_check.specs.declared.verdict.CertCause.TheVariants as cause
use Rattle.cert_check.specs.Cycles.{is_normal, is_cycle}
use Rattle.cert_check.proofs.Cycles.{cycle_tested}
use Rattle.cert_check.proofs.Decided.{both, is_at_most}
use Rattle.cert_check.specs.Certificates.{fields_do, is_index, arc_number, arc_numbers, with_number, writes_cycle, number_below}
use Rattle.cert_print.specs.Texts.{numbers_text}
use Rattle.cert_print.proofs.Readings.{decimal_is_field, number-decimal, index_in_is, number_below_is}

least_passes : (n : ℕ) (ns : List ℕ) → AllByRecursion (λ m. n ≤ m) ns → list_all (nat_le n) ns ≡ true
least_passes n [] h = refl
least_passes n (m ∷ ms) h = both (nat_le n m) (list_all (nat_le n) ms) (is_at_most n m h.0) (least_passes n ms h.1)

normal_passes : (ns : List ℕ) → IsNormal ns → is_normal ns ≡ true
normal_passes [] h = refl
normal_passes (n ∷ ns) h = both (nat_le n n) (list_all (nat_le n) ns) (is_at_most n n (omega arith)) (least_passes n ns h)

cycle_passes : (arcs : List Constraint) (ns : List ℕ) → IsNegativeCycle arcs ns → IsNormal ns → is_cycle arcs ns ≡ true
cycle_passes arcs ns c normal = sym (cycle_tested arcs ns true ((λ _. c), (λ _. refl)) (normal_passes ns normal))

pub spaced_numbers : (ns : List ℕ) → spaced (map decimal ns) ≡ numbers_text ns
spaced_numbers [] = refl
spaced_numbers (n ∷ ns) = ap (λ l. (32 ∷ decimal n) ++ l) (spaced_numbers ns)

module _ (net : Net) (valid : IsNetwork net) where
  small : (n : ℕ) → n < length (arcs_of net) → n ≤ greatest_bound
  small n lt = let few = valid.few_points in let arcs = valid.few_arcs in omega (arith, length-arcs_of net)

  arc_number_is : (n : ℕ) → n < length (arcs_of net) → arc_number net (decimal n) ≡ Some n
  arc_number_is n lt = by (number_of (decimal n)) (number-decimal n (small n lt))
    where
      by : (r : Option ℤ) → r ≡ Some (pos n) → ◌≡◌ {A = Option ℕ} (elim r [ None ↦ None | Some m ↦ number_below (length (arcs_of net)) m ]) (Some n)
      by r e = rw e (number_below_is (length (arcs_of net)) n lt)

  numbers_are : (i j : ℕ) (ns : List ℕ) → IsWalk (arcs_of net) i j ns → arc_numbers net (map decimal ns) ≡ Some ns
  numbers_are i j [] w = refl
  numbers_are i j (n ∷ ns) w =
      ap (λ (o : Option ℕ). with_number o (arc_numbers net (map decimal ns))) (arc_number_is n w.0)
      ∙ ap (λ (o : Option (List ℕ)). option_map (λ (ms : List ℕ). n ∷ ms) o) (numbers_are (to_at (arcs_of net) n) j ns w.2)

  indices : (i j : ℕ) (ns : List ℕ) → IsWalk (arcs_of net) i j ns → list_all is_index (map decimal ns) ≡ true
  indices i j [] w = refl
  indices i j (n ∷ ns) w =
      both (is_index (decimal n)) (list_all is_index (map decimal ns)) (ap is_ok (index_in_is n (small n w.0))) (indices (to_at (arcs_of net) n) j ns w.2)

  pub number_fields : (i j : ℕ) (ns : List ℕ) → IsWalk (arcs_of net) i j ns → AllByRecursion IsField (map decimal ns)
  number_fields i j [] w = tt
  number_fields i j (n ∷ ns) w = (decimal_is_field n (small n w.0), number_fields (to_at (arcs_of net) n) j ns w.2)

  -- a closed walk below 0 has two arcs at least, since the ends of an arc differ
  two_arcs : (ns : List ℕ) → IsNegativeCycle (arcs_of net) ns → 2 ≤ length ns
  two_arcs [] c = let negative = c.negative in absurd (omega (arith, ints))
  two_arcs (n ∷ []) c = absurd ((arcs_within net valid n c.walk.0).different (c.walk.1 ∙ sym c.walk.2))
  two_arcs (n ∷ m ∷ ms) c = omega arith

  writes : (fs : List (List ℕ)) (ns : List ℕ) → arc_numbers net fs ≡ Some ns → is_cycle (arcs_of net) ns ≡ true → writes_cycle net fs ≡ true
  writes fs ns e cycle = by (arc_numbers net fs) e
    where
      by : (r : Option (List ℕ)) → r ≡ Some ns → ◌≡◌ {A = Bool} (elim r [ None ↦ false | Some ms ↦ is_cycle (arcs_of net) ms ]) true
      by r e = rw e cycle

  pub cycle_goes : (ns : List ℕ) → IsNegativeCycle (arcs_of net) ns → IsNormal ns → fields_do net stage.CycleDue (codes "cycle" ∷ map decimal ns) ≡ Ok (stage.EndDue false)
  cycle_goes ns c normal =
      let fs : List (List ℕ) = map decimal ns in
      let many = two_arcs ns c in
      let len = length-map decimal ns in
      let enough : nat_lt (length fs) 2 ≡ false = grind (arith, nat_tests) in
      ap (λ (b : Bool). if b then Err cause.FieldCount else
      (if not (list_all is_index fs) then Err cause.NumberBad else
      (if writes_cycle net fs then Ok (stage.EndDue false) else Err cause.BadCycle))) enough
      ∙ ap (λ (b : Bool). if not b then Err cause.NumberBad else (if writes_cycle net fs then Ok (stage.EndDue false) else Err cause.BadCycle)) (indices c.start c.start ns c.walk)
      ∙ ap (λ (b : Bool). if b then Ok (stage.EndDue false) else Err cause.BadCycle) (writes fs ns (numbers_are c.start c.start ns c.walk) (cycle_passes (arcs_of net) ns c normal))
