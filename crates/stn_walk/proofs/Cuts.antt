-- A walk that passes a point twice is cut there.
--
-- The points of a walk from i are i and the heads of its arcs; the point at place k is where the first k arcs end. Where the points at
-- two places p < q are equal, the arcs between the places are a closed walk, and the arcs before p with those from q on are a walk with
-- the ends of the whole, since the one ends where the other begins. The weight of the whole is the sum of the two, since weights add
-- under concatenation. A closed walk is cut among its heads alone, where its one end stands once; so p is then at least 1, and what is
-- left is not empty. In an open walk it is not empty since its ends differ.
use Rattle.std.proofs.Common.{◌≡◌, ◌≢◌, ℕ, zero, suc, ◌+◌, ◌-◌, ◌<◌, ◌≤◌, List, ◌∷◌, ◌++◌, length, take, drop, sym, ap, subst, ◌∙◌, arith, ⊎_elim, ◌⊎◌, inl, inr}
use Rattle.std.specs.List.{Contains}
use Rattle.std.proofs.Math.Seq.{take-add}
use Rattle.std.proofs.lemmas.Int.{ints}
use Rattle.std.proofs.lemmas.Bool.{cases_eq}
use Rattle.std.proofs.lemmas.List.{take-append-drop, length-append, length-take-le, drop-drop, length-drop, length-map, take_all}
use Rattle.std.proofs.lemmas.List.Elements.{All-take, All-drop, All-append, All-contains_itself}
use Rattle.stn_model.specs.declared.ids.Constraint.{Constraint}
use Rattle.stn_model.specs.Arcs.{to_at}
use Rattle.stn_model.specs.Walks.{IsWalk, weight, end_of, heads, AllDifferent, PassesNoPointTwice}
use Rattle.stn_model.proofs.WalkLemmas.{IsWalk-append, IsWalk-front, IsWalk-back, weight-append, end_of-append, end_of_walk}
use Rattle.stn_walk.specs.Parts.{IsRepeat}
use Rattle.stn_walk.specs.ClosedParts.{ClosedPart}
use Rattle.stn_walk.proofs.Different.{repeat_in}
use Rattle.stn_walk.proofs.Heads.{passed_at}

module _ (list : List Constraint) (i j : ℕ) (ns : List ℕ) (w : IsWalk list i j ns) where
  module _ (p q : ℕ) (pq : p < q) (qn : q ≤ length ns) (same : end_of list i (take p ns) ≡ end_of list i (take q ns)) (left : 0 < p + (length ns - q)) where
    there : p + (q - p) ≡ q
    there = omega arith

    whole_walk : IsWalk list i j (take p ns ++ drop p ns)
    whole_walk = subst (IsWalk list i j) (sym (take-append-drop p ns)) w

    to_q : take q ns ≡ take p ns ++ take (q - p) (drop p ns)
    to_q = sym (ap (λ (k : ℕ). take k ns) there) ∙ take-add p (q - p) ns

    from_q : drop (q - p) (drop p ns) ≡ drop q ns
    from_q = drop-drop (q - p) p ns ∙ ap (λ (k : ℕ). drop k ns) there

    from_p : IsWalk list (end_of list i (take p ns)) j (take (q - p) (drop p ns) ++ drop (q - p) (drop p ns))
    from_p = subst (IsWalk list (end_of list i (take p ns)) j) (sym (take-append-drop (q - p) (drop p ns))) (IsWalk-back list i j (take p ns) (drop p ns) whole_walk)

    comes_back : end_of list (end_of list i (take p ns)) (take (q - p) (drop p ns)) ≡ end_of list i (take p ns)
    comes_back = sym (end_of-append list i (take p ns) (take (q - p) (drop p ns))) ∙ ap (end_of list i) (sym to_q) ∙ sym same

    whole_is : ns ≡ take p ns ++ take (q - p) (drop p ns) ++ drop q ns
    whole_is = sym (take-append-drop q ns) ∙ ap (λ (xs : List ℕ). xs ++ drop q ns) to_q

    rest_is : IsWalk list i j (take p ns ++ drop q ns)
    rest_is =
        let back = IsWalk-back list (end_of list i (take p ns)) j (take (q - p) (drop p ns)) (drop (q - p) (drop p ns)) from_p in
        IsWalk-append list i (end_of list i (take p ns)) j (take p ns) (drop q ns) (IsWalk-front list i j (take p ns) (drop p ns) whole_walk)
        (subst (IsWalk list (end_of list i (take p ns)) j) from_q (subst (λ (x : ℕ). IsWalk list x j (drop (q - p) (drop p ns))) comes_back back))

    pub cut_at : ClosedPart list i j ns
    cut_at =
        let all = All-contains_itself ns in
        let a = ap (weight list) whole_is in
        let b = weight-append list (take p ns ++ take (q - p) (drop p ns)) (drop q ns) in
        let c = weight-append list (take p ns) (take (q - p) (drop p ns)) in
        let d = weight-append list (take p ns) (drop q ns) in
        let p_len : length (take p ns) ≡ p = length-take-le p ns (omega arith) in
        let rest_len : length (drop p ns) ≡ length ns - p = length-drop p ns in
        let part_len : length (take (q - p) (drop p ns)) ≡ q - p = length-take-le (q - p) (drop p ns) (omega arith) in
        let back_len : length (drop q ns) ≡ length ns - q = length-drop q ns in
        let both_len : length (take p ns ++ drop q ns) ≡ length (take p ns) + length (drop q ns) = length-append (take p ns) (drop q ns) in
        record {
          front = take p ns;
          part = take (q - p) (drop p ns);
          back = drop q ns;
          at = end_of list i (take p ns);
          whole = whole_is;
          closed = subst (λ (x : ℕ). IsWalk list (end_of list i (take p ns)) x (take (q - p) (drop p ns))) comes_back
              (IsWalk-front list (end_of list i (take p ns)) j (take (q - p) (drop p ns)) (drop (q - p) (drop p ns)) from_p);
          rest = rest_is;
          part_goes = omega arith;
          rest_goes = omega arith;
          part_of = All-take (Contains ns) (q - p) (drop p ns) (All-drop (Contains ns) p ns all);
          rest_of = All-append (Contains ns) (take p ns) (drop q ns) (All-take (Contains ns) p ns all) (All-drop (Contains ns) q ns all);
          weights = omega (arith, ints);
        }

  -- where the ends differ, two equal points are not both ends
  not_whole : i ≢ j → (p q : ℕ) → q ≤ length ns → p < q → end_of list i (take p ns) ≡ end_of list i (take q ns) → 0 < p + (length ns - q)
  not_whole apart zero q qn pq same = ⊎_elim
      (λ (e : q ≡ length ns). absurd (apart (same ∙ ap (λ (k : ℕ). end_of list i (take k ns)) e ∙ ap (end_of list i) (take_all (length ns) ns (omega arith)) ∙ end_of_walk list i j ns w)))
      (λ (ne : q ≢ length ns). omega arith)
      (cases_eq q (length ns))
  not_whole apart (suc p) q qn pq same = omega arith

  -- so it is cut at two equal points
  cut_open : i ≢ j → (p q : ℕ) → IsRepeat (i ∷ heads list ns) p q → ClosedPart list i j ns
  cut_open apart p q r =
      let len : length (heads list ns) ≡ length ns = length-map ns (to_at list) in
      let ordered = r.ordered in
      let within = r.within in
      let qn : q ≤ length ns = omega arith in
      let pn : p ≤ length ns = omega arith in
      let same = sym (passed_at list i ns p pn) ∙ r.same ∙ passed_at list i ns q qn in
      cut_at p q ordered qn same (not_whole apart p q qn ordered same)

  -- where the walk is closed: two equal heads
  cut_closed : (p q : ℕ) → IsRepeat (heads list ns) p q → ClosedPart list i j ns
  cut_closed p q r =
      let len : length (heads list ns) ≡ length ns = length-map ns (to_at list) in
      let ordered = r.ordered in
      let within = r.within in
      let qn : suc q ≤ length ns = omega arith in
      let pn : suc p ≤ length ns = omega arith in
      cut_at (suc p) (suc q) (omega arith) qn (sym (passed_at list i ns (suc p) pn) ∙ r.same ∙ passed_at list i ns (suc q) qn) (omega arith)

  pub simple_or_cut : PassesNoPointTwice list i j ns ⊎ ClosedPart list i j ns
  simple_or_cut = ⊎_elim
      (λ (e : i ≡ j). ⊎_elim
      (λ (d : AllDifferent (heads list ns)). inl (record { ends_apart = λ ne. absurd (ne e); ends_meet = λ same. d }))
      (λ (r : (p q : ℕ) × IsRepeat (heads list ns) p q). inr (cut_closed r.0 r.1 r.2))
      (repeat_in (heads list ns)))
      (λ (ne : i ≢ j). ⊎_elim
      (λ (d : AllDifferent (i ∷ heads list ns)). inl (record { ends_apart = λ apart. d; ends_meet = λ same. absurd (ne same) }))
      (λ (r : (p q : ℕ) × IsRepeat (i ∷ heads list ns) p q). inr (cut_open ne r.0 r.1 r.2))
      (repeat_in (i ∷ heads list ns)))
      (cases_eq i j)
