-- Paths, and one step on.
use Rattle.std.proofs.Common.{◌≡◌, ℕ, suc, ◌+◌, ◌<◌, ◌≤◌, List, [], ◌∷◌, ◌++◌, length, get_or, take, drop, add-one, refl, sym, ap, subst, ◌∙◌, arith}
use Rattle.std.proofs.lemmas.Int.{ints}
use Rattle.std.proofs.lemmas.List.{take-append-drop, map-append, take-map, drop-map, length-map, length-drop, get_or-drop}
use Rattle.stn_model.specs.declared.ids.Constraint.{Constraint}
use Rattle.stn_model.specs.Arcs.{from_at, to_at}
use Rattle.stn_model.specs.Walks.{IsWalk, end_of, heads, AllDifferent, IsNegativeCycle}
use Rattle.stn_model.proofs.WalkLemmas.{IsWalk-append, IsWalk-front, IsWalk-back, weight-append}
use Rattle.stn_walk.specs.Trails.{Trail, IsSimple, IsLonger, IsCut, IsClosed}
use Rattle.stn_walk.proofs.Heads.{passed_at}
use Rattle.stn_walk.proofs.Different.{AllDifferent-push, AllDifferent-take, AllDifferent-drop, different_at}

module _ (list : List Constraint) where
  pub IsSimple-start : (i room : ℕ) → IsSimple list i i (record { points = i ∷ []; arcs = []; room = room })
  IsSimple-start i room = record { walk = refl; passed = refl; simple = (tt, tt) }

  pub IsWalk-push : (i j n : ℕ) (ns : List ℕ) → IsWalk list i j ns → n < length list → from_at list n ≡ j → IsWalk list i (to_at list n) (ns ++ n ∷ [])
  IsWalk-push i j n ns w lt e = IsWalk-append list i j (to_at list n) ns (n ∷ []) w (lt, e, refl)

  module _ (i j : ℕ) (t : Trail) (p : IsSimple list i j t) where
    pub passed_many : length t.points ≡ length t.arcs + 1
    passed_many = let e = ap (λ (xs : List ℕ). length xs) p.passed in let m : length (heads list t.arcs) ≡ length t.arcs = length-map t.arcs (to_at list) in omega arith

    module _ (k : ℕ) (lt : k < length t.points) where
      short : k ≤ length t.arcs
      short = let many = passed_many in omega arith

      at_place : end_of list i (take k t.arcs) ≡ get_or t.points k 0
      at_place = sym (ap (λ (xs : List ℕ). get_or xs k 0) p.passed ∙ passed_at list i t.arcs k short)

      parts : IsWalk list i j (take k t.arcs ++ drop k t.arcs)
      parts = subst (IsWalk list i j) (sym (take-append-drop k t.arcs)) p.walk

      pub path_to : IsWalk list i (get_or t.points k 0) (take k t.arcs)
      path_to = subst (λ (q : ℕ). IsWalk list i q (take k t.arcs)) at_place (IsWalk-front list i j (take k t.arcs) (drop k t.arcs) parts)

      pub path_from : IsWalk list (get_or t.points k 0) j (drop k t.arcs)
      path_from = subst (λ (q : ℕ). IsWalk list q j (drop k t.arcs)) at_place (IsWalk-back list i j (take k t.arcs) (drop k t.arcs) parts)

    module _ (n : ℕ) (within : n < length list) (on : from_at list n ≡ j) (new : Trail) where
      pub IsSimple-longer : IsLonger list n t new → IsSimple list i (to_at list n) new
      IsSimple-longer l = record {
        walk = subst (IsWalk list i (to_at list n)) (sym l.arcs) (IsWalk-push i j n t.arcs p.walk within on);
        passed = l.points ∙ ap (λ (xs : List ℕ). xs ++ to_at list n ∷ []) p.passed
            ∙ ap (λ (xs : List ℕ). i ∷ xs) (sym (map-append (to_at list) t.arcs (n ∷ [])))
            ∙ ap (λ (xs : List ℕ). i ∷ heads list xs) (sym l.arcs);
        simple = subst AllDifferent (sym l.points) (AllDifferent-push t.points (to_at list n) p.simple l.fresh);
      }

      pub IsSimple-cut : (place : ℕ) → IsCut list n place t new → IsSimple list i (to_at list n) new
      IsSimple-cut place c = record {
        walk = subst (IsWalk list i (to_at list n)) (sym c.arcs) (subst (λ (q : ℕ). IsWalk list i q (take place t.arcs)) c.same (path_to place c.within));
        passed = c.points ∙ ap (λ (xs : List ℕ). take (place + 1) xs) p.passed
            ∙ ap (λ (k : ℕ). take k (i ∷ heads list t.arcs)) (add-one place)
            ∙ ap (λ (xs : List ℕ). i ∷ xs) (take-map (to_at list) place t.arcs)
            ∙ ap (λ (xs : List ℕ). i ∷ heads list xs) (sym c.arcs);
        simple = subst AllDifferent (sym c.points) (AllDifferent-take (place + 1) t.points p.simple);
      }

    -- an arc that leads back to the path closes a part that passes no point twice
    pub closes_cycle : (n : ℕ) → n < length list → from_at list n ≡ j → (closed : List ℕ) → IsClosed list n t closed → IsNegativeCycle list closed
    closes_cycle n within on closed c =
        let w = subst (λ (q : ℕ). IsWalk list q j (drop c.place t.arcs)) c.same (path_from c.place c.within) in
        let rest : drop (suc c.place) t.points ≡ heads list (drop c.place t.arcs) = ap (λ (xs : List ℕ). drop (suc c.place) xs) p.passed ∙ drop-map (to_at list) c.place t.arcs in
        let apart = subst AllDifferent rest (AllDifferent-drop (suc c.place) t.points p.simple) in
        let sum = weight-append list (drop c.place t.arcs) (n ∷ []) in
        let low = c.negative in
        subst (IsNegativeCycle list) (sym c.arcs)
        (record {
          start = to_at list n;
          walk = IsWalk-push (to_at list n) j n (drop c.place t.arcs) w within on;
          simple = subst AllDifferent (sym (map-append (to_at list) (drop c.place t.arcs) (n ∷ []))) (AllDifferent-push (heads list (drop c.place t.arcs)) (to_at list n) apart (fresh c rest));
          negative = omega (arith, ints);
        }) where
          fresh : (c : IsClosed list n t closed) → drop (suc c.place) t.points ≡ heads list (drop c.place t.arcs)
              → (k : ℕ) → k < length (heads list (drop c.place t.arcs)) → get_or (heads list (drop c.place t.arcs)) k 0 ≡ to_at list n → ⊥
          fresh c rest k lt e =
              let many = ap (λ (xs : List ℕ). length xs) rest in
              let long = length-drop (suc c.place) t.points in
              let at = ap (λ (xs : List ℕ). get_or xs k 0) (sym rest) ∙ get_or-drop (suc c.place) t.points k 0 in
              different_at t.points p.simple (suc c.place + k) c.place (omega arith) (omega arith) (c.same ∙ sym e ∙ at)
