-- The graph in which nothing is done: started_graph.
use Rattle.std.proofs.Common.{zero, suc, ◌≡◌, ◌≢◌, ℕ, ◌+◌, ◌<◌, ◌≤◌, List, [], Bool, true, false, ◌&&◌, not, Option, None, ap, sym, ◌∙◌}
use Rattle.std.proofs.Common.{refl, arith, length, get_or, inl, inr, subst}
use Rattle.std.proofs.Math.Bool.{and-false}
use Rattle.std.specs.Prelude.{◌==◌, if◌then◌else◌, IfSome, replicate}
use Rattle.std.specs.List.{AllPairs}
use Rattle.std.proofs.lemmas.Bool.Decides.{nat_tests}
use Rattle.std.proofs.lemmas.List.{length-replicate, get_or-replicate}
use Rattle.stn_walk.specs.Eliminations.{bound_of}
use Rattle.stn_walk.specs.Joins.{has_edge}
use Rattle.dist_rows.specs.declared.cell.Cell.{Cell}
use Rattle.dist_rows.specs.declared.cell.Via.{Via}
use Rattle.elim_step.specs.declared.joins.Joins.{Joins}
use Rattle.elim_step.specs.JoinedPlaces.{is_joined as are_joined}
use Rattle.elim_step.specs.Eliminated.{point_at, weight_at}
use Rattle.elim_step.specs.Eliminates.{remains, count_below}
use Rattle.elim_step.specs.Origins.{IsFrom, HasOrigins}
use Rattle.shared_graph.specs.Graphs.{IsGraph, IsMeetingLeaf, IsSumBefore, HasSumsBefore, places_in, flag_at, is_gone}
use Rattle.shared_graph.specs.Weights.{is_joined}
use Rattle.shared_graph.specs.Interfaces.{InterfaceView, IsInterface}
use Rattle.shared_graph.specs.Publications.{IsOldOrLaid}
use Rattle.shared_graph.specs.States.{start}
use Rattle.shared_graph.specs.Together.{HoldsTogether}
use Rattle.shared_graph.proofs.states.Keeps.{start_sound, together}
use Rattle.shared_graph.proofs.graphs.Counts.{count_less}
use Rattle.shared_graph.proofs.graphs.Laying.{same_test}
use Rattle.shared_graph.proofs.graphs.Publishing.{no_final}
use Rattle.shared_graph.proofs.graphs.Standing.{places_rise}
use Rattle.shared_graph.proofs.graphs.Throughs.{nothing_came}

remains_all : (n k : ℕ) → k < n → remains (replicate n true) k ≡ true
remains_all zero k lt = absurd (omega arith)
remains_all (suc n) zero lt = refl
remains_all (suc n) (suc k) lt = remains_all n k (omega arith)

count_all : (test : ℕ → Bool) (n : ℕ) → ((k : ℕ) → k < n → test k ≡ true) → count_below test n ≡ n
count_all test zero all = refl
count_all test (suc n) all =
    let here : (if test n then 1 else 0) + count_below test n ≡ 1 + count_below test n =
    ap (λ b. (if b then 1 else 0) + count_below test n) (all n (omega arith)) in
    let rest = count_all test n (λ k lt. all k (omega arith)) in
    omega arith

-- nothing passes
none_pass : (test : ℕ → Bool) (n : ℕ) → ((k : ℕ) → k < n → test k ≡ false) → count_below test n ≡ 0
none_pass test zero none = refl
none_pass test (suc n) none =
    let here = none n (omega arith) in
    let rest = none_pass test n (λ k lt. none k (omega arith)) in
    rw here (omega (arith, rest))

module _ (face : InterfaceView) (known : IsInterface face) (at : ℕ → ℕ → Option Cell)
    (laid : (p q : ℕ) → IsOldOrLaid (places_in face) face.externals None p q None (at p q)) where
  start_together : HoldsTogether face start
  start_together = together face known start (start_sound face known)

  start_origins : HasOrigins (IsMeetingLeaf face start (places_in face)) (places_in face) [] at
  start_origins p q =
      elim (laid p q) [
        | inl none ↦ subst (λ (o : Option Cell). IfSome o (λ c. IsFrom (IsMeetingLeaf face start (places_in face)) (places_in face) [] at p q c c.via))
            (sym none) tt
        | inr new ↦ subst (λ (o : Option Cell). IfSome o (λ c. IsFrom (IsMeetingLeaf face start (places_in face)) (places_in face) [] at p q c c.via))
            (sym new.1)
            (subst (λ (v : Via). IsFrom (IsMeetingLeaf face start (places_in face)) (places_in face) [] at p q new.0 v) (sym new.2.2) new.2.1)
      ]

  start_sums : HasSumsBefore (places_in face) [] at
  start_sums p q =
      elim (laid p q) [
        | inl none ↦ subst (λ (o : Option Cell). IfSome o (λ c. IsSumBefore (places_in face) [] p q c.via)) (sym none) tt
        | inr new ↦ subst (λ (o : Option Cell). IfSome o (λ c. IsSumBefore (places_in face) [] p q c.via)) (sym new.1)
            (subst (λ (v : Via). IsSumBefore (places_in face) [] p q v) (sym new.2.2) tt)
      ]

  pub started_graph : (places : ℕ) (joins : Joins) (remain : List Bool) (later : List (List ℕ)) (final_places : ℕ) (final_at : ℕ → ℕ → Option Cell)
      (final_room : ℕ → ℕ → Bool) (done : List Bool) (unpublished untaken unvisited room : ℕ) (gone : List ℕ)
      → places ≡ length (places_in face) → joins.size ≡ length (places_in face)
      → ((p q : ℕ) → p < length (places_in face) → q < length (places_in face)
      → weight_at (at p q) ≡ bound_of face.externals (point_at (places_in face) p) (point_at (places_in face) q))
      → ((p q : ℕ) → p < length (places_in face) → q < length (places_in face)
      → are_joined joins p q ≡ (not (p == q) && has_edge face.externals (point_at (places_in face) p) (point_at (places_in face) q)))
      → remain ≡ replicate (length (places_in face)) true → length later ≡ length (places_in face) → final_places ≡ length (places_in face)
      → ((p q : ℕ) → final_at p q ≡ None) → length done ≡ length (places_in face) → ((k : ℕ) → flag_at done k ≡ (k == 0))
      → unpublished ≡ length face.leans → suc untaken ≡ length (places_in face) → suc unvisited ≡ length (places_in face) → unvisited ≤ room
      → gone ≡ replicate (length (places_in face)) 0
      → IsGraph (record {
        face = face;
        state = start;
        points = places_in face;
        places = places;
        at = at;
        joins = joins;
        remain = remain;
        later = later;
        final_places = final_places;
        final_at = final_at;
        final_room = final_room;
        done = done;
        unpublished = unpublished;
        untaken = untaken;
        unvisited = unvisited;
        revisit_room = room;
        gone = gone;
      })
  started_graph places joins remain later final_places final_at final_room done unpublished untaken unvisited room gone same_places size weights joined all
      later_len final_size none done_len alone agents left unseen fits zeros =
      let n = length (places_in face) in
      let rising : AllPairs (λ p q. p < q) (places_in face) = places_rise face known in
      record {
        interface = known;
        together = start_together;
        points = refl;
        places = same_places;
        joins_size = size;
        cells = record {
          cells = λ i j li lj apart. weights i j li lj;
          none_below = start_together.none_below;
          remaining = λ k lk. ap (λ flags. remains flags k) all ∙ remains_all n k lk;
          len = ap length all ∙ length-replicate n true;
        };
        origins = start_origins;
        sums = start_sums;
        joined = λ p q lp lq.
            joined p q lp lq
            ∙ ap (λ b. not b && has_edge face.externals (point_at (places_in face) p) (point_at (places_in face) q))
            (same_test (places_in face) rising p q lp lq);
        later_len = later_len;
        later = λ k lk gone. absurd (cc);
        final_places = final_size;
        finals = λ p q lp lq.
            ap weight_at (none p q) ∙ sym (no_final face start (λ p. refl) (point_at (places_in face) p) (point_at (places_in face) q));
        done_len = done_len;
        done = λ k lk. alone k ∙ same_test (places_in face) rising k 0 lk (omega arith);
        unpublished = agents ∙ sym (count_all (λ a. true) (length face.leans) (λ k lt. refl));
        untaken = left ∙ sym (count_all (remains remain) n (λ k lt. ap (λ flags. remains flags k) all ∙ remains_all n k lt));
        unvisited =
            (let every = count_all (λ k. true) n (λ k lt. refl) in
            let less = count_less (λ k. true) (λ k. not (flag_at done k)) 0 n (omega arith) refl (ap not (alone 0)) others in
            omega arith);
        revisits_fit = omega arith;
        throughs = λ p q lp lq. nothing_came _ (final_at p q) (ap weight_at (none p q));
        gone = record {
          len = ap length zeros ∙ length-replicate n 0;
          each = λ k lk fresh.
              ap (λ counts. get_or counts k 0) zeros ∙ get_or-replicate n k 0 0 lk
              ∙ sym (none_pass (λ m. is_gone face start (point_at (places_in face) k) (point_at (places_in face) m)) n
              (λ m lm. and-false (is_joined face start (point_at (places_in face) k) (point_at (places_in face) m))));
        };
      } where
        others : (m : ℕ) → m ≢ 0 → not (flag_at done m) ≡ true
        others m ne = (let off : (m == 0) ≡ false = grind (arith, nat_tests) in ap not (alone m ∙ off))
