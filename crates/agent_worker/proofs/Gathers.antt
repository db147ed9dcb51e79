-- The reduced parts of all agents, gathered one by one from their workers' results: IsGathering, none_gathered, one_more, first_conflict, few_parts, all_gathered;
-- and what they are: gathered_parts, gathered_conflict.
use Rattle.std.proofs.Common.{zero, suc, ◌≡◌, ℕ, ◌<◌, List, [], ◌∷◌, ◌++◌, true, length, map, get_or, Some, ap, sym, ◌∙◌}
use Rattle.std.proofs.Common.{refl, arith, subst, append_assoc, append-nil}
use Rattle.std.specs.Prelude.{slice_get, is_some}
use Rattle.std.proofs.lemmas.List.{length-map, map-append}
use Rattle.std.proofs.lemmas.Option.{slice_get-get_or, slice_get_within}
use Rattle.private_elim.specs.Locals.{LocalView}
use Rattle.private_elim.specs.ReducedViews.{ReducedView}
use Rattle.private_elim.specs.Reductions.{OfNetwork, HasOwnConflict}
use Rattle.agent_worker.specs.declared.worker.WorkerResult.{WorkerResult}
use Rattle.agent_worker.specs.declared.worker.WorkerResult.TheVariants.{Reduced, PrivateConflict, Stopped, OutOfMemory}
use Rattle.agent_worker.specs.Works.{IsPart, IsWork, AreWorks, AreReducedFrom, IsLeastConflict, part_of}

-- the first of the results are gathered, and the rest are left
pub record IsGathering (results rest : List WorkerResult) (parts : List ReducedView) : Type 0 where
  pub front : List WorkerResult
  pub split : results ≡ front ++ rest
  pub gathered : map part_of front ≡ map (λ r. Some r) parts

-- nothing is gathered yet
pub none_gathered : (results : List WorkerResult) → IsGathering results results []
none_gathered results = record { front = []; split = refl; gathered = refl }

-- one part more
pub one_more : (results rest : List WorkerResult) (w : WorkerResult) (parts more : List ReducedView) (r : ReducedView)
    → IsGathering results (w ∷ rest) parts → part_of w ≡ Some r → more ≡ parts ++ r ∷ [] → IsGathering results rest more
one_more results rest w parts more r h is grown = record {
  front = h.front ++ w ∷ [];
  split = h.split ∙ sym (append_assoc h.front (w ∷ []) rest);
  gathered =
      map-append part_of h.front (w ∷ []) ∙ (λ i. h.gathered i ++ is i ∷ [])
      ∙ sym (map-append (λ (q : ReducedView). Some q) parts (r ∷ [])) ∙ ap (map (λ (q : ReducedView). Some q)) (sym grown);
}

-- as many results are gathered as there are parts
front_length : (results rest : List WorkerResult) (parts : List ReducedView) (h : IsGathering results rest parts) → length h.front ≡ length parts
front_length results rest parts h =
    sym (length-map h.front part_of) ∙ ap length h.gathered ∙ length-map parts (λ (r : ReducedView). Some r)

-- the next one
get_next : (front rest : List WorkerResult) (w : WorkerResult) → slice_get (front ++ w ∷ rest) (length front) ≡ Some w
get_next [] rest w = refl
get_next (x ∷ xs) rest w = get_next xs rest w

-- one of the first
get_front : (front rest : List WorkerResult) (a : ℕ) (w : WorkerResult) → a < length front → slice_get (front ++ rest) a ≡ Some w → slice_get front a ≡ Some w
get_front [] rest a w low h = absurd (omega arith)
get_front (x ∷ xs) rest zero w low h = h
get_front (x ∷ xs) rest (suc a) w low h = get_front xs rest a w (omega arith) h

-- a gathered result has a part
has_part : (front : List WorkerResult) (parts : List ReducedView) (a : ℕ) (w : WorkerResult) → map part_of front ≡ map (λ r. Some r) parts
    → slice_get front a ≡ Some w → is_some (part_of w) ≡ true
has_part [] parts a w same h = absurd (cc)
has_part (x ∷ xs) [] a w same h = absurd (cc)
has_part (x ∷ xs) (r ∷ rs) zero w same h =
    (let here : part_of x ≡ Some r = cc in
    let e : x ≡ w = cc in
    ap (λ v. is_some (part_of v)) (sym e) ∙ ap (λ o. is_some o) here)
has_part (x ∷ xs) (r ∷ rs) (suc a) w same h = (let rest : map part_of xs ≡ map (λ r. Some r) rs = cc in has_part xs rs a w rest h)

-- the first own conflict
pub first_conflict : (results rest : List WorkerResult) (walk : List ℕ) (parts : List ReducedView)
    → IsGathering results (PrivateConflict walk ∷ rest) parts
    → (slice_get results (length parts) ≡ Some (PrivateConflict walk))
    × ((a : ℕ) (w : WorkerResult) → a < length parts → slice_get results a ≡ Some w → is_some (part_of w) ≡ true)
first_conflict results rest walk parts h =
    let len = front_length results (PrivateConflict walk ∷ rest) parts h in (
      (λ i. slice_get (h.split i) (sym len i)) ∙ get_next h.front rest (PrivateConflict walk),
      λ a w low there.
          has_part h.front parts a w h.gathered
          (get_front h.front (PrivateConflict walk ∷ rest) a w (omega (arith, len)) (ap (λ xs. slice_get xs a) (sym h.split) ∙ there)),
    )

-- there are more results than parts where one is left
pub few_parts : (results rest : List WorkerResult) (w : WorkerResult) (parts : List ReducedView) → IsGathering results (w ∷ rest) parts
    → length parts < length results
few_parts results rest w parts h =
    let at : slice_get results (length parts) ≡ Some w =
    (λ i. slice_get (h.split i) (sym (front_length results (w ∷ rest) parts h) i)) ∙ get_next h.front rest w in
    slice_get_within results (length parts) w at

-- all are gathered
pub all_gathered : (results : List WorkerResult) (parts : List ReducedView) → IsGathering results [] parts → map part_of results ≡ map (λ r. Some r) parts
all_gathered results parts h = ap (map part_of) (h.split ∙ append-nil h.front) ∙ h.gathered

-- a part is what its worker came to
part_is : (answers : ℕ → ℕ → ℕ → Type 0) (v : LocalView) (w : WorkerResult) (r : ReducedView) → part_of w ≡ Some r → IsWork answers v w → IsPart answers v r
part_is answers v (Reduced q) r is work = (let e : q ≡ r = cc in subst (IsPart answers v) e work)
part_is answers v (PrivateConflict walk) r is work = absurd (cc)
part_is answers v (Stopped q cycle) r is work = (let e : q ≡ r = cc in subst (IsPart answers v) e work)
part_is answers v OutOfMemory r is work = absurd (cc)

-- one with a part found no own conflict
clear_of : (answers : ℕ → ℕ → ℕ → Type 0) (v : LocalView) (w : WorkerResult) → is_some (part_of w) ≡ true → IsWork answers v w
    → OfNetwork v (λ net. HasOwnConflict net v.agent → ⊥)
clear_of answers v (Reduced r) some work = work.clear
clear_of answers v (PrivateConflict walk) some work = absurd (cc)
clear_of answers v (Stopped r cycle) some work = work.clear
clear_of answers v OutOfMemory some work = absurd (cc)

-- a result for each part
result_at : (results : List WorkerResult) (parts : List ReducedView) (a : ℕ) (r : ReducedView) → map part_of results ≡ map (λ r. Some r) parts
    → slice_get parts a ≡ Some r → (w : WorkerResult) × (slice_get results a ≡ Some w) × (part_of w ≡ Some r)
result_at [] [] a r same h = absurd (cc)
result_at [] (q ∷ qs) a r same h = absurd (cc)
result_at (x ∷ xs) [] a r same h = absurd (cc)
result_at (x ∷ xs) (q ∷ qs) zero r same h = (let here : part_of x ≡ Some q = cc in let e : q ≡ r = cc in (x, refl, here ∙ ap (λ y. Some y) e))
result_at (x ∷ xs) (q ∷ qs) (suc a) r same h = (let rest : map part_of xs ≡ map (λ r. Some r) qs = cc in result_at xs qs a r rest h)

module _ (answers : ℕ → ℕ → ℕ → Type 0) (locals : List LocalView) (results : List WorkerResult) (works : AreWorks answers locals results) where
  -- the gathered parts are those of the local problems
  pub gathered_parts : (parts : List ReducedView) → map part_of results ≡ map (λ r. Some r) parts → AreReducedFrom answers locals parts
  gathered_parts parts same = record {
    one_each = sym (length-map parts (λ (r : ReducedView). Some r)) ∙ sym (ap length same) ∙ length-map results part_of ∙ works.one_each;
    each = λ a v r there at.
        let found = result_at results parts a r same at in
        part_is answers v found.0 r found.2 (works.each a v found.0 there found.1);
  }

  -- and the conflict is of the least agent that has one
  pub gathered_conflict : (agent : ℕ) (walk : List ℕ) → slice_get results agent ≡ Some (PrivateConflict walk)
      → ((a : ℕ) (w : WorkerResult) → a < agent → slice_get results a ≡ Some w → is_some (part_of w) ≡ true) → IsLeastConflict locals agent walk
  gathered_conflict agent walk at before = go locals refl where
    low : agent < length results
    low = slice_get_within results agent (PrivateConflict walk) at

    clear_at : (a : ℕ) (v : LocalView) → a < agent → slice_get locals a ≡ Some v → OfNetwork v (λ net. HasOwnConflict net v.agent → ⊥)
    clear_at a v less there =
        let d : WorkerResult = OutOfMemory in
        let here : slice_get results a ≡ Some (get_or results a d) = slice_get-get_or results a d (omega (arith, low)) in
        clear_of answers v (get_or results a d) (before a (get_or results a d) less here) (works.each a v (get_or results a d) there here)

    go : (vs : List LocalView) → locals ≡ vs → IsLeastConflict locals agent walk
    go [] is = absurd (let many = works.one_each in let none : length locals ≡ 0 = ap length is in omega (arith, low))
    go (d ∷ vs) is =
        (let many = works.one_each in
        let there : slice_get locals agent ≡ Some (get_or locals agent d) = slice_get-get_or locals agent d (omega (arith, low)) in
        record {
          local = get_or locals agent d;
          there = there;
          conflict = works.each agent (get_or locals agent d) (PrivateConflict walk) there at;
          before = clear_at;
        })
