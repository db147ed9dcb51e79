-- Cycles of arcs of the two walks between a failing point and another, and the own conflicts of networks that they are: cycle_points,
-- places_within, is_own_conflict, is_normal.
use Rattle.std.proofs.Common.{◌≡◌, ℕ, ◌<◌, ◌≤◌, Bool, true, false, not, ◌||◌, List, [], ◌∷◌, ◌++◌, length, map, reverse, refl, sym, ap, subst, ◌∙◌}
use Rattle.std.proofs.Common.{arith, ⊎_elim, ◌⊎◌, inl, inr}
use Rattle.std.specs.Prelude.{◌==◌, pos, ◌<ℤ◌}
use Rattle.std.specs.List.{AllByRecursion, All, Contains, count_by}
use Rattle.std.proofs.lemmas.Bool.Decides.{nat_tests}
use Rattle.std.proofs.lemmas.Bool.{false≢true}
use Rattle.std.proofs.lemmas.List.Elements.{All-from_recursion, recursion_from_All, All-weaker, All-contains, All-map, All-append}
use Rattle.std.proofs.lemmas.List.{length-map}
use Rattle.stn_model.specs.declared.ids.Constraint.{Constraint}
use Rattle.stn_model.specs.Arcs.{to_at}
use Rattle.stn_model.specs.Kinds.{is_private_of}
use Rattle.stn_model.specs.Conflicts.{IsOwnConflict}
use Rattle.stn_model.specs.Walks.{heads, AllDifferent, IsNegativeCycle, IsNormal}
use Rattle.stn_walk.specs.Eliminations.{is_in}
use Rattle.stn_walk.proofs.Heads.{in_range}
use Rattle.stn_walk.proofs.Joins.{is_in-reverse}
use Rattle.private_elim.specs.Locals.{LocalView, IsLocal, arcs_in, all_numbered, is_private_in}
use Rattle.private_elim.specs.Numbers.{number_in}
use Rattle.private_elim.specs.Reductions.{OfNetwork}
use Rattle.private_elim.proofs.locals.LocalFacts.{private_of_net, numbered-is}
use Rattle.stn_walk.proofs.ButOne.{passes_but_one}
use Rattle.private_elim.proofs.walks.NumberedWalks.{same_walk, still_normal}

-- a number of the list passes what all of it pass
member_passes : (passes : ℕ → Bool) (xs : List ℕ) → AllByRecursion (λ p. passes p ≡ true) xs → (p : ℕ) → is_in xs p ≡ true → passes p ≡ true
member_passes passes [] all p here = absurd (false≢true here)
member_passes passes (x ∷ xs) all p here =
    elim (is_in xs p) as (λ b. is_in xs p ≡ b → passes p ≡ true) [
      | true ↦ λ later. member_passes passes xs all.1 p later
      | false ↦ λ later.
          let first : (p == x) ≡ true = ap (λ b. b || (p == x)) (sym later) ∙ here in
          let same : p ≡ x = grind (arith, nat_tests) in
          ap passes same ∙ all.0
    ] refl

-- what holds of the points that the arcs end at, said of the arcs
over_arcs : (P Q : ℕ → Type 0) → ((x : ℕ) → P x → Q x) → (arcs : List Constraint) (ns : List ℕ) → AllByRecursion P (heads arcs ns)
    → AllByRecursion (λ n. Q (to_at arcs n)) ns
over_arcs P Q more arcs [] h = tt
over_arcs P Q more arcs (n ∷ ns) h = (more (to_at arcs n) h.0, over_arcs P Q more arcs ns h.1)

-- what holds of all arcs of a list holds of the points that some of them end at
over_part : (Q : ℕ → Type 0) (arcs : List Constraint) (closed cycle : List ℕ) → All (λ n. Q (to_at arcs n)) closed → All (Contains closed) cycle
    → AllByRecursion Q (heads arcs cycle)
over_part Q arcs closed cycle all part =
    recursion_from_All Q (heads arcs cycle)
    (All-map Q (to_at arcs) cycle
    (All-weaker (Contains closed) (λ n. Q (to_at arcs n)) (λ n there. All-contains (λ m. Q (to_at arcs m)) closed n all there) cycle part))

module _ (v : LocalView) (order : List ℕ) (p q : ℕ) (private : AllByRecursion (λ x. is_private_in v x ≡ true) order) (here : is_private_in v p ≡ true) where
  -- the taken points are private, and so is the one that fails
  taken_private : (x : ℕ) → is_in (reverse order) x ≡ true → is_private_in v x ≡ true
  taken_private x taken = member_passes (is_private_in v) order private x (sym (is_in-reverse order x) ∙ taken)

  out_private : (x : ℕ) → (is_in (reverse order) x ≡ true) ⊎ (x ≡ q) → (is_private_in v x ≡ true) ⊎ (x ≡ q)
  out_private x h = ⊎_elim (λ (taken : is_in (reverse order) x ≡ true). inl (taken_private x taken)) (λ (same : x ≡ q). inr same) h

  back_private : (x : ℕ) → (is_in (reverse order) x ≡ true) ⊎ (x ≡ p) → (is_private_in v x ≡ true) ⊎ (x ≡ q)
  back_private x h =
      ⊎_elim (λ (taken : is_in (reverse order) x ≡ true). inl (taken_private x taken)) (λ (same : x ≡ p). inl (ap (is_private_in v) same ∙ here)) h

  -- so of the points of a cycle of arcs of both walks only the other point is not private
  pub cycle_points : (out back closed cycle : List ℕ) → closed ≡ out ++ back
      → AllByRecursion (λ x. (is_in (reverse order) x ≡ true) ⊎ (x ≡ q)) (heads (arcs_in v) out)
      → AllByRecursion (λ x. (is_in (reverse order) x ≡ true) ⊎ (x ≡ p)) (heads (arcs_in v) back)
      → All (Contains closed) cycle → AllByRecursion (λ x. (is_private_in v x ≡ true) ⊎ (x ≡ q)) (heads (arcs_in v) cycle)
  cycle_points out back closed cycle both out_through back_through part =
      let Q : ℕ → Type 0 = λ x. (is_private_in v x ≡ true) ⊎ (x ≡ q) in
      let P : ℕ → Type 0 = λ n. Q (to_at (arcs_in v) n) in
      let onward = over_arcs (λ x. (is_in (reverse order) x ≡ true) ⊎ (x ≡ q)) Q out_private (arcs_in v) out out_through in
      let rest = over_arcs (λ x. (is_in (reverse order) x ≡ true) ⊎ (x ≡ p)) Q back_private (arcs_in v) back back_through in
      let all = All-append P out back (All-from_recursion P out onward) (All-from_recursion P back rest) in
      over_part Q (arcs_in v) closed cycle (subst (All P) (sym both) all) part

module _ (v : LocalView) (cycle : List ℕ) (c : IsNegativeCycle (arcs_in v) cycle) where
  -- the places of a cycle are places of arcs
  pub places_within : All (λ k. k < length v.arcs) cycle
  places_within = subst (λ (m : ℕ). All (λ k. k < m) cycle) (length-map v.arcs (λ a. a.arc)) (in_range (arcs_in v) c.start c.start cycle c.walk)

  -- a cycle of which only one point is not private is an own conflict, by the numbers of its arcs
  pub is_own_conflict : (q : ℕ) → AllByRecursion (λ x. (is_private_in v x ≡ true) ⊎ (x ≡ q)) (heads (arcs_in v) cycle)
      → OfNetwork v (λ net. IsOwnConflict net v.agent (map (number_in v) cycle))
  is_own_conflict q points net valid e =
      let w = same_walk v net e c.start c.start cycle c.walk in
      let private = is_private_of net v.agent in
      let P : ℕ → Type 0 = λ x. (is_private_in v x ≡ true) ⊎ (x ≡ q) in
      let Q : ℕ → Type 0 = λ x. (private x ≡ true) ⊎ (x ≡ q) in
      let xs = heads (arcs_in v) cycle in
      let each = recursion_from_All Q xs (All-weaker P Q (in_net private (private_of_net v net e)) xs (All-from_recursion P xs points)) in
      record {
        negative = record {
          start = c.start;
          walk = w.walk;
          simple = subst AllDifferent (sym w.points) c.simple;
          negative = subst (λ s. s <ℤ pos 0) (sym w.weighs) c.negative;
        };
        own = w.own;
        private_but_one = subst (λ xs. count_by (λ p. not (private p)) xs ≤ 1) (sym w.points) (passes_but_one private q xs c.simple each);
      } where
        in_net : (private : ℕ → Bool) → ((x : ℕ) → is_private_in v x ≡ private x) → (x : ℕ) → (is_private_in v x ≡ true) ⊎ (x ≡ q)
            → (private x ≡ true) ⊎ (x ≡ q)
        in_net private same x h = ⊎_elim (λ (here : is_private_in v x ≡ true). inl (sym (same x) ∙ here)) (λ (here : x ≡ q). inr here) h

  -- and begins with its least number where the cycle begins with its least place
  pub is_normal : IsLocal v → all_numbered v.arcs ≡ true → IsNormal cycle → IsNormal (map (number_in v) cycle)
  is_normal h numbered normal = still_normal v h.net (numbered-is v h numbered) cycle (recursion_from_All (λ k. k < length v.arcs) cycle places_within) normal
