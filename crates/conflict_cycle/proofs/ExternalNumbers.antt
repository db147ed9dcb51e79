-- The numbers of external arcs, in turn: AreExternalBelow, external_start, external_more, external_all, external_at.
use Rattle.std.proofs.Common.{◌≡◌, ℕ, ◌+◌, ◌<◌, List, [], ◌∷◌, ◌++◌, Bool, true, false, filter, take, length, map}
use Rattle.std.proofs.Common.{if◌then◌else◌, ap, sym, ◌∙◌, refl, arith, subst}
use Rattle.std.specs.Prelude.{cond, slice_index}
use Rattle.std.specs.List.{All}
use Rattle.std.proofs.lemmas.List.{map-append, length-map, get_or-map}
use Rattle.std.proofs.lemmas.List.Elements.{filter_more, All-append, All-cons, All-nil, All-weaker}
use Rattle.stn_model.specs.Arcs.{arc_at, no_arc}
use Rattle.stn_model.specs.Kinds.{is_external}
use Rattle.stn_model.specs.Net.{Net, arcs_of}
use Rattle.stn_model.specs.Conflicts.{external_arcs}
use Rattle.conflict_cycle.specs.Belongs.{AreExternalNumbers}

-- the numbers below n of external arcs
pub record AreExternalBelow (net : Net) (n : ℕ) (numbers : List ℕ) : Type 0 where
  pub within : All (λ m. m < n) numbers
  pub arcs : map (arc_at (arcs_of net)) numbers ≡ filter (is_external net) (take n (arcs_of net))

module _ (net : Net) where
  pub external_start : AreExternalBelow net 0 []
  external_start = record { within = All-nil (λ m. m < 0); arcs = refl }

  one_if : (b : Bool) (n : ℕ) → map (arc_at (arcs_of net)) (if b then n ∷ [] else []) ≡ cond b (arc_at (arcs_of net) n ∷ []) []
  one_if true n = refl
  one_if false n = refl

  one_below : (b : Bool) (n : ℕ) → All (λ m. m < n + 1) (if b then n ∷ [] else [])
  one_below true n = All-cons (λ m. m < n + 1) n [] (omega arith) (All-nil (λ m. m < n + 1))
  one_below false n = All-nil (λ m. m < n + 1)

  -- one number more
  pub external_more : (n : ℕ) (old new : List ℕ) → n < length (arcs_of net)
      → new ≡ old ++ (if is_external net (arc_at (arcs_of net) n) then n ∷ [] else [])
      → AreExternalBelow net n old → AreExternalBelow net (n + 1) new
  external_more n old new lt is h =
      let last : List ℕ = if is_external net (arc_at (arcs_of net) n) then n ∷ [] else [] in
      subst (AreExternalBelow net (n + 1)) (sym is) (record {
        within =
            All-append (λ m. m < n + 1) old last (All-weaker (λ m. m < n) (λ m. m < n + 1) (λ m low. omega arith) old h.within)
            (one_below (is_external net (arc_at (arcs_of net) n)) n);
        arcs =
            map-append (arc_at (arcs_of net)) old last
            ∙ (λ t. h.arcs t ++ one_if (is_external net (arc_at (arcs_of net) n)) n t)
            ∙ sym (filter_more (is_external net) (arcs_of net) n no_arc lt);
      })

  -- all of them
  pub external_all : (n : ℕ) (numbers : List ℕ) → n ≡ length (arcs_of net) → AreExternalBelow net n numbers → AreExternalNumbers net numbers
  external_all n numbers is h = record {
    within = λ e lt. (let low = h.within e 0 lt in omega arith);
    arcs = h.arcs ∙ ap (λ k. filter (is_external net) (take k (arcs_of net))) is ∙ ap (filter (is_external net)) (take-all (arcs_of net));
  } where
    take-all : {X : Type 0} (xs : List X) → take (length xs) xs ≡ xs
    take-all [] = refl
    take-all (x ∷ xs) = ap (λ ys. x ∷ ys) (take-all xs)

  -- the number that stands at the place of an external arc
  pub external_at : (numbers : List ℕ) → AreExternalNumbers net numbers → (e : ℕ) → e < length (external_arcs net)
      → (e < length numbers) × (slice_index numbers e < length (arcs_of net))
      × (arc_at (arcs_of net) (slice_index numbers e) ≡ arc_at (external_arcs net) e)
  external_at numbers h e lt =
      let many : length numbers ≡ length (external_arcs net) = sym (length-map numbers (arc_at (arcs_of net))) ∙ ap length h.arcs in
      let low : e < length numbers = omega arith in (
        low,
        h.within e low,
        sym (get_or-map (arc_at (arcs_of net)) numbers e 0 no_arc low) ∙ ap (λ arcs. arc_at arcs e) h.arcs,
      )
