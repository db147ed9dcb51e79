-- Reduced parts of agents, in turn, and the summaries that they tell: item_is, all_taken, read_pushed, AreReducedBelow, reduced_none, reduced_more,
-- reduced_all, told_by, TellBelow, tell_none, tell_more, summaries_fit, parts_published.
use Rattle.std.proofs.Common.{zero, suc, ◌≡◌, ℕ, ◌+◌, ◌-◌, ◌<◌, ◌≤◌, List, [], ◌∷◌, ◌++◌, Option, Some, None, map, take, length, get_or, length-append}
use Rattle.std.proofs.Common.{◌⊎◌, ap, sym, ◌∙◌, refl, arith, subst, inl, inr}
use Rattle.std.specs.Prelude.{slice_get}
use Rattle.std.proofs.lemmas.Bool.{cases_lt}
use Rattle.std.proofs.lemmas.List.{length-map, get_or-map, get_or_past, map_push, take_more, get_or_append_left, get_or-append_right}
use Rattle.std.proofs.lemmas.Option.{slice_get-get_or, slice_get_within}
use Rattle.stn_model.specs.Net.{Net}
use Rattle.stn_model.specs.Valid.{IsNetwork}
use Rattle.private_elim.specs.Locals.{LocalView, local_of}
use Rattle.private_elim.specs.ReducedViews.{ReducedView, IsReduced}
use Rattle.shared_graph.specs.Histories.{AreFitting}
use Rattle.shared_graph.specs.Interfaces.{Summary, IsFitting, interface_of}
use Rattle.shared_graph.specs.Journals.{AgreeWith}
use Rattle.shared_graph.specs.Replays.{summary_of}
use Rattle.shared_graph.specs.States.{State}
use Rattle.shared_graph.proofs.networks.Networks.{summary_fits}
use Rattle.conflict_cycle.specs.Belongs.{AreReducedOf, ArePublishedOf}

-- those of the agents below n
pub record AreReducedBelow (net : Net) (n : ℕ) (reduced : List ReducedView) : Type 0 where
  pub len : length reduced ≡ n
  pub each : (a : ℕ) (r : ReducedView) → slice_get reduced a ≡ Some r → r.local ≡ local_of net a

-- an item is the one that is read there
pub item_is : {X : Type 0} (xs : List X) (a : ℕ) (x : X) → slice_get xs a ≡ Some x → (a < length xs) × (get_or xs a x ≡ x)
item_is xs a x h =
    let low = slice_get_within xs a x h in
    let both : Some (get_or xs a x) ≡ Some x = sym (slice_get-get_or xs a x low) ∙ h in
    (low, some_is (get_or xs a x) x both) where
      some_is : {X : Type 0} (x y : X) → Some x ≡ Some y → x ≡ y
      some_is x y e = cc

-- the first n items are all of them
pub all_taken : {X : Type 0} (n : ℕ) (xs : List X) → length xs ≤ n → take n xs ≡ xs
all_taken zero [] low = refl
all_taken (suc n) [] low = refl
all_taken zero (x ∷ xs) low = absurd (omega arith)
all_taken (suc n) (x ∷ xs) low = ap (λ ys. x ∷ ys) (all_taken n xs (omega arith))

-- an item of a list with one more is one of the list, or the last
pub read_pushed : {X : Type 0} (old : List X) (x y : X) (a : ℕ) → slice_get (old ++ x ∷ []) a ≡ Some y
    → (slice_get old a ≡ Some y) ⊎ ((a ≡ length old) × (x ≡ y))
read_pushed old x y a there =
    let read = item_is (old ++ x ∷ []) a y there in
    let many = length-append old (x ∷ []) in
    elim (cases_lt a (length old)) [
      | inl low ↦ inl (slice_get-get_or old a y low ∙ ap (λ z. Some z) (sym (get_or_append_left old (x ∷ []) y a low) ∙ read.1))
      | inr high ↦
          (let inside = read.0 in
          let zeroth : a - length old ≡ 0 = omega arith in
          inr (omega arith, sym (get_or-append_right old (x ∷ []) (length old) a y refl high ∙ ap (λ k. get_or (x ∷ []) k y) zeroth) ∙ read.1))
    ]

module _ (net : Net) where
  pub reduced_none : AreReducedBelow net 0 []
  reduced_none = record {
    len = refl;
    each = λ a r h. (let low : a < 0 = (item_is [] a r h).0 in absurd (omega arith));
  }

  pub reduced_more : (n : ℕ) (old new : List ReducedView) (r : ReducedView) → new ≡ old ++ r ∷ [] → r.local ≡ local_of net n
      → AreReducedBelow net n old → AreReducedBelow net (n + 1) new
  reduced_more n old new r is local h =
      subst (AreReducedBelow net (n + 1)) (sym is) (record {
        len = (let many = length-append old (r ∷ []) in let len = h.len in omega arith);
        each = each;
      }) where
        each : (a : ℕ) (x : ReducedView) → slice_get (old ++ r ∷ []) a ≡ Some x → x.local ≡ local_of net a
        each a x there = elim (read_pushed old r x a there) [
          | inl before ↦ h.each a x before
          | inr last ↦
              (let here : a ≡ n = last.0 ∙ h.len in
              ap (λ (y : ReducedView). y.local) (sym last.1) ∙ local ∙ ap (local_of net) (sym here))
        ]

  pub reduced_all : (n : ℕ) (reduced : List ReducedView) → n ≡ length net.agents → AreReducedBelow net n reduced → AreReducedOf net reduced
  reduced_all n reduced is h = record { one_each = h.len ∙ is; each = h.each }

-- what the parts tell
abbrev pub told_by : List ReducedView → List Summary
told_by reduced = map (λ (r : ReducedView). r.summary) reduced

-- the summaries of the first n, which fit
pub record TellBelow (net : Net) (reduced : List ReducedView) (n : ℕ) (summaries : List Summary) : Type 0 where
  pub told : summaries ≡ told_by (take n reduced)
  pub fits : (a : ℕ) (r : ReducedView) → a < n → slice_get reduced a ≡ Some r → IsFitting (interface_of net) a r.summary

module _ (net : Net) (reduced : List ReducedView) where
  pub tell_none : TellBelow net reduced 0 []
  tell_none = record { told = refl; fits = λ a r low. absurd (omega arith) }

  module _ (valid : IsNetwork net) (known : AreReducedOf net reduced) where
    part_fits : (a : ℕ) (r : ReducedView) → slice_get reduced a ≡ Some r → IsReduced r.local r.order r.summary
        → IsFitting (interface_of net) a r.summary
    part_fits a r there h =
        let local = known.each a r there in
        let agent : r.local.agent ≡ a = ap (λ (v : LocalView). v.agent) local in
        subst (λ k. IsFitting (interface_of net) k r.summary) agent
        (summary_fits net valid r.local.agent r.summary (h.sums_up net valid (local ∙ ap (local_of net) (sym agent))))

    pub tell_more : (n : ℕ) (r : ReducedView) (old new : List Summary) → n < length reduced → r ≡ get_or reduced n r
        → new ≡ old ++ r.summary ∷ [] → IsReduced r.local r.order r.summary → TellBelow net reduced n old → TellBelow net reduced (n + 1) new
    tell_more n r old new lt is more part h = record {
      told = more ∙ ap (λ (xs : List Summary). xs ++ r.summary ∷ []) h.told ∙ sym (map_push (λ (x : ReducedView). x.summary) (take n reduced) r)
          ∙ ap told_by (sym (take_more reduced n r lt ∙ ap (λ (x : ReducedView). take n reduced ++ x ∷ []) (sym is)));
      fits = fits;
    } where
      fits : (a : ℕ) (x : ReducedView) → a < n + 1 → slice_get reduced a ≡ Some x → IsFitting (interface_of net) a x.summary
      fits a x low there = elim (cases_lt a n) [
        | inl before ↦ h.fits a x before there
        | inr after ↦
            (let here : a ≡ n = omega arith in
            let at : slice_get reduced n ≡ Some r = slice_get-get_or reduced n r lt ∙ ap (λ (y : ReducedView). Some y) (sym is) in
            let both : Some r ≡ Some x = sym at ∙ ap (slice_get reduced) (sym here) ∙ there in
            let same : r ≡ x = cc in
            part_fits a x there (subst (λ (y : ReducedView). IsReduced y.local y.order y.summary) same part))
      ]

  -- all of them
  pub summaries_fit : (n : ℕ) (summaries : List Summary) → length reduced ≤ n → TellBelow net reduced n summaries
      → (summaries ≡ told_by reduced) × AreFitting (interface_of net) summaries
  summaries_fit n summaries all h =
      let is : summaries ≡ told_by reduced = h.told ∙ ap told_by (all_taken n reduced all) in
      (is, subst (AreFitting (interface_of net)) (sym is) (λ a. fits a)) where
        fits : (a : ℕ) → IsFitting (interface_of net) a (summary_of (told_by reduced) a)
        fits a = elim (cases_lt a (length reduced)) [
          | inl low ↦ at a (slice_get reduced a) refl low
          | inr high ↦
              (let none : summary_of (told_by reduced) a ≡ [] =
              get_or_past (told_by reduced) a [] (omega (arith, length-map reduced (λ (r : ReducedView). r.summary))) in
              λ e there. absurd (let low : there.0 < 0 = subst (λ (xs : Summary). there.0 < length xs) none there.1 in omega arith))
        ] where
          at : (a : ℕ) (o : Option ReducedView) → slice_get reduced a ≡ o → a < length reduced
              → IsFitting (interface_of net) a (summary_of (told_by reduced) a)
          at a None is low = absurd (no_item reduced a is low) where
            no_item : {X : Type 0} (xs : List X) (k : ℕ) → slice_get xs k ≡ None → k < length xs → ⊥
            no_item [] k is low = omega arith
            no_item (x ∷ xs) k is low = (let there = slice_get-get_or (x ∷ xs) k x low in let both : None ≡ Some (get_or (x ∷ xs) k x) = sym is ∙ there in cc)
          at a (Some r) is low =
              (let read = item_is reduced a r is in
              subst (λ (entries : Summary). IsFitting (interface_of net) a entries)
              (sym (get_or-map (λ (x : ReducedView). x.summary) reduced a r [] low ∙ ap (λ (x : ReducedView). x.summary) read.1))
              (h.fits a r (omega arith) is))

-- what agrees with the listed summaries is that of the parts
pub parts_published : (reduced : List ReducedView) (summaries : List Summary) (s : State) → summaries ≡ told_by reduced → AgreeWith summaries s
    → ArePublishedOf reduced s
parts_published reduced summaries s is agree a r there did =
    let read = item_is reduced a r there in
    agree a did ∙ ap (λ (xs : List Summary). summary_of xs a) is
    ∙ get_or-map (λ (x : ReducedView). x.summary) reduced a r [] read.0 ∙ ap (λ (x : ReducedView). x.summary) read.1
