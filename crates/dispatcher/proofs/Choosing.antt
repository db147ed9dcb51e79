-- A choice within a point's window keeps what a dispatcher keeps.
use Rattle.std.proofs.Common.{◌≡◌, ◌≢◌, ℕ, ◌<◌, ℤ, pos, neg_ℤ, ◌≤ℤ◌, List, map, length, set, sym, ap, subst, ◌∙◌, ⊎_elim, arith, get_or-set_same, get_or-set_other, Option, Some, None}
use Rattle.std.specs.Option.{unwrap_or}
use Rattle.std.specs.List.{Contains}
use Rattle.std.proofs.lemmas.List.{length-map}
use Rattle.std.proofs.lemmas.Int.{ints}
use Rattle.std.proofs.lemmas.Bool.{cases_eq}
use Rattle.stn_model.specs.Limits.{greatest_bound}
use Rattle.stn_model.specs.declared.ids.Constraint.{Constraint}
use Rattle.stn_model.specs.Arcs.{arc_at}
use Rattle.stn_model.specs.Schedules.{KeepsArcs, time_at}
use Rattle.dispatcher.specs.Falling.{Holds, IsArcAmong, IsSafe, Falls}
use Rattle.dispatcher.specs.Choices.{Keeps, choice_at}
use Rattle.dispatcher.specs.Standing.{exchanged, IsStanding}
use Rattle.dispatcher.proofs.Lowerings.{lowered_safe, stays_here, stays_elsewhere, still_greatest}
use Rattle.dispatcher.proofs.Standings.{exchanged_at, turned_holds, early_fits, window_ordered}

module _ (arcs : List Constraint) (points : List ℕ) (choices : List (Option ℤ)) (latest early : List ℤ) (h : IsStanding arcs points choices latest early)
    (p : ℕ) (t : ℤ) (there : Contains points p) (above : neg_ℤ (time_at early p) ≤ℤ t) (below : t ≤ℤ time_at latest p) where
  turned_among : (n : ℕ) → n < length (map exchanged arcs) → IsArcAmong points (length early) (arc_at (map exchanged arcs) n)
  turned_among n lt =
      let short : n < length arcs = let e = length-map arcs exchanged in omega arith in
      let a = h.among n short in
      let e = h.early_each in
      subst (IsArcAmong points (length early)) (sym (exchanged_at arcs n short)) (record {
        from_known = a.to_known;
        to_known = a.from_known;
        from_in = let x = a.to_in in omega arith;
        to_in = let x = a.from_in in omega arith;
        low = a.low;
        high = a.high;
      })

  late_fits : Holds (map exchanged arcs) (λ q. neg_ℤ (time_at latest q))
  late_fits = turned_holds arcs (time_at latest) h.keeps.schedule.1

  late_under : (q : ℕ) → Contains points q → neg_ℤ (time_at latest q) ≤ℤ time_at early q
  late_under q in_it = let w = window_ordered arcs points choices latest early h q in_it in omega (arith, ints)

  late_deep : (q : ℕ) → Contains points q → neg_ℤ (pos greatest_bound) ≤ℤ neg_ℤ (time_at latest q)
  late_deep q in_it = let l = h.late_high q in_it in omega (arith, ints)

  early_deep : (q : ℕ) → Contains points q → neg_ℤ (pos greatest_bound) ≤ℤ neg_ℤ (time_at early q)
  early_deep q in_it = let l = h.early_low q in_it in omega (arith, ints)

  early_high : (q : ℕ) → Contains points q → time_at early q ≤ℤ pos greatest_bound
  early_high q in_it = let l = h.early_low q in_it in omega (arith, ints)

  early_in : p < length early
  early_in = let e = h.early_each in let k = h.known p there in omega arith

  -- raising the earliest time of the point to the chosen one is safe
  pub early_safe : IsSafe (map exchanged arcs) (set early p (neg_ℤ t))
  early_safe = lowered_safe (map exchanged arcs) early points turned_among h.turned_keep (λ q. neg_ℤ (time_at latest q)) late_fits late_under late_deep early_high
      p there early_in (neg_ℤ t) (omega (arith, ints)) (omega (arith, ints))

  -- the choices before stand in schedules that keep the new ones too
  pub kept_before : (times : List ℤ) → Keeps arcs (set choices p (Some t)) times → (time_at times p ≡ t) × Keeps arcs choices times
  kept_before times k =
      let within : p < length choices = let e = h.choice_each in let w = h.known p there in omega arith in
      let at = k.chosen p t (get_or-set_same choices p (Some t) None within) in (
        at,
        record {
          schedule = k.schedule;
          chosen = λ q u e. ⊎_elim
              (λ (same : q ≡ p).
              let late = h.keeps.chosen q u e in
              let soon = h.early_chosen q u e in
              let a = ap (time_at latest) same in
              let b = ap (time_at early) same in
              let c = ap (time_at times) same in
              omega (arith, ints))
              (λ (other : q ≢ p). k.chosen q u (get_or-set_other choices p q (Some t) None other ∙ e))
              (cases_eq q p);
        },
      )

  module _ (late : List ℤ) (fall : Falls arcs (set latest p t) late) where
    -- latest times of schedules that keep the new choices
    pub late_greatest : (times : List ℤ) → Keeps arcs (set choices p (Some t)) times → (q : ℕ) → Contains points q → time_at times q ≤ℤ time_at late q
    late_greatest times k =
        let old = kept_before times k in
        still_greatest arcs latest points h.among h.keeps.schedule.1 (λ q. neg_ℤ (time_at early q)) (early_fits arcs points choices latest early h)
        (window_ordered arcs points choices latest early h) early_deep h.late_high p there (h.known p there) t above below late fall
        (time_at times) old.1.schedule.1 old.0 (h.greatest times old.1)

    pub late_here : time_at late p ≡ t
    late_here =
        stays_here arcs latest points h.among h.keeps.schedule.1 (λ q. neg_ℤ (time_at early q)) (early_fits arcs points choices latest early h)
        (window_ordered arcs points choices latest early h) early_deep h.late_high p there (h.known p there) t above below late fall

    pub late_stays : (q : ℕ) → Contains points q → neg_ℤ (time_at early q) ≡ time_at latest q → time_at late q ≡ time_at latest q
    late_stays =
        stays_elsewhere arcs latest points h.among h.keeps.schedule.1 (λ q. neg_ℤ (time_at early q)) (early_fits arcs points choices latest early h)
        (window_ordered arcs points choices latest early h) early_deep h.late_high p there (h.known p there) t above below late fall

    -- the new latest times are a schedule that keeps the new choices
    pub late_keeps : KeepsArcs arcs late → Keeps arcs (set choices p (Some t)) late
    late_keeps holds = record {
      schedule = (
        (let z = h.early_z in
            let y = h.keeps.schedule.0 in
            late_stays 0 h.z_known (omega (arith, ints)) ∙ y),
        holds,
      );
      chosen = λ q u e. ⊎_elim
          (λ (same : q ≡ p).
          let within : p < length choices = let x = h.choice_each in let w = h.known p there in omega arith in
          let here = ap (choice_at (set choices p (Some t))) same ∙ get_or-set_same choices p (Some t) None within in
          ap (time_at late) same ∙ late_here ∙ ap (λ o. unwrap_or o t) (sym here ∙ e))
          (λ (other : q ≢ p).
          let was = sym (get_or-set_other choices p q (Some t) None other) ∙ e in
          let y = h.keeps.chosen q u was in
          let z = h.early_chosen q u was in
          late_stays q (h.chosen_known q u was) (omega (arith, ints)) ∙ y)
          (cases_eq q p);
    }

  module _ (soon : List ℤ) (fall : Falls (map exchanged arcs) (set early p (neg_ℤ t)) soon) where
    -- earliest times of schedules that keep the new choices
    pub soon_least : (times : List ℤ) → Keeps arcs (set choices p (Some t)) times → (q : ℕ) → Contains points q → neg_ℤ (time_at soon q) ≤ℤ time_at times q
    soon_least times k q in_it =
        let old = kept_before times k in
        let at = old.0 in
        let s = still_greatest (map exchanged arcs) early points turned_among h.turned_keep (λ q. neg_ℤ (time_at latest q)) late_fits late_under late_deep early_high
        p there early_in (neg_ℤ t) (omega (arith, ints)) (omega (arith, ints)) soon fall
        (λ q. neg_ℤ (time_at times q)) (turned_holds arcs (time_at times) old.1.schedule.1) (omega (arith, ints))
        (λ r known. let l = h.least times old.1 r known in omega (arith, ints)) q in_it in
        omega (arith, ints)

    pub soon_here : time_at soon p ≡ neg_ℤ t
    soon_here =
        stays_here (map exchanged arcs) early points turned_among h.turned_keep (λ q. neg_ℤ (time_at latest q)) late_fits late_under late_deep early_high
        p there early_in (neg_ℤ t) (omega (arith, ints)) (omega (arith, ints)) soon fall

    pub soon_stays : (q : ℕ) → Contains points q → neg_ℤ (time_at latest q) ≡ time_at early q → time_at soon q ≡ time_at early q
    soon_stays =
        stays_elsewhere (map exchanged arcs) early points turned_among h.turned_keep (λ q. neg_ℤ (time_at latest q)) late_fits late_under late_deep early_high
        p there early_in (neg_ℤ t) (omega (arith, ints)) (omega (arith, ints)) soon fall

    -- z and the chosen points stand at their times
    pub soon_z : time_at soon 0 ≡ pos 0
    soon_z = let z = h.early_z in let y = h.keeps.schedule.0 in soon_stays 0 h.z_known (omega (arith, ints)) ∙ z

    pub soon_chosen : (q : ℕ) (u : ℤ) → choice_at (set choices p (Some t)) q ≡ Some u → time_at soon q ≡ neg_ℤ u
    soon_chosen q u e = ⊎_elim
        (λ (same : q ≡ p).
        let within : p < length choices = let x = h.choice_each in let w = h.known p there in omega arith in
        let here = ap (choice_at (set choices p (Some t))) same ∙ get_or-set_same choices p (Some t) None within in
        ap (time_at soon) same ∙ soon_here ∙ ap (λ o. neg_ℤ (unwrap_or o t)) (sym here ∙ e))
        (λ (other : q ≢ p).
        let was = sym (get_or-set_other choices p q (Some t) None other) ∙ e in
        let y = h.keeps.chosen q u was in
        let z = h.early_chosen q u was in
        soon_stays q (h.chosen_known q u was) (omega (arith, ints)) ∙ z)
        (cases_eq q p)
