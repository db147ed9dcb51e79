-- What a dispatcher keeps, after a choice.
use Rattle.std.proofs.Common.{◌≡◌, ◌≢◌, ℕ, ◌<◌, ℤ, pos, neg_ℤ, ◌≤ℤ◌, List, map, length, set, sym, ap, subst, ◌∙◌, ⊎_elim, arith, length-set, get_or-set_same, get_or-set_other, Option, Some, None}
use Rattle.std.specs.List.{Contains}
use Rattle.std.proofs.lemmas.Int.{ints}
use Rattle.std.proofs.lemmas.Bool.{cases_eq}
use Rattle.stn_model.specs.declared.ids.Constraint.{Constraint}
use Rattle.stn_model.specs.Arcs.{arc_at}
use Rattle.stn_model.specs.Schedules.{KeepsArcs, time_at}
use Rattle.dispatcher.specs.Falling.{IsArcAmong, Falls}
use Rattle.dispatcher.specs.Standing.{exchanged, IsStanding}
use Rattle.dispatcher.proofs.Choosing.{late_greatest, late_keeps, soon_least, soon_z, soon_chosen}

-- a label that is put lower is not above what it was
put_lower : (labels : List ℤ) (p : ℕ) (t : ℤ) (q : ℕ) → t ≤ℤ time_at labels p → p < length labels → time_at (set labels p t) q ≤ℤ time_at labels q
put_lower labels p t q less within = ⊎_elim
    (λ (e : q ≡ p).
    let a = ap (time_at labels) e in
    let b = ap (time_at (set labels p t)) e in
    let c = get_or-set_same labels p t (pos 0) within in
    omega (arith, ints))
    (λ (e : q ≢ p). let k = get_or-set_other labels p q t (pos 0) e in omega (arith, ints))
    (cases_eq q p)

pub chosen_stands : (arcs : List Constraint) (points : List ℕ) (choices : List (Option ℤ)) (latest early : List ℤ) → IsStanding arcs points choices latest early
    → (p : ℕ) (t : ℤ) → Contains points p → neg_ℤ (time_at early p) ≤ℤ t → t ≤ℤ time_at latest p
    → (late soon : List ℤ) → Falls arcs (set latest p t) late → KeepsArcs arcs late
    → Falls (map exchanged arcs) (set early p (neg_ℤ t)) soon → KeepsArcs (map exchanged arcs) soon
    → IsStanding arcs points (set choices p (Some t)) late soon
chosen_stands arcs points choices latest early h p t there above below late soon fall holds fell turned =
    let same : length late ≡ length latest = fall.one_each ∙ length-set latest p t in
    let within : p < length early = let e = h.early_each in let k = h.known p there in omega arith in
    record {
      among = λ n lt. subst (λ (m : ℕ). IsArcAmong points m (arc_at arcs n)) (sym same) (h.among n lt);
      early_each = let a = fell.one_each in let b = length-set early p (neg_ℤ t) in let c = h.early_each in omega arith;
      choice_each = let b = length-set choices p (Some t) in let c = h.choice_each in omega arith;
      z_known = h.z_known;
      known = λ q in_it. let k = h.known q in_it in omega arith;
      chosen_known = λ q u e. ⊎_elim
          (λ (e : q ≡ p). subst (Contains points) (sym e) there)
          (λ (other : q ≢ p). h.chosen_known q u (sym (get_or-set_other choices p q (Some t) None other) ∙ e))
          (cases_eq q p);
      keeps = late_keeps arcs points choices latest early h p t there above below late fall holds;
      turned_keep = turned;
      early_z = soon_z arcs points choices latest early h p t there above below soon fell;
      early_chosen = soon_chosen arcs points choices latest early h p t there above below soon fell;
      greatest = late_greatest arcs points choices latest early h p t there above below late fall;
      least = soon_least arcs points choices latest early h p t there above below soon fell;
      late_high = λ q in_it.
          let a = fall.below q in
          let b = put_lower latest p t q below (h.known p there) in
          let c = h.late_high q in_it in
          omega (arith, ints);
      early_low = λ q in_it.
          let a = fell.below q in
          let b = put_lower early p (neg_ℤ t) q (omega (arith, ints)) within in
          let c = h.early_low q in_it in
          omega (arith, ints);
    }
