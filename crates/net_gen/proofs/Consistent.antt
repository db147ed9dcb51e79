-- The drawn times satisfy every arc of a generated network.
--
-- A schedule is the reference point's 0 and then the time of each point. The arcs of the horizon hold since each time is below
-- 900000, and so from 0 to 1000000 after the reference point. Each given arc belongs to a bound that was laid round the distance d
-- of the times of its two points: one says that the distance is at most d + h, the other that it is at least d - l, with l and h
-- draws, and so not below 0. So all that is owed is that the time which an arc names is the time from which d was taken.
use Rattle.std.proofs.Common.{◌≡◌, ℕ, zero, suc, ◌+◌, ◌*◌, ◌/◌, ◌<◌, ◌≤◌, List, [], ◌∷◌, ◌++◌, length, map, get_or, refl, sym, ap, ◌∙◌, subst, arith, add-one, ℤ, pos, ◌-ℤ◌, ◌≤ℤ◌}
use Rattle.std.specs.List.{flat_map, range_with_len, All}
use Rattle.std.proofs.lemmas.Int.{ints}
use Rattle.std.proofs.lemmas.List.Elements.{All-append}
use Rattle.std.proofs.lemmas.List.FromFn.{get_or-map-range_with_len, length-map-range_with_len}
use Rattle.std.proofs.Math.Nat.{mod-lt}
use Rattle.stn_model.specs.declared.ids.Constraint.{Constraint}
use Rattle.stn_model.specs.Arcs.{no_arc}
use Rattle.stn_model.specs.Net.{point_count, horizon_arcs, horizon_pair, arcs_of}
use Rattle.stn_model.specs.Schedules.{time_at, IsConsistent}
use Rattle.net_gen.specs.Draws.{drawn, value_after}
use Rattle.net_gen.specs.Generated.{width, point_total, gap_total, gap_start, handover_total, time_of, bound_arcs, drawn_bound, chain_at, handover_at, draws_before, chains, handovers, generated}
use Rattle.net_gen.proofs.Places.{agent_fits, gap_fits, flat_map-range_with_len_more}

-- the reference point at 0, and the times of that many points
abbrev pub schedule_of : ℕ → ℕ → List ℤ
schedule_of number n = pos 0 ∷ map (λ q. pos (time_of number q)) (range_with_len 0 n)

-- the times keep the arc
abbrev pub Keeps : List ℤ → Constraint → Type 0
Keeps times a = (time_at times a.to.0 -ℤ time_at times a.from.0) ≤ℤ a.bound

time_at-schedule_of : (number n q : ℕ) → q < n → time_at (schedule_of number n) (q + 1) ≡ pos (time_of number q)
time_at-schedule_of number n q lt =
    let inner : get_or (map (λ (k : ℕ). pos (time_of number k)) (range_with_len 0 n)) q (pos 0) ≡ pos (time_of number q) =
    get_or-map-range_with_len (λ (k : ℕ). pos (time_of number k)) 0 n q q (pos 0) lt (omega arith) in
    ap (time_at (schedule_of number n)) (add-one q) ∙ inner

All-one : {X : Type 0} (P : X → Type 0) (x : X) → P x → All P (x ∷ [])
All-one P x h zero d lt = h
All-one P x h (suc k) d lt = absurd (omega arith)

All-two : {X : Type 0} (P : X → Type 0) (x y : X) → P x → P y → All P (x ∷ y ∷ [])
All-two P x y h k = All-append P (x ∷ []) (y ∷ []) (All-one P x h) (All-one P y k)

All-flat_map : {X : Type 0} (P : X → Type 0) (f : ℕ → List X) (n : ℕ) → ((k : ℕ) → k < n → All P (f k)) → All P (flat_map f (range_with_len 0 n))
All-flat_map P f zero h = λ k d lt. absurd (omega arith)
All-flat_map {X} P f (suc n) h =
    let Q : List X → Type 0 = λ xs. All P xs in
    let more : flat_map f (range_with_len 0 (suc n)) ≡ flat_map f (range_with_len 0 n) ++ f n =
    ap (λ (k : ℕ). flat_map f (range_with_len 0 k)) (sym (add-one n)) ∙ flat_map-range_with_len_more f n in
    subst Q (sym more) (All-append P (flat_map f (range_with_len 0 n)) (f n) (All-flat_map P f n (λ k lt. h k (omega arith))) (h n (omega arith)))

bound_keeps : (times : List ℤ) (from to low high : ℕ) (a b : ℤ) → time_at times (from + 1) ≡ a → time_at times (to + 1) ≡ b → All (Keeps times) (bound_arcs from to (b -ℤ a) low high)
bound_keeps times from to low high a b start end =
    All-two (Keeps times) _ _ (omega (arith, ints)) (omega (arith, ints))

drawn_bound_keeps : (number n from to k below : ℕ) → from < n → to < n → All (Keeps (schedule_of number n)) (drawn_bound number from to k below)
drawn_bound_keeps number n from to k below lf lt =
    bound_keeps (schedule_of number n) from to (drawn number k below) (drawn number (k + 1) below)
    (pos (time_of number from)) (pos (time_of number to))
    (time_at-schedule_of number n from lf) (time_at-schedule_of number n to lt)

chains_keep : (number size : ℕ) → 1 ≤ size → All (Keeps (schedule_of number (point_total size))) (chains number size)
chains_keep number size low =
    All-flat_map (Keeps (schedule_of number (point_total size))) (chain_at number size) (gap_total size)
    (λ g lt. let fits = gap_fits size g low lt in
    drawn_bound_keeps number (point_total size) (gap_start size g) (gap_start size g + 1) (point_total size + 2 * g + 1) 1000 (omega arith) fits)

handover_end : (number size i k : ℕ) → 1 ≤ size → i < size → i * width size + drawn number k (width size) < point_total size
handover_end number size i k low lt =
    let fits = agent_fits size i lt in
    let some : 0 < width size = omega arith in
    let inner : drawn number k (width size) < width size = mod-lt (value_after number k) some in
    omega arith

handovers_keep : (number size : ℕ) → 1 ≤ size → All (Keeps (schedule_of number (point_total size))) (handovers number size)
handovers_keep number size low =
    All-flat_map (Keeps (schedule_of number (point_total size))) (handover_at number size) (handover_total size)
    (λ h lt. drawn_bound_keeps number (point_total size) _ _ (draws_before size h + 3) 5000
    (handover_end number size (h / 2) (draws_before size h + 1) low (omega arith))
    (handover_end number size (h / 2 + 1) (draws_before size h + 2) low (omega arith)))

pair_keeps : (times : List ℤ) (p t : ℕ) → time_at times 0 ≡ pos 0 → time_at times p ≡ pos t → t < 900000 → All (Keeps times) (horizon_pair (pos 1000000) p)
pair_keeps times p t first here lt =
    All-two (Keeps times) _ _ (omega (arith, ints)) (omega (arith, ints))

horizon_keeps : (number n m : ℕ) → m ≤ n → All (Keeps (schedule_of number n)) (horizon_arcs (pos 1000000) m)
horizon_keeps number n zero le = λ k d lt. absurd (omega arith)
horizon_keeps number n (suc m) le =
    let times = schedule_of number n in
    let here : time_at times (suc m) ≡ pos (time_of number m) =
    ap (time_at times) (sym (add-one m)) ∙ time_at-schedule_of number n m (omega arith) in
    let some : 0 < 900000 = omega arith in
    All-append (Keeps times) (horizon_arcs (pos 1000000) m) (horizon_pair (pos 1000000) (suc m)) (horizon_keeps number n m (omega arith))
    (pair_keeps times (suc m) (time_of number m) refl here (mod-lt (value_after number (m + 1)) some))

pub generated_is_consistent : (number size : ℕ) → 1 ≤ size → IsConsistent (point_count (generated number size)) (arcs_of (generated number size))
generated_is_consistent number size low =
    let n = point_total size in
    let times = schedule_of number n in
    let places : length (generated number size).places ≡ n = length-map-range_with_len _ 0 n in
    let given = All-append (Keeps times) (chains number size) (handovers number size) (chains_keep number size low) (handovers_keep number size low) in
    let horizon : All (Keeps times) (horizon_arcs (pos 1000000) (length (generated number size).places)) =
    horizon_keeps number n (length (generated number size).places) (omega arith) in
    let fixed = All-append (Keeps times) (horizon_arcs (pos 1000000) (length (generated number size).places)) [] horizon (λ k d lt. absurd (omega arith)) in
    let all = All-append (Keeps times) (horizon_arcs (pos 1000000) (length (generated number size).places) ++ []) (generated number size).given fixed given in (
      times,
      record {
        one_each = let many : length (map (λ (q : ℕ). pos (time_of number q)) (range_with_len 0 n)) ≡ n = length-map-range_with_len _ 0 n in omega arith;
        first = refl;
        keeps = λ k lt. all k no_arc lt;
      },
    )
