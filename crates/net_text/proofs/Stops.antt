-- Sixteen bytes at a time: the mask of those that are not plain, and how far the plain bytes go on.
use Rattle.std.proofs.Common.{◌≡◌, ℕ, ◌+◌, ◌-◌, ◌%◌, ◌^◌, ◌<◌, ◌≤◌, ltb, true, false, not, cond, ◌&&◌, List, [], ◌∷◌, map, length, take, drop, replicate, Fits, w8}
use Rattle.std.proofs.Common.{zero, suc, refl, sym, ap, ap₂, ◌∙◌, arith}
use Rattle.std.proofs.Math.Seq.{take-add}
use Rattle.std.proofs.lemmas.Bool.{agree_below_at, and_from}
use Rattle.std.proofs.lemmas.List.{length-map, take-append-le}
use Rattle.std.proofs.lemmas.List.Folds.{list_all-append}
use Rattle.std.proofs.lemmas.List.Sums.{prefix_len-le-length}
use Rattle.std.proofs.lemmas.Simd.{zip2_splat, zip2_splat_left, map-map, mask_l-mod, chunk-drop, length-chunk, leading_from_mask_l, trailing_mask_l}
use Rattle.std.specs.List.{list_all, prefix_len}
use Rattle.net_text.specs.Scans.{is_plain, is_stop}
use lib.Count.{count_trailing_zeros}
use lib.Lanes.{chunk, zip2, mask_l, top, Each1}

-- what a lane becomes: its distance from `$`, in a byte, and all bits where that is beyond the one of `~`
abbrev pub apart : ℕ → ℕ → ℕ
apart a b = (a + (256 - b)) % 256

abbrev pub below : ℕ → ℕ → ℕ
below a b = cond (ltb a b) 255 0

abbrev pub tested : ℕ → ℕ
tested x = below 90 (apart x 36)

pub lanes_tested : (v : List ℕ) → length v ≡ 16 → zip2 below (replicate 16 90) (zip2 apart v (replicate 16 36)) ≡ map tested v
lanes_tested v long =
    ap (zip2 below (replicate 16 90)) (zip2_splat apart v 16 36 long)
    ∙ zip2_splat_left below 90 16 (map (λ x. apart x 36) v) (length-map v (λ x. apart x 36) ∙ long)
    ∙ map-map (below 90) (λ x. apart x 36) v

-- the test is held against the definition at each of the 256 bytes
tests_stops : (v : List ℕ) → Each1 (Fits w8) v → map (top 7) (map tested v) ≡ map is_stop v
tests_stops [] fits = refl
tests_stops (x ∷ xs) fits =
    ap₂ (λ b bs. b ∷ bs) (agree_below_at (λ x. top 7 (tested x)) is_stop 256 x refl fits.0.fits) (tests_stops xs fits.1)

pub mask_is : (v z : List ℕ) → length v ≡ 16 → Each1 (Fits w8) v → z ≡ map tested v → mask_l (map (top 7) z) % 2 ^ 64 ≡ mask_l (map is_stop v)
mask_is v z long fits is =
    ap (λ l. mask_l l % 2 ^ 64) (ap (map (top 7)) is ∙ tests_stops v fits) ∙ mask_l-mod (map is_stop v) 64 (omega (arith, length-map v is_stop))

-- the bytes before the first stop are plain
before_stop : (n : ℕ) (xs : List ℕ) → n ≤ prefix_len (λ x. not (is_stop x)) xs → list_all is_plain (take n xs) ≡ true
before_stop zero xs le = refl
before_stop (suc n) [] le = refl
before_stop (suc n) (x ∷ xs) le =
    (elim (is_plain x) as (λ t. suc n ≤ cond (not (not t)) (1 + prefix_len (λ x. not (is_stop x)) xs) 0 → (t && list_all is_plain (take n xs)) ≡ true) [
      | true ↦ λ h. before_stop n xs (omega arith)
      | false ↦ λ h. absurd (omega arith)
    ]) le

-- plain bytes, and plain bytes of the next sixteen
plain_more : (bytes : List ℕ) (at n : ℕ) → list_all is_plain (take at bytes) ≡ true → at + 16 ≤ length bytes
    → n ≤ prefix_len (λ x. not (is_stop x)) (chunk at 16 bytes) → list_all is_plain (take (at + n) bytes) ≡ true
plain_more bytes at n plain room few =
    let step : List ℕ = chunk at 16 bytes in
    let short = prefix_len-le-length (λ x. not (is_stop x)) step in
    let same : take n (drop at bytes) ≡ take n step =
    ap (take n) (chunk-drop at 16 bytes) ∙ take-append-le n step (drop (at + 16) bytes) (omega arith) in
    ap (list_all is_plain) (take-add at n bytes)
    ∙ list_all-append is_plain (take at bytes) (take n (drop at bytes))
    ∙ and_from (list_all is_plain (take at bytes)) (list_all is_plain (take n (drop at bytes))) plain
    (ap (list_all is_plain) same ∙ before_stop n step few)

pub record IsFront (bytes : List ℕ) (n : ℕ) : Type 0 where
  pub within : n ≤ length bytes
  pub plain : list_all is_plain (take n bytes) ≡ true

-- a stop among the next sixteen bytes
pub stops_at : (bytes : List ℕ) (at mask n : ℕ) → list_all is_plain (take at bytes) ≡ true → at + 16 ≤ length bytes
    → mask ≡ mask_l (map is_stop (chunk at 16 bytes)) → 0 < mask → n ≡ count_trailing_zeros 64 mask → IsFront bytes (at + n)
stops_at bytes at mask n plain room is some first =
    let step : List ℕ = chunk at 16 bytes in
    let long = length-chunk at 16 bytes room in
    let first_stop : count_trailing_zeros 64 (mask_l (map is_stop step)) ≡ prefix_len (λ x. not (is_stop x)) step =
    trailing_mask_l is_stop 64 step (omega arith) (omega arith) in
    let run : n ≡ prefix_len (λ x. not (is_stop x)) step = first ∙ ap (count_trailing_zeros 64) is ∙ first_stop in
    let short = prefix_len-le-length (λ x. not (is_stop x)) step in
    record { within = omega arith; plain = plain_more bytes at n plain room (omega arith) }

-- no stop among them
pub goes_past : (bytes : List ℕ) (at mask : ℕ) → list_all is_plain (take at bytes) ≡ true → at + 16 ≤ length bytes
    → mask ≡ mask_l (map is_stop (chunk at 16 bytes)) → mask ≡ 0 → IsFront bytes (at + 16)
goes_past bytes at mask plain room is none =
    let step : List ℕ = chunk at 16 bytes in
    let long = length-chunk at 16 bytes room in
    let run = leading_from_mask_l is_stop step (sym is ∙ none) in
    record { within = room; plain = plain_more bytes at 16 plain room (omega arith) }
