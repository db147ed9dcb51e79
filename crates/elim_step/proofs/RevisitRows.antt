-- A revisit row by row, part by part: one row at a block, all rows at a block, and all blocks.
--   least-joined                the least of sums over one list and then over another
--   backs-none, backs-more, backs-away, out-more    one row more
--   outs-none, outs-more        one place more
--   block-whole                 all rows at a block
--   rows-none, rows-more, rows-away         one block more
use Rattle.std.proofs.Common.{◌≡◌, ◌≢◌, ℕ, List, [], ◌∷◌, ◌++◌, Bool, true, false, ◌&&◌, ◌||◌, Option, Some, None, ap, sym}
use Rattle.std.proofs.Common.{◌∙◌, refl, arith, subst}
use Rattle.std.specs.Prelude.{◌<ℤ◌, ◌≤ℤ◌, ◌==◌, if◌then◌else◌, int_lt}
use Rattle.std.proofs.lemmas.Bool.Decides.{nat_tests}
use Rattle.std.proofs.lemmas.Int.{ints}
use Rattle.dist_rows.specs.declared.cell.Cell.{Cell}
use Rattle.stn_walk.specs.Eliminations.{is_in}
use Rattle.stn_walk.proofs.Members.{is_in-push, is_in-apart}
use Rattle.elim_step.specs.Eliminates.{lesser_of}
use Rattle.elim_step.specs.Revisits.{out_sum, in_sum, least_over, sum_lowered}
use Rattle.elim_step.specs.RevisitRows.{outs_after, backs_after, block_after, rows_after}
use Rattle.elim_step.proofs.Parts.{is_in-append}
use Rattle.elim_step.proofs.Revisits.{least_over-push, least_over-same, out-same, in-same, same_left, same_right}

-- the lesser of three cells
lesser_joined : (x y z : Option Cell) → lesser_of x (lesser_of y z) ≡ lesser_of (lesser_of x y) z
lesser_joined x y None = refl
lesser_joined x None (Some c) = refl
lesser_joined None (Some b) (Some c) =
    elim (int_lt c.weight b.weight) as (λ t. lesser_of None (if t then Some c else Some b) ≡ (if t then Some c else Some b)) [ true ↦ refl | false ↦ refl ]
lesser_joined (Some a) (Some b) (Some c) =
    elim (int_lt c.weight b.weight) as (λ t. int_lt c.weight b.weight ≡ t
    → lesser_of (Some a) (if t then Some c else Some b) ≡ lesser_of (if int_lt b.weight a.weight then Some b else Some a) (Some c)) [
      | true ↦ λ cb. elim (int_lt b.weight a.weight) as (λ s. int_lt b.weight a.weight ≡ s
          → lesser_of (Some a) (Some c) ≡ lesser_of (if s then Some b else Some a) (Some c)) [
            | true ↦ λ ba.
                let ca : int_lt c.weight a.weight ≡ true =
                (let lt : c.weight <ℤ b.weight = grind (arith, ints) in let less : b.weight <ℤ a.weight = grind (arith, ints) in grind (arith, ints)) in
                rw (ca, cb) refl
            | false ↦ λ ba. refl
          ] refl
      | false ↦ λ cb. elim (int_lt b.weight a.weight) as (λ s. int_lt b.weight a.weight ≡ s
          → (if s then Some b else Some a) ≡ lesser_of (if s then Some b else Some a) (Some c)) [
            | true ↦ λ ba. rw cb refl
            | false ↦ λ ba.
                let ca : int_lt c.weight a.weight ≡ false =
                (let le : b.weight ≤ℤ c.weight = grind (arith, ints) in let up : a.weight ≤ℤ b.weight = grind (arith, ints) in grind (arith, ints)) in
                rw ca refl
          ] refl
    ] refl

lesser_behind : (sum : ℕ → Option Cell) (x y : Option Cell) (ms : List ℕ) → lesser_of x (least_over sum y ms) ≡ least_over sum (lesser_of x y) ms
lesser_behind sum x y [] = refl
lesser_behind sum x y (m ∷ ms) =
    lesser_behind sum x (lesser_of y (sum m)) ms ∙ ap (λ o. least_over sum o ms) (lesser_joined x y (sum m))

least_append : (sum : ℕ → Option Cell) (x : Option Cell) (xs ys : List ℕ) → least_over sum x (xs ++ ys) ≡ least_over sum (least_over sum x xs) ys
least_append sum x [] ys = refl
least_append sum x (m ∷ xs) ys = least_append sum (lesser_of x (sum m)) xs ys

-- the least over one list, and then over another
least-joined : (sum : ℕ → Option Cell) (x : Option Cell) (xs ys : List ℕ)
    → lesser_of (least_over sum x xs) (least_over sum None ys) ≡ least_over sum x (xs ++ ys)
least-joined sum x xs ys = lesser_behind sum (least_over sum x xs) None ys ∙ sym (least_append sum x xs ys)

-- no row
pub backs-none : (forward : ℕ → ℕ → Option Cell) (k : ℕ) (block : List ℕ) (f : ℕ → ℕ → Option Cell) (p q : ℕ) → f p q ≡ backs_after forward k block [] f p q
backs-none forward k block f p q = chosen (q == k) (f p q) (lesser_of (f p q) (least_over (in_sum forward f k p) None block)) where
  chosen : (a : Bool) (x i : Option Cell) → x ≡ (if a && false then i else x)
  chosen true x i = refl
  chosen false x i = refl

-- cells to another place than k stay
pub backs-away : (forward : ℕ → ℕ → Option Cell) (k : ℕ) (block done : List ℕ) (f : ℕ → ℕ → Option Cell) (p q : ℕ) → q ≢ k
    → backs_after forward k block done f p q ≡ f p q
backs-away forward k block done f p q apart = (let b : (q == k) ≡ false = grind (arith, nat_tests) in rw b refl)

-- one row more
pub backs-more : (forward : ℕ → ℕ → Option Cell) (k j : ℕ) (block done : List ℕ) (f : ℕ → ℕ → Option Cell) → is_in done j ≡ false
    → is_in block k ≡ false → (p q : ℕ)
    → sum_lowered j k (least_over (in_sum forward (backs_after forward k block done f) k j) None block) (backs_after forward k block done f) p q
    ≡ backs_after forward k block (done ++ j ∷ []) f p q
backs-more forward k j block done f fresh away p q =
    let g = backs_after forward k block done f in
    let ins : least_over (in_sum forward g k j) None block ≡ least_over (in_sum forward f k j) None block =
    least_over-same (in_sum forward g k j) (in_sum forward f k j) None block
    (λ m here. in-same forward g f k j m (backs-away forward k block done f j m (is_in-apart block m k here away))) in
    let L : ℕ → Option Cell = λ y. least_over (in_sum forward f k y) None block in
    let I : ℕ → Option Cell = λ y. lesser_of (g p q) (L y) in
    (λ t. if (p == j) && (q == k) then lesser_of (g p q) (ins t) else g p q)
    ∙ same_left (q == k) p j I (g p q)
    ∙ chosen (p == j) (q == k) (is_in done p) (f p q) (L p) (done_once p)
    ∙ (λ t. if (q == k) && sym (is_in-push done j p) t then lesser_of (f p q) (L p) else f p q) where
      done_once : (p : ℕ) → ((p == j) && is_in done p) ≡ false
      done_once p =
          elim (p == j) as (λ b. (p == j) ≡ b → (b && is_in done p) ≡ false) [
            | true ↦ λ t. let e : j ≡ p = grind (arith, nat_tests) in subst (λ y. is_in done y ≡ false) e fresh
            | false ↦ λ t. refl
          ] refl

      chosen : (pj qk pd : Bool) (x l : Option Cell) → (pj && pd) ≡ false
          → (if pj && qk then lesser_of (if qk && pd then lesser_of x l else x) l else (if qk && pd then lesser_of x l else x))
          ≡ (if qk && (pd || pj) then lesser_of x l else x)
      chosen true true true x l e = absurd (cc)
      chosen true true false x l e = refl
      chosen true false pd x l e = refl
      chosen false true true x l e = refl
      chosen false true false x l e = refl
      chosen false false pd x l e = refl

-- no place
pub outs-none : (k : ℕ) (sum : ℕ → Option Cell) (f : ℕ → ℕ → Option Cell) (p q : ℕ) → f p q ≡ outs_after k sum [] f p q
outs-none k sum f p q = chosen (p == k) (f p q) (lesser_of (f p q) (sum q)) where
  chosen : (a : Bool) (x o : Option Cell) → x ≡ (if a && false then o else x)
  chosen true x o = refl
  chosen false x o = refl

-- one place more
pub outs-more : (k j : ℕ) (sum : ℕ → Option Cell) (done : List ℕ) (f : ℕ → ℕ → Option Cell) → is_in done j ≡ false → (p q : ℕ)
    → sum_lowered k j (sum j) (outs_after k sum done f) p q ≡ outs_after k sum (done ++ j ∷ []) f p q
outs-more k j sum done f fresh p q =
    let g = outs_after k sum done f in
    same_right (p == k) q j (λ y. lesser_of (g p q) (sum y)) (g p q)
    ∙ chosen (p == k) (q == j) (is_in done q) (f p q) (sum q) (done_once q)
    ∙ (λ t. if (p == k) && sym (is_in-push done j q) t then lesser_of (f p q) (sum q) else f p q) where
      done_once : (p : ℕ) → ((p == j) && is_in done p) ≡ false
      done_once p =
          elim (p == j) as (λ b. (p == j) ≡ b → (b && is_in done p) ≡ false) [
            | true ↦ λ t. let e : j ≡ p = grind (arith, nat_tests) in subst (λ y. is_in done y ≡ false) e fresh
            | false ↦ λ t. refl
          ] refl

      chosen : (pk qj qd : Bool) (x o : Option Cell) → (qj && qd) ≡ false
          → (if pk && qj then lesser_of (if pk && qd then lesser_of x o else x) o else (if pk && qd then lesser_of x o else x))
          ≡ (if pk && (qd || qj) then lesser_of x o else x)
      chosen true true true x o e = absurd (cc)
      chosen true true false x o e = refl
      chosen true false true x o e = refl
      chosen true false false x o e = refl
      chosen false qj qd x o e = refl

-- a sum through one place more
pub out-more : (forward : ℕ → ℕ → Option Cell) (k j q : ℕ) (block done : List ℕ) (f : ℕ → ℕ → Option Cell) → q ≢ k
    → lesser_of (least_over (out_sum forward f k q) None done) (out_sum forward (backs_after forward k block done f) k q j)
    ≡ least_over (out_sum forward f k q) None (done ++ j ∷ [])
out-more forward k j q block done f apart =
    let g = backs_after forward k block done f in
    ap (λ o. lesser_of (least_over (out_sum forward f k q) None done) o) (out-same forward g f k q j (backs-away forward k block done f j q apart))
    ∙ sym (least_over-push (out_sum forward f k q) None done j)

-- the cells to k and then those from k
pub block-whole : (forward : ℕ → ℕ → Option Cell) (k : ℕ) (block later : List ℕ) (f : ℕ → ℕ → Option Cell) → is_in block k ≡ false → (p q : ℕ)
    → outs_after k (λ y. least_over (out_sum forward f k y) None later) block (backs_after forward k block later f) p q
    ≡ block_after forward k block later f p q
block-whole forward k block later f away p q =
    chosen (p == k) (is_in block q) (q == k) (is_in later p) (f p q) (least_over (out_sum forward f k q) None later)
    (least_over (out_sum forward f k q) (f p q) later) (lesser_of (f p q) (least_over (in_sum forward f k p) None block))
    (least-joined (out_sum forward f k q) (f p q) [] later) column_k where
      column_k : ((q == k) && is_in block q) ≡ false
      column_k =
          elim (q == k) as (λ b. (q == k) ≡ b → (b && is_in block q) ≡ false) [
            | true ↦ λ t. let e : k ≡ q = grind (arith, nat_tests) in subst (λ y. is_in block y ≡ false) e away
            | false ↦ λ t. refl
          ] refl

      chosen : (pk qb qk pl : Bool) (x o O I : Option Cell) → lesser_of x o ≡ O → (qk && qb) ≡ false
          → (if pk && qb then lesser_of (if qk && pl then I else x) o else (if qk && pl then I else x))
          ≡ (if pk && qb then O else (if qk && pl then I else x))
      chosen true true true pl x o O I e n = absurd (cc)
      chosen true true false pl x o O I e n = e
      chosen true false qk pl x o O I e n = refl
      chosen false qb qk pl x o O I e n = refl

-- no block
pub rows-none : (forward : ℕ → ℕ → Option Cell) (k : ℕ) (later : List ℕ) (f : ℕ → ℕ → Option Cell) (p q : ℕ) → f p q ≡ rows_after forward k later [] f p q
rows-none forward k later f p q = chosen (p == k) ((q == k) && is_in later p) (f p q) (least_over (out_sum forward f k q) (f p q) later) where
  chosen : (a b : Bool) (x o : Option Cell) → x ≡ (if a && false then o else (if b then x else x))
  chosen true true x o = refl
  chosen true false x o = refl
  chosen false true x o = refl
  chosen false false x o = refl

pub rows-away : (forward : ℕ → ℕ → Option Cell) (k : ℕ) (later done : List ℕ) (f : ℕ → ℕ → Option Cell) (p q : ℕ) → p ≢ k → q ≢ k
    → rows_after forward k later done f p q ≡ f p q
rows-away forward k later done f p q first second =
    let a : (p == k) ≡ false = grind (arith, nat_tests) in
    let b : (q == k) ≡ false = grind (arith, nat_tests) in
    rw (a, b) refl

-- one block more
pub rows-more : (forward : ℕ → ℕ → Option Cell) (k : ℕ) (later done block : List ℕ) (f : ℕ → ℕ → Option Cell) → is_in later k ≡ false
    → is_in block k ≡ false → ((q : ℕ) → is_in block q ≡ true → is_in done q ≡ false) → (p q : ℕ)
    → block_after forward k block later (rows_after forward k later done f) p q ≡ rows_after forward k later (done ++ block) f p q
rows-more forward k later done block f away block_away fresh p q =
    let g = rows_after forward k later done f in
    outs ∙ ins
    ∙ chosen (p == k) (is_in block q) (is_in done q) (q == k) (is_in later p) (f p q) (λ x. least_over (out_sum forward f k q) x later)
    (least_over (in_sum forward f k p) (f p q) done) (least_over (in_sum forward f k p) None block) (least_over (in_sum forward f k p) (f p q) (done ++ block))
    (least-joined (in_sum forward f k p) (f p q) done block) (fresh q) row_k
    ∙ ap (λ b. if (p == k) && b then least_over (out_sum forward f k q) (f p q) later
    else (if (q == k) && is_in later p then least_over (in_sum forward f k p) (f p q) (done ++ block) else f p q)) (sym (is_in-append done block q)) where
      row_k : ((p == k) && is_in later p) ≡ false
      row_k =
          elim (p == k) as (λ b. (p == k) ≡ b → (b && is_in later p) ≡ false) [
            | true ↦ λ t. let e : k ≡ p = grind (arith, nat_tests) in subst (λ y. is_in later y ≡ false) e away
            | false ↦ λ t. refl
          ] refl

      outs : block_after forward k block later (rows_after forward k later done f) p q
          ≡ (if (p == k) && is_in block q then least_over (out_sum forward f k q) (rows_after forward k later done f p q) later
          else (if (q == k) && is_in later p then lesser_of (rows_after forward k later done f p q) (least_over (in_sum forward (rows_after forward k later done f) k p) None block)
          else rows_after forward k later done f p q))
      outs =
          let g = rows_after forward k later done f in
          let rest = if (q == k) && is_in later p then lesser_of (g p q) (least_over (in_sum forward g k p) None block) else g p q in
          elim (is_in block q) as (λ b. is_in block q ≡ b
          → (if (p == k) && b then least_over (out_sum forward g k q) (g p q) later else rest)
          ≡ (if (p == k) && b then least_over (out_sum forward f k q) (g p q) later else rest)) [
            | true ↦ λ here.
                let apart = is_in-apart block q k here block_away in
                let same : least_over (out_sum forward g k q) (g p q) later ≡ least_over (out_sum forward f k q) (g p q) later =
                least_over-same (out_sum forward g k q) (out_sum forward f k q) (g p q) later
                (λ m at_m. out-same forward g f k q m (rows-away forward k later done f m q (is_in-apart later m k at_m away) apart)) in
                (λ t. if (p == k) && true then same t else rest)
            | false ↦ λ here. off (p == k) (least_over (out_sum forward g k q) (g p q) later) (least_over (out_sum forward f k q) (g p q) later) rest
          ] refl where
            off : (a : Bool) (x y z : Option Cell) → (if a && false then x else z) ≡ (if a && false then y else z)
            off true x y z = refl
            off false x y z = refl

      ins : (if (p == k) && is_in block q then least_over (out_sum forward f k q) (rows_after forward k later done f p q) later
          else (if (q == k) && is_in later p then lesser_of (rows_after forward k later done f p q) (least_over (in_sum forward (rows_after forward k later done f) k p) None block)
          else rows_after forward k later done f p q))
          ≡ (if (p == k) && is_in block q then least_over (out_sum forward f k q) (rows_after forward k later done f p q) later
          else (if (q == k) && is_in later p then lesser_of (rows_after forward k later done f p q) (least_over (in_sum forward f k p) None block)
          else rows_after forward k later done f p q))
      ins =
          let g = rows_after forward k later done f in
          let first = least_over (out_sum forward f k q) (g p q) later in
          elim (is_in later p) as (λ b. is_in later p ≡ b
          → (if (p == k) && is_in block q then first else (if (q == k) && b then lesser_of (g p q) (least_over (in_sum forward g k p) None block) else g p q))
          ≡ (if (p == k) && is_in block q then first else (if (q == k) && b then lesser_of (g p q) (least_over (in_sum forward f k p) None block) else g p q))) [
            | true ↦ λ here.
                let apart = is_in-apart later p k here away in
                let same : least_over (in_sum forward g k p) None block ≡ least_over (in_sum forward f k p) None block =
                least_over-same (in_sum forward g k p) (in_sum forward f k p) None block
                (λ m at_m. in-same forward g f k p m (rows-away forward k later done f p m apart (is_in-apart block m k at_m block_away))) in
                (λ t. if (p == k) && is_in block q then first else (if (q == k) && true then lesser_of (g p q) (same t) else g p q))
            | false ↦ λ here. ap (λ z. if (p == k) && is_in block q then first else z)
                (off (q == k) (lesser_of (g p q) (least_over (in_sum forward g k p) None block)) (lesser_of (g p q) (least_over (in_sum forward f k p) None block)) (g p q))
          ] refl where
            off : (a : Bool) (x y z : Option Cell) → (if a && false then x else z) ≡ (if a && false then y else z)
            off true x y z = refl
            off false x y z = refl

      chosen : (pk qb qd qk pl : Bool) (x : Option Cell) (O : Option Cell → Option Cell) (I l J : Option Cell) → lesser_of I l ≡ J
          → (qb ≡ true → qd ≡ false) → (pk && pl) ≡ false
          → (if pk && qb then O (if pk && qd then O x else (if qk && pl then I else x))
          else (if qk && pl then lesser_of (if pk && qd then O x else (if qk && pl then I else x)) l
          else (if pk && qd then O x else (if qk && pl then I else x))))
          ≡ (if pk && (qd || qb) then O x else (if qk && pl then J else x))
      chosen true qb qd qk true x O I l J e n r = absurd (cc)
      chosen true true true qk false x O I l J e n r = absurd (let h : true ≡ false = n refl in cc)
      chosen true true false true false x O I l J e n r = refl
      chosen true true false false false x O I l J e n r = refl
      chosen true false true true false x O I l J e n r = refl
      chosen true false true false false x O I l J e n r = refl
      chosen true false false true false x O I l J e n r = refl
      chosen true false false false false x O I l J e n r = refl
      chosen false qb qd true true x O I l J e n r = e
      chosen false qb qd true false x O I l J e n r = refl
      chosen false qb qd false pl x O I l J e n r = refl
