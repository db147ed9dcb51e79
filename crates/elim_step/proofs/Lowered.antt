-- What is known while the pairs of the remaining neighbours of k are lowered, block by block: the cells f at the beginning, w so far, and
-- h once a block more is done.
--   rows_before, columns_before     the region so far, by rows and by columns
--   rows-out, rows-back, columns-back      the cells with k are still those of the beginning
--   rows-same, rows-count           so k has the same remaining neighbours, and as many
--   rows-more, columns-more         a block more
--   rows-whole, columns-whole       where the last block ends all neighbours are done
use Rattle.std.proofs.Common.{◌≡◌, ℕ, List, Bool, false, ◌&&◌, ◌||◌, ap, ◌∙◌, arith, length, Option, None, ◌≤◌}
use Rattle.std.specs.Prelude.{nat_lt}
use Rattle.std.proofs.Math.Bool.{and-false}
use Rattle.dist_rows.specs.declared.cell.Cell.{Cell}
use Rattle.stn_walk.specs.Eliminations.{is_in}
use Rattle.elim_step.specs.Eliminates.{is_neighbour, count_below}
use Rattle.elim_step.specs.Blocks.{IsBlock}
use Rattle.elim_step.specs.Regions.{region_after}
use Rattle.elim_step.proofs.Blocks.{neighbour-self, neighbour-same, neighbour-within, block-away, block-back}
use Rattle.elim_step.proofs.Regions.{region-join, region-same, kept-first, kept-second, and-or-left, and-or-right, block-joined, all-before, row-away}
use Rattle.elim_step.proofs.Regions.{column-away}

-- the pairs of the remaining neighbours of k whose first place is before a
abbrev pub rows_before : List Bool → (ℕ → ℕ → Option Cell) → ℕ → ℕ → ℕ → ℕ → Bool
rows_before remain f k a p q = (nat_lt p a && is_neighbour remain f k p) && is_neighbour remain f k q

-- the pairs of these places with the remaining neighbours of k before a
abbrev pub columns_before : List ℕ → List Bool → (ℕ → ℕ → Option Cell) → ℕ → ℕ → ℕ → ℕ → Bool
columns_before places remain f k a p q = is_in places p && (nat_lt q a && is_neighbour remain f k q)

module _ (remain : List Bool) (f w : ℕ → ℕ → Option Cell) (k a : ℕ) (none : f k k ≡ None) where
  pub k_away : is_neighbour remain f k k ≡ false
  k_away = neighbour-self remain f k none

  module _ (cells : (p q : ℕ) → w p q ≡ region_after k (rows_before remain f k a) f p q) where
    rows_in : (p : ℕ) → rows_before remain f k a p k ≡ false
    rows_in p = ap (λ z. (nat_lt p a && is_neighbour remain f k p) && z) k_away ∙ and-false (nat_lt p a && is_neighbour remain f k p)

    rows_from : (q : ℕ) → rows_before remain f k a k q ≡ false
    rows_from q = column-away (nat_lt k a) (is_neighbour remain f k k) (is_neighbour remain f k q) k_away

    pub rows-out : (q : ℕ) → w k q ≡ f k q
    rows-out = kept-second k (rows_before remain f k a) f w cells rows_from

    pub rows-back : (p : ℕ) → w p k ≡ f p k
    rows-back = kept-first k (rows_before remain f k a) f w cells rows_in

    pub rows-same : (p : ℕ) → is_neighbour remain w k p ≡ is_neighbour remain f k p
    rows-same = neighbour-same remain f w k rows-out rows-back

    pub rows-count : (n : ℕ) → count_below (is_neighbour remain w k) n ≡ count_below (is_neighbour remain f k) n
    rows-count n = (λ t. count_below (λ p. rows-same p t) n)

    pub rows-more : (h : ℕ → ℕ → Option Cell) (e : ℕ) (places : List ℕ) → IsBlock (is_neighbour remain f k) a e places
        → ((p q : ℕ) → h p q ≡ region_after k (λ i j. is_in places i && is_neighbour remain w k j) w p q)
        → (p q : ℕ) → h p q ≡ region_after k (rows_before remain f k e) f p q
    rows-more h e places block after =
        region-join k (rows_before remain f k a) (λ i j. is_in places i && is_neighbour remain w k j) (rows_before remain f k e) f w h cells after
        rows_in rows_from joined
      where
        joined : (p q : ℕ) → (rows_before remain f k a p q || (is_in places p && is_neighbour remain w k q)) ≡ rows_before remain f k e p q
        joined p q =
            ap (λ z. rows_before remain f k a p q || (is_in places p && z)) (rows-same q)
            ∙ and-or-left (nat_lt p a && is_neighbour remain f k p) (is_neighbour remain f k q) (is_in places p)
            ∙ ap (λ z. z && is_neighbour remain f k q) (block-joined (is_neighbour remain f k) a e places block p)

  module _ (places : List ℕ) (fresh : is_in places k ≡ false)
      (cells : (p q : ℕ) → w p q ≡ region_after k (columns_before places remain f k a) f p q) where
    columns_in : (p : ℕ) → columns_before places remain f k a p k ≡ false
    columns_in p = row-away (is_in places p) (nat_lt k a) (is_neighbour remain f k k) k_away

    columns_from : (q : ℕ) → columns_before places remain f k a k q ≡ false
    columns_from q = ap (λ z. z && (nat_lt q a && is_neighbour remain f k q)) fresh

    pub columns-out : (q : ℕ) → w k q ≡ f k q
    columns-out = kept-second k (columns_before places remain f k a) f w cells columns_from

    pub columns-back : (p : ℕ) → w p k ≡ f p k
    columns-back = kept-first k (columns_before places remain f k a) f w cells columns_in

    pub columns-more : (h : ℕ → ℕ → Option Cell) (e : ℕ) (others : List ℕ) → IsBlock (is_neighbour remain f k) a e others
        → ((p q : ℕ) → h p q ≡ region_after k (λ i j. is_in places i && is_in others j) w p q)
        → (p q : ℕ) → h p q ≡ region_after k (columns_before places remain f k e) f p q
    columns-more h e others block after =
        region-join k (columns_before places remain f k a) (λ i j. is_in places i && is_in others j) (columns_before places remain f k e) f w h cells after
        columns_in columns_from joined
      where
        joined : (p q : ℕ) → (columns_before places remain f k a p q || (is_in places p && is_in others q)) ≡ columns_before places remain f k e p q
        joined p q =
            and-or-right (is_in places p) (nat_lt q a && is_neighbour remain f k q) (is_in others q)
            ∙ ap (λ z. is_in places p && z) (block-joined (is_neighbour remain f k) a e others block q)

  -- a block after these cells is one of the neighbours of the beginning
  pub block-first : (b e : ℕ) (ns : List ℕ) → ((q : ℕ) → w k q ≡ f k q) → ((p : ℕ) → w p k ≡ f p k)
      → IsBlock (is_neighbour remain w k) b e ns → IsBlock (is_neighbour remain f k) b e ns
  block-first b e ns out back = block-back remain f w k b e ns out back

  pub block-without : (b e : ℕ) (ns : List ℕ) → IsBlock (is_neighbour remain f k) b e ns → is_in ns k ≡ false
  block-without b e ns block = block-away (is_neighbour remain f k) b e ns block k k_away

module _ (remain : List Bool) (f h : ℕ → ℕ → Option Cell) (k e : ℕ) (end : length remain ≤ e) where
  pub rows-whole : ((p q : ℕ) → h p q ≡ region_after k (rows_before remain f k e) f p q)
      → (p q : ℕ) → h p q ≡ region_after k (λ i j. is_neighbour remain f k i && is_neighbour remain f k j) f p q
  rows-whole cells = region-same k (rows_before remain f k e) (λ i j. is_neighbour remain f k i && is_neighbour remain f k j) f h cells
      (λ p q. ap (λ z. z && is_neighbour remain f k q)
      (all-before e p (is_neighbour remain f k p) (λ here. (let low = neighbour-within remain f k p here in omega arith))))

  pub columns-whole : (places : List ℕ) → ((p q : ℕ) → h p q ≡ region_after k (columns_before places remain f k e) f p q)
      → (p q : ℕ) → h p q ≡ region_after k (λ i j. is_in places i && is_neighbour remain f k j) f p q
  columns-whole places cells = region-same k (columns_before places remain f k e) (λ i j. is_in places i && is_neighbour remain f k j) f h cells
      (λ p q. ap (λ z. is_in places p && z)
      (all-before e q (is_neighbour remain f k q) (λ here. (let low = neighbour-within remain f k q here in omega arith))))
