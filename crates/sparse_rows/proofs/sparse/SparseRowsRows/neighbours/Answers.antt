use Rattle.std.proofs.Common.{arith, refl, sym, ap, subst, ◌≡◌, ◌≤◌, ◌∙◌, List, ℕ, length, take}
use Rattle.dist_rows.specs.Cells.{are_neighbours}
use Rattle.dist_rows.specs.Places.{IsListing}
use Rattle.sparse_rows.specs.declared.entry.Entry.{Entry}
use Rattle.sparse_rows.specs.Entries.{place_at, IsSought}
use Rattle.sparse_rows.specs.SparseMaps.{row_of, cells_of}
use Rattle.sparse_rows.proofs.RowEntries.{sought_here}
use Rattle.sparse_rows.proofs.RowSets.{listing_start, listing_next, sought_end, place_within}
use Rattle.sparse_rows.proofs.sparse.SparseRowsRows.neighbours.Goals as goal

pub loop-at-init : goal.loop-at-init
loop-at-init c =
    let rows = c.args.self.now.rows.items in
    let start : IsSought (row_of rows c.args.i) c.args.from c.seek-at.result = rw (← c.row-row.ensures.value, ← c.from.ensures) c.seek-at.ensures in
    record { len = refl; count = omega arith; listed = listing_start _ rows c.args.i c.args.from c.seek-at.result c.args.self.now.kept start }

pub returns-then-count-list-clause-listed : goal.returns-then-count-list-clause-listed
returns-then-count-list-clause-listed c =
    let rows = c.args.self.now.rows.items in
    let len : length c.row-row.result.now ≡ length (row_of rows c.args.i) = ap (λ (es : List Entry). length es) c.row-row.ensures.value in
    let there : c.place-n.result ≡ place_at (row_of rows c.args.i) c.loop-at.at = c.place-n.ensures
    ∙ ap (λ (es : List Entry). place_at es c.loop-at.at) c.row-row.ensures.value in
    c.loop-at.invariant.listed _ (subst (λ (n : ℕ). IsSought (row_of rows c.args.i) n c.loop-at.at) (sym there)
    (sought_here _ _ (c.args.self.now.kept.rising c.args.i) (omega (arith, len))))

pub returns-then-count-list-clause-within : goal.returns-then-count-list-clause-within
returns-then-count-list-clause-within c =
    let rows = c.args.self.now.rows.items in
    let len : length c.row-row.result.now ≡ length (row_of rows c.args.i) = ap (λ (es : List Entry). length es) c.row-row.ensures.value in
    let there : c.place-n.result ≡ place_at (row_of rows c.args.i) c.loop-at.at = c.place-n.ensures
    ∙ ap (λ (es : List Entry). place_at es c.loop-at.at) c.row-row.ensures.value in
    let low = place_within _ rows c.args.i c.loop-at.at c.args.self.now.kept (omega (arith, len)) in
    omega (arith, there, low)

pub touches-requires : goal.touches-requires
touches-requires c =
    let rows = c.args.self.now.rows.items in
    let len : length c.row-row.result.now ≡ length (row_of rows c.args.i) = ap (λ (es : List Entry). length es) c.row-row.ensures.value in
    record { within = c.requires; entry = omega (arith, len) }

pub loop-at-preserved : goal.loop-at-preserved
loop-at-preserved c =
    let rows = c.args.self.now.rows.items in
    let len : length c.row-row.result.now ≡ length (row_of rows c.args.i) = ap (λ (es : List Entry). length es) c.row-row.ensures.value in
    let there : c.place-n.result ≡ place_at (row_of rows c.args.i) c.loop-at.at = c.place-n.ensures
    ∙ ap (λ (es : List Entry). place_at es c.loop-at.at) c.row-row.ensures.value in
    let start : IsSought (row_of rows c.args.i) c.args.from c.seek-at.result = rw (← c.row-row.ensures.value, ← c.from.ensures) c.seek-at.ensures in
    let low : c.seek-at.result ≤ c.loop-at.at = omega arith in
    record {
      len = c.put_where-count.ensures.len ∙ c.loop-at.invariant.len;
      count = c.put_where-count.ensures.count;
      listed = λ b sought. subst (λ (xs : List ℕ). IsListing (are_neighbours (cells_of rows) c.args.i) c.args.from b xs) (sym c.put_where-count.ensures.places)
          (listing_next _ rows c.args.i c.args.from c.seek-at.result c.loop-at.at c.place-n.result b c.touches.result (take c.loop-at.count c.loop-at.list)
          c.args.self.now.kept start low
          (omega (arith, len)) there (c.touches.ensures ∙ ap (are_neighbours (cells_of rows) c.args.i) (sym there)) c.loop-at.invariant.listed sought);
    }

pub returns-clause-listed : goal.returns-clause-listed
returns-clause-listed c =
    let rows = c.args.self.now.rows.items in
    let len : length c.row-row.result.now ≡ length (row_of rows c.args.i) = ap (λ (es : List Entry). length es) c.row-row.ensures.value in
    let within = c.seek-at.ensures.within in
    let end : c.loop-at.at ≡ length (row_of rows c.args.i) = omega (arith, len, within) in
    c.loop-at.invariant.listed _ (sought_end _ rows c.args.i c.loop-at.at c.args.self.now.kept end)
