use Rattle.std.proofs.Common.{◌≡◌, ◌<◌, ℕ, ◌++◌, true, false, length, sym, ap, subst, ◌∙◌, rules}
use Rattle.std.specs.Prelude.{slice_index_or}
use Rattle.std.proofs.lemmas.List.{append-nil}
use Rattle.private_elim.specs.Locals.{private_at}
use Rattle.private_elim.specs.SummaryRows.{is_pair_at}
use Rattle.dist_rows.specs.Places.{AreRisingPlaces}
use Rattle.stn_walk.specs.Eliminations.{is_in}
use Rattle.stn_walk.proofs.Members.{is_in-at}
use Rattle.private_elim.proofs.summary.RowFacts.{row_private}
use Rattle.private_elim.proofs.summary.RowLists.{pair_met, row_none, row_more, row_all}
use Rattle.private_elim.proofs.summarise.push_row.Goals as goal

-- a private place has no entries
pub returns-then-is_private : goal.returns-then-is_private
returns-then-is_private c =
    let t = c.args.elimination.now in
    let was = c.args.entries.now.items in
    let is : private_at t.local c.args.i ≡ true =
    ap (λ v. private_at v c.args.i) (sym c.local.ensures) ∙ sym c.is_private.ensures ∙ c.if-is_private.true in
    sym (ap (λ xs. was ++ xs) (row_private t c.args.i is (length t.local.points)) ∙ append-nil was)

pub loop-j-init : goal.loop-j-init
loop-j-init c =
    let t = c.args.elimination.now in
    let met = c.in_ok-list_met.ensures in
    let is = c.as_slice-j-items.ensures.value in
    let xs = c.as_slice-j-items.result.now in
    let rising = subst AreRisingPlaces (sym is) met.rising in
    let only : (p : ℕ) → p < length t.local.points → is_in xs p ≡ false → is_pair_at t c.args.i p ≡ false =
    λ p lp away. pair_met t c.list_met.ensures.facts c.args.i p (is_in c.list_met.new.met.items p) lp (met.each p lp)
    (ap (λ ys. is_in ys p) (sym is) ∙ away) in
    row_none t c.args.i xs c.args.entries.now.items rising only

pub push_pair-requires : goal.push_pair-requires
push_pair-requires c =
    let is = c.as_slice-j-items.ensures.value in
    let here = is_in-at c.as_slice-j-items.result.now c.loop-j.j-index (search rules) in
    (c.requires, c.in_ok-list_met.ensures.within _ (ap (λ ys. is_in ys (slice_index_or c.as_slice-j-items.result.now c.loop-j.j-index 0)) (sym is) ∙ here))

-- one place further
pub loop-j-preserved : goal.loop-j-preserved
loop-j-preserved c =
    let t = c.args.elimination.now in
    let met = c.in_ok-list_met.ensures in
    let is = c.as_slice-j-items.ensures.value in
    let xs = c.as_slice-j-items.result.now in
    let rising = subst AreRisingPlaces (sym is) met.rising in
    let only : (p : ℕ) → p < length t.local.points → is_in xs p ≡ false → is_pair_at t c.args.i p ≡ false =
    λ p lp away. pair_met t c.list_met.ensures.facts c.args.i p (is_in c.list_met.new.met.items p) lp (met.each p lp)
    (ap (λ ys. is_in ys p) (sym is) ∙ away) in
    let here = is_in-at xs c.loop-j.j-index (search rules) in
    row_more t c.args.i xs c.args.entries.now.items rising only c.loop-j.j-index c.loop-j.entries.items c.push_pair.new.entries.items (search rules)
    (met.within _ (ap (λ ys. is_in ys (slice_index_or xs c.loop-j.j-index 0)) (sym is) ∙ here)) c.loop-j.invariant c.in_ok-push_pair.ensures

-- all places
pub returns : goal.returns
returns c =
    let t = c.args.elimination.now in
    let met = c.in_ok-list_met.ensures in
    let is = c.as_slice-j-items.ensures.value in
    let xs = c.as_slice-j-items.result.now in
    let rising = subst AreRisingPlaces (sym is) met.rising in
    let only : (p : ℕ) → p < length t.local.points → is_in xs p ≡ false → is_pair_at t c.args.i p ≡ false =
    λ p lp away. pair_met t c.list_met.ensures.facts c.args.i p (is_in c.list_met.new.met.items p) lp (met.each p lp)
    (ap (λ ys. is_in ys p) (sym is) ∙ away) in
    row_all t c.args.i xs c.args.entries.now.items rising only c.loop-j.j-index c.loop-j.entries.items (search rules) (search rules)
    (λ p here. met.within p (ap (λ ys. is_in ys p) (sym is) ∙ here)) c.loop-j.invariant
