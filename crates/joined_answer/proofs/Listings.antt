-- The private points of reduced parts, listed part by part: ArePointsBelow, no_points, more_points, all_points, all_known.
use Rattle.std.proofs.Common.{◌≡◌, ℕ, ◌+◌, ◌<◌, ◌≤◌, List, [], ◌∷◌, ◌++◌, length, drop, get_or, Some, ap, sym, ◌∙◌, refl, arith, subst}
use Rattle.std.proofs.Common.{inl, inr, append_assoc, append-nil}
use Rattle.std.specs.Prelude.{slice_get}
use Rattle.std.proofs.lemmas.Bool.{cases_lt}
use Rattle.std.proofs.lemmas.List.{drop_more, drop_all, map-append}
use Rattle.std.proofs.lemmas.Option.{slice_get-get_or, get_or_from_slice_get, slice_get_within}
use Rattle.stn_model.specs.declared.ids.PointId.{PointId}
use Rattle.private_elim.specs.ReducedViews.{ReducedView, IsReduced}
use Rattle.joined_answer.specs.Joins.{private_of}
use Rattle.joined_answer.proofs.Orders.{numbers}

-- the private points of the first n parts, which are reduced
pub record ArePointsBelow (reduced : List ReducedView) (n : ℕ) (private : List PointId) : Type 0 where
  pub points : numbers private ++ private_of (drop n reduced) ≡ private_of reduced
  pub known : (a : ℕ) (r : ReducedView) → a < n → slice_get reduced a ≡ Some r → IsReduced r.local r.order r.summary

pub no_points : (reduced : List ReducedView) → ArePointsBelow reduced 0 []
no_points reduced = record { points = refl; known = λ a r low there. absurd (omega arith) }

pub more_points : (reduced : List ReducedView) (n : ℕ) (r : ReducedView) (old new own : List PointId) → n < length reduced → r ≡ get_or reduced n r
    → ArePointsBelow reduced n old → new ≡ old ++ own → numbers own ≡ r.order → IsReduced r.local r.order r.summary
    → ArePointsBelow reduced (n + 1) new
more_points reduced n r old new own low is h grown order known = record {
  points =
      ap (λ ps. numbers ps ++ private_of (drop (n + 1) reduced)) grown
      ∙ ap (λ (xs : List ℕ). xs ++ private_of (drop (n + 1) reduced)) (map-append (λ (p : PointId). p.0) old own)
      ∙ append_assoc (numbers old) (numbers own) (private_of (drop (n + 1) reduced))
      ∙ ap (λ (xs : List ℕ). numbers old ++ (xs ++ private_of (drop (n + 1) reduced))) order ∙ opened
      ∙ ap (λ rs. numbers old ++ private_of rs) (sym here) ∙ h.points;
  known = λ a q less there. (elim (cases_lt a n) [
    | inl before ↦ h.known a q before there
    | inr after ↦
        (let e : a ≡ n = omega arith in
        let at : get_or reduced n q ≡ q = get_or_from_slice_get reduced n q q (ap (slice_get reduced) (sym e) ∙ there) in
        let both : Some r ≡ Some q = sym (slice_get-get_or reduced n r low ∙ ap (λ x. Some x) (sym is)) ∙ ap (slice_get reduced) (sym e) ∙ there in
        let same : r ≡ q = cc in
        subst (λ (x : ReducedView). IsReduced x.local x.order x.summary) same known)
  ]);
} where
  opened : numbers old ++ (r.order ++ private_of (drop (n + 1) reduced)) ≡ numbers old ++ private_of (r ∷ drop (n + 1) reduced)
  opened = refl

  here : drop n reduced ≡ r ∷ drop (n + 1) reduced
  here = drop_more reduced n r low ∙ ap (λ q. q ∷ drop (n + 1) reduced) (sym is)

-- all of them
pub all_points : (reduced : List ReducedView) (n : ℕ) (private : List PointId) → length reduced ≤ n → ArePointsBelow reduced n private
    → numbers private ≡ private_of reduced
all_points reduced n private past h =
    sym (append-nil (numbers private)) ∙ ap (λ rs. numbers private ++ private_of rs) (sym (drop_all n reduced past)) ∙ h.points

pub all_known : (reduced : List ReducedView) (n : ℕ) (private : List PointId) → length reduced ≤ n → ArePointsBelow reduced n private
    → (a : ℕ) (r : ReducedView) → slice_get reduced a ≡ Some r → IsReduced r.local r.order r.summary
all_known reduced n private past h a r there =
    let low = slice_get_within reduced a r there in
    h.known a r (omega arith) there
