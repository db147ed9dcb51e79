-- The distances of a section: the first row, and one distance more by an arc.
use Rattle.std.proofs.Common.{◌≡◌, ◌≢◌, ℕ, ◌<◌, ◌≤◌, ℤ, pos, ◌+ℤ◌, [], ◌∷◌, ◌++◌, length, get_or, set, replicate, Option, Some, None, refl, sym, ap, subst, ◌∙◌, arith, ⊎_elim, length-set}
use Rattle.std.proofs.lemmas.Bool.{cases_lt, cases_eq}
use Rattle.std.proofs.lemmas.Int.{ints}
use Rattle.std.proofs.lemmas.List.{get_or-set_same, get_or-set_other, get_or_past, get_or-replicate, length-replicate}
use Rattle.stn_model.specs.Arcs.{from_at, to_at, bound_at}
use Rattle.stn_model.specs.Net.{Net, arcs_of, point_count}
use Rattle.stn_model.specs.Walks.{IsWalk}
use Rattle.stn_model.proofs.WalkLemmas.{IsWalk-append, weight-append}
use Rattle.cert_check.specs.Rows.{Row, distance_to, first_row}
use Rattle.cert_check.proofs.Attained.{HasWalk, IsRow}

some_none : (d : ℤ) → ◌≡◌ {A = Option ℤ} None (Some d) → ⊥
some_none d e = cc

same_some : (d e : ℤ) → ◌≡◌ {A = Option ℤ} (Some d) (Some e) → d ≡ e
same_some d e h = cc

none_yet : (n p : ℕ) → get_or (replicate {A = Option ℤ} n None) p None ≡ None
none_yet n p =
    let len = length-replicate {A = Option ℤ} n None in
    ⊎_elim
    (λ (lt : p < n). get_or-replicate {A = Option ℤ} n p None None lt)
    (λ (past : n ≤ p). get_or_past (replicate {A = Option ℤ} n None) p None (omega arith))
    (cases_lt p n)

module _ (net : Net) (i : ℕ) (lt : i < point_count net) where
  start : length (replicate {A = Option ℤ} (point_count net) None) ≡ point_count net
  start = length-replicate {A = Option ℤ} (point_count net) None

  here : distance_to (first_row (point_count net) i) i ≡ Some (pos 0)
  here = let len = start in get_or-set_same (replicate {A = Option ℤ} (point_count net) None) i (Some (pos 0)) None (omega arith)

  first_walks : (p : ℕ) (d : ℤ) → distance_to (first_row (point_count net) i) p ≡ Some d → HasWalk (arcs_of net) i p d
  first_walks p d is =
      ⊎_elim
      (λ (at : p ≡ i).
      let there : distance_to (first_row (point_count net) i) p ≡ Some (pos 0) = ap (distance_to (first_row (point_count net) i)) at ∙ here in
      ([], sym at, same_some (pos 0) d (sym there ∙ is)))
      (λ (off : p ≢ i).
      absurd (some_none d (sym (get_or-set_other (replicate {A = Option ℤ} (point_count net) None) i p (Some (pos 0)) None off ∙ none_yet (point_count net) p) ∙ is)))
      (cases_eq p i)

  pub first_is_row : IsRow net i (first_row (point_count net) i)
  first_is_row = record {
    within = lt;
    one_each = length-set (replicate {A = Option ℤ} (point_count net) None) i (Some (pos 0)) ∙ start;
    own = here;
    walks = first_walks;
  }

-- an arc leads from a point with a distance to p, and gives it the distance d
pub record GivesDistance (net : Net) (row : Row) (p : ℕ) (d : ℤ) : Type 0 where
  pub arc : ℕ
  pub within : arc < length (arcs_of net)
  pub ends : to_at (arcs_of net) arc ≡ p
  pub before : ℤ
  pub known : distance_to row (from_at (arcs_of net) arc) ≡ Some before
  pub sum : d ≡ before +ℤ bound_at (arcs_of net) arc

module _ (net : Net) (i : ℕ) (row : Row) (h : IsRow net i row) (p : ℕ) (d : ℤ) (lt : p < point_count net) (fresh : distance_to row p ≡ None) (g : GivesDistance net row p d) where
  -- another point's distance stays
  other_stays : (q : ℕ) → q ≢ p → distance_to (set row p (Some d)) q ≡ distance_to row q
  other_stays q off = get_or-set_other row p q (Some d) None off

  pub distance_given : distance_to (set row p (Some d)) p ≡ Some d
  distance_given = let len = h.one_each in get_or-set_same row p (Some d) None (omega arith)

  pub distance_kept : (q : ℕ) (c : ℤ) → distance_to row q ≡ Some c → distance_to (set row p (Some d)) q ≡ Some c
  distance_kept q c is = other_stays q (λ e. some_none c (sym fresh ∙ sym (ap (distance_to row) e) ∙ is)) ∙ is

  longer : HasWalk (arcs_of net) i p d
  longer =
      let w = h.walks (from_at (arcs_of net) g.arc) g.before g.known in
      let last : IsWalk (arcs_of net) (from_at (arcs_of net) g.arc) p (g.arc ∷ []) = (g.within, refl, g.ends) in
      let sum = g.sum in
      let front = w.2 in
      let adds = weight-append (arcs_of net) w.0 (g.arc ∷ []) in (
        w.0 ++ g.arc ∷ [],
        IsWalk-append (arcs_of net) i (from_at (arcs_of net) g.arc) p w.0 (g.arc ∷ []) w.1 last,
        omega (arith, ints),
      )

  given_walks : (q : ℕ) (c : ℤ) → distance_to (set row p (Some d)) q ≡ Some c → HasWalk (arcs_of net) i q c
  given_walks q c is =
      ⊎_elim
      (λ (at : q ≡ p).
      let there : distance_to (set row p (Some d)) q ≡ Some d = ap (distance_to (set row p (Some d))) at ∙ distance_given in
      let amount : d ≡ c = same_some d c (sym there ∙ is) in
      subst (λ (e : ℤ). HasWalk (arcs_of net) i q e) amount (subst (λ (r : ℕ). HasWalk (arcs_of net) i r d) (sym at) longer))
      (λ (off : q ≢ p). h.walks q c (sym (other_stays q off) ∙ is))
      (cases_eq q p)

  pub given_is_row : IsRow net i (set row p (Some d))
  given_is_row = record {
    within = h.within;
    one_each = length-set row p (Some d) ∙ h.one_each;
    own = distance_kept i (pos 0) h.own;
    walks = given_walks;
  }
