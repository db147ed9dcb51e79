-- Paths read off from their ends.
use Rattle.std.proofs.Common.{◌≡◌, ◌≢◌, ℕ, zero, suc, ◌*◌, ◌<◌, ◌≤◌, List, [], ◌∷◌, ◌++◌, length, sym, ap, ◌∙◌, refl, arith, inl, inr, subst}
use Rattle.std.specs.Prelude.{pos, ◌-ℤ◌, reverse}
use Rattle.std.proofs.lemmas.Bool.{cases_eq}
use Rattle.std.proofs.lemmas.Int.{ints}
use Rattle.std.proofs.lemmas.List.{reverse-append, length_push, map_push, map-append}
use Rattle.stn_model.specs.declared.ids.PointId.{PointId}
use Rattle.tri_solve.specs.Edges.{ids}
use Rattle.tri_solve.specs.declared.edge.Edge.{Edge}
use Rattle.tri_solve.specs.Trees.{Tree, dist_of, via_of, IsTree, AreEdges, StartsAt, EndsAt, GoesAlong, HasPath, IsBack}

-- a walk back from p is at a point: the points passed, the last one first, go on from there to p
module _ (t : Tree) (p : ℕ) where
  pub back_first : IsTree t → p < length t.dists → IsBack t p p []
  back_first h lt = record {
    tree = h;
    within = lt;
    ends = refl;
    goes = λ edges e. omega (arith, ints);
    low = (let s = h.shallow p lt in omega arith);
    alone = λ e. refl;
  }

  module _ (at : ℕ) (back : List ℕ) (h : IsBack t p at back) where
    pub back_more : at ≢ t.source → IsBack t p (via_of t at) (back ++ at ∷ [])
    back_more ne = record {
      tree = h.tree;
      within = h.tree.vias_in at h.within;
      ends = subst (λ (s : List ℕ). EndsAt p (via_of t at ∷ s)) turn h.ends;
      goes = λ edges e. subst (λ (s : List ℕ). GoesAlong edges (via_of t at ∷ s) (dist_of t p -ℤ dist_of t (via_of t at))) turn (
        dist_of t at -ℤ dist_of t (via_of t at),
        e at h.within ne,
        subst (GoesAlong edges (at ∷ reverse back)) (omega (arith, ints)) (h.goes edges e),
      );
      low = (let f = h.tree.falls at h.within ne in let l = h.low in let n = length_push back at in omega arith);
      alone = λ e. absurd (ne (only e));
    } where
      turn : at ∷ reverse back ≡ reverse (back ++ at ∷ [])
      turn = sym (reverse-append back (at ∷ []))

      only : p ≡ t.source → at ≡ t.source
      only e = subst (λ (s : List ℕ). EndsAt p (at ∷ reverse s)) (h.alone e) h.ends ∙ e

    pub back_falls : at ≢ t.source → length back < 2 * length t.dists
    back_falls ne = let f = h.tree.falls at h.within ne in let l = h.low in omega arith

    -- at the source the path is whole
    module _ (here : at ≡ t.source) where
      turned_is : reverse (back ++ at ∷ []) ≡ at ∷ reverse back
      turned_is = reverse-append back (at ∷ [])

      pub back_starts : StartsAt t.source (reverse (back ++ at ∷ []))
      back_starts = subst (StartsAt t.source) (sym turned_is) here

      pub back_ends : EndsAt p (reverse (back ++ at ∷ []))
      back_ends = subst (EndsAt p) (sym turned_is) h.ends

      pub back_goes : (edges : List Edge) → AreEdges edges t → GoesAlong edges (reverse (back ++ at ∷ [])) (dist_of t p)
      back_goes edges e =
          let zero : dist_of t at ≡ pos 0 = ap (dist_of t) here ∙ h.tree.zero in
          subst (λ (s : List ℕ). GoesAlong edges s (dist_of t p)) (sym turned_is) (subst (GoesAlong edges (at ∷ reverse back)) (omega (arith, ints)) (h.goes edges e))

      pub back_alone : p ≡ t.source → reverse (back ++ at ∷ []) ≡ p ∷ []
      back_alone e =
          ap (λ (s : List ℕ). reverse (s ++ at ∷ [])) (h.alone e) ∙ ap (λ (q : ℕ). q ∷ []) (here ∙ sym e)

  whole : (edges : List Edge) → AreEdges edges t → (at : ℕ) (back : List ℕ) (h : IsBack t p at back) → at ≡ t.source → HasPath edges t.source p (dist_of t p)
  whole edges e at back h here = record {
    path = reverse (back ++ at ∷ []);
    starts = back_starts at back h here;
    ends = back_ends at back h here;
    goes = back_goes at back h here edges e;
  }

  -- so each point has a path
  module _ (edges : List Edge) (e : AreEdges edges t) (tree : IsTree t) where
    path_from : (fuel at : ℕ) (back : List ℕ) → IsBack t p at back → tree.depth at ≤ fuel → HasPath edges t.source p (dist_of t p)
    path_from zero at back h deep = elim (cases_eq at t.source) [
      | inl here ↦ whole edges e at back h here
      | inr ne ↦ (let f = tree.falls at h.within ne in absurd (omega arith))
    ]
    path_from (suc n) at back h deep = elim (cases_eq at t.source) [
      | inl here ↦ whole edges e at back h here
      | inr ne ↦ (let f = tree.falls at h.within ne in path_from n (via_of t at) (back ++ at ∷ []) (back_more at back h ne) (omega arith))
    ]

    pub path_there : p < length t.dists → HasPath edges t.source p (dist_of t p)
    path_there lt = path_from (tree.depth p) p [] (back_first tree lt) (omega arith)

map-reverse : (ps : List PointId) → ids (reverse ps) ≡ reverse (ids ps)
map-reverse [] = refl
map-reverse (p ∷ ps) =
    ap ids (reverse-append (p ∷ []) ps) ∙ map-append (λ (q : PointId). q.0) (reverse ps) (p ∷ []) ∙ ap (λ (s : List ℕ). s ++ p.0 ∷ []) (map-reverse ps)
    ∙ sym (reverse-append (p.0 ∷ []) (ids ps))

-- the points as they are pushed and turned round
pub ids_pushed : (ps new : List PointId) (p : PointId) → new ≡ ps ++ p ∷ [] → ids new ≡ ids ps ++ p.0 ∷ []
ids_pushed ps new p is = ap ids is ∙ map_push (λ (q : PointId). q.0) ps p

pub ids_turned : (ps new turned : List PointId) (p : PointId) → new ≡ ps ++ p ∷ [] → turned ≡ reverse new → ids turned ≡ reverse (ids ps ++ p.0 ∷ [])
ids_turned ps new turned p is back = ap ids back ∙ map-reverse new ∙ ap reverse (ids_pushed ps new p is)
