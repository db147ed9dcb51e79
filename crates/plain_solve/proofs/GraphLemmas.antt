-- The arcs of a network as a graph.
use Rattle.std.proofs.Common.{◌≡◌, ℕ, ◌+◌, ◌<◌, ℤ, List, [], ◌∷◌, ◌++◌, take, map, length, get_or, refl, sym, ap, subst, ◌∙◌, arith}
use Rattle.std.specs.List.{All}
use Rattle.std.proofs.lemmas.Int.{ints}
use Rattle.std.proofs.lemmas.List.{get_or_default, length-map, map_more}
use Rattle.std.proofs.lemmas.List.Elements.{All-map}
use Rattle.std.proofs.Math.ListN.{get_or-map}
use Rattle.stn_model.specs.declared.ids.Constraint.{Constraint}
use Rattle.stn_model.specs.Net.{Net, arcs_of, point_count}
use Rattle.stn_model.specs.Valid.{IsNetwork, IsArcWithin}
use Rattle.stn_model.specs.Arcs.{arc_at, no_arc}
use Rattle.stn_model.proofs.ArcLemmas.{arcs_within}
use Rattle.stn_model.proofs.NetLemmas.{length-arcs_of}
use Rattle.plain_solve.specs.declared.graph.Graph.{Graph}
use Rattle.plain_solve.specs.Graphs.{IsGraph, IsTurned, exchanged}

module _ (net : Net) (valid : IsNetwork net) (g : Graph) (points : g.points ≡ point_count net) (root_in : g.root < g.points) (top : g.top ≡ net.horizon) where
  graph_of : length g.arcs.items ≡ length (arcs_of net) → All (IsArcWithin g.points) g.arcs.items → IsGraph g
  graph_of many within =
      let few_points = valid.few_points in
      let few_arcs = valid.few_arcs in
      let low = valid.horizon_low in
      let high = valid.horizon_high in
      record {
        root_in = root_in;
        few_points = omega arith;
        few_arcs = omega (arith, length-arcs_of net);
        arcs = within;
        top_low = omega (arith, ints);
        top_high = omega (arith, ints);
      }

  all_within : All (IsArcWithin g.points) (arcs_of net)
  all_within = subst (λ (n : ℕ). All (IsArcWithin n) (arcs_of net)) (sym points)
      (λ k d lt. subst (IsArcWithin (point_count net)) (get_or_default (arcs_of net) k no_arc d lt) (arcs_within net valid k lt))

  pub onward_graph : g.arcs.items ≡ arcs_of net → IsGraph g
  onward_graph arcs = graph_of (ap (λ xs. length xs) arcs) (subst (λ (xs : List Constraint). All (IsArcWithin g.points) xs) (sym arcs) all_within)

  exchanged_within : (a : Constraint) → IsArcWithin g.points a → IsArcWithin g.points (exchanged a)
  exchanged_within a w = record { starts = w.ends; ends = w.starts; different = λ e. w.different (sym e); low = w.low; high = w.high }

  pub turned_graph : g.arcs.items ≡ map exchanged (arcs_of net) → IsGraph g
  turned_graph arcs = graph_of (ap (λ xs. length xs) arcs ∙ length-map (arcs_of net) exchanged)
      (subst (λ (xs : List Constraint). All (IsArcWithin g.points) xs) (sym arcs)
      (All-map (IsArcWithin g.points) exchanged (arcs_of net) (λ k d lt. exchanged_within (get_or (arcs_of net) k d) (all_within k d lt))))

-- an arc of a graph of turned arcs
pub arc_turned : (net : Net) (source : ℕ) (g : Graph) → IsTurned net source g → (n : ℕ) → arc_at g.arcs.items n ≡ exchanged (arc_at (arcs_of net) n)
arc_turned net source g o n = ap (λ xs. arc_at xs n) o.arcs ∙ get_or-map exchanged (arcs_of net) n no_arc

-- one more arc turned round
pub turned_more : (arcs old : List Constraint) (n : ℕ) (a x : Constraint) → n < length arcs → old ≡ map exchanged (take n arcs) → a ≡ arc_at arcs n → x ≡ exchanged a
    → old ++ x ∷ [] ≡ map exchanged (take (n + 1) arcs)
turned_more arcs old n a x lt e is turned_is =
    ap (λ (xs : List Constraint). xs ++ x ∷ []) e ∙ ap (λ (y : Constraint). map exchanged (take n arcs) ++ y ∷ []) (turned_is ∙ ap exchanged is) ∙ sym (map_more exchanged arcs n no_arc lt)
