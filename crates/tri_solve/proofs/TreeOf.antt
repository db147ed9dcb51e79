-- The tree of the labels of two passes.
use Rattle.std.proofs.Common.{◌≡◌, ◌≢◌, ℕ, ◌<◌, List, length, map, get_or, Option, Some, None, sym, ap, ◌∙◌, arith, subst}
use Rattle.std.specs.Prelude.{ℤ, pos, ◌-ℤ◌, Contains}
use Rattle.std.specs.Option.{unwrap_or}
use Rattle.std.proofs.Math.ListN.{get_or-map}
use Rattle.std.proofs.lemmas.Int.{ints}
use Rattle.std.proofs.lemmas.List.{get_or_default}
use Rattle.stn_model.specs.declared.ids.PointId.{PointId}
use Rattle.stn_model.specs.Limits.{greatest_walk}
use Rattle.stn_model.specs.Net.{Net, point_count, arcs_of}
use Rattle.stn_model.specs.Schedules.{IsLeastBound}
use Rattle.stn_model.specs.Valid.{IsNetwork}
use Rattle.stn_model.proofs.NetLemmas.{length-map}
use Rattle.stn_walk.proofs.Distances.{network_ends}
use Rattle.tri_solve.specs.declared.label.Label.{Label}
use Rattle.tri_solve.specs.Edges.{Bounds, AreBounds, AreBoundsOf, is_edge, bound_between}
use Rattle.tri_solve.specs.Labels.{number_of, label_at, number_at, AreLabels}
use Rattle.tri_solve.specs.Passes.{distance}
use Rattle.tri_solve.specs.Trees.{Tree, dist_of, via_of, IsTree, AreEdges, AreLeastFrom}
use Rattle.tri_solve.specs.Turns.{ArePassed}
use Rattle.tri_solve.proofs.Light.{distance_light}
use Rattle.tri_solve.proofs.Neighbours.{two_passes}
use Rattle.tri_solve.proofs.NetworkBounds.{tests, each_least, arcs_apart, listed, edge_to_zero, least_weights, is_chordal}
use Rattle.tri_solve.proofs.Numbers.{some_is}
use Rattle.tri_solve.proofs.PassTurns.{bounds_light}
use Rattle.tri_solve.proofs.Rooted.{second_number, second_many, via_or, depth, Step, step, via_listed, depth_shallow}
use Rattle.tri_solve.proofs.TwoPasses.{source_zero}

-- labels that are all there, as the tree sees them
module _ (second : List (Option Label)) (whole : List Label) (all : AreLabels second whole) (i : ℕ) where
  abbrev pub tree : Tree
  tree = record { source = i; dists = map (λ l. l.number) whole; vias = map (λ l. l.via.0) whole }

  abbrev zero_label : Label
  zero_label = record { number = pos 0; via = record { 0 = 0 } }

  pub many_whole : length second ≡ length whole
  many_whole = ap length all ∙ length-map (λ (l : Label). Some l) whole

  pub many_dists : length (map (λ l. l.number) whole) ≡ length second
  many_dists = length-map (λ (l : Label). l.number) whole ∙ sym many_whole

  label_whole : (p : ℕ) → p < length second → label_at second p ≡ Some (get_or whole p zero_label)
  label_whole p lt =
      let m = many_whole in
      let n = length-map (λ (l : Label). Some l) whole in
      ap (λ (xs : List (Option Label)). label_at xs p) all ∙ get_or_default (map (λ (l : Label). Some l) whole) p None (Some zero_label) (omega arith)
      ∙ get_or-map (λ (l : Label). Some l) whole p zero_label

  pub dist_is : (p : ℕ) (d : ℤ) → p < length second → number_at second p ≡ Some d → dist_of tree p ≡ d
  dist_is p d lt is =
      get_or-map (λ (l : Label). l.number) whole p zero_label ∙ some_is (get_or whole p zero_label).number d (sym (ap number_of (label_whole p lt)) ∙ is)

  pub via_is : (p : ℕ) (l : Label) → p < length second → label_at second p ≡ Some l → via_of tree p ≡ l.via.0
  via_is p l lt is =
      get_or-map (λ (k : Label). k.via.0) whole p zero_label ∙ ap (via_or (record { 0 = 0 })) (sym (label_whole p lt) ∙ is)

  pub number_there : (p : ℕ) → p < length second → number_at second p ≡ Some (dist_of tree p)
  number_there p lt =
      ap number_of (label_whole p lt) ∙ ap (λ (x : ℤ). Some x) (sym (get_or-map (λ (l : Label). l.number) whole p zero_label))

module _ (b : Bounds) (are : AreBounds b) (i : PointId) (lt : i.0 < length b.order) (second : List (Option Label)) (passed : ArePassed b i second)
    (net : Net) (valid : IsNetwork net) (of : AreBoundsOf net b)
    (whole : List Label) (all : AreLabels second whole) where
  abbrev t : Tree
  t = tree second whole all i.0

  many : length t.dists ≡ length b.order
  many = many_dists second whole all i.0 ∙ second_many b are i lt passed.first passed.up second passed.down

  in_second : (p : ℕ) → p < length t.dists → p < length second
  in_second p below = let m = many_dists second whole all i.0 in omega arith

  in_order : (p : ℕ) → p < length t.dists → Contains b.order p
  in_order p below = let m = many in (are.points p).0 (omega arith)

  distance_is : (p : ℕ) → p < length t.dists → distance (is_edge b.edges) (bound_between b.edges) b.order i.0 p ≡ Some (dist_of t p)
  distance_is p below =
      sym (second_number b are i lt passed.first passed.up second passed.down p (in_order p below)) ∙ number_there second whole all i.0 p (in_second p below)

  abbrev StepAt : ℕ → Type 0
  StepAt p = Step b are i lt passed.first passed.up second passed.down net valid of p

  step_at : (p : ℕ) → p < length t.dists → p ≢ i.0 → StepAt p
  step_at p below ne = step b are i lt passed.first passed.up second passed.down net valid of p (in_order p below) ne

  below_second : (p : ℕ) → Contains b.order p → p < length second
  below_second p c = let m = second_many b are i lt passed.first passed.up second passed.down in let l = (are.points p).1 c in omega arith

  via_below : (p : ℕ) → p < length t.dists → via_of t p < length t.dists
  via_below p below =
      let l = get_or whole p (record { number = pos 0; via = record { 0 = 0 } }) in
      let is = label_whole second whole all i.0 p (in_second p below) in
      let c = via_listed b are i lt passed.first passed.up second passed.down net valid of p l (in_order p below) is in
      let m = many in
      let there = (are.points l.via.0).1 c in
      let e = via_is second whole all i.0 p l (in_second p below) is in
      omega arith

  zero_at : dist_of t i.0 ≡ pos 0
  zero_at =
      let below : i.0 < length t.dists = (let m = many in omega arith) in
      some_is (dist_of t i.0) (pos 0) (sym (distance_is i.0 below)
      ∙ source_zero (arcs_of net) (is_edge b.edges) (bound_between b.edges) (least_weights net valid b are of) b.order (is_chordal net valid b are of) i.0 ((are.points i.0).0 lt))

  pub is_tree : IsTree (tree second whole all i.0)
  is_tree = record {
    source_in = (let m = many in omega arith);
    zero = zero_at;
    many = length-map (λ (l : Label). l.via.0) whole ∙ sym (length-map (λ (l : Label). l.number) whole);
    vias_in = via_below;
    depth = depth b are i lt passed.first passed.up second passed.down net valid of;
    falls = λ p below ne.
        let s = step_at p below ne in
        let e = via_is second whole all i.0 p s.label (in_second p below) s.is in
        subst (λ (q : ℕ). depth b are i lt passed.first passed.up second passed.down net valid of q < depth b are i lt passed.first passed.up second passed.down net valid of p) (sym e) s.falls;
    shallow = λ p below.
        let m = many in
        let d = depth_shallow b are i lt passed.first passed.up second passed.down net valid of p (in_order p below) in
        omega arith;
    range = λ p below.
        let l = distance_light (is_edge b.edges) (bound_between b.edges) greatest_walk (bounds_light b are) b.order i.0 p (dist_of t p) (distance_is p below) in
        let few = valid.few_points in
        let points = of.points in
        let low = l.0 in
        let high = l.1 in
        (omega (arith, ints), omega (arith, ints));
  }

  pub are_edges : AreEdges b.edges (tree second whole all i.0)
  are_edges p below ne =
      let s = step_at p below ne in
      let dist : dist_of t p ≡ s.label.number = dist_is second whole all i.0 p s.label.number (in_second p below) (ap number_of s.is) in
      let via : via_of t p ≡ s.label.via.0 = via_is second whole all i.0 p s.label (in_second p below) s.is in
      let from : dist_of t (via_of t p) ≡ s.before =
      ap (dist_of t) via ∙ dist_is second whole all i.0 s.label.via.0 s.before (below_second s.label.via.0 s.via_in) s.known in
      subst (λ (q : ℕ). Contains b.edges (record { from = record { 0 = q }; to = record { 0 = p }; bound = dist_of t p -ℤ dist_of t (via_of t p) })) (sym via)
      (subst (λ (x : ℤ). Contains b.edges (record { from = s.label.via; to = record { 0 = p }; bound = x -ℤ dist_of t (via_of t p) })) (sym dist)
      (subst (λ (x : ℤ). Contains b.edges (record { from = s.label.via; to = record { 0 = p }; bound = s.label.number -ℤ x })) (sym from) s.edge))

  pub least_from : AreLeastFrom net (tree second whole all i.0)
  least_from = record {
    one_each = many ∙ of.points;
    least = λ p below.
        let m = many in
        let points = of.points in
        let within : p < length t.dists = omega arith in
        let start : i.0 < point_count net = omega arith in
        subst (IsLeastBound (point_count net) (arcs_of net) i.0 p) (ap (λ o. unwrap_or o (pos 0)) (distance_is p within))
        (two_passes (point_count net) (arcs_of net) b.order (is_edge b.edges) (bound_between b.edges) (network_ends net valid) (arcs_apart net valid b are of) are.once
        (listed net valid b are of) (tests net valid b are of) (edge_to_zero net valid b are of) (each_least net valid b are of) i.0 p start below);
  }
