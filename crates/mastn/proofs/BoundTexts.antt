-- The points and arcs that `bounds` and `prove` tell of are those of the network: bounds_known, bounds_listed, walk_known, says_bounds.
use Rattle.std.proofs.Common.{◌≡◌, ℕ, ◌<◌, ℤ, List, ◌++◌, length, map, get_or, ap, sym, ◌∙◌, refl, subst}
use Rattle.std.specs.List.{All}
use Rattle.std.proofs.lemmas.List.{get_or_default}
use Rattle.std.proofs.lemmas.List.Elements.{All-map, Contains-get_or}
use Rattle.stn_model.specs.declared.ids.PointId.{PointId}
use Rattle.stn_model.specs.Net.{Net, arcs_of, point_count}
use Rattle.stn_model.specs.Valid.{IsNetwork}
use Rattle.stn_model.proofs.WalkLemmas.{walk_in_range}
use Rattle.schedule_report.specs.Parts.{bounds_part}
use Rattle.tri_solve.specs.declared.edge.Edge.{Edge}
use Rattle.joined_answer.specs.LeastBounds.{AreLeastBounds}
use Rattle.joined_answer.specs.LeastProofs.{IsProof}
use Rattle.joined_answer.proofs.BoundLists.{joined_below}
use Rattle.mastn.specs.Commands.{entry_of, SaysBounds}

-- each end of a least bound is a point of the network
pub bounds_known : (net : Net) (order : List ℕ) (edges : List Edge) → IsNetwork net → AreLeastBounds net order edges
    → All (λ e. e.0.0 < point_count net) (map entry_of edges) × All (λ e. e.1.0 < point_count net) (map entry_of edges)
bounds_known net order edges valid h = (
  All-map (λ (e : PointId × PointId × ℤ). e.0.0 < point_count net) entry_of edges (λ k d lt. (ends (get_or edges k d) k d lt refl).0),
  All-map (λ (e : PointId × PointId × ℤ). e.1.0 < point_count net) entry_of edges (λ k d lt. (ends (get_or edges k d) k d lt refl).1),
) where
  ends : (e : Edge) (k : ℕ) (d : Edge) → k < length edges → get_or edges k d ≡ e → (e.from.0 < point_count net) × (e.to.0 < point_count net)
  ends e k d lt is = subst (λ (x : Edge). (x.from.0 < point_count net) × (x.to.0 < point_count net)) is
      (let f = get_or edges k d in
      joined_below net valid order f.from.0 f.to.0 ((h.joined f.from.0 f.to.0).0 (f, Contains-get_or edges k d lt, refl, refl)))

-- the same of what stands for the network and for the list
pub bounds_listed : (net given : Net) (order : List ℕ) (edges : List Edge) (list shown : List (PointId × PointId × ℤ)) → IsNetwork net
    → AreLeastBounds net order edges → list ≡ map entry_of edges → shown ≡ list → given ≡ net
    → All (λ e. e.0.0 < point_count given) shown × All (λ e. e.1.0 < point_count given) shown
bounds_listed net given order edges list shown valid h is shows same =
    subst (λ (n : Net). All (λ (e : PointId × PointId × ℤ). e.0.0 < point_count n) shown × All (λ (e : PointId × PointId × ℤ). e.1.0 < point_count n) shown)
    (sym same)
    (subst (λ (es : List (PointId × PointId × ℤ)). All (λ e. e.0.0 < point_count net) es × All (λ e. e.1.0 < point_count net) es) (sym (shows ∙ is))
    (bounds_known net order edges valid h))

-- what the part of such a list says
pub says_bounds : (net given : Net) (order : List ℕ) (edges : List Edge) (list shown : List (PointId × PointId × ℤ)) (old new : List ℕ)
    → AreLeastBounds net order edges → list ≡ map entry_of edges → shown ≡ list → given ≡ net → new ≡ old ++ bounds_part given shown
    → (said : List ℕ) × SaysBounds net order said × (new ≡ old ++ said)
says_bounds net given order edges list shown old new h is shows same grown = (
  bounds_part net (map entry_of edges),
  record { edges = edges; bounds = h; says = refl },
  grown ∙ ap (λ (n : Net). old ++ bounds_part n shown) same ∙ ap (λ (es : List (PointId × PointId × ℤ)). old ++ bounds_part net es) (shows ∙ is),
)

-- each number of the walk of a proof is that of an arc
pub walk_known : (net : Net) (i j : ℕ) (bound : ℤ) (walk : List ℕ) (times : List ℤ) → IsProof net i j bound walk times
    → All (λ n. n < length (arcs_of net)) walk
walk_known net i j bound walk times h k d lt =
    subst (λ n. n < length (arcs_of net)) (get_or_default walk k 0 d lt) (walk_in_range (arcs_of net) i j walk h.goes k lt)
