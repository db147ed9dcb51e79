-- Networks that are the same but for own arcs look the same to the machine.
use Rattle.std.proofs.Common.{zero, suc, ◌≡◌, ℕ, List, [], ◌∷◌, ◌++◌, ap, sym, ◌∙◌, refl, length, map}
use Rattle.std.specs.Prelude.{if◌then◌else◌, slice_index_or}
use Rattle.std.specs.List.{list_any}
use Rattle.stn_model.specs.Net.{Net, Place, arcs_of, no_place}
use Rattle.stn_model.specs.Kinds.{is_external, is_shared, names_point}
use Rattle.shared_graph.specs.declared.events.Entry.{Entry}
use Rattle.shared_graph.specs.Interfaces.{Summary, shared_points, interface_of}
use Rattle.shared_graph.specs.States.{State, start}
use Rattle.shared_graph.specs.Refusals.{refusal}
use Rattle.shared_graph.specs.Replays.{replay, fault_of}
use Rattle.shared_graph.specs.Laws.{IsSameOutside}
use Rattle.shared_graph.proofs.interfaces.SharedPoints.{any_both}

module _ (net other : Net) (same : IsSameOutside net other) where
  pub shared_same : (p : ℕ) → is_shared net p ≡ is_shared other p
  shared_same p =
      any_both (is_external net) (names_point p) (arcs_of net)
      ∙ ap (list_any (names_point p)) same.externals
      ∙ sym (any_both (is_external other) (names_point p) (arcs_of other))

  points_same : (n : ℕ) → shared_points net n ≡ shared_points other n
  points_same zero = refl
  points_same (suc n) =
      λ t. points_same n t ++ (if shared_same (suc n) t then record { point = suc n; owner = (slice_index_or (same.places t) n no_place).owner } ∷ [] else [])

  pub same_interface : interface_of net ≡ interface_of other
  same_interface =
      let points : shared_points net (length net.places) ≡ shared_points other (length other.places) =
      points_same (length net.places) ∙ ap (λ (xs : List Place). shared_points other (length xs)) same.places in
      λ t. record { leans = map (λ a. a.lean) (same.agents t); points = points t; externals = same.externals t; horizon = same.horizon t }

  pub same_replays : ((s : State) (e : Entry) → refusal (interface_of net) s e ≡ refusal (interface_of other) s e)
      × ((summaries : List Summary) (es : List Entry)
      → (replay (interface_of net) summaries start es ≡ replay (interface_of other) summaries start es)
      × (fault_of (interface_of net) summaries start 0 es ≡ fault_of (interface_of other) summaries start 0 es))
  same_replays = (
    λ s e. ap (λ face. refusal face s e) same_interface,
    λ summaries es. (ap (λ face. replay face summaries start es) same_interface, ap (λ face. fault_of face summaries start 0 es) same_interface),
  )
