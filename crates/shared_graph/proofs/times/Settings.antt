-- A state in which all shared points are revisited is a setting: setting_holds, final_there.
use Rattle.std.proofs.Common.{◌≡◌, ℕ, List, [], ◌∷◌, true, ◌||◌, Some, sym, ap, ◌∙◌, refl, arith, subst, inl, inr}
use Rattle.std.specs.Prelude.{pos, ◌==◌, is_some, reverse, Contains}
use Rattle.std.specs.Option.{unwrap_or}
use Rattle.std.proofs.Math.Bool.{or-true}
use Rattle.std.proofs.lemmas.Bool.Decides.{nat_tests}
use Rattle.stn_model.specs.declared.ids.Constraint.{Constraint}
use Rattle.stn_model.specs.ArcWalks.{IsInnerLeast}
use Rattle.stn_walk.specs.Eliminations.{is_in}
use Rattle.stn_walk.proofs.Joins.{is_in-reverse}
use Rattle.stn_walk.proofs.Exits.{every}
use Rattle.std.proofs.lemmas.List.Elements.{Contains-append_left}
use Rattle.decoupling_facts.specs.Assignments.{IsSetting}
use Rattle.decoupling_facts.proofs.Neighbours.{joined_turned}
use Rattle.shared_graph.specs.declared.events.Phase.TheVariants.{Reverse}
use Rattle.shared_graph.specs.Interfaces.{InterfaceView, IsInterface, is_listed}
use Rattle.shared_graph.specs.Journals.{IsDone}
use Rattle.shared_graph.specs.States.{State, Published, is_revisited, meeting_of, agent_arcs, arcs_after}
use Rattle.shared_graph.specs.Timed.{bound_in, setting_in}
use Rattle.shared_graph.specs.Together.{HoldsTogether}
use Rattle.shared_graph.specs.Weights.{is_joined, final}
use Rattle.shared_graph.proofs.cells.Orders.{joined_is}
use Rattle.shared_graph.proofs.graphs.FirstTimes.{later_z}
use Rattle.shared_graph.proofs.states.Keeps.{sound_of, joined_place}
use Rattle.shared_graph.proofs.states.Meetings.{IsPlace, meeting_ends}
use Rattle.shared_graph.proofs.times.Later.{later_is}

-- external arcs are meeting arcs
among_meeting : (face : InterfaceView) (ps : List Published) (a : Constraint) → Contains face.externals a → Contains (arcs_after face ps) a
among_meeting face [] a h = h
among_meeting face (p ∷ ps) a h = Contains-append_left (arcs_after face ps) (agent_arcs face p) a (among_meeting face ps a h)

pub joined_back : (face : InterfaceView) (s : State) (i j : ℕ) → is_joined face s i j ≡ true → is_joined face s j i ≡ true
joined_back face s i j h = (joined_is face s j i).1 (joined_turned (meeting_of face s) (reverse s.order) i j ((joined_is face s i j).0 h))

module _ (face : InterfaceView) (known : IsInterface face) (s : State) (together : HoldsTogether face s) (done : IsDone face s Reverse) where
  place_revisited : (p : ℕ) → IsPlace face p → is_revisited s p ≡ true
  place_revisited p (inl z) = let same : (p == 0) ≡ true = grind (arith, nat_tests) in ap (λ b. is_in s.revisited p || b) same ∙ or-true (is_in s.revisited p)
  place_revisited p (inr listed) = ap (λ b. b || (p == 0)) (done p listed)

  -- the final cell of two joined points is there
  pub final_there : (i j : ℕ) → is_joined face s i j ≡ true
      → (final face s i j ≡ Some (bound_in face s i j)) × IsInnerLeast every (meeting_of face s) i j (Some (bound_in face s i j))
  final_there i j joined =
      let sound = sound_of face known s together in
      let one = place_revisited i (joined_place face known s sound j i (joined_back face s i j joined)) in
      let two = place_revisited j (joined_place face known s sound i j joined) in
      let there = together.finals i j joined one two in
      let is : bound_in face s i j ≡ there.0 = ap (λ o. unwrap_or o (pos 0)) there.1 in
      (there.1 ∙ ap (λ z. Some z) (sym is), subst (λ z. IsInnerLeast every (meeting_of face s) i j (Some z)) (sym is) there.2)

  pub done_order : (k : ℕ) → is_listed face k ≡ true → is_in s.order k ≡ true
  done_order k listed = (together.revisits k (done k listed)).whole k listed

  arc_joined : (a : Constraint) → Contains (meeting_of face s) a → is_joined face s a.from.0 a.to.0 ≡ true
  arc_joined a h =
      let apart = (meeting_ends face known s.published (sound_of face known s together).fitting a h).2 in
      (joined_is face s a.from.0 a.to.0).1 (record { different = apart; inner = []; path = (a, h, inl (refl, refl)); before = tt })

  pub setting_holds : IsSetting (setting_in face s)
  setting_holds = record {
    finals = record { turned = joined_back face s; ends = arc_joined; least = λ i j joined. (final_there i j joined).1 };
    tests = joined_is face s;
    listed = λ k shared. is_in-reverse s.order k ∙ done_order k shared;
    zero = λ k shared. (later_is face s k (done_order k shared) 0).0 (later_z face known s together k shared (together.revisits k (done k shared)).whole);
    zero_not = ap is_some known.without_z;
    among = λ a h. among_meeting face s.published a h;
    ends = λ a h. (known.starts a h, known.ends a h);
  }
