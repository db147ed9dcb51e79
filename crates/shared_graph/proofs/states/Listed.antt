-- Published entries are the listed ones, and published agents are agents.
use Rattle.std.proofs.Common.{zero, suc, ◌≡◌, ◌<◌, List, [], ◌∷◌, Some, None, refl, arith, length, subst}
use Rattle.std.specs.Prelude.{Contains, is_some, if◌then◌else◌}
use Rattle.shared_graph.specs.declared.events.Event.{Event}
use Rattle.shared_graph.specs.declared.events.Entry.{Entry}
use Rattle.shared_graph.specs.declared.events.Event.TheVariants.{Publish, Eliminate, Stop, Revisit, Assign, Widen}
use Rattle.shared_graph.specs.Interfaces.{InterfaceView, Summary}
use Rattle.shared_graph.specs.States.{State, Published}
use Rattle.shared_graph.specs.Refusals.{refusal, cause_of}
use Rattle.shared_graph.specs.Replays.{after, summary_of, replay}
use Rattle.shared_graph.proofs.states.Passing.{no_stop, publish_passes}

-- a published agent is one of the interface, with the listed summary
abbrev pub IsListed : InterfaceView → List Summary → Published → Type 0
IsListed face summaries p = (p.agent < length face.leans) × (p.entries ≡ summary_of summaries p.agent)

abbrev pub AreListed : InterfaceView → List Summary → List Published → Type 0
AreListed face summaries ps = (p : Published) → Contains ps p → IsListed face summaries p

module _ (face : InterfaceView) (summaries : List Summary) where
  listed_after : (s : State) (e : Entry) → refusal face s e ≡ None → AreListed face summaries s.published
      → AreListed face summaries (after face summaries s e.event).published
  listed_after s e legal listed = go e.event (no_stop face s e legal).1 where
    go : (event : Event) → cause_of face s e.by event ≡ None → AreListed face summaries (after face summaries s event).published
    go (Publish a) h = first where
      first : (p : Published) → Contains (record { agent = a.0; entries = summary_of summaries a.0 } ∷ s.published) p → IsListed face summaries p
      first p (zero, lt, is) = subst (IsListed face summaries) is ((publish_passes face s e.by a.0 h).0, refl)
      first p (suc n, lt, is) = listed p (n, omega arith, is)
    go (Eliminate k) h = listed
    go (Stop k i) h = listed
    go (Revisit k) h = listed
    go (Assign k value) h = listed
    go (Widen k end) h = listed

  pub listed_replay : (es : List Entry) (s last : State) → AreListed face summaries s.published → replay face summaries s es ≡ Some last
      → AreListed face summaries last.published
  listed_replay [] s last listed h = (let e : s ≡ last = cc in subst (λ (t : State). AreListed face summaries t.published) e listed)
  listed_replay (e ∷ es) s last listed h =
      elim (refusal face s e) as (λ o. refusal face s e ≡ o → (if is_some o then None else replay face summaries (after face summaries s e.event) es)
      ≡ Some last → AreListed face summaries last.published) [
        | None ↦ λ legal g. listed_replay es (after face summaries s e.event) last (listed_after s e legal listed) g
        | Some c ↦ λ legal g. absurd (cc)
      ] refl h

  pub start_listed : AreListed face summaries []
  start_listed p h = absurd (let low : h.0 < 0 = h.1 in omega arith)
