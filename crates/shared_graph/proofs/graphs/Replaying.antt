-- Entries made one by one: IsReplaying, replay_begins, replay_next, replay_illegal, replay_ends; and what an answer says: match_none, match_some.
use Rattle.std.proofs.Common.{suc, ◌≡◌, ℕ, ◌+◌, ◌<◌, ◌≤◌, List, [], ◌∷◌, ◌++◌, Option, Some, None, ap, sym, ◌∙◌, arith, length, subst, get_or, drop}
use Rattle.std.proofs.Common.{append_assoc, append-nil}
use Rattle.std.specs.Prelude.{if◌then◌else◌, is_some, MatchOption}
use Rattle.std.proofs.lemmas.List.{drop_more, drop_all}
use Rattle.shared_graph.specs.declared.events.Entry.{Entry}
use Rattle.shared_graph.specs.declared.events.Illegal.{Illegal}
use Rattle.shared_graph.specs.Histories.{SharedView}
use Rattle.shared_graph.specs.Interfaces.{InterfaceView, Summary}
use Rattle.shared_graph.specs.Refusals.{refusal}
use Rattle.shared_graph.specs.Replays.{after, replay, first_fault, fault_of}
use Rattle.shared_graph.specs.States.{start}

-- the first n entries are made: the journal goes on with the rest, and so do the replay and the faults
pub record IsReplaying (face : InterfaceView) (summaries : List Summary) (entries : List Entry) (n : ℕ) (v : SharedView) : Type 0 where
  pub face_is : v.face ≡ face
  pub journal : v.journal ++ drop n entries ≡ entries
  pub whole : replay face summaries v.state (drop n entries) ≡ replay face summaries start entries
  pub fault : fault_of face summaries v.state n (drop n entries) ≡ fault_of face summaries start 0 entries

module _ (face : InterfaceView) (summaries : List Summary) (entries : List Entry) where
  pub replay_begins : (v : SharedView) → v.face ≡ face → v.state ≡ start → v.journal ≡ [] → IsReplaying face summaries entries 0 v
  replay_begins v is state journal = record {
    face_is = is;
    journal = ap (λ es. es ++ entries) journal;
    whole = ap (λ s. replay face summaries s entries) state;
    fault = ap (λ s. fault_of face summaries s 0 entries) state;
  }

  module _ (n : ℕ) (v : SharedView) (h : IsReplaying face summaries entries n v) (d : Entry) (low : n < length entries) where
    left : drop n entries ≡ get_or entries n d ∷ drop (n + 1) entries
    left = drop_more entries n d low

    one_more : suc n ≡ n + 1
    one_more = omega arith

    pub replay_illegal : (cause : Illegal) → refusal v.face v.state (get_or entries n d) ≡ Some cause
        → fault_of face summaries start 0 entries ≡ Some (record { place = n; cause = cause })
    replay_illegal cause refused =
        let here : refusal face v.state (get_or entries n d) ≡ Some cause = ap (λ f. refusal f v.state (get_or entries n d)) (sym h.face_is) ∙ refused in
        sym h.fault ∙ ap (fault_of face summaries v.state n) left
        ∙ ap (λ o. first_fault n o (fault_of face summaries (after face summaries v.state (get_or entries n d).event) (suc n) (drop (n + 1) entries))) here

    pub replay_next : (w : SharedView) → refusal v.face v.state (get_or entries n d) ≡ None → w.face ≡ v.face
        → w.state ≡ after v.face summaries v.state (get_or entries n d).event
        → w.journal ≡ v.journal ++ (get_or entries n d) ∷ [] → IsReplaying face summaries entries (n + 1) w
    replay_next w legal is state journal =
        let here : refusal face v.state (get_or entries n d) ≡ None = ap (λ f. refusal f v.state (get_or entries n d)) (sym h.face_is) ∙ legal in
        let now : w.state ≡ after face summaries v.state (get_or entries n d).event = state
        ∙ ap (λ f. after f summaries v.state (get_or entries n d).event) h.face_is in
        record {
          face_is = is ∙ h.face_is;
          journal =
              ap (λ es. es ++ drop (n + 1) entries) journal ∙ append_assoc v.journal ((get_or entries n d) ∷ []) (drop (n + 1) entries)
              ∙ ap (λ es. v.journal ++ es) (sym left) ∙ h.journal;
          whole =
              ap (λ s. replay face summaries s (drop (n + 1) entries)) now
              ∙ sym (ap (replay face summaries v.state) left
              ∙ ap (λ o. if is_some o then None else replay face summaries (after face summaries v.state (get_or entries n d).event) (drop (n + 1) entries))
              here)
              ∙ h.whole;
          fault =
              ap (λ s. fault_of face summaries s (n + 1) (drop (n + 1) entries)) now
              ∙ ap (λ m. fault_of face summaries (after face summaries v.state (get_or entries n d).event) m (drop (n + 1) entries)) (sym one_more)
              ∙ sym (ap (fault_of face summaries v.state n) left
              ∙ ap (λ o. first_fault n o (fault_of face summaries (after face summaries v.state (get_or entries n d).event) (suc n) (drop (n + 1) entries)))
              here)
              ∙ h.fault;
        }

  pub replay_ends : (n : ℕ) (v : SharedView) → IsReplaying face summaries entries n v → length entries ≤ n
      → (v.face ≡ face) × (v.journal ≡ entries) × (replay face summaries start entries ≡ Some v.state)
  replay_ends n v h past =
      let rest = drop_all n entries past in (
        h.face_is,
        sym (append-nil v.journal) ∙ ap (λ es. v.journal ++ es) (sym rest) ∙ h.journal,
        sym h.whole ∙ ap (replay face summaries v.state) rest,
      )

-- what holds of an answer, where it is known
pub match_none : {X : Type 0} (P : Type 0) (Q : X → Type 0) (o : Option X) → MatchOption o P Q → o ≡ None → P
match_none {X} P Q None h is = h
match_none {X} P Q (Some x) h is = absurd (cc)

pub match_some : {X : Type 0} (P : Type 0) (Q : X → Type 0) (o : Option X) (x : X) → MatchOption o P Q → o ≡ Some x → Q x
match_some {X} P Q None x h is = absurd (cc)
match_some {X} P Q (Some y) x h is = (let e : y ≡ x = cc in subst Q e h)
