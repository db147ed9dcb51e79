-- Entries replay, or have a first fault.
use Rattle.std.proofs.Common.{suc, ◌≡◌, ℕ, ◌+◌, not, List, [], ◌∷◌, ◌++◌, Some, None, ap, sym, ◌∙◌, refl, arith, length}
use Rattle.std.specs.Prelude.{is_some, if◌then◌else◌}
use Rattle.shared_graph.specs.declared.events.Entry.{Entry}
use Rattle.shared_graph.specs.Interfaces.{InterfaceView, Summary}
use Rattle.shared_graph.specs.States.{State, start}
use Rattle.shared_graph.specs.Refusals.{refusal}
use Rattle.shared_graph.specs.Replays.{after, replay, Fault, first_fault, fault_of}
use Rattle.shared_graph.specs.Laws.{IsFirstFault}

module _ (face : InterfaceView) (summaries : List Summary) where
  pub whole_or_fault : (es : List Entry) (s : State) (n : ℕ) → is_some (replay face summaries s es) ≡ not (is_some (fault_of face summaries s n es))
  whole_or_fault [] s n = refl
  whole_or_fault (e ∷ es) s n =
      elim (refusal face s e) as (λ o. is_some (if is_some o then None else replay face summaries (after face summaries s e.event) es)
      ≡ not (is_some (first_fault n o (fault_of face summaries (after face summaries s e.event) (suc n) es)))) [
        | None ↦ whole_or_fault es (after face summaries s e.event) (suc n)
        | Some c ↦ refl
      ]

  -- a fault with the entries before it
  record Found (s : State) (n : ℕ) (es : List Entry) (f : Fault) : Type 0 where
    front : List Entry
    entry : Entry
    back : List Entry
    state : State
    whole : es ≡ front ++ entry ∷ back
    place : f.place ≡ n + length front
    before : replay face summaries s front ≡ Some state
    refused : refusal face state entry ≡ Some f.cause

  found : (es : List Entry) (s : State) (n : ℕ) (f : Fault) → fault_of face summaries s n es ≡ Some f → Found s n es f
  found [] s n f h = absurd (cc)
  found (e ∷ es) s n f h =
      elim (refusal face s e) as (λ o. refusal face s e ≡ o → first_fault n o (fault_of face summaries (after face summaries s e.event) (suc n) es) ≡ Some f
      → Found s n (e ∷ es) f) [
        | None ↦ λ legal g.
            (let r = found es (after face summaries s e.event) (suc n) f g in
            let place = r.place in
            record {
              front = e ∷ r.front;
              entry = r.entry;
              back = r.back;
              state = r.state;
              whole = ap (λ xs. e ∷ xs) r.whole;
              place = omega arith;
              before = ap (λ o. if is_some o then None else replay face summaries (after face summaries s e.event) r.front) legal ∙ r.before;
              refused = r.refused;
            })
        | Some c ↦ λ illegal g.
            (let is : record { place = n; cause = c } ≡ f = some_is (record { place = n; cause = c }) f g in
            record {
              front = [];
              entry = e;
              back = es;
              state = s;
              whole = refl;
              place = sym (ap (λ (x : Fault). x.place) is) ∙ omega arith;
              before = refl;
              refused = illegal ∙ ap (λ (x : Fault). Some x.cause) is;
            })
      ] refl h where
        some_is : (x y : Fault) → Some x ≡ Some y → x ≡ y
        some_is x y h = cc

  pub first_found : (es : List Entry) (f : Fault) → fault_of face summaries start 0 es ≡ Some f → IsFirstFault face summaries es f
  first_found es f h =
      let r = found es start 0 f h in
      let place = r.place in
      record { front = r.front; entry = r.entry; back = r.back; state = r.state; whole = r.whole; place = omega arith; before = r.before; refused = r.refused }
