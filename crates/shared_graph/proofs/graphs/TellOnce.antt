-- Over a journal each published agent is one of the interface, and told one summary: told_once, listed_entries, published_listed.
use Rattle.std.proofs.Common.{zero, suc, ◌≡◌, ℕ, ◌<◌, Bool, List, [], ◌∷◌, true, false, ◌||◌, ap, sym, ◌∙◌, refl, arith}
use Rattle.std.specs.Prelude.{Contains, ◌==◌, if◌then◌else◌}
use Rattle.std.proofs.Math.Bool.{or-true}
use Rattle.std.proofs.lemmas.Bool.Decides.{nat_tests}
use Rattle.shared_graph.specs.declared.events.Entry.{Entry}
use Rattle.shared_graph.specs.Histories.{IsJournal}
use Rattle.shared_graph.specs.Interfaces.{InterfaceView, Summary}
use Rattle.shared_graph.specs.Legs.{AreTold}
use Rattle.shared_graph.specs.Publications.{entries_in}
use Rattle.shared_graph.specs.Replays.{summary_of}
use Rattle.shared_graph.specs.States.{State, Published, published_in, is_published, start}
use Rattle.shared_graph.proofs.states.Listed.{AreListed, listed_replay, start_listed}

-- an agent that is there is found
published_there : (ps : List Published) (p : Published) → Contains ps p → published_in ps p.agent ≡ true
published_there [] p h = absurd (let low : h.0 < 0 = h.1 in omega arith)
published_there (q ∷ ps) p (zero, lt, is) =
    let e : q.agent ≡ p.agent = ap (λ (x : Published). x.agent) is in
    let t : (p.agent == q.agent) ≡ true = grind (arith, nat_tests) in
    ap (λ b. published_in ps p.agent || b) t ∙ or-true (published_in ps p.agent)
published_there (q ∷ ps) p (suc k, lt, is) =
    ap (λ b. b || (p.agent == q.agent)) (published_there ps p (k, omega arith, is))

module _ (face : InterfaceView) (summaries : List Summary) where
  -- its summary is the listed one, whichever time it told it
  entries_listed : (ps : List Published) → AreListed face summaries ps → (p : Published) → Contains ps p
      → entries_in ps p.agent ≡ summary_of summaries p.agent
  entries_listed [] listed p h = absurd (let low : h.0 < 0 = h.1 in omega arith)
  entries_listed (q ∷ ps) listed p (zero, lt, is) =
      let e : q.agent ≡ p.agent = ap (λ (x : Published). x.agent) is in
      let t : (p.agent == q.agent) ≡ true = grind (arith, nat_tests) in
      ap (λ b. if b then q.entries else entries_in ps p.agent) t ∙ (listed q (0, omega arith, refl)).1 ∙ ap (summary_of summaries) e
  entries_listed (q ∷ ps) listed p (suc k, lt, is) =
      let rest = entries_listed ps (λ r there. listed r (suc there.0, omega (arith, there.1), there.2)) p (k, omega arith, is) in
      elim (p.agent == q.agent) as (λ b. (p.agent == q.agent) ≡ b
      → (if b then q.entries else entries_in ps p.agent) ≡ summary_of summaries p.agent) [
        | true ↦ λ t.
            let e : q.agent ≡ p.agent = grind (arith, nat_tests) in
            (listed q (0, omega arith, refl)).1 ∙ ap (summary_of summaries) e
        | false ↦ λ t. rest
      ] refl

pub told_once : (face : InterfaceView) (s : State) (journal : List Entry) → IsJournal face s journal → AreTold face s
told_once face s journal h p there =
    let listed = listed_replay face h.summaries journal start s (start_listed face h.summaries) h.replays in
    let one = listed p there in
    (one.0, published_there s.published p there, one.1 ∙ sym (entries_listed face h.summaries s.published listed p there))

-- what an agent that has published told is the listed summary
pub listed_entries : (face : InterfaceView) (summaries : List Summary) (ps : List Published) → AreListed face summaries ps → (a : ℕ)
    → published_in ps a ≡ true → entries_in ps a ≡ summary_of summaries a
listed_entries face summaries [] listed a there = absurd (cc)
listed_entries face summaries (q ∷ ps) listed a there =
    elim (a == q.agent) as (λ b. (a == q.agent) ≡ b → (published_in ps a || b) ≡ true
    → (if b then q.entries else entries_in ps a) ≡ summary_of summaries a) [
      | true ↦ λ t h. (let e : a ≡ q.agent = grind (arith, nat_tests) in (listed q (0, omega arith, refl)).1 ∙ ap (summary_of summaries) (sym e))
      | false ↦ λ t h.
          listed_entries face summaries ps (λ r here. listed r (suc here.0, omega (arith, here.1), here.2)) a (no_other (published_in ps a) h)
    ] refl there where
      no_other : (b : Bool) → (b || false) ≡ true → b ≡ true
      no_other true h = refl
      no_other false h = absurd (cc)

pub published_listed : (face : InterfaceView) (s : State) (journal : List Entry) (j : IsJournal face s journal) (a : ℕ) → is_published s a ≡ true
    → entries_in s.published a ≡ summary_of j.summaries a
published_listed face s journal j a there =
    listed_entries face j.summaries s.published (listed_replay face j.summaries journal start s (start_listed face j.summaries) j.replays) a there
