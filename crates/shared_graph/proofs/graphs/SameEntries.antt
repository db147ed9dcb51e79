-- Entries whose comparison decides whether they are equal: entries_decide.
use Rattle.std.proofs.Common.{◌≡◌, true, false, ◌&&◌, refl, rules, subst, eqb}
use Rattle.std.specs.Ordering.{int_eq}
use Rattle.std.proofs.lemmas.Bool.{and_parts, eqb-true, eq-eqb}
use Rattle.std.proofs.lemmas.Bool.Decides.{Decides-int_eq}
use denote.Enum.Bare.{sameb, same_true}
use Rattle.shared_graph.specs.contracts.events.ByPartialEq.TheImpl.{eq-value as by_value}
use Rattle.shared_graph.specs.contracts.events.EventPartialEq.TheImpl.{eq-value as event_value}
use Rattle.shared_graph.specs.contracts.events.EntryPartialEq.TheImpl.{eq-value as entry_value}
use Rattle.shared_graph.specs.contracts.events.End.{the_type as end_type}
use Rattle.shared_graph.specs.declared.events.By.{By}
use Rattle.shared_graph.specs.declared.events.By.TheVariants.{Agent, Joiner}
use Rattle.shared_graph.specs.declared.events.End.{End}
use Rattle.shared_graph.specs.declared.events.Entry.{Entry}
use Rattle.shared_graph.specs.declared.events.Event.{Event}
use Rattle.shared_graph.specs.declared.events.Event.TheVariants.{Publish, Eliminate, Stop, Revisit, Assign, Widen}

by_same : (x y : By) → by_value.it x y ≡ true → x ≡ y
by_same (Agent a) (Agent b) h = (let e = eqb-true a.0 b.0 h in (λ i. Agent (record { 0 = e i })))
by_same (Agent a) Joiner h = absurd (let f : false ≡ true = h in cc)
by_same Joiner (Agent b) h = absurd (let f : false ≡ true = h in cc)
by_same Joiner Joiner h = refl

by_own : (x : By) → by_value.it x x ≡ true
by_own (Agent a) = eq-eqb a.0 a.0 refl
by_own Joiner = refl

event_same : (x y : Event) → event_value.it x y ≡ true → x ≡ y
event_same (Publish a) (Publish b) h = (let e = eqb-true a.0 b.0 h in (λ i. Publish (record { 0 = e i })))
event_same (Eliminate a) (Eliminate b) h = (let e = eqb-true a.0 b.0 h in (λ i. Eliminate (record { 0 = e i })))
event_same (Revisit a) (Revisit b) h = (let e = eqb-true a.0 b.0 h in (λ i. Revisit (record { 0 = e i })))
event_same (Stop a p) (Stop b q) h =
    let both = and_parts (eqb a.0 b.0) (eqb p.0 q.0) h in
    let e = eqb-true a.0 b.0 both.0 in
    let f = eqb-true p.0 q.0 both.1 in
    (λ i. Stop (record { 0 = e i }) (record { 0 = f i }))
event_same (Assign a v) (Assign b w) h =
    let both = and_parts (eqb a.0 b.0) (int_eq v w) h in
    let e = eqb-true a.0 b.0 both.0 in
    let f = (Decides-int_eq v w).0 both.1 in
    (λ i. Assign (record { 0 = e i }) (f i))
event_same (Widen a v) (Widen b w) h =
    let both = and_parts (eqb a.0 b.0) (sameb end_type v w) h in
    let e = eqb-true a.0 b.0 both.0 in
    let f = same_true end_type (search rules) v w both.1 in
    (λ i. Widen (record { 0 = e i }) (f i))
event_same x y h = absurd (let f : false ≡ true = h in cc)

event_own : (x : Event) → event_value.it x x ≡ true
event_own (Publish a) = eq-eqb a.0 a.0 refl
event_own (Eliminate a) = eq-eqb a.0 a.0 refl
event_own (Revisit a) = eq-eqb a.0 a.0 refl
event_own (Stop a p) = (λ i. eq-eqb a.0 a.0 refl i && eq-eqb p.0 p.0 refl i)
event_own (Assign a v) = (λ i. eq-eqb a.0 a.0 refl i && (Decides-int_eq v v).1 refl i)
event_own (Widen a v) = (λ i. eq-eqb a.0 a.0 refl i && end_own v i) where
  end_own : (v : End) → sameb end_type v v ≡ true
  end_own v = eq-eqb _ _ refl

pub entries_decide : (x y : Entry) → (entry_value.it x y ≡ true → x ≡ y) × (x ≡ y → entry_value.it x y ≡ true)
entries_decide x y = (
  λ h. let both = and_parts (by_value.it x.by y.by) (event_value.it x.event y.event) h in
      let e = by_same x.by y.by both.0 in
      let f = event_same x.event y.event both.1 in
      (λ i. record { by = e i; event = f i }),
  λ e. subst (λ (z : Entry). entry_value.it x z ≡ true) e (λ i. by_own x.by i && event_own x.event i),
)
