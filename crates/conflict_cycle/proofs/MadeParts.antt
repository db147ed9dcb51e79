-- How parts are made that belong to a network, by the joiner's steps alone.
--   blank_entry, AreFinalsBelow, finals_none, finals_next, finals_all  final bounds of the pairs of a summary, in turn
--   AreBackBelow, back_none, back_more, back_all                       back sweeps, in turn
--   order_stays, untimed, stop_stays, not_stopped                      what the joiner's steps keep
--   finished_stands                                                    the graph that they leave stands for the network
use Rattle.std.proofs.Common.{◌≡◌, ◌⊎◌, ℕ, ◌+◌, ◌<◌, ◌≤◌, List, [], ◌∷◌, ◌++◌, Bool, true, false, ◌&&◌, Option, Some, None, take, length, get_or}
use Rattle.std.proofs.Common.{ap, sym, ◌∙◌, refl, arith, subst, inl, inr, length-append, if◌then◌else◌}
use Rattle.std.specs.Prelude.{ℤ, pos, ◌==◌, slice_get, is_some}
use Rattle.std.proofs.lemmas.Bool.Decides.{nat_tests}
use Rattle.std.proofs.lemmas.List.{take_more}
use Rattle.std.proofs.lemmas.Option.{slice_get-get_or}
use Rattle.stn_model.specs.Net.{Net}
use Rattle.stn_model.specs.Valid.{IsNetwork}
use Rattle.stn_walk.specs.Eliminations.{is_in}
use Rattle.elim_step.specs.declared.summary.SummaryEntry.{SummaryEntry}
use Rattle.elim_step.specs.Summaries.{entry_in}
use Rattle.private_elim.specs.Backs.{BoundsView}
use Rattle.private_elim.specs.ReducedViews.{ReducedView, first_there}
use Rattle.private_elim.proofs.summary.Entries.{entry_in-push}
use Rattle.shared_graph.specs.declared.events.Entry.{Entry}
use Rattle.shared_graph.specs.declared.events.Event.{Event}
use Rattle.shared_graph.specs.declared.events.Event.TheVariants.{Publish, Eliminate, Stop, Revisit, Assign, Widen}
use Rattle.shared_graph.specs.declared.events.Phase.TheVariants.{Order, Reverse}
use Rattle.shared_graph.specs.declared.events.SharedCycle.{SharedCycle}
use Rattle.shared_graph.specs.Histories.{SharedView, IsJournal}
use Rattle.shared_graph.specs.Interfaces.{InterfaceView, Summary, interface_of, is_listed}
use Rattle.shared_graph.specs.Journals.{AgreeWith, AreLeastSteps, IsDone, IsFinished, StandsFor, is_step_of}
use Rattle.shared_graph.specs.Replays.{after}
use Rattle.shared_graph.specs.States.{State, Published, published_in, start}
use Rattle.shared_graph.specs.Weights.{final}
use Rattle.shared_graph.proofs.graphs.Onward.{stands_for}
use Rattle.conflict_cycle.specs.Belongs.{AreReducedOf}
use Rattle.conflict_cycle.specs.PartOrders.{AreReduced}
use Rattle.conflict_cycle.specs.Parts.{AreFinalsOf, IsBackOf}
use Rattle.conflict_cycle.proofs.ReducedParts.{all_taken, read_pushed, told_by}
use Rattle.conflict_cycle.proofs.SharedPairs.{right_parts}

-- an entry that stands for none
abbrev pub blank_entry : SummaryEntry
blank_entry = record { from = record { 0 = 0 }; to = record { 0 = 0 }; weight = pos 0 }

-- where a pair has an entry, the other look-up is there and is this; else it is not there
abbrev Held : Option ℤ → Option ℤ → Option ℤ → Type 0
Held None o b = o ≡ None
Held (Some w) o b = (o ≡ b) × (is_some o ≡ true)

held_more : (o p x y b : Option ℤ) → Held o p b → Held x y b → Held (first_there o x) (first_there p y) b
held_more None None x y b h g = g
held_more None (Some v) x y b h g = absurd (cc)
held_more (Some w) None x y b h g = (let lost = h.1 in absurd (cc))
held_more (Some w) (Some v) x y b h g = h

held_there : (o p b : Option ℤ) → is_some o ≡ true → Held o p b → p ≡ b
held_there None p b there h = absurd (cc)
held_there (Some w) p b there h = h.0

module _ (face : InterfaceView) (s : State) where
  -- the entries hold the final bounds of the first n pairs
  abbrev pub AreFinalsBelow : Summary → ℕ → List SummaryEntry → Type 0
  AreFinalsBelow summary n finals = (i j : ℕ) → Held (entry_in (take n summary) i j) (entry_in finals i j) (final face s i j)

  pub finals_none : (summary : Summary) → AreFinalsBelow summary 0 []
  finals_none summary i j = refl

  held_one : (e : SummaryEntry) (w : ℤ) (i j : ℕ) → final face s e.from.0 e.to.0 ≡ Some w
      → Held (entry_in (e ∷ []) i j) (entry_in (record { from = e.from; to = e.to; weight = w } ∷ []) i j) (final face s i j)
  held_one e w i j is = go ((e.from.0 == i) && (e.to.0 == j)) refl where
    go : (b : Bool) → ((e.from.0 == i) && (e.to.0 == j)) ≡ b
        → Held (if b then Some e.weight else None) (if b then Some w else None) (final face s i j)
    go false t = refl
    go true t =
        let from : e.from.0 ≡ i = grind (arith, nat_tests) in
        let to : e.to.0 ≡ j = grind (arith, nat_tests) in
        (sym (subst (λ p. final face s p j ≡ Some w) from (subst (λ q. final face s e.from.0 q ≡ Some w) to is)), refl)

  finals_more : (summary : Summary) (n : ℕ) (e d : SummaryEntry) (w : ℤ) (old new : List SummaryEntry) → n < length summary → e ≡ get_or summary n d
      → Some w ≡ final face s e.from.0 e.to.0 → new ≡ old ++ record { from = e.from; to = e.to; weight = w } ∷ []
      → AreFinalsBelow summary n old → AreFinalsBelow summary (n + 1) new
  finals_more summary n e d w old new lt is told pushed h i j =
      let f : SummaryEntry = record { from = e.from; to = e.to; weight = w } in
      let one = entry_in (take n summary) i j in
      let more : entry_in (take (n + 1) summary) i j ≡ first_there one (entry_in (e ∷ []) i j) =
      ap (λ es. entry_in es i j) (take_more summary n d lt ∙ ap (λ x. take n summary ++ x ∷ []) (sym is)) ∙ entry_in-push (take n summary) e i j in
      let grown : entry_in new i j ≡ first_there (entry_in old i j) (entry_in (f ∷ []) i j) =
      ap (λ es. entry_in es i j) pushed ∙ entry_in-push old f i j in
      subst (λ o. Held o (entry_in new i j) (final face s i j)) (sym more)
      (subst (λ o. Held (first_there one (entry_in (e ∷ []) i j)) o (final face s i j)) (sym grown)
      (held_more one (entry_in old i j) (entry_in (e ∷ []) i j) (entry_in (f ∷ []) i j) (final face s i j) (h i j) (held_one e w i j (sym told))))

  pub finals_next : (summary : Summary) (n : ℕ) (e d f : SummaryEntry) (old new : List SummaryEntry) → n < length summary → e ≡ get_or summary n d
      → (f.from ≡ e.from) × (f.to ≡ e.to) × (Some f.weight ≡ final face s e.from.0 e.to.0) → new ≡ old ++ f ∷ []
      → AreFinalsBelow summary n old → AreFinalsBelow summary (n + 1) new
  finals_next summary n e d f old new lt is told pushed =
      let same : f ≡ record { from = e.from; to = e.to; weight = f.weight } = (λ k. record { from = told.0 k; to = told.1 k; weight = f.weight }) in
      finals_more summary n e d f.weight old new lt is told.2 (pushed ∙ ap (λ (x : SummaryEntry). old ++ x ∷ []) same)

  pub finals_all : (summary : Summary) (n : ℕ) (finals told : List SummaryEntry) → length summary ≤ n → told ≡ finals
      → AreFinalsBelow summary n finals → AreFinalsOf face s summary told
  finals_all summary n finals told past is h i j there =
      held_there (entry_in summary i j) (entry_in told i j) (final face s i j) there
      (subst (λ es. Held (entry_in es i j) (entry_in told i j) (final face s i j)) (all_taken n summary past)
      (subst (λ es. Held (entry_in (take n summary) i j) (entry_in es i j) (final face s i j)) (sym is) (h i j)))

  -- the bounds are the back sweeps of the first n parts
  pub record AreBackBelow (reduced : List ReducedView) (n : ℕ) (bounds : List BoundsView) : Type 0 where
    pub len : length bounds ≡ n
    pub each : (a : ℕ) (r : ReducedView) (b : BoundsView) → slice_get reduced a ≡ Some r → slice_get bounds a ≡ Some b → IsBackOf face s r b

  pub back_none : (reduced : List ReducedView) → AreBackBelow reduced 0 []
  back_none reduced = record { len = refl; each = λ a r b there here. absurd (cc) }

  pub back_more : (reduced : List ReducedView) (n : ℕ) (r : ReducedView) (b : BoundsView) (old new : List BoundsView) → n < length reduced
      → r ≡ get_or reduced n r → new ≡ old ++ b ∷ [] → IsBackOf face s r b → AreBackBelow reduced n old → AreBackBelow reduced (n + 1) new
  back_more reduced n r b old new lt is pushed back h =
      subst (AreBackBelow reduced (n + 1)) (sym pushed) (record {
        len = (let many = length-append old (b ∷ []) in let len = h.len in omega arith);
        each = each;
      }) where
        each : (a : ℕ) (q : ReducedView) (c : BoundsView) → slice_get reduced a ≡ Some q → slice_get (old ++ b ∷ []) a ≡ Some c → IsBackOf face s q c
        each a q c there here = elim (read_pushed old b c a here) [
          | inl before ↦ h.each a q c there before
          | inr last ↦
              (let e : a ≡ n = last.0 ∙ h.len in
              let both : Some r ≡ Some q = sym (slice_get-get_or reduced n r lt ∙ ap (λ x. Some x) (sym is)) ∙ ap (slice_get reduced) (sym e) ∙ there in
              let same : r ≡ q = cc in
              subst (λ (x : BoundsView). IsBackOf face s q x) last.1 (subst (λ (x : ReducedView). IsBackOf face s x b) same back))
        ]

  pub back_all : (reduced : List ReducedView) (n : ℕ) (bounds : List BoundsView) → n ≡ length reduced → AreBackBelow reduced n bounds
      → length bounds ≡ length reduced
  back_all reduced n bounds is h = h.len ∙ is

module _ (face : InterfaceView) (summaries : List Summary) where
  -- what a revisit keeps, and that an elimination gives no time
  revisit_keeps : (e : Event) (s : State) → is_step_of Reverse e ≡ true
      → ((after face summaries s e).published ≡ s.published) × ((after face summaries s e).order ≡ s.order)
      × ((after face summaries s e).assigned ≡ s.assigned) × ((after face summaries s e).stop ≡ s.stop)
  revisit_keeps (Publish a) s h = absurd (cc)
  revisit_keeps (Eliminate k) s h = absurd (cc)
  revisit_keeps (Stop k i) s h = absurd (cc)
  revisit_keeps (Revisit k) s h = (refl, refl, refl, refl)
  revisit_keeps (Assign k v) s h = absurd (cc)
  revisit_keeps (Widen k end) s h = absurd (cc)

  order_keeps : (e : Event) (s : State) → is_step_of Order e ≡ true → (after face summaries s e).assigned ≡ s.assigned
  order_keeps (Publish a) s h = refl
  order_keeps (Eliminate k) s h = refl
  order_keeps (Stop k i) s h = refl
  order_keeps (Revisit k) s h = absurd (cc)
  order_keeps (Assign k v) s h = absurd (cc)
  order_keeps (Widen k end) s h = absurd (cc)

  revisits_keep : (es : List Entry) (s t : State) → AreLeastSteps face summaries Reverse s es t
      → (t.published ≡ s.published) × (t.order ≡ s.order) × (t.assigned ≡ s.assigned) × (t.stop ≡ s.stop)
  revisits_keep [] s t h =
      (ap (λ (u : State). u.published) (sym h), ap (λ (u : State). u.order) (sym h), ap (λ (u : State). u.assigned) (sym h), ap (λ (u : State). u.stop) (sym h))
  revisits_keep (e ∷ es) s t h =
      let one = revisit_keeps e.event s h.0.step in
      let rest = revisits_keep es (after face summaries s e.event) t h.1 in
      (rest.0 ∙ one.0, rest.1 ∙ one.1, rest.2 ∙ one.2, rest.3 ∙ one.3)

  orders_keep : (es : List Entry) (s t : State) → AreLeastSteps face summaries Order s es t → t.assigned ≡ s.assigned
  orders_keep [] s t h = ap (λ (u : State). u.assigned) (sym h)
  orders_keep (e ∷ es) s t h = orders_keep es (after face summaries s e.event) t h.1 ∙ order_keeps e.event s h.0.step

module _ (summaries : List Summary) (first second third : SharedView) (ordered : IsFinished summaries Order first second)
    (revisited : IsFinished summaries Reverse second third) where
  pub order_stays : IsDone second.face second.state Order → IsDone third.face third.state Order
  order_stays done =
      let keep = revisits_keep second.face summaries revisited.steps second.state third.state revisited.least in (
        λ a low.
            subst (λ (ps : List Published). published_in ps a ≡ true) (sym keep.0)
            (done.0 a (subst (λ (f : InterfaceView). a < length f.leans) revisited.face low)),
        λ p listed.
            subst (λ (ps : List ℕ). is_in ps p ≡ true) (sym keep.1) (done.1 p (subst (λ (f : InterfaceView). is_listed f p ≡ true) revisited.face listed)),
      )

  pub untimed : first.state ≡ start → third.state.assigned ≡ []
  untimed is =
      (revisits_keep second.face summaries revisited.steps second.state third.state revisited.least).2
      ∙ orders_keep first.face summaries ordered.steps first.state second.state ordered.least ∙ ap (λ (u : State). u.assigned) is

  pub stop_stays : is_some second.state.stop ≡ false → is_some third.state.stop ≡ false
  stop_stays none =
      ap (λ (o : Option SharedCycle). is_some o) (revisits_keep second.face summaries revisited.steps second.state third.state revisited.least).3 ∙ none

-- a phase that came to no stop is done
pub not_stopped : {A : Type 0} (b : Bool) → b ≡ false → (b ≡ true) ⊎ A → A
not_stopped b none (inl stop) = absurd (cc)
not_stopped b none (inr done) = done

pub finished_stands : (net : Net) (reduced : List ReducedView) (summaries : List Summary) (v : SharedView) → IsNetwork net → AreReducedOf net reduced
    → AreReduced reduced → summaries ≡ told_by reduced → v.face ≡ interface_of net → IsJournal v.face v.state v.journal → AgreeWith summaries v.state
    → StandsFor net v
finished_stands net reduced summaries v valid parts each told face journal agree =
    stands_for net v (told_by reduced) valid face (right_parts net valid reduced parts each) journal (subst (λ ss. AgreeWith ss v.state) told agree)
