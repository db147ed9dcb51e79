-- One turn of a back sweep, in the fields of an elimination: Turn, and what a revisit asks and gives there.
use Rattle.std.proofs.Common.{◌≡◌, ◌≢◌, ℕ, ◌+◌, ◌<◌, ◌≤◌, List, Bool, true, false, ◌&&◌, not, Option, Some, None, length, set, reverse, sym, ap}
use Rattle.std.proofs.Common.{subst, ◌∙◌, arith}
use Rattle.std.specs.Prelude.{IfSome, is_some, nat_abs, slice_index_or}
use Rattle.std.proofs.lemmas.Bool.{and_parts}
use Rattle.std.specs.List.{AllPairs}
use Rattle.stn_model.specs.Limits.{greatest_walk}
use Rattle.stn_walk.specs.Eliminations.{is_in}
use Rattle.dist_rows.specs.declared.cell.Cell.{Cell}
use Rattle.dist_rows.specs.Cells.{IsLight, AllLight}
use Rattle.elim_step.specs.declared.summary.SummaryEntry.{SummaryEntry}
use Rattle.elim_step.specs.Summaries.{is_summary}
use Rattle.elim_step.specs.Eliminates.{remains}
use Rattle.elim_step.specs.JoinedPlaces.{is_joined}
use Rattle.elim_step.specs.Revisits.{Revisits}
use Rattle.elim_step.proofs.JoinFacts.{joined-within}
use Rattle.elim_step.specs.Eliminated.{point_at}
use Rattle.private_elim.specs.Locals.{private_at, is_private_in}
use Rattle.private_elim.specs.Underway.{Fields, IsUnderway}
use Rattle.private_elim.specs.Sweeps.{HasRoomAll, HasGiven, IsSwept}
use Rattle.private_elim.proofs.taking.Takes.{joined_back}
use Rattle.private_elim.proofs.sweep.SweepParts.{rows_light}
use Rattle.private_elim.proofs.sweep.SweepEnds.{swept_first}
use Rattle.private_elim.proofs.sweep.Sweeps.{later_other, some_later, not_later, no_cells, finals_light, swept_more}

-- the point of number n in the order, at place k, is next; `later` holds the places that are done and joined with it
pub record Turn (e : Fields) (n k : ℕ) (entries : List SummaryEntry) (size : ℕ)
    (at : ℕ → ℕ → Option Cell) (room : ℕ → ℕ → Bool) (done : List Bool) (later : List ℕ) : Type 0 where
  pub underway : IsUnderway e
  pub inside : (p q : ℕ) → is_some (e.at p q) ≡ true → (p < e.places) × (q < e.places) × (p ≢ q)
  pub rooms : HasRoomAll (record { local = e.local; order = e.order }) room
  pub number : n < length e.order
  pub place : k < length e.local.points
  pub is : point_at e.local.points k ≡ point_at e.order n
  pub square : size ≡ length e.local.points
  pub swept : IsSwept e.local e.order entries (n + 1) at done
  pub each : (m : ℕ) → is_in later m ≡ (remains done m && is_joined e.joins k m)
  pub rising : AllPairs (λ p q. p < q) later
  pub below : (m : ℕ) → is_in later m ≡ true → m < e.joins.size

-- the lists under the two names that an answer has for them
pub turn_of : (e : Fields) (n k : ℕ) (entries : List SummaryEntry) (size : ℕ) (at : ℕ → ℕ → Option Cell) (room : ℕ → ℕ → Bool)
    (done done' : List Bool) (later later' : List ℕ)
    → IsUnderway e → ((p q : ℕ) → is_some (e.at p q) ≡ true → (p < e.places) × (q < e.places) × (p ≢ q))
    → HasRoomAll (record { local = e.local; order = e.order }) room → n < length e.order → k < length e.local.points
    → point_at e.local.points k ≡ point_at e.order n → size ≡ length e.local.points
    → IsSwept e.local e.order entries (n + 1) at done → done' ≡ done → later' ≡ later
    → ((m : ℕ) → is_in later m ≡ (remains done' m && is_joined e.joins k m)) → AllPairs (λ p q. p < q) later
    → ((m : ℕ) → is_in later m ≡ true → m < e.joins.size)
    → Turn e n k entries size at room done later'
turn_of e n k entries size at room done done' later later' underway inside room_all number place is square swept same_done same_later each rising below =
    record {
      underway = underway;
      inside = inside;
      rooms = room_all;
      number = number;
      place = place;
      is = is;
      square = square;
      swept = swept;
      each = λ m. ap (λ xs. is_in xs m) same_later ∙ each m ∙ ap (λ d. remains d m && is_joined e.joins k m) same_done;
      rising = subst (AllPairs (λ p q. p < q)) (sym same_later) rising;
      below = λ m h. below m (ap (λ xs. is_in xs m) (sym same_later) ∙ h);
    }

module _ (e : Fields) (n k : ℕ) (entries : List SummaryEntry) (size : ℕ) (at : ℕ → ℕ → Option Cell) (room : ℕ → ℕ → Bool)
    (done : List Bool) (later : List ℕ) (t : Turn e n k entries size at room done later) where
  within : (m : ℕ) → is_in later m ≡ true → m < length e.local.points
  within m h = omega (arith, t.below m h, t.underway.joins_size)

  pub asks_within : k < e.places
  asks_within = omega (arith, t.place, t.underway.square)

  pub asks_all : (m : ℕ) → is_in later m ≡ true → (m < e.places) × (m < size)
  asks_all m h = (omega (arith, within m h, t.underway.square), omega (arith, within m h, t.square))

  pub asks_some : 0 < length later
  asks_some =
      some_later e.local e.order e.at
      (is_joined e.joins) e.remain t.underway.taken n k t.number t.place t.is entries at done t.swept later t.each within

  pub asks_others : is_in later k ≡ false
  asks_others =
      not_later e.local e.order e.at
      (is_joined e.joins) e.remain t.underway.taken n k t.number t.place t.is entries at done t.swept later t.each within

  other : (j : ℕ) → is_in later j ≡ true → j ≢ k
  other = later_other e.local e.order e.at
      (is_joined e.joins) e.remain t.underway.taken n k t.number t.place t.is entries at done t.swept later t.each within

  joined : (j : ℕ) → is_in later j ≡ true → is_joined e.joins k j ≡ true
  joined j h = (and_parts (remains done j) (is_joined e.joins k j) (sym (t.each j) ∙ h)).1

  back : (j : ℕ) → is_in later j ≡ true → is_joined e.joins j k ≡ true
  back j h =
      joined_back e.local e.order e.at (is_joined e.joins) e.remain t.underway.taken
      (λ p q there. let w = joined-within e.joins p q there in
      (omega (arith, w.0, t.underway.joins_size), omega (arith, w.1, t.underway.joins_size))) k j (joined j h)

  pub asks_out : (j : ℕ) → is_in later j ≡ true → room k j ≡ true
  asks_out j h =
      let apart : k ≢ j = λ same. other j h (sym same) in
      t.rooms k j t.place (within j h) apart (sym (t.underway.taken.joins k j t.place (within j h) apart) ∙ joined j h)

  pub asks_back : (j : ℕ) → is_in later j ≡ true → room j k ≡ true
  asks_back j h = t.rooms j k (within j h) t.place (other j h) (sym (t.underway.taken.joins j k (within j h) t.place (other j h)) ∙ back j h)

  pub asks_fresh : (j : ℕ) → (at k j ≡ None) × (at j k ≡ None)
  asks_fresh =
      no_cells e.local e.order e.at
      (is_joined e.joins) e.remain t.underway.taken n k t.number t.place t.is entries at done t.swept later t.each within

  rows_small : (p q : ℕ) → IfSome (e.at p q) (λ c. nat_abs c.weight ≤ greatest_walk)
  rows_small =
      rows_light e.local e.order e.at (is_joined e.joins) e.remain t.underway.taken (λ p q some.
      let w = t.inside p q some in
      (omega (arith, w.0, t.underway.square), omega (arith, w.1, t.underway.square), w.2))

  pub asks_forward : AllLight 99 e.at
  asks_forward p q = far (e.at p q) (rows_small p q) where
    far : (o : Option Cell) → IfSome o (λ c. nat_abs c.weight ≤ greatest_walk) → IfSome o (λ c. IsLight 99 c.weight)
    far None h = tt
    far (Some c) h = omega arith

  pub asks_finals : AllLight 99 at
  asks_finals =
      finals_light e.local e.order e.at
      (is_joined e.joins) e.remain t.underway.taken n k t.number t.place t.is entries at done t.swept later t.each within

  pub gives : (after : ℕ → ℕ → Option Cell) → Revisits e.at k later at after → IsSwept e.local e.order entries n after (set done k true)
  gives after r =
      swept_more e.local e.order e.at
      (is_joined e.joins) e.remain t.underway.taken n k t.number t.place t.is entries at done t.swept later t.each within
      after r rows_small

-- before the first turn; the lists have two names
pub begins : (e : Fields) → IsUnderway e → ((p : ℕ) → is_private_in e.local p ≡ true → is_in (reverse e.order) p ≡ true)
    → (entries read : List SummaryEntry) → read ≡ entries → is_summary read ≡ true → (at : ℕ → ℕ → Option Cell) → HasGiven e.local read at
    → (private lent done : List Bool) → lent ≡ private → length private ≡ length e.local.points
    → ((p : ℕ) → p < length e.local.points → slice_index_or private p false ≡ private_at e.local p)
    → length done ≡ length lent → ((p : ℕ) → p < length lent → slice_index_or done p false ≡ not (slice_index_or lent p false))
    → IsSwept e.local e.order entries (length e.order) at done
begins e underway whole entries read same valid at given private lent done same_private one_each private_is len seen =
    let many : length lent ≡ length e.local.points = ap length same_private ∙ one_each in
    swept_first e.local e.order e.at (is_joined e.joins) e.remain underway.taken whole entries
    (subst (λ es. is_summary es ≡ true) same valid)
    at (subst (λ es. HasGiven e.local es at) same given) done (len ∙ many)
    (λ p lp. seen p (omega (arith, lp, many)) ∙ ap not (ap (λ bs. slice_index_or bs p false) same_private ∙ private_is p lp))
