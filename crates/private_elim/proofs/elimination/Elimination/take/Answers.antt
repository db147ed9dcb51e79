use Rattle.std.proofs.Common.{◌≡◌, ◌≢◌, ℕ, ◌+◌, ◌-◌, ◌<◌, List, [], ◌∷◌, ◌++◌, true, ◌&&◌, ◌||◌, not, None, ap, sym, ◌∙◌, refl, arith, map, length}
use Rattle.std.proofs.Common.{get_or, take, drop, append-nil}
use Rattle.std.specs.Prelude.{reverse, is_some, ◌==◌, if◌then◌else◌}
use Rattle.std.proofs.lemmas.Bool.{and_parts}
use Rattle.std.proofs.lemmas.List.{map-append, length-map, take_all, drop_all}
use Rattle.stn_model.specs.declared.ids.PointId.{PointId}
use Rattle.stn_walk.specs.Eliminations.{is_in}
use Rattle.elim_step.specs.Eliminates.{remains, count_below}
use Rattle.elim_step.specs.Among.{StepAmong}
use Rattle.elim_step.specs.declared.step.Found.TheVariants.{Clear, Negative}
use Rattle.elim_step.specs.Eliminated.{point_at}
use Rattle.elim_step.specs.JoinedPlaces.{is_joined}
use Rattle.elim_step.proofs.Amongs.{step_among}
use Rattle.elim_step.proofs.Sound.{all_light}
use Rattle.elim_step.proofs.JoinFacts.{joined-neighbours}
use Rattle.elim_step.proofs.Roomings.{row_kept}
use Rattle.elim_step.proofs.Whole.{none-from}
use Rattle.stn_walk.proofs.Members.{is_in-at}
use Rattle.private_elim.specs.Locals.{arcs_in}
use Rattle.private_elim.specs.Degrees.{is_partial}
use Rattle.private_elim.proofs.locals.LocalFacts.{few_points}
use Rattle.private_elim.proofs.taking.Counts.{count-few, gone_after}
use Rattle.private_elim.proofs.taking.Met.{has_neighbours, met_are, some_left, partial_joins, partial_room, met_room}
use Rattle.private_elim.proofs.taking.Takes.{local_ground, taken_more, stops_at}
use Rattle.private_elim.proofs.taking.Underways.{still_underway, met_within, met_back, gone_few, partial_only, partial_rest}
use Rattle.private_elim.proofs.elimination.Elimination.take.Goals as goal

-- a slice of all of a vector, once it is written
whole_slice : (n : ℕ) (new old : List ℕ) → length new ≡ length old → n ≡ length old → take n (new ++ drop (length new) old) ≡ new
whole_slice n new old same many =
    ap (λ xs. take n (new ++ xs)) (drop_all (length new) old (omega (arith, same))) ∙ ap (take n) (append-nil new) ∙ take_all n new (omega (arith, same, many))

pub overflow_cast-others : goal.overflow_cast-others
overflow_cast-others g c =
    let i = c.self.inside in
    let few =
    some_left _ _ _ _ _ c.self.invariant.taken c.args.place (rw (← c.self.view_is) at c.requires.within) (rw (← c.self.view_is) at c.requires.left) in
    let many = length-map i.order.items (λ (p : PointId). p.0) in
    let size = c.size.ensures.count in
    omega (arith, few, many, size, c.len.ensures, i.order.ok.0)

pub overflow_sub-others : goal.overflow_sub-others
overflow_sub-others g c =
    let i = c.self.inside in
    let few =
    some_left _ _ _ _ _ c.self.invariant.taken c.args.place (rw (← c.self.view_is) at c.requires.within) (rw (← c.self.view_is) at c.requires.left) in
    let many = length-map i.order.items (λ (p : PointId). p.0) in
    let size = c.size.ensures.count in
    omega (arith, few, many, size, c.len.ensures, i.order.ok.0)

pub overflow_sub-others-2 : goal.overflow_sub-others-2
overflow_sub-others-2 g c =
    let i = c.self.inside in
    let few =
    some_left _ _ _ _ _ c.self.invariant.taken c.args.place (rw (← c.self.view_is) at c.requires.within) (rw (← c.self.view_is) at c.requires.left) in
    let many = length-map i.order.items (λ (p : PointId). p.0) in
    let size = c.size.ensures.count in
    omega (arith, few, many, size, c.len.ensures, i.order.ok.0)

pub list_partial-requires-clause-few : goal.list_partial-requires-clause-few
list_partial-requires-clause-few g c =
    rw (c.as_slice-2.ensures.value, c.as_slice-3.ensures.value)
    (gone_few _ c.self.invariant c.args.place c.neighbours.new.list.items (rw c.as_slice.ensures.value at c.in_ok-neighbours.ensures.each))

pub make_room_among-requires-clause-within : goal.make_room_among-requires-clause-within
make_room_among-requires-clause-within g c =
    let partial = c.list_partial.new.partial.items in
    let met = c.neighbours.new.list.items in
    let some : (p : ℕ) → is_in partial p ≡ (is_in met p && is_partial c.self.inside.joins c.as_slice-2.result.now _ p) =
    (rw c.as_slice-3.ensures.value at c.in_ok-list_partial.ensures.each) in
    rw c.as_slice-4.ensures.value
    (λ m low. let here = (and_parts (is_in met (get_or partial m 0)) _ (sym (some (get_or partial m 0)) ∙ is_in-at partial m low)).0 in
    let within = c.in_ok-neighbours.ensures.within (get_or partial m 0) here in
    omega (arith, within, c.self.invariant.square, c.self.invariant.joins_size))

pub invariant_of-self-in_err-reserve_all : goal.invariant_of-self-in_err-reserve_all
invariant_of-self-in_err-reserve_all g c =
    still_underway _ c.self.invariant _ _ _ c.reserve_all.new.self _ refl c.make_room_among.ensures.places c.make_room_among.ensures.cells
    c.reserve_all.ensures.size c.reserve_all.ensures.pairs (λ p q had. row_kept _ _ _ (c.in_ok-make_room_among.ensures.room p q) had)

pub invariant_of-self-in_err-reserve : goal.invariant_of-self-in_err-reserve
invariant_of-self-in_err-reserve g c =
    still_underway _ c.self.invariant _ _ _ c.reserve_all.new.self _ (ap (map (λ (p : PointId). p.0)) c.reserve.ensures.items)
    c.make_room_among.ensures.places c.make_room_among.ensures.cells
    c.reserve_all.ensures.size c.reserve_all.ensures.pairs (λ p q had. row_kept _ _ _ (c.in_ok-make_room_among.ensures.room p q) had)

pub eliminate_with_room-requires-clause-rising : goal.eliminate_with_room-requires-clause-rising
eliminate_with_room-requires-clause-rising g c = rw c.as_slice-6.ensures.value c.in_ok-neighbours.ensures.places

pub eliminate_with_room-requires-clause-light : goal.eliminate_with_room-requires-clause-light
eliminate_with_room-requires-clause-light g c p q =
    let e = c.self.inside in
    let v = e.local in
    let h = c.self.invariant in
    let square = h.square in
    let inside : (p q : ℕ) → is_some (g.R.Rows.at e.rows p q) ≡ true → (p < length v.points) × (q < length v.points) × (p ≢ q) =
    λ p q here. let w = g.met.R.Rows.room_is_within e.rows p q (g.met.R.Rows.cells_have_room e.rows p q here) in let lp = w.0 in let lq = w.1 in
    (omega arith, omega arith, w.2) in
    rw (c.make_room_among.ensures.cells p q)
    (all_light v.points (arcs_in v) (local_ground v h.taken.known) (reverse (map (λ (p : PointId). p.0) e.order.items))
    (g.R.Rows.at e.rows) e.remain.items h.taken.cells inside p q)

pub eliminate_with_room-requires-clause-room : goal.eliminate_with_room-requires-clause-room
eliminate_with_room-requires-clause-room g c i j at_i at_j apart =
    let e = c.self.inside in
    let h = c.self.invariant in
    let met = c.neighbours.new.list.items in
    let partial = c.list_partial.new.partial.items in
    let others = c.size.result - c.len.result - 1 in
    let few = some_left _ _ _ _ _ h.taken c.args.place (rw (← c.self.view_is) at c.requires.within) (rw (← c.self.view_is) at c.requires.left) in
    let size = c.size.ensures.count in
    let len = length-map e.order.items (λ (p : PointId). p.0) in
    let many : others + 1 + length (map (λ (p : PointId). p.0) e.order.items) ≡ length e.local.points =
    omega (arith, few, size, len, c.len.ensures, e.order.ok.0) in
    let each : (p : ℕ) → is_in met p ≡ (remains e.remain.items p && is_joined e.joins c.args.place p) =
    (rw c.as_slice.ensures.value at c.in_ok-neighbours.ensures.each) in
    let some : (p : ℕ) → is_in partial p ≡ (is_in met p && is_partial e.joins e.gone.items others p) =
    (rw (c.as_slice-3.ensures.value, c.as_slice-2.ensures.value) at c.in_ok-list_partial.ensures.each) in
    met_room (is_joined e.joins) met partial (partial_only _ h c.args.place met each partial others many some)
    (partial_rest _ h c.args.place met each partial others many some) (met_back _ h) (g.R.Rows.has_room e.rows)
    (g.R.Rows.has_room c.make_room_among.new.self) h.roomy (rw c.as_slice-4.ensures.value at c.in_ok-make_room_among.ensures.room)
    i j (rw c.as_slice-6.ensures.value at at_i) (rw c.as_slice-6.ensures.value at at_j) apart

pub invariant_of-self-in-Negative : goal.invariant_of-self-in-Negative
invariant_of-self-in-Negative g c =
    let e = c.self.inside in
    let met = c.neighbours.new.list.items in
    let step : StepAmong met c.args.place (g.R.Rows.at c.make_room_among.new.self) (g.R.Rows.at c.eliminate_with_room.new.rows) (Negative c.in-Negative.other) =
    (rw (c.as_slice-6.ensures.value, c.in-Negative.is) at c.eliminate_with_room.ensures.step) in
    still_underway _ c.self.invariant _ _ _ c.reserve_all.new.self _ (ap (map (λ (p : PointId). p.0)) c.reserve.ensures.items)
    (c.eliminate_with_room.ensures.places ∙ c.make_room_among.ensures.places) (λ p q. step.3 p q ∙ c.make_room_among.ensures.cells p q)
    c.reserve_all.ensures.size c.reserve_all.ensures.pairs
    (λ p q had. c.eliminate_with_room.ensures.room p q ∙ row_kept _ _ _ (c.in_ok-make_room_among.ensures.room p q) had)

pub returns-in-Negative-clause-met : goal.returns-in-Negative-clause-met
returns-in-Negative-clause-met g c =
    let e = c.self.inside in
    let h = c.self.invariant in
    let met = c.neighbours.new.list.items in
    let each : (p : ℕ) → is_in met p ≡ (remains e.remain.items p && is_joined e.joins c.args.place p) =
    (rw c.as_slice.ensures.value at c.in_ok-neighbours.ensures.each) in
    rw (← c.self.view_is)
    (met_are e.local (map (λ (p : PointId). p.0) e.order.items) (g.R.Rows.at e.rows) (is_joined e.joins) e.remain.items h.taken c.args.place met
    (rw (← c.self.view_is) at c.requires.within) (rw (← c.self.view_is) at c.requires.left) (met_within _ h c.args.place met each) each
    ((rw c.as_slice.ensures.value at c.in_ok-neighbours.ensures.count)
    ∙ ap (count_below (λ p. remains e.remain.items p && is_joined e.joins c.args.place p)) h.joins_size))

pub returns-in-Clear-clause-met : goal.returns-in-Clear-clause-met
returns-in-Clear-clause-met g c =
    let e = c.self.inside in
    let h = c.self.invariant in
    let met = c.neighbours.new.list.items in
    let each : (p : ℕ) → is_in met p ≡ (remains e.remain.items p && is_joined e.joins c.args.place p) =
    (rw c.as_slice.ensures.value at c.in_ok-neighbours.ensures.each) in
    rw (← c.self.view_is)
    (met_are e.local (map (λ (p : PointId). p.0) e.order.items) (g.R.Rows.at e.rows) (is_joined e.joins) e.remain.items h.taken c.args.place met
    (rw (← c.self.view_is) at c.requires.within) (rw (← c.self.view_is) at c.requires.left) (met_within _ h c.args.place met each) each
    ((rw c.as_slice.ensures.value at c.in_ok-neighbours.ensures.count)
    ∙ ap (count_below (λ p. remains e.remain.items p && is_joined e.joins c.args.place p)) h.joins_size))

pub returns-in-Negative-clause-taken : goal.returns-in-Negative-clause-taken
returns-in-Negative-clause-taken g c =
    let e = c.self.inside in
    let v = e.local in
    let h = c.self.invariant in
    let place = c.args.place in
    let order = map (λ (p : PointId). p.0) e.order.items in
    let met = c.neighbours.new.list.items in
    let at = g.R.Rows.at e.rows in
    let same : g.R.Rows.at c.make_room_among.new.self ≡ at = (λ t p q. c.make_room_among.ensures.cells p q t) in
    let among : StepAmong met place at (g.R.Rows.at c.eliminate_with_room.new.rows) (Negative c.in-Negative.other) =
    (rw (c.as_slice-6.ensures.value, c.in-Negative.is, same) at c.eliminate_with_room.ensures.step) in
    let square = h.square in
    let inside : (p q : ℕ) → is_some (at p q) ≡ true → (p < length v.points) × (q < length v.points) × (p ≢ q) =
    λ p q there. let w = g.met.R.Rows.room_is_within e.rows p q (g.met.R.Rows.cells_have_room e.rows p q there) in
    let lp = w.0 in let lq = w.1 in (omega arith, omega arith, w.2) in
    let none : at place place ≡ None = none-from (at place place) (λ there. (inside place place there).2 refl) in
    let within = (rw (← c.self.view_is) at c.requires.within) in
    let left = (rw (← c.self.view_is) at c.requires.left) in
    let has =
    has_neighbours v order at (is_joined e.joins) e.remain.items h.taken place met within left inside
    (rw c.as_slice.ensures.value at c.in_ok-neighbours.ensures.each) in
    let step = step_among e.remain.items at place met has (g.R.Rows.at c.eliminate_with_room.new.rows) (Negative c.in-Negative.other) none among in
    let stops = stops_at v order at (is_joined e.joins) e.remain.items h.taken place c.in-Negative.other within left none step.0 step.1 in
    rw (← c.self.view_is) (stops.0, ap (map (λ (p : PointId). p.0)) c.reserve.ensures.items, stops.1)

pub join_all_reserved-requires-clause-rising : goal.join_all_reserved-requires-clause-rising
join_all_reserved-requires-clause-rising g c = rw c.as_slice-in-Clear.ensures.value c.in_ok-list_partial.ensures.rising

pub join_all_reserved-requires-clause-room : goal.join_all_reserved-requires-clause-room
join_all_reserved-requires-clause-room g c = rw c.as_slice-in-Clear.ensures.value (rw c.as_slice-5.ensures.value at c.in_ok-reserve_all.ensures.room)

pub count_gone-requires-clause-rising : goal.count_gone-requires-clause-rising
count_gone-requires-clause-rising g c = rw c.as_slice-in-Clear-2.ensures.value c.in_ok-neighbours.ensures.places

pub count_gone-requires-clause-few : goal.count_gone-requires-clause-few
count_gone-requires-clause-few g c p here =
    let e = c.self.inside in
    let h = c.self.invariant in
    let few =
    gone_few _ h c.args.place c.neighbours.new.list.items (rw c.as_slice.ensures.value at c.in_ok-neighbours.ensures.each) p
    (rw c.as_slice-in-Clear-2.ensures.value at here) in
    let most = count-few (is_joined e.joins p) e.joins.size in
    let same : get_or c.as_mut_slice.result.now p 0 ≡ get_or e.gone.items p 0 = ap (λ xs. get_or xs p 0) c.as_mut_slice.ensures.value in
    let size = h.joins_size in
    let all = few_points e.local h.taken.known in
    omega (arith, few, most, same, size, all)

pub invariant_of-self-in-Clear : goal.invariant_of-self-in-Clear
invariant_of-self-in-Clear g c =
    let e = c.self.inside in
    let v = e.local in
    let h = c.self.invariant in
    let k = c.args.place in
    let at = g.R.Rows.at e.rows in
    let after = g.R.Rows.at c.eliminate_with_room.new.rows in
    let joins' = c.join_all_reserved.new.self in
    let met = c.neighbours.new.list.items in
    let partial = c.list_partial.new.partial.items in
    let order = map (λ (p : PointId). p.0) e.order.items in
    let others = c.size.result - c.len.result - 1 in
    let same : g.R.Rows.at c.make_room_among.new.self ≡ at = (λ t p q. c.make_room_among.ensures.cells p q t) in
    let among : StepAmong met k at after Clear = (rw (c.as_slice-6.ensures.value, c.in-Clear.is, same) at c.eliminate_with_room.ensures.step) in
    let within = (rw (← c.self.view_is) at c.requires.within) in
    let private = (rw (← c.self.view_is) at c.requires.private) in
    let left = (rw (← c.self.view_is) at c.requires.left) in
    let few = some_left v order at (is_joined e.joins) e.remain.items h.taken k within left in
    let size = c.size.ensures.count in
    let len = length-map e.order.items (λ (p : PointId). p.0) in
    let many : others + 1 + length order ≡ length v.points = omega (arith, few, size, len, c.len.ensures, e.order.ok.0) in
    let each : (p : ℕ) → is_in met p ≡ (remains e.remain.items p && is_joined e.joins k p) =
    (rw c.as_slice.ensures.value at c.in_ok-neighbours.ensures.each) in
    let some : (p : ℕ) → is_in partial p ≡ (is_in met p && is_partial e.joins e.gone.items others p) =
    (rw (c.as_slice-3.ensures.value, c.as_slice-2.ensures.value) at c.in_ok-list_partial.ensures.each) in
    let only = partial_only _ h k met each partial others many some in
    let rest = partial_rest _ h k met each partial others many some in
    let back = met_back _ h in
    let more : (p q : ℕ) → is_joined joins' p q ≡ (is_joined e.joins p q || (not (p == q) && is_in partial p && is_in partial q)) =
    λ p q. (rw c.as_slice-in-Clear.ensures.value at c.join_all_reserved.ensures.pairs) p q
    ∙ ap (λ b. b || (not (p == q) && is_in partial p && is_in partial q)) (c.reserve_all.ensures.pairs p q) in
    let square = h.square in
    let inside : (p q : ℕ) → is_some (at p q) ≡ true → (p < length v.points) × (q < length v.points) × (p ≢ q) =
    λ p q there. let w = g.met.R.Rows.room_is_within e.rows p q (g.met.R.Rows.cells_have_room e.rows p q there) in
    let lp = w.0 in let lq = w.1 in (omega arith, omega arith, w.2) in
    let none : at k k ≡ None = none-from (at k k) (λ there. (inside k k there).2 refl) in
    let has = has_neighbours v order at (is_joined e.joins) e.remain.items h.taken k met within left inside each in
    let step = step_among e.remain.items at k met has after Clear none among in
    let joins =
    joined-neighbours e.remain.items k met (is_joined e.joins) (is_joined joins') each
    (λ p q. more p q ∙ partial_joins (is_joined e.joins) met partial only rest back p q) in
    let joins_size : joins'.size ≡ e.joins.size = c.join_all_reserved.ensures.size ∙ c.reserve_all.ensures.size in
    let remain_len = h.taken.cells.len in
    let lk : k < length e.remain.items = omega (arith, within, remain_len) in
    let here : remains e.remain.items k ≡ true = h.taken.cells.remaining k within ∙ ap not left in
    let was : (p : ℕ) → remains e.remain.items p ≡ true
    → get_or e.gone.items p 0 ≡ count_below (λ q. not (remains e.remain.items q) && is_joined e.joins p q) joins'.size =
    λ p t. h.gone p t ∙ ap (count_below (λ q. not (remains e.remain.items q) && is_joined e.joins p q)) (sym joins_size) in
    let slice : c.as_mut_slice.result.now ≡ e.gone.items = c.as_mut_slice.ensures.value in
    let same_len : length c.count_gone.new.gone ≡ length e.gone.items = c.count_gone.ensures.len ∙ ap length slice in
    let whole = whole_slice e.gone.len c.count_gone.new.gone e.gone.items same_len e.gone.ok.0 in
    let now : (p : ℕ) → get_or c.count_gone.new.gone p 0 ≡ get_or e.gone.items p 0 + (if is_in met p then 1 else 0) =
    λ p. (rw c.as_slice-in-Clear-2.ensures.value at c.count_gone.ensures.each) p
    ∙ ap (λ xs. get_or xs p 0 + (if is_in met p then 1 else 0)) slice in
    let point : c.point-point.result.0 ≡ point_at v.points k = c.point-point.ensures in
    let turned : map (λ (p : PointId). p.0) c.push_reserved.new.self.items ≡ order ++ point_at v.points k ∷ [] =
    ap (map (λ (p : PointId). p.0)) (c.push_reserved.ensures.items ∙ ap (λ xs. xs ++ c.point-point.result ∷ []) c.reserve.ensures.items)
    ∙ map-append (λ (p : PointId). p.0) e.order.items (c.point-point.result ∷ []) ∙ ap (λ x. order ++ x ∷ []) point in
    record {
      square = c.eliminate_with_room.ensures.places ∙ c.make_room_among.ensures.places ∙ h.square;
      joins_size = joins_size ∙ h.joins_size;
      gone_len = ap length whole ∙ same_len ∙ h.gone_len;
      gone = λ p there. ap (λ xs. get_or xs p 0) whole
          ∙ gone_after joins'.size e.remain.items k (is_joined e.joins) (is_joined joins') met (λ p. get_or e.gone.items p 0)
          (λ p. get_or c.count_gone.new.gone p 0) lk (omega (arith, within, joins_size, h.joins_size)) here each back joins was now p there;
      roomy = λ p q there. c.eliminate_with_room.ensures.room p q
          ∙ partial_room (is_joined e.joins) met partial only rest back (g.R.Rows.has_room e.rows) (g.R.Rows.has_room c.make_room_among.new.self) h.roomy
          (rw c.as_slice-4.ensures.value at c.in_ok-make_room_among.ensures.room) p q (sym (more p q) ∙ there);
      taken = rw turned (taken_more v order at after (is_joined e.joins) (is_joined joins') e.remain.items k h.taken within private left step.0 step.1 joins);
    }
