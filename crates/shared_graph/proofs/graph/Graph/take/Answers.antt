use Rattle.std.proofs.Common.{Vec, Global, ◌≡◌, ◌≢◌, ℕ, ◌<◌, ◌≤◌, ◌+◌, ◌*◌, ◌++◌, [], ◌∷◌, List, true, ◌&&◌, ◌||◌, not, ap, sym, ◌∙◌, refl}
use Rattle.std.proofs.Common.{arith, length, subst, get_or, take, drop, append-nil}
use Rattle.std.specs.Prelude.{◌==◌, is_some, if◌then◌else◌}
use Rattle.stn_walk.specs.Eliminations.{is_in}
use Rattle.elim_step.specs.Among.{StepAmong}
use Rattle.elim_step.specs.Eliminates.{remains}
use Rattle.elim_step.specs.JoinedPlaces.{is_joined as are_joined}
use Rattle.elim_step.specs.declared.step.Found.TheVariants.{Clear, Negative}
use Rattle.stn_model.specs.declared.ids.PointId.{PointId}
use Rattle.shared_graph.specs.Graphs.{state_of}
use Rattle.shared_graph.proofs.graphs.Keeping.{still_graph}
use Rattle.shared_graph.proofs.graphs.Negatives.{none_least, some_least}
use Rattle.shared_graph.proofs.graphs.Standing.{cells_light}
use Rattle.std.proofs.lemmas.List.{map-set, take_all, drop_all}
use Rattle.shared_graph.proofs.graphs.Taking.{taken_graph, turn_of, left_told, above_none, gone_few, gives, order_grown}
use Rattle.shared_graph.proofs.graph.Graph.take.Goals as goal

pub invariant_of-self : goal.invariant_of-self
invariant_of-self g c =
    still_graph _ c.self.invariant _ _ _ c.reserve_all.new.self _ _ _ refl refl (λ p q. refl) c.reserve_all.ensures.size c.reserve_all.ensures.pairs refl
    (λ p q. refl) (λ p q room. room)

pub invariant_of-self-in_err-reserve : goal.invariant_of-self-in_err-reserve
invariant_of-self-in_err-reserve g c =
    let i = c.self.inside in
    still_graph _ c.self.invariant _ _ _ c.reserve_all.new.self _ _ _
    (ap (λ items. state_of i.published.items items i.stop i.revisited.items) c.reserve.ensures.items) refl (λ p q. refl) c.reserve_all.ensures.size
    c.reserve_all.ensures.pairs refl (λ p q. refl) (λ p q room. room)

pub open_finals-requires-clause-rising : goal.open_finals-requires-clause-rising
open_finals-requires-clause-rising g c = rw c.as_slice-3.ensures.value c.in_ok-neighbours.ensures.places

pub invariant_of-self-in_err-open_finals : goal.invariant_of-self-in_err-open_finals
invariant_of-self-in_err-open_finals g c =
    let i = c.self.inside in
    still_graph _ c.self.invariant _ _ _ c.reserve_all.new.self _ _ _
    (ap (λ items. state_of i.published.items items i.stop i.revisited.items) c.reserve.ensures.items) refl (λ p q. refl) c.reserve_all.ensures.size
    c.reserve_all.ensures.pairs c.open_finals.ensures.places c.open_finals.ensures.cells c.open_finals.ensures.kept

pub eliminate_among-requires-clause-rising : goal.eliminate_among-requires-clause-rising
eliminate_among-requires-clause-rising g c = rw c.as_slice-4.ensures.value c.in_ok-neighbours.ensures.places

pub eliminate_among-requires-clause-light : goal.eliminate_among-requires-clause-light
eliminate_among-requires-clause-light g c =
    let i = c.self.inside in
    cells_light _ c.self.invariant (λ p q here. g.met.R.Rows.room_is_within i.rows p q (g.met.R.Rows.cells_have_room i.rows p q here))

pub invariant_of-self-in_err-other : goal.invariant_of-self-in_err-other
invariant_of-self-in_err-other g c =
    let i = c.self.inside in
    still_graph _ c.self.invariant _ _ _ c.reserve_all.new.self _ _ _
    (ap (λ items. state_of i.published.items items i.stop i.revisited.items) c.reserve.ensures.items) c.eliminate_among.ensures.places
    c.in_err-other.ensures.err c.reserve_all.ensures.size c.reserve_all.ensures.pairs c.open_finals.ensures.places c.open_finals.ensures.cells
    c.open_finals.ensures.kept

pub join_all_reserved-requires-clause-rising : goal.join_all_reserved-requires-clause-rising
join_all_reserved-requires-clause-rising g c = rw c.as_slice-in-Clear.ensures.value c.in_ok-neighbours.ensures.places

pub invariant_of-self-in-Negative-1 : goal.invariant_of-self-in-Negative-1
invariant_of-self-in-Negative-1 g c =
    let i = c.self.inside in
    let list = c.neighbours.new.list.items in
    let step : StepAmong list c.in-Some.place (g.R.Rows.at i.rows) (g.R.Rows.at c.eliminate_among.new.rows) (Negative c.in-Negative.other) =
    (rw (c.as_slice-4.ensures.value, c.in-Negative.is) at c.in_ok-other.ensures.step) in
    still_graph _ c.self.invariant _ _ _ c.reserve_all.new.self _ _ _
    (ap (λ items. state_of i.published.items items i.stop i.revisited.items) c.reserve.ensures.items) c.eliminate_among.ensures.places
    step.3 c.reserve_all.ensures.size c.reserve_all.ensures.pairs c.open_finals.ensures.places c.open_finals.ensures.cells
    c.open_finals.ensures.kept

pub returns-in_err-other-clause-most : goal.returns-in_err-other-clause-most
returns-in_err-other-clause-most g c =
    let i = c.self.inside in
    let k = c.in-Some.place in
    let list = c.neighbours.new.list.items in
    let at = c.in-Some.ensures in
    let turn = turn_of _ c.self.invariant _ c.self.view_is c.args.point k c.requires at.some.0 at.some.1 in
    let each : (p : ℕ) → is_in list p ≡ (remains i.remain.items p && are_joined i.joins k p) =
    (rw c.as_slice.ensures.value at c.in_ok-neighbours.ensures.each) in
    let many =
    left_told _ c.self.invariant (λ p q here. g.met.R.Rows.room_is_within i.rows p q (g.met.R.Rows.cells_have_room i.rows p q here)) _ c.self.view_is
    c.args.point.0 k turn list each c.in_ok-neighbours.ensures.places in
    let most : c.eliminate_among.new.steps ≤ c.args.steps.now + (length list * length list + length list) =
    (rw c.as_slice-4.ensures.value at c.eliminate_among.ensures.most) in
    subst (λ d. c.eliminate_among.new.steps ≤ c.args.steps.now + (d * d + d)) many most

pub returns-in-Negative-clause-most : goal.returns-in-Negative-clause-most
returns-in-Negative-clause-most g c =
    let i = c.self.inside in
    let k = c.in-Some.place in
    let list = c.neighbours.new.list.items in
    let at = c.in-Some.ensures in
    let turn = turn_of _ c.self.invariant _ c.self.view_is c.args.point k c.requires at.some.0 at.some.1 in
    let each : (p : ℕ) → is_in list p ≡ (remains i.remain.items p && are_joined i.joins k p) =
    (rw c.as_slice.ensures.value at c.in_ok-neighbours.ensures.each) in
    let many =
    left_told _ c.self.invariant (λ p q here. g.met.R.Rows.room_is_within i.rows p q (g.met.R.Rows.cells_have_room i.rows p q here)) _ c.self.view_is
    c.args.point.0 k turn list each c.in_ok-neighbours.ensures.places in
    let most : c.eliminate_among.new.steps ≤ c.args.steps.now + (length list * length list + length list) =
    (rw c.as_slice-4.ensures.value at c.eliminate_among.ensures.most) in
    subst (λ d. c.eliminate_among.new.steps ≤ c.args.steps.now + (d * d + d)) many most

pub returns-in-Clear-clause-most : goal.returns-in-Clear-clause-most
returns-in-Clear-clause-most g c =
    let i = c.self.inside in
    let k = c.in-Some.place in
    let list = c.neighbours.new.list.items in
    let at = c.in-Some.ensures in
    let turn = turn_of _ c.self.invariant _ c.self.view_is c.args.point k c.requires at.some.0 at.some.1 in
    let each : (p : ℕ) → is_in list p ≡ (remains i.remain.items p && are_joined i.joins k p) =
    (rw c.as_slice.ensures.value at c.in_ok-neighbours.ensures.each) in
    let many =
    left_told _ c.self.invariant (λ p q here. g.met.R.Rows.room_is_within i.rows p q (g.met.R.Rows.cells_have_room i.rows p q here)) _ c.self.view_is
    c.args.point.0 k turn list each c.in_ok-neighbours.ensures.places in
    let most : c.eliminate_among.new.steps ≤ c.args.steps.now + (length list * length list + length list) =
    (rw c.as_slice-4.ensures.value at c.eliminate_among.ensures.most) in
    subst (λ d. c.eliminate_among.new.steps ≤ c.args.steps.now + (d * d + d)) many most

pub returns-in-Clear-clause-some : goal.returns-in-Clear-clause-some
returns-in-Clear-clause-some g c =
    let i = c.self.inside in
    let k = c.in-Some.place in
    let list = c.neighbours.new.list.items in
    let at = c.in-Some.ensures in
    let turn = turn_of _ c.self.invariant _ c.self.view_is c.args.point k c.requires at.some.0 at.some.1 in
    let each : (p : ℕ) → is_in list p ≡ (remains i.remain.items p && are_joined i.joins k p) =
    (rw c.as_slice.ensures.value at c.in_ok-neighbours.ensures.each) in
    let many =
    left_told _ c.self.invariant (λ p q here. g.met.R.Rows.room_is_within i.rows p q (g.met.R.Rows.cells_have_room i.rows p q here)) _ c.self.view_is
    c.args.point.0 k turn list each c.in_ok-neighbours.ensures.places in
    let some : 0 < length list → c.args.steps.now < c.eliminate_among.new.steps = (rw c.as_slice-4.ensures.value at c.in_ok-other.ensures.some) in
    λ above. some (subst (λ d. 0 < d) (sym many) above)

pub returns-in-Negative-clause-negative : goal.returns-in-Negative-clause-negative
returns-in-Negative-clause-negative g c =
    let i = c.self.inside in
    let k = c.in-Some.place in
    let list = c.neighbours.new.list.items in
    let at = c.in-Some.ensures in
    let turn = turn_of _ c.self.invariant _ c.self.view_is c.args.point k c.requires at.some.0 at.some.1 in
    let each : (p : ℕ) → is_in list p ≡ (remains i.remain.items p && are_joined i.joins k p) =
    (rw c.as_slice.ensures.value at c.in_ok-neighbours.ensures.each) in
    let step : StepAmong list k (g.R.Rows.at i.rows) (g.R.Rows.at c.eliminate_among.new.rows) (Negative c.in-Negative.other) =
    (rw (c.as_slice-4.ensures.value, c.in-Negative.is) at c.in_ok-other.ensures.step) in
    let found =
    gives _ c.self.invariant (λ p q here. g.met.R.Rows.room_is_within i.rows p q (g.met.R.Rows.cells_have_room i.rows p q here)) k turn.low list each
    c.in_ok-neighbours.ensures.places (g.R.Rows.at c.eliminate_among.new.rows) (Negative c.in-Negative.other) step in
    sym
    (some_least _ c.self.invariant (λ p q here. g.met.R.Rows.room_is_within i.rows p q (g.met.R.Rows.cells_have_room i.rows p q here)) _ c.self.view_is
    c.args.point.0 k c.in-Negative.other _ i.remain.items refl at.some.0 at.some.1 found.0 found.1 c.index.ensures)

pub returns-in-Clear-clause-negative : goal.returns-in-Clear-clause-negative
returns-in-Clear-clause-negative g c =
    let i = c.self.inside in
    let k = c.in-Some.place in
    let list = c.neighbours.new.list.items in
    let at = c.in-Some.ensures in
    let turn = turn_of _ c.self.invariant _ c.self.view_is c.args.point k c.requires at.some.0 at.some.1 in
    let each : (p : ℕ) → is_in list p ≡ (remains i.remain.items p && are_joined i.joins k p) =
    (rw c.as_slice.ensures.value at c.in_ok-neighbours.ensures.each) in
    let step : StepAmong list k (g.R.Rows.at i.rows) (g.R.Rows.at c.eliminate_among.new.rows) Clear =
    (rw (c.as_slice-4.ensures.value, c.in-Clear.is) at c.in_ok-other.ensures.step) in
    let found =
    gives _ c.self.invariant (λ p q here. g.met.R.Rows.room_is_within i.rows p q (g.met.R.Rows.cells_have_room i.rows p q here)) k turn.low list each
    c.in_ok-neighbours.ensures.places (g.R.Rows.at c.eliminate_among.new.rows) Clear step in
    sym
    (none_least _ c.self.invariant (λ p q here. g.met.R.Rows.room_is_within i.rows p q (g.met.R.Rows.cells_have_room i.rows p q here)) _ c.self.view_is
    c.args.point.0 k i.remain.items refl at.some.0 at.some.1 found.0)

pub overflow_sub-self : goal.overflow_sub-self
overflow_sub-self g c =
    let i = c.self.inside in
    let k = c.in-Some.place in
    let list = c.neighbours.new.list.items in
    let at = c.in-Some.ensures in
    let turn = turn_of _ c.self.invariant _ c.self.view_is c.args.point k c.requires at.some.0 at.some.1 in
    let each : (p : ℕ) → is_in list p ≡ (remains i.remain.items p && are_joined i.joins k p) =
    (rw c.as_slice.ensures.value at c.in_ok-neighbours.ensures.each) in
    above_none _ c.self.invariant (λ p q here. g.met.R.Rows.room_is_within i.rows p q (g.met.R.Rows.cells_have_room i.rows p q here)) k turn.low list each
    c.in_ok-neighbours.ensures.places turn.going turn.own turn.fresh

-- a slice of a whole list, written over
whole_slice : (n : ℕ) (new old : List ℕ) → length new ≡ length old → n ≡ length old → take n (new ++ drop (length new) old) ≡ new
whole_slice n new old same many =
    ap (λ m. take n (new ++ drop m old)) same ∙ ap (λ xs. take n (new ++ xs)) (drop_all (length old) old (omega arith)) ∙ ap (take n) (append-nil new)
    ∙ take_all n new (omega arith)

pub count_gone-requires-clause-within : goal.count_gone-requires-clause-within
count_gone-requires-clause-within g c p here =
    let i = c.self.inside in
    let k = c.in-Some.place in
    let list = c.neighbours.new.list.items in
    let at = c.in-Some.ensures in
    let turn = turn_of _ c.self.invariant _ c.self.view_is c.args.point k c.requires at.some.0 at.some.1 in
    let each : (p : ℕ) → is_in list p ≡ (remains i.remain.items p && are_joined i.joins k p) =
    (rw c.as_slice.ensures.value at c.in_ok-neighbours.ensures.each) in
    let few =
    gone_few _ c.self.invariant (λ p q here. g.met.R.Rows.room_is_within i.rows p q (g.met.R.Rows.cells_have_room i.rows p q here)) k turn.low list each
    c.in_ok-neighbours.ensures.places turn.going turn.own turn.fresh p (rw c.as_slice-in-Clear-2.ensures.value at here) in
    let same : length c.as_mut_slice.result.now ≡ length i.gone.items = ap length c.as_mut_slice.ensures.value in
    omega (arith, few.0, same)

pub count_gone-requires-clause-rising : goal.count_gone-requires-clause-rising
count_gone-requires-clause-rising g c = rw c.as_slice-in-Clear-2.ensures.value c.in_ok-neighbours.ensures.places

pub count_gone-requires-clause-few : goal.count_gone-requires-clause-few
count_gone-requires-clause-few g c p here =
    let i = c.self.inside in
    let k = c.in-Some.place in
    let list = c.neighbours.new.list.items in
    let at = c.in-Some.ensures in
    let turn = turn_of _ c.self.invariant _ c.self.view_is c.args.point k c.requires at.some.0 at.some.1 in
    let each : (p : ℕ) → is_in list p ≡ (remains i.remain.items p && are_joined i.joins k p) =
    (rw c.as_slice.ensures.value at c.in_ok-neighbours.ensures.each) in
    let few =
    gone_few _ c.self.invariant (λ p q here. g.met.R.Rows.room_is_within i.rows p q (g.met.R.Rows.cells_have_room i.rows p q here)) k turn.low list each
    c.in_ok-neighbours.ensures.places turn.going turn.own turn.fresh p (rw c.as_slice-in-Clear-2.ensures.value at here) in
    let same : get_or c.as_mut_slice.result.now p 0 ≡ get_or i.gone.items p 0 = ap (λ xs. get_or xs p 0) c.as_mut_slice.ensures.value in
    let size = c.self.invariant.joins_size in
    omega (arith, few.1, same, size)

pub invariant_of-self-in-Clear : goal.invariant_of-self-in-Clear
invariant_of-self-in-Clear g c =
    let i = c.self.inside in
    let k = c.in-Some.place in
    let list = c.neighbours.new.list.items in
    let at = c.in-Some.ensures in
    let turn = turn_of _ c.self.invariant _ c.self.view_is c.args.point k c.requires at.some.0 at.some.1 in
    let each : (p : ℕ) → is_in list p ≡ (remains i.remain.items p && are_joined i.joins k p) =
    (rw c.as_slice.ensures.value at c.in_ok-neighbours.ensures.each) in
    let step : StepAmong list k (g.R.Rows.at i.rows) (g.R.Rows.at c.eliminate_among.new.rows) Clear =
    (rw (c.as_slice-4.ensures.value, c.in-Clear.is) at c.in_ok-other.ensures.step) in
    let pairs : (p q : ℕ) → are_joined c.join_all_reserved.new.self p q ≡ (are_joined i.joins p q || (not (p == q) && is_in list p && is_in list q)) =
    λ p q. (rw c.as_slice-in-Clear.ensures.value at c.join_all_reserved.ensures.pairs) p q
    ∙ ap (λ b. b || (not (p == q) && is_in list p && is_in list q)) (c.reserve_all.ensures.pairs p q) in
    let inside : (p q : ℕ) → is_some (g.R.Rows.at i.rows p q) ≡ true → (p < g.R.Rows.places i.rows) × (q < g.R.Rows.places i.rows) × (p ≢ q) =
    (λ p q here. g.met.R.Rows.room_is_within i.rows p q (g.met.R.Rows.cells_have_room i.rows p q here)) in
    let above = above_none _ c.self.invariant inside k turn.low list each c.in_ok-neighbours.ensures.places turn.going turn.own turn.fresh in
    let room : (m : ℕ) → is_in list m ≡ true
    → (g.R.Rows.has_room c.open_finals.new.finals k m ≡ true) × (g.R.Rows.has_room c.open_finals.new.finals m k ≡ true) =
    (rw c.as_slice-3.ensures.value at c.in_ok-open_finals.ensures.room) in
    let slice : c.as_mut_slice.result.now ≡ i.gone.items = c.as_mut_slice.ensures.value in
    let same_len : length c.count_gone.new.gone ≡ length i.gone.items = c.count_gone.ensures.len ∙ ap length slice in
    let whole = whole_slice i.gone.len c.count_gone.new.gone i.gone.items same_len i.gone.ok.0 in
    let whole_len = ap length whole ∙ same_len in
    let now = λ (p : ℕ). ap (λ xs. get_or xs p 0) whole ∙ (rw c.as_slice-in-Clear-2.ensures.value at c.count_gone.ensures.each) p
    ∙ ap (λ xs. get_or xs p 0 + (if is_in list p then 1 else 0)) slice in
    taken_graph _ c.self.invariant inside k turn.low list each c.in_ok-neighbours.ensures.places turn.going turn.own turn.fresh
    (g.R.Rows.at c.eliminate_among.new.rows) step _ _ c.join_all_reserved.new.self _ _ _ _ _ _
    (order_grown i.published.items i.order.items c.push_reserved.new.self.items i.stop i.revisited.items c.args.point
    _ (c.push_reserved.ensures.items ∙ ap (λ (xs : List PointId). xs ++ c.args.point ∷ []) c.reserve.ensures.items) turn.is)
    c.eliminate_among.ensures.places (c.join_all_reserved.ensures.size ∙ c.reserve_all.ensures.size) pairs
    (map-set (λ (l : Vec ℕ Global). l.items) i.later.items k c.neighbours.new.list) c.open_finals.ensures.places c.open_finals.ensures.cells
    c.open_finals.ensures.kept room (omega arith) whole_len now
