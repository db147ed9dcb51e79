use Rattle.std.proofs.Common.{◌≡◌, ◌≤◌, ℕ, List, map, length, ap, sym, subst, ◌∙◌}
use Rattle.elim_step.specs.JoinedPlaces.{is_joined}
use Rattle.private_elim.specs.Taken.{TakenView}
use Rattle.private_elim.specs.Underway.{Fields}
use Rattle.stn_model.specs.Limits.{most_points}
use Rattle.private_elim.proofs.locals.LocalFacts.{few_points}
use Rattle.private_elim.proofs.sweep.SweepEnds.{swept_only, swept_least}
use Rattle.private_elim.proofs.sweep.SweepThroughs.{are_through, swept_through}
use Rattle.private_elim.proofs.sweep.SweepTurns.{begins}
use Rattle.private_elim.proofs.elimination.Elimination.sweep.Goals as goal

pub revisit_all-requires : goal.revisit_all-requires
revisit_all-requires g c κs known =
    let i = c.self.inside in
    let e : Fields = record {
      local = i.local;
      order = map (λ p. p.0) i.order.items;
      places = g.R.Rows.places i.rows;
      at = g.R.Rows.at i.rows;
      joins = i.joins;
      remain = i.remain.items;
      gone = i.gone.items;
      room = g.R.Rows.has_room i.rows;
    } in
    let size : g.R.Rows.places c.args.rows ≡ length e.local.points =
    subst (λ (t : TakenView). g.R.Rows.places c.args.rows ≡ length t.local.points) (sym c.self.view_is) c.requires.1.1.1.0 in (
      known.0,
      (
        known.1,
        (
          rw (← c.self.view_is) (c.give_finals.ensures.size ∙ c.make_room_all.ensures.size ∙ size),
          (
            λ p q lp lq apart joined. c.give_finals.ensures.room p q (c.in_ok-make_room_all.ensures.room p q lp lq apart joined),
            rw (← c.self.view_is) (begins e c.self.invariant (rw (← c.self.view_is) at c.requires.1.1.1.1.1.1.1) g.entries c.entries-entries.result.now
                (c.entries-entries.ensures.value ∙ c.requires.1.1.0) (rw (← c.entries-entries.ensures.value) at c.entries-entries.ensures.valid)
                (g.R.Rows.at c.give_finals.new.finals) c.in_ok-give_finals.ensures.given
                c.in_ok-private.private.items c.deref.result.now c.in_ok-done.done.items c.deref.ensures.value c.in_ok-private.ensures.len
                c.in_ok-private.ensures.each
                c.in_ok-done.ensures.len c.in_ok-done.ensures.each),
          ),
        ),
      ),
    )

-- the bounds that are made
pub invariant_of-result : goal.invariant_of-result
invariant_of-result g c =
    let i = c.self.inside in
    let e : Fields = record {
      local = i.local;
      order = map (λ p. p.0) i.order.items;
      places = g.R.Rows.places i.rows;
      at = g.R.Rows.at i.rows;
      joins = i.joins;
      remain = i.remain.items;
      gone = i.gone.items;
      room = g.R.Rows.has_room i.rows;
    } in
    let many : length i.local.points ≡ length c.in_ok-points.points.items = ap length (sym c.in_ok-points.ensures.points) in
    let size : g.R.Rows.places c.args.rows ≡ length i.local.points =
    subst (λ (t : TakenView). g.R.Rows.places c.args.rows ≡ length t.local.points) (sym c.self.view_is) c.requires.1.1.1.0 in (
      c.revisit_all.ensures.size ∙ c.give_finals.ensures.size ∙ c.make_room_all.ensures.size ∙ size ∙ many,
      c.in_ok-private.ensures.len ∙ many,
      c.in_ok-points.ensures.rising,
      subst (λ (xs : List ℕ). length xs ≤ most_points) (sym c.in_ok-points.ensures.points) (few_points i.local c.self.invariant.taken.known),
      are_through e.local e.order e.at (is_joined e.joins) e.remain c.self.invariant.taken g.entries
          c.in_ok-points.points.items c.in_ok-private.private.items (g.R.Rows.at c.revisit_all.new.finals)
          c.in_ok-points.ensures.points c.in_ok-private.ensures.each c.revisit_all.new.done.items
          (rw (← c.self.view_is) at c.in_ok-revisit_all.ensures.swept),
    )

pub returns-clause-only : goal.returns-clause-only
returns-clause-only g c summary n m some =
    let i = c.self.inside in
    let e : Fields = record {
      local = i.local;
      order = map (λ p. p.0) i.order.items;
      places = g.R.Rows.places i.rows;
      at = g.R.Rows.at i.rows;
      joins = i.joins;
      remain = i.remain.items;
      gone = i.gone.items;
      room = g.R.Rows.has_room i.rows;
    } in
    rw (← c.self.view_is) (swept_only e.local e.order e.at (is_joined e.joins) e.remain c.self.invariant.taken g.entries summary
    c.in_ok-points.points.items c.in_ok-private.private.items (g.R.Rows.at c.revisit_all.new.finals)
    c.in_ok-points.ensures.points c.in_ok-private.ensures.each c.revisit_all.new.done.items
    (rw (← c.self.view_is) at c.in_ok-revisit_all.ensures.swept) n m some)

pub returns-clause-least : goal.returns-clause-least
returns-clause-least g c net valid part holds summary n m pair =
    let i = c.self.inside in
    let e : Fields = record {
      local = i.local;
      order = map (λ p. p.0) i.order.items;
      places = g.R.Rows.places i.rows;
      at = g.R.Rows.at i.rows;
      joins = i.joins;
      remain = i.remain.items;
      gone = i.gone.items;
      room = g.R.Rows.has_room i.rows;
    } in
    swept_least e.local e.order e.at (is_joined e.joins) e.remain c.self.invariant.taken g.entries summary
    c.in_ok-points.points.items c.in_ok-private.private.items (g.R.Rows.at c.revisit_all.new.finals)
    c.in_ok-points.ensures.points c.in_ok-private.ensures.each c.revisit_all.new.done.items (rw (← c.self.view_is) at c.in_ok-revisit_all.ensures.swept)
    net valid (rw (← c.self.view_is) at part) (rw (← c.self.view_is) at holds) n m (rw (← c.self.view_is) at pair)

pub returns-clause-through : goal.returns-clause-through
returns-clause-through g c summary reduced n m some =
    let i = c.self.inside in
    let e : Fields = record {
      local = i.local;
      order = map (λ p. p.0) i.order.items;
      places = g.R.Rows.places i.rows;
      at = g.R.Rows.at i.rows;
      joins = i.joins;
      remain = i.remain.items;
      gone = i.gone.items;
      room = g.R.Rows.has_room i.rows;
    } in
    rw (← c.self.view_is) (swept_through e.local e.order e.at (is_joined e.joins) e.remain c.self.invariant.taken g.entries
    c.in_ok-points.points.items c.in_ok-private.private.items (g.R.Rows.at c.revisit_all.new.finals)
    c.in_ok-points.ensures.points c.in_ok-private.ensures.each c.revisit_all.new.done.items
    (rw (← c.self.view_is) at c.in_ok-revisit_all.ensures.swept) summary (rw (← c.self.view_is) at reduced) n m some)
