use Rattle.std.proofs.Common.{◌≡◌, ◌&&◌, ◌||◌, not, ap, sym, ◌∙◌, arith}
use Rattle.std.specs.Prelude.{◌==◌}
use Rattle.dist_rows.specs.declared.cell.Via.TheVariants.{Given}
use Rattle.private_elim.specs.declared.local.LocalArc.{LocalArc}
use Rattle.private_elim.specs.Locals.{local_arc_at}
use Rattle.private_elim.proofs.locals.Places.{place_found}
use Rattle.private_elim.proofs.taking.Laying.{from_placed, to_placed, ends_apart, bound_range, lowered_weight, lowered_same, laid_room}
use Rattle.elim_step.specs.JoinedPlaces.{is_joined}
use Rattle.std.proofs.lemmas.Int.{ints}
use Rattle.private_elim.proofs.start.lay_arc.Goals as goal

pub unreachable-requires : goal.unreachable-requires
unreachable-requires g c =
    from_placed c.args.local.now c.size-places.ensures.valid c.args.k c.requires.within (rw c.arc.ensures at (sym c.place_of.ensures ∙ c.in_default.is))

pub unreachable-requires-in_default-place_of : goal.unreachable-requires-in_default-place_of
unreachable-requires-in_default-place_of g c =
    to_placed c.args.local.now c.size-places.ensures.valid c.args.k c.requires.within
    (rw c.arc.ensures at (sym c.place_of-2.ensures ∙ c.in_default-place_of.is))

pub make_room-requires-clause-apart : goal.make_room-requires-clause-apart
make_room-requires-clause-apart g c =
    ends_apart c.args.local.now c.size-places.ensures.valid c.args.k c.requires.within c.in-Some.from c.in-Some-place_of.to
    (rw c.arc.ensures at (sym c.place_of.ensures ∙ c.in-Some.is)) (rw c.arc.ensures at (sym c.place_of-2.ensures ∙ c.in-Some-place_of.is))

pub make_room-requires-2-clause-apart : goal.make_room-requires-2-clause-apart
make_room-requires-2-clause-apart g c =
    λ e. ends_apart c.args.local.now c.size-places.ensures.valid c.args.k c.requires.within c.in-Some.from c.in-Some-place_of.to
    (rw c.arc.ensures at (sym c.place_of.ensures ∙ c.in-Some.is)) (rw c.arc.ensures at (sym c.place_of-2.ensures ∙ c.in-Some-place_of.is)) (sym e)

pub lower-requires-clause-apart : goal.lower-requires-clause-apart
lower-requires-clause-apart g c =
    ends_apart c.args.local.now c.size-places.ensures.valid c.args.k c.requires.within c.in-Some.from c.in-Some-place_of.to
    (rw c.arc.ensures at (sym c.place_of.ensures ∙ c.in-Some.is)) (rw c.arc.ensures at (sym c.place_of-2.ensures ∙ c.in-Some-place_of.is))

pub make_room-requires-clause-within : goal.make_room-requires-clause-within
make_room-requires-clause-within g c =
    let v = c.args.local.now in
    let s = (place_found v.points (local_arc_at v.arcs c.args.k).arc.from.0 c.in-Some.from (rw c.arc.ensures at (sym c.place_of.ensures ∙ c.in-Some.is))).0 in
    let e = (place_found v.points (local_arc_at v.arcs c.args.k).arc.to.0 c.in-Some-place_of.to
    (rw c.arc.ensures at (sym c.place_of-2.ensures ∙ c.in-Some-place_of.is))).0 in
    let size = c.requires.size in
    (omega arith, omega arith)

pub make_room-requires-2-clause-within : goal.make_room-requires-2-clause-within
make_room-requires-2-clause-within g c =
    let v = c.args.local.now in
    let s = (place_found v.points (local_arc_at v.arcs c.args.k).arc.from.0 c.in-Some.from (rw c.arc.ensures at (sym c.place_of.ensures ∙ c.in-Some.is))).0 in
    let e = (place_found v.points (local_arc_at v.arcs c.args.k).arc.to.0 c.in-Some-place_of.to
    (rw c.arc.ensures at (sym c.place_of-2.ensures ∙ c.in-Some-place_of.is))).0 in
    let size = c.requires.size in
    (omega arith, omega arith)

pub join-requires : goal.join-requires
join-requires g c =
    let v = c.args.local.now in
    let s = (place_found v.points (local_arc_at v.arcs c.args.k).arc.from.0 c.in-Some.from (rw c.arc.ensures at (sym c.place_of.ensures ∙ c.in-Some.is))).0 in
    let e = (place_found v.points (local_arc_at v.arcs c.args.k).arc.to.0 c.in-Some-place_of.to
    (rw c.arc.ensures at (sym c.place_of-2.ensures ∙ c.in-Some-place_of.is))).0 in
    let size = c.requires.joins_size in
    (omega arith, omega arith)

pub returns-clause-arc : goal.returns-clause-arc
returns-clause-arc g c =
    let v = c.args.local.now in
    let bound : c.arc.result.arc.bound ≡ (local_arc_at v.arcs c.args.k).arc.bound = ap (λ (a : LocalArc). a.arc.bound) c.arc.ensures in
    let range = bound_range v c.size-places.ensures.valid c.args.k c.requires.within in
    let low = range.0 in
    let high = range.1 in
    record {
      start = c.in-Some.from;
      end = c.in-Some-place_of.to;
      is_start = (rw c.arc.ensures at (sym c.place_of.ensures ∙ c.in-Some.is));
      is_end = (rw c.arc.ensures at (sym c.place_of-2.ensures ∙ c.in-Some-place_of.is));
      cells = λ p q. c.lower.ensures.cells p q
          ∙ lowered_weight c.in-Some.from c.in-Some-place_of.to c.args.k _ (local_arc_at v.arcs c.args.k).arc.bound
          (g.R.Rows.at c.make_room-2.new.self) (omega (arith, ints)) p q
          ∙ lowered_same c.in-Some.from c.in-Some-place_of.to (record { weight = (local_arc_at v.arcs c.args.k).arc.bound; via = Given c.args.k })
          (g.R.Rows.at c.make_room-2.new.self) (g.R.Rows.at c.args.rows.now)
          (λ p q. c.make_room-2.ensures.cells p q ∙ c.make_room.ensures.cells p q) p q;
      joins = c.in_ok-join.ensures.pairs;
    }

pub returns-clause-room : goal.returns-clause-room
returns-clause-room g c p q here =
    let from = c.in-Some.from in
    let to = c.in-Some-place_of.to in
    c.lower.ensures.room p q ∙ c.in_ok-make_room-2.ensures.room p q ∙ ap (λ r. ((p == to) && (q == from)) || r) (c.in_ok-make_room.ensures.room p q)
    ∙ laid_room (is_joined c.args.joins.now p q) (not (p == q)) ((p == from) && (q == to)) ((p == to) && (q == from)) (g.R.Rows.has_room c.args.rows.now p q)
    (c.requires.room p q) (sym (c.in_ok-join.ensures.pairs p q) ∙ here)
