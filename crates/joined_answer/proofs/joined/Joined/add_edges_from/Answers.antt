use Rattle.std.proofs.Common.{ℕ, Option, map, option_map, ap}
use Rattle.stn_model.specs.Net.{point_count}
use Rattle.joined_answer.proofs.BoundLists.{first_after, above_after, joined_below, bounds_more, bounds_row, row_falls}
use Rattle.joined_answer.proofs.joined.Joined.add_edges_from.Goals as goal

pub row-smaller : goal.row-smaller
row-smaller c =
    let self = c.args.self.now in
    let after : Option ℕ = option_map (λ p. p.0) c.row.after in
    let told = c.in-Some.ensures.some in
    row_falls (point_count self.network) (first_after after) c.in-Some.j.0 ((above_after after c.in-Some.j.0).0 told.0)
    (joined_below self.network c.network-network.ensures.joined.network (map (λ p. p.0) self.order) c.args.i.0 c.in-Some.j.0 told.1).1

pub row-preserved : goal.row-preserved
row-preserved c =
    let self = c.args.self.now in
    let after : Option ℕ = option_map (λ p. p.0) c.row.after in
    let told = c.in-Some.ensures.some in
    bounds_more self.network (map (λ p. p.0) self.order) c.args.i.0 (first_after after) c.in-Some.j.0 c.edge.result c.row.edges.items c.push.new.self.items
    c.in_ok-push.ensures.items (ap (λ p. p.0) c.edge.ensures.from) (ap (λ p. p.0) c.edge.ensures.to) ((above_after after c.in-Some.j.0).0 told.0) told.1
    c.edge.ensures.least (λ q less past. c.in-Some.ensures.least q less ((above_after after q).1 past)) c.row.invariant

pub returns : goal.returns
returns c =
    let self = c.args.self.now in
    let after : Option ℕ = option_map (λ p. p.0) c.row.after in
    record {
      whole =
          bounds_row self.network (map (λ p. p.0) self.order) c.args.i.0 (first_after after) c.row.edges.items
          (λ q past. c.in_default.ensures.none q ((above_after after q).1 past)) c.row.invariant;
    }
