use Rattle.std.proofs.Common.{◌≡◌, ℕ, ◌<◌, ◌≤◌, ◌&&◌, ap, sym, ◌∙◌, arith, length, subst, get_or}
use Rattle.std.proofs.lemmas.List.{get_or_default}
use Rattle.stn_walk.proofs.Members.{is_in-at}
use Rattle.elim_step.specs.Eliminated.{point_at}
use Rattle.elim_step.specs.JoinedPlaces.{is_joined as are_joined}
use Rattle.elim_step.specs.Ranked.{key_at}
use Rattle.shared_graph.specs.Graphs.{GraphView, places_in}
use Rattle.shared_graph.specs.Weights.{is_joined}
use Rattle.shared_graph.proofs.graphs.Readied.{set_beyond, renew_begins, renew_more, renew_ends, joined_points}
use Rattle.shared_graph.proofs.graph.Graph.renew.Goals as goal

pub loop-n-init : goal.loop-n-init
loop-n-init g c =
    let v = c.args.self.now in
    let list = c.neighbours.new.list.items in
    let points : (k : ℕ) → k < length (places_in v.face)
    → are_joined c.self.inside.joins c.args.place k ≡ is_joined v.face v.state (point_at (places_in v.face) c.args.place) (point_at (places_in v.face) k) =
    joined_points _ c.self.invariant v c.self.view_is c.args.place c.requires.within in
    record {
      size = c.set.ensures.size;
      right =
          renew_begins v.face v.state (key_at c.args.ready.now) (key_at c.set.new.self) c.args.place c.revisit_key.result c.requires.within
          c.revisit_key.ensures c.set.ensures.keys list (are_joined c.self.inside.joins c.args.place) c.requires.others points
          (λ k low. c.in_ok-neighbours.ensures.each k ∙ ap (λ b. b && are_joined c.self.inside.joins c.args.place k) (c.requires.all k low));
      none =
          set_beyond v.face v.state (key_at c.args.ready.now) (key_at c.set.new.self) c.args.place c.revisit_key.result c.requires.within
          c.revisit_key.ensures c.set.ensures.keys c.requires.others.beyond;
    }

pub set-requires-in-loop-n : goal.set-requires-in-loop-n
set-requires-in-loop-n g c =
    let v = c.args.self.now in
    let list = c.neighbours.new.list in
    let lt : c.loop-n.n < length list.items = (let low = c.loop-n-test.true in omega (arith, c.len-n-end.ensures, list.ok.0)) in
    let read : get_or list.items c.loop-n.n 0 ≡ c.index-other.result.now =
    sym (c.index-other.ensures ∙ get_or_default list.items c.loop-n.n c.index-other.result.now 0 lt) in
    let joins : c.self.inside.joins.size ≡ length (places_in v.face) =
    subst (λ (w : GraphView). c.self.inside.joins.size ≡ length (places_in w.face)) c.self.view_is
    (c.self.invariant.joins_size ∙ ap length c.self.invariant.points) in
    let low : c.index-other.result.now < length (places_in v.face) =
    (let below = c.in_ok-neighbours.ensures.within (get_or list.items c.loop-n.n 0) (is_in-at list.items c.loop-n.n lt) in omega arith) in
    let size = c.loop-n.invariant.size in
    let all = c.requires.size in
    omega arith

pub loop-n-preserved : goal.loop-n-preserved
loop-n-preserved g c =
    let v = c.args.self.now in
    let list = c.neighbours.new.list in
    let lt : c.loop-n.n < length list.items = (let low = c.loop-n-test.true in omega (arith, c.len-n-end.ensures, list.ok.0)) in
    let read : get_or list.items c.loop-n.n 0 ≡ c.index-other.result.now =
    sym (c.index-other.ensures ∙ get_or_default list.items c.loop-n.n c.index-other.result.now 0 lt) in
    let joins : c.self.inside.joins.size ≡ length (places_in v.face) =
    subst (λ (w : GraphView). c.self.inside.joins.size ≡ length (places_in w.face)) c.self.view_is
    (c.self.invariant.joins_size ∙ ap length c.self.invariant.points) in
    let low : c.index-other.result.now < length (places_in v.face) =
    (let below = c.in_ok-neighbours.ensures.within (get_or list.items c.loop-n.n 0) (is_in-at list.items c.loop-n.n lt) in omega arith) in
    record {
      size = c.set-in-loop-n.ensures.size ∙ c.loop-n.invariant.size;
      right =
          renew_more v.face v.state (key_at c.loop-n.ready) (key_at c.set-in-loop-n.new.self) c.index-other.result.now c.revisit_key-in-loop-n.result low
          c.revisit_key-in-loop-n.ensures c.set-in-loop-n.ensures.keys list.items c.loop-n.n lt read c.loop-n.invariant.right;
      none =
          set_beyond v.face v.state (key_at c.loop-n.ready) (key_at c.set-in-loop-n.new.self) c.index-other.result.now c.revisit_key-in-loop-n.result low
          c.revisit_key-in-loop-n.ensures c.set-in-loop-n.ensures.keys c.loop-n.invariant.none;
    }

pub returns-clause-size : goal.returns-clause-size
returns-clause-size g c = c.loop-n.invariant.size

pub returns-clause-keys : goal.returns-clause-keys
returns-clause-keys g c =
    let v = c.args.self.now in
    let list = c.neighbours.new.list in
    let past : length list.items ≤ c.loop-n.n = (let end = c.loop-n-test.false in omega (arith, c.len-n-end.ensures, list.ok.0)) in
    renew_ends v.face v.state (key_at c.loop-n.ready) list.items c.loop-n.n past c.loop-n.invariant.right c.loop-n.invariant.none
