use Rattle.std.proofs.Common.{◌≡◌, ◌<◌, inr, ap, sym, ◌∙◌, arith, length, subst, map}
use Rattle.stn_model.specs.declared.ids.PointId.{PointId}
use Rattle.shared_graph.specs.declared.events.Phase.TheVariants.{Order}
use Rattle.shared_graph.specs.Interfaces.{IsInterface, points_of}
use Rattle.shared_graph.proofs.graphs.Finishing.{finished_nothing, finished_join, same_length, item_listed, below_points, still_published, stays_going}
use Rattle.shared_graph.proofs.graphs.Finishing.{all_points, next_point}
use Rattle.shared_graph.proofs.shared.Shared.eliminate_all.Goals as goal

pub loop-n-init : goal.loop-n-init
loop-n-init g c = record {
  finished = λ summaries agree. finished_nothing summaries Order c.args.self.now agree;
  face = λ i. c.args.self.now.face;
  going = c.requires.going;
  all = c.requires.all;
  before = λ m low. absurd (omega arith);
}

pub bounds-points-n : goal.bounds-points-n
bounds-points-n g c =
    let same : map (λ (p : PointId). p.0) c.points.result.now ≡ points_of c.loop-n.self.face =
    c.points.ensures.points ∙ ap points_of c.interface-in-loop-n.ensures.face in
    let known : IsInterface c.loop-n.self.face = subst IsInterface c.interface-in-loop-n.ensures.face c.points.ensures.valid in
    let many : length c.points.result.now ≡ length c.points-n-end.result.now =
    same_length c.points.result.now c.points-n-end.result.now (points_of c.loop-n.self.face) (points_of c.args.self.now.face) same
    (c.points-n-end.ensures.points ∙ ap points_of c.interface.ensures.face) (ap points_of c.loop-n.invariant.face) in
    let low : c.loop-n.n < length c.points.result.now = (let lt = c.loop-n-test.true in omega arith) in
    low

pub eliminate_left-requires-clause-going : goal.eliminate_left-requires-clause-going
eliminate_left-requires-clause-going g c = c.loop-n.invariant.going

pub eliminate_left-requires-clause-all : goal.eliminate_left-requires-clause-all
eliminate_left-requires-clause-all g c = c.loop-n.invariant.all

pub eliminate_left-requires-clause-listed : goal.eliminate_left-requires-clause-listed
eliminate_left-requires-clause-listed g c =
    let same : map (λ (p : PointId). p.0) c.points.result.now ≡ points_of c.loop-n.self.face =
    c.points.ensures.points ∙ ap points_of c.interface-in-loop-n.ensures.face in
    let known : IsInterface c.loop-n.self.face = subst IsInterface c.interface-in-loop-n.ensures.face c.points.ensures.valid in
    let many : length c.points.result.now ≡ length c.points-n-end.result.now =
    same_length c.points.result.now c.points-n-end.result.now (points_of c.loop-n.self.face) (points_of c.args.self.now.face) same
    (c.points-n-end.ensures.points ∙ ap points_of c.interface.ensures.face) (ap points_of c.loop-n.invariant.face) in
    let low : c.loop-n.n < length c.points.result.now = (let lt = c.loop-n-test.true in omega arith) in
    item_listed c.loop-n.self.face known c.points.result.now same c.loop-n.n low

pub eliminate_left-requires-clause-before : goal.eliminate_left-requires-clause-before
eliminate_left-requires-clause-before g c =
    let same : map (λ (p : PointId). p.0) c.points.result.now ≡ points_of c.loop-n.self.face =
    c.points.ensures.points ∙ ap points_of c.interface-in-loop-n.ensures.face in
    let known : IsInterface c.loop-n.self.face = subst IsInterface c.interface-in-loop-n.ensures.face c.points.ensures.valid in
    let many : length c.points.result.now ≡ length c.points-n-end.result.now =
    same_length c.points.result.now c.points-n-end.result.now (points_of c.loop-n.self.face) (points_of c.args.self.now.face) same
    (c.points-n-end.ensures.points ∙ ap points_of c.interface.ensures.face) (ap points_of c.loop-n.invariant.face) in
    let low : c.loop-n.n < length c.points.result.now = (let lt = c.loop-n-test.true in omega arith) in
    below_points c.loop-n.self.face known c.points.result.now same c.loop-n.self.state c.loop-n.n low c.loop-n.invariant.before

pub returns-in_err-eliminate_left-clause-finished : goal.returns-in_err-eliminate_left-clause-finished
returns-in_err-eliminate_left-clause-finished g c summaries agree =
    finished_join summaries Order c.args.self.now c.loop-n.self c.eliminate_left.new.self
    (c.loop-n.invariant.finished summaries agree) (c.eliminate_left.ensures.finished summaries (c.loop-n.invariant.finished summaries agree).agree)

pub returns-in_err-eliminate_left-clause-all : goal.returns-in_err-eliminate_left-clause-all
returns-in_err-eliminate_left-clause-all g c =
    still_published c.loop-n.self c.eliminate_left.new.self c.eliminate_left.ensures.face
    c.eliminate_left.ensures.published c.loop-n.invariant.all

pub returns-then-branch-clause-finished : goal.returns-then-branch-clause-finished
returns-then-branch-clause-finished g c summaries agree =
    finished_join summaries Order c.args.self.now c.loop-n.self c.eliminate_left.new.self
    (c.loop-n.invariant.finished summaries agree) (c.eliminate_left.ensures.finished summaries (c.loop-n.invariant.finished summaries agree).agree)

pub returns-then-branch-clause-all : goal.returns-then-branch-clause-all
returns-then-branch-clause-all g c =
    still_published c.loop-n.self c.eliminate_left.new.self c.eliminate_left.ensures.face
    c.eliminate_left.ensures.published c.loop-n.invariant.all

pub loop-n-preserved : goal.loop-n-preserved
loop-n-preserved g c =
    let same : map (λ (p : PointId). p.0) c.points.result.now ≡ points_of c.loop-n.self.face =
    c.points.ensures.points ∙ ap points_of c.interface-in-loop-n.ensures.face in
    let known : IsInterface c.loop-n.self.face = subst IsInterface c.interface-in-loop-n.ensures.face c.points.ensures.valid in
    let many : length c.points.result.now ≡ length c.points-n-end.result.now =
    same_length c.points.result.now c.points-n-end.result.now (points_of c.loop-n.self.face) (points_of c.args.self.now.face) same
    (c.points-n-end.ensures.points ∙ ap points_of c.interface.ensures.face) (ap points_of c.loop-n.invariant.face) in
    let low : c.loop-n.n < length c.points.result.now = (let lt = c.loop-n-test.true in omega arith) in
    record {
      finished = λ summaries agree.
          finished_join summaries Order c.args.self.now c.loop-n.self c.eliminate_left.new.self
          (c.loop-n.invariant.finished summaries agree) (c.eliminate_left.ensures.finished summaries (c.loop-n.invariant.finished summaries agree).agree);
      face = c.eliminate_left.ensures.face ∙ c.loop-n.invariant.face;
      going = stays_going c.eliminate_left.new.self.state c.in_ok-eliminate_left.field-0 c.in_ok-eliminate_left.ensures.stopped c.if-branch.false;
      all = still_published c.loop-n.self c.eliminate_left.new.self c.eliminate_left.ensures.face c.eliminate_left.ensures.published c.loop-n.invariant.all;
      before =
          next_point c.loop-n.self.face c.eliminate_left.new.self.face known c.points.result.now same c.loop-n.self.state c.eliminate_left.new.self.state
          c.loop-n.n low c.eliminate_left.ensures.face c.eliminate_left.ensures.kept c.loop-n.invariant.before
          (c.in_ok-eliminate_left.ensures.eliminated c.if-branch.false);
    }

pub returns-clause-finished : goal.returns-clause-finished
returns-clause-finished g c = c.loop-n.invariant.finished

pub returns-clause-all : goal.returns-clause-all
returns-clause-all g c = c.loop-n.invariant.all

pub returns-clause-done : goal.returns-clause-done
returns-clause-done g c =
    let same = c.points-n-end.ensures.points ∙ ap points_of (c.interface.ensures.face ∙ sym c.loop-n.invariant.face) in
    inr (all_points c.loop-n.self.face c.points-n-end.result.now same c.loop-n.self.state
    (λ m low. c.loop-n.invariant.before m (let end = c.loop-n-test.false in omega arith)))
