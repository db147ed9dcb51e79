use Rattle.std.proofs.Common.{sym, ◌∙◌, ◌<◌, arith, refl, map, None, get_or, subst, Vec, Global}
use Rattle.std.specs.Prelude.{IfSome}
use Rattle.std.proofs.lemmas.List.{length-map, take_all}
use Rattle.stn_model.specs.declared.ids.PointId.{PointId}
use Rattle.shared_graph.specs.Views.{listed_from, AreOwn}
use Rattle.shared_graph.proofs.interfaces.OwnPoints.{own_start, own_more, row_known}
use Rattle.shared_graph.proofs.interface.own_of.Goals as goal

pub loop-p-init : goal.loop-p-init
loop-p-init c = own_start c.args.agents _ c.in_ok-own.ensures

pub push_own-requires : goal.push_own-requires
push_own-requires c =
    let owners = c.args.owners.now in
    let own = c.loop-p.own.items in
    subst (λ n. IfSome (get_or owners c.loop-p.p None) (λ a. a.0 < n))
    (sym c.loop-p.invariant.many ∙ length-map own (λ (l : Vec PointId Global). l.items))
    (row_known c.args.agents 0 c.loop-p.p owners (get_or owners c.loop-p.p None) c.requires.agents refl)

pub loop-p-preserved : goal.loop-p-preserved
loop-p-preserved c =
    let few = c.requires.few in
    let lt = c.loop-p-test.true in
    own_more c.args.agents c.loop-p.p c.args.owners.now (map (λ (l : Vec PointId Global). l.items) c.loop-p.own.items) _ _ lt (omega arith)
    c.requires.agents c.loop-p.invariant c.in_ok-push_own.ensures

pub returns : goal.returns
returns c =
    subst (λ os. AreOwn c.args.agents (listed_from 0 os) (map (λ (l : Vec PointId Global). l.items) c.loop-p.own.items))
    (take_all c.loop-p.p c.args.owners.now c.loop-p-test.false) c.loop-p.invariant
