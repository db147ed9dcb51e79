use Rattle.std.proofs.Common.{◌≡◌, ℤ, Some, ap, sym, ◌∙◌, subst}
use Rattle.std.specs.Prelude.{is_some}
use Rattle.std.proofs.lemmas.Result.{IfOk-weaker}
use Rattle.stn_model.specs.Net.{arcs_of}
use Rattle.stn_model.specs.Walks.{weight}
use Rattle.private_elim.specs.Reductions.{OfNetwork}
use Rattle.private_elim.specs.ReducedViews.{ReducedView, IsWeightBetween, weight_between}
use Rattle.private_elim.proofs.walks.Between.{between_from, between_to}
use Rattle.private_elim.proofs.reduced.Reduced.walk.Goals as goal

pub walk_between-requires : goal.walk_between-requires
walk_between-requires c =
    let r = c.self.inside in
    let known : (w : ℤ) × IsWeightBetween
    (record { local = r.elimination.local; order = r.elimination.order; summary = r.summary }) c.args.i.0 c.args.j.0 w =
    (rw (← c.self.view_is) at c.requires) in
    rw (← c.self.view_is) (ap is_some (between_from r.elimination c.size-size.ensures.facts r.summary c.args.i.0 c.args.j.0 known.0 known.1))

pub returns-clause-weight : goal.returns-clause-weight
returns-clause-weight c =
    let r = c.self.inside in
    let view = c.args.self.now in
    let i = c.args.i.0 in
    let j = c.args.j.0 in
    IfOk-weaker c.walk_between.result (λ ns. OfNetwork view.local (λ net. Some (weight (arcs_of net) ns) ≡ weight_between view i j)) _
    (λ ns told net valid is.
    let w = weight (arcs_of net) ns in
    subst (λ (x : ReducedView). IsWeightBetween x i j w) c.self.view_is
    (between_to r.elimination c.size-size.ensures.facts r.summary i j w (told net valid is ∙ ap (λ (x : ReducedView). weight_between x i j) (sym c.self.view_is))))
    c.walk_between.ensures.weight
