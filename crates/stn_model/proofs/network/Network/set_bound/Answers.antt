use Rattle.std.proofs.Common.{◌≡◌, ◌∙◌, ◌-◌, ◌<◌, sym, ap, subst, length, set, arith, to_z, of_z, w64}
use Rattle.std.proofs.lemmas.Int.{ints}
use Rattle.std.proofs.lemmas.List.{get_or_read}
use Rattle.stn_model.specs.declared.ids.Constraint.{Constraint}
use Rattle.stn_model.specs.Arcs.{arc_at, no_arc}
use Rattle.stn_model.specs.Net.{Net, fixed_count}
use Rattle.stn_model.specs.Valid.{IsNetwork}
use Rattle.stn_model.specs.Flags.{AreFlags}
use Rattle.stn_model.specs.Views.{view_of}
use Rattle.stn_model.proofs.ArcLemmas.{given_at}
use Rattle.stn_model.proofs.ValidLemmas.{IsNetwork-bound}
use Rattle.stn_model.proofs.FlagLemmas.{AreFlags-bound}
use Rattle.stn_model.proofs.network.Network.set_bound.Goals as goal

pub invariant_of-self : goal.invariant_of-self
invariant_of-self c =
    let n = c.self.inside in
    let given = rw (← c.self.view_is) at c.requires.given in
    let fixed = rw (← c.self.view_is) at c.fixed_arcs.ensures.count in
    let low = c.requires.low in
    let high = c.requires.high in
    let i = c.args.n - c.fixed_arcs.result in
    let parts = given_at (fixed_count (view_of n)) c.args.n (length n.given.items) given in
    let lt : i < length n.given.items = omega (arith, parts.0, parts.1, fixed) in
    let fits : to_z w64 (of_z w64 c.args.bound) ≡ c.args.bound = omega (arith, ints) in
    let read = get_or_read n.given.items i c.index-arc.result.now lt c.index-arc.ensures no_arc in
    let new = ap (λ (a : Constraint). record a { bound = to_z w64 (of_z w64 c.args.bound) }) read ∙ ap (λ b. record (arc_at n.given.items i) { bound = b }) fits in
    record {
      network = subst (λ a. IsNetwork (record (view_of n) { given = set n.given.items i a })) (sym new)
          (IsNetwork-bound (view_of n) i c.args.bound c.self.invariant.network lt low high);
      flags = subst (λ a. AreFlags (record (view_of n) { given = set n.given.items i a }) n.shared.items) (sym new)
          (AreFlags-bound (view_of n) i c.args.bound n.shared.items c.self.invariant.flags);
    }
