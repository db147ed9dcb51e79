use Rattle.std.proofs.Common.{◌≡◌, ◌∙◌, sym, ap, subst, ◌++◌, ◌∷◌, [], length, ◌+◌, ◌*◌, ◌<◌, arith, to_z, of_z, w64}
use Rattle.std.proofs.lemmas.Int.{ints}
use Rattle.stn_model.specs.declared.ids.Constraint.{Constraint}
use Rattle.stn_model.specs.Limits.{most_arcs}
use Rattle.stn_model.specs.Refusals.{is_beyond}
use Rattle.stn_model.specs.Net.{Net, point_count}
use Rattle.stn_model.specs.Kinds.{is_external}
use Rattle.stn_model.specs.Valid.{IsNetwork}
use Rattle.stn_model.specs.Flags.{AreFlags, marked}
use Rattle.stn_model.specs.Views.{view_of}
use Rattle.stn_model.proofs.ValidLemmas.{IsNetwork-arc, in_range}
use Rattle.stn_model.proofs.FlagLemmas.{AreFlags-arc, ends_of_external}
use Rattle.stn_model.proofs.network.Network.add_arc.Goals as goal

pub invariant_of-self-2 : goal.invariant_of-self-2
invariant_of-self-2 c =
    let n = c.self.inside in
    let arc : Constraint = record { from = c.args.from; to = c.args.to; bound = c.args.bound } in
    let from_in : c.args.from.0 < point_count (view_of n) = rw (← c.self.view_is) at c.requires.from_in in
    let to_in : c.args.to.0 < point_count (view_of n) = rw (← c.self.view_is) at c.requires.to_in in
    let external : c.is_external-external.result ≡ is_external (view_of n) arc = c.is_external-external.ensures ∙ sym (ap (λ (w : Net). is_external w arc) c.self.view_is) in
    let few : 2 * length n.acts.items + length n.given.items < most_arcs = omega (arith, n.given.ok.0, n.acts.ok.0) in
    let fits : to_z w64 (of_z w64 c.args.bound) ≡ c.args.bound = omega (arith, ints) in
    let range = in_range c.args.bound (ap is_beyond (sym fits) ∙ sym c.is_beyond.ensures ∙ c.if-is_beyond.false) in
    let items : c.push.new.self.items ≡ n.given.items ++ arc ∷ [] = c.in-Ok.ensures.items ∙ ap (λ b. n.given.items ++ record arc { bound = b } ∷ []) fits in
    record {
      network = subst (λ l. IsNetwork (record (view_of n) { given = l })) (sym items)
          (IsNetwork-arc (view_of n) arc c.self.invariant.network few (record { starts = from_in; ends = to_in; different = c.if-from-to.false; low = range.0; high = range.1 }));
      flags = subst (λ l. AreFlags (record (view_of n) { given = l }) c.mark_ends.new.shared.items) (sym items)
          (subst (AreFlags (record (view_of n) { given = (view_of n).given ++ arc ∷ [] }))
          (sym (c.mark_ends.ensures ∙ ap (λ b. marked b c.args.from.0 c.args.to.0 n.shared.items) external))
          (AreFlags-arc (view_of n) arc n.shared.items (ends_of_external (view_of n) arc (length n.shared.items) c.self.invariant.flags.one_each from_in to_in) c.self.invariant.flags));
    }
