use Rattle.std.proofs.Common.{◌≡◌, ◌∙◌, sym, subst, arith, to_z, of_z, w64}
use Rattle.std.proofs.lemmas.Int.{ints}
use Rattle.stn_model.specs.Views.{view_of}
use Rattle.stn_model.specs.Valid.{IsNetwork}
use Rattle.stn_model.proofs.CopyLemmas.{same_view}
use Rattle.stn_model.proofs.FlagLemmas.{AreFlags-same}
use Rattle.stn_model.proofs.network.Network.copy.Goals as goal

pub invariant_of-result : goal.invariant_of-result
invariant_of-result c =
    let low = c.self.invariant.network.horizon_low in
    let high = c.self.invariant.network.horizon_high in
    let fits : to_z w64 (of_z w64 c.self.inside.horizon) ≡ c.self.inside.horizon = omega (arith, ints) in
    let same = same_view c.self.inside
    (record {
      horizon = to_z w64 (of_z w64 c.self.inside.horizon);
      agents = c.in-Ok.agents;
      places = c.in-Ok-clone.places;
      acts = c.in-Ok-from_slice.acts;
      given = c.in-Ok-from_slice-2.given;
      shared = c.in-Ok-from_slice-3.shared;
    })
    fits c.in-Ok.ensures.cases c.in-Ok-clone.ensures.cases (c.in-Ok-from_slice.ensures.items ∙ c.as_slice.ensures.value) (c.in-Ok-from_slice-2.ensures.items ∙ c.as_slice-2.ensures.value) in
    record {
      network = subst IsNetwork (sym same) c.self.invariant.network;
      flags = AreFlags-same (view_of c.self.inside) _ c.self.inside.shared.items _ same (c.in-Ok-from_slice-3.ensures.items ∙ c.as_slice-3.ensures.value) c.self.invariant.flags;
    }

pub returns : goal.returns
returns c =
    let low = c.self.invariant.network.horizon_low in
    let high = c.self.invariant.network.horizon_high in
    let fits : to_z w64 (of_z w64 c.self.inside.horizon) ≡ c.self.inside.horizon = omega (arith, ints) in
    same_view c.self.inside
    (record {
      horizon = to_z w64 (of_z w64 c.self.inside.horizon);
      agents = c.in-Ok.agents;
      places = c.in-Ok-clone.places;
      acts = c.in-Ok-from_slice.acts;
      given = c.in-Ok-from_slice-2.given;
      shared = c.in-Ok-from_slice-3.shared;
    })
    fits c.in-Ok.ensures.cases c.in-Ok-clone.ensures.cases (c.in-Ok-from_slice.ensures.items ∙ c.as_slice.ensures.value) (c.in-Ok-from_slice-2.ensures.items ∙ c.as_slice-2.ensures.value)
    ∙ c.self.view_is
