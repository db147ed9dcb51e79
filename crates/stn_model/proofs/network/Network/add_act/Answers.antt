use Rattle.std.proofs.Common.{◌≡◌, ◌∙◌, ℕ, ◌+◌, ◌++◌, ◌∷◌, [], List, Bool, false, None, ◌≤ℤ◌, pos, sym, ap, subst, length, is_some, IsTrue, arith, to_z, of_z, w64}
use Rattle.std.proofs.lemmas.Int.{ints}
use Rattle.std.specs.Map.{lookup}
use Rattle.std.specs.Str.{bytes_eq}
use Rattle.stn_model.specs.declared.ids.Act.{Act}
use Rattle.stn_model.specs.Refusals.{is_name, is_beyond}
use Rattle.stn_model.specs.Net.{Net, Place, find_point, act_start_name, act_end_name, with_act}
use Rattle.stn_model.specs.Valid.{IsNetwork}
use Rattle.stn_model.specs.Flags.{AreFlags}
use Rattle.stn_model.specs.Views.{view_of}
use Rattle.stn_model.proofs.NameLemmas.{ends_apart, starts_apart}
use Rattle.stn_model.proofs.NetLemmas.{point_absent}
use Rattle.stn_model.proofs.ActLemmas.{allowed, act_view}
use Rattle.stn_model.proofs.ValidLemmas.{IsNetwork-act, in_range}
use Rattle.stn_model.proofs.FlagLemmas.{AreFlags-act}
use Rattle.stn_model.proofs.network.Network.add_act.Goals as goal

pub insert_two-requires-clause-first_new : goal.insert_two-requires-clause-first_new
insert_two-requires-clause-first_new c =
    let n = c.self.inside in
    let passed = allowed c.args.self.now c.as_slice.result.now c.as_slice-2.result.now
    (to_z w64 (of_z w64 c.args.low)) (to_z w64 (of_z w64 c.args.high)) (sym c.act_refusal.ensures ∙ c.in-None.is) in
    let same = c.as_slice.ensures.value ∙ sym (c.in-Ok.ensures.items ∙ c.as_slice-3.ensures.value) in
    let lacks = ap (λ (w : Net). is_some (find_point w c.in-Ok.start.items)) c.self.view_is ∙ ap (λ b. is_some (find_point c.args.self.now b)) (sym same) ∙ passed.start_lacks in
    ap (lookup (λ k. bytes_eq c.in-Ok.start.items k.items)) c.reserve.ensures.entries ∙ point_absent n c.in-Ok.start.items lacks

pub insert_two-requires-clause-second_new : goal.insert_two-requires-clause-second_new
insert_two-requires-clause-second_new c =
    let n = c.self.inside in
    let passed = allowed c.args.self.now c.as_slice.result.now c.as_slice-2.result.now
    (to_z w64 (of_z w64 c.args.low)) (to_z w64 (of_z w64 c.args.high)) (sym c.act_refusal.ensures ∙ c.in-None.is) in
    let same = c.as_slice-2.ensures.value ∙ sym (c.in-Ok-from_slice.ensures.items ∙ c.as_slice-4.ensures.value) in
    let end = c.in-Ok-from_slice.end in
    let lacks = ap (λ (w : Net). is_some (find_point w end.items)) c.self.view_is ∙ ap (λ b. is_some (find_point c.args.self.now b)) (sym same) ∙ passed.end_lacks in
    ap (lookup (λ k. bytes_eq end.items k.items)) c.reserve.ensures.entries ∙ point_absent n end.items lacks

pub insert_two-requires-clause-apart : goal.insert_two-requires-clause-apart
insert_two-requires-clause-apart c =
    let start_is = c.in-Ok.ensures.items ∙ c.as_slice-3.ensures.value ∙ c.in-Some-Some.ensures.name in
    let end_is = c.in-Ok-from_slice.ensures.items ∙ c.as_slice-4.ensures.value ∙ c.in-Some-Some.ensures'.name in
    ap (λ b. bytes_eq b c.in-Ok-from_slice.end.items) start_is ∙ ap (bytes_eq (act_start_name c.args.name.now)) end_is ∙ starts_apart c.args.name.now

pub invariant_of-self-2 : goal.invariant_of-self-2
invariant_of-self-2 c =
    let n = c.self.inside in
    let net = c.args.self.now in
    let name = c.args.name.now in
    let first : Place = record { name = act_start_name name; owner = c.args.agent.0 } in
    let second : Place = record { name = act_end_name name; owner = c.args.agent.0 } in
    let passed = allowed net c.as_slice.result.now c.as_slice-2.result.now (to_z w64 (of_z w64 c.args.low)) (to_z w64 (of_z w64 c.args.high)) (sym c.act_refusal.ensures ∙ c.in-None.is) in
    let start_name_is = c.as_slice.ensures.value ∙ c.in-Some-Some.ensures.name in
    let end_name_is = c.as_slice-2.ensures.value ∙ c.in-Some-Some.ensures'.name in
    let start_is = c.in-Ok.ensures.items ∙ c.as_slice-3.ensures.value ∙ c.in-Some-Some.ensures.name in
    let end_is = c.in-Ok-from_slice.ensures.items ∙ c.as_slice-4.ensures.value ∙ c.in-Some-Some.ensures'.name in
    let fits_low : to_z w64 (of_z w64 c.args.low) ≡ c.args.low = omega (arith, ints) in
    let fits_high : to_z w64 (of_z w64 c.args.high) ≡ c.args.high = omega (arith, ints) in
    let low = in_range c.args.low (ap is_beyond (sym fits_low) ∙ passed.low_in) in
    let high = in_range c.args.high (ap is_beyond (sym fits_high) ∙ passed.high_in) in
    let added : Act =
    record {
      start = record { 0 = c.points-point.result };
      end = record { 0 = c.points-point.result + 1 };
      low = to_z w64 (of_z w64 c.args.low);
      high = to_z w64 (of_z w64 c.args.high);
    } in
    let new_view = act_view n net c.insert_two.new.places.entries c.in-Ok.start c.in-Ok-from_slice.end c.args.agent name c.push_reserved.new.self.items
    c.points-point.result (c.points-point.result + 1) (to_z w64 (of_z w64 c.args.low)) (to_z w64 (of_z w64 c.args.high)) c.args.low c.args.high
    c.self.view_is (c.insert_two.ensures ∙ ap (λ es. es ++ (c.in-Ok.start, c.args.agent) ∷ (c.in-Ok-from_slice.end, c.args.agent) ∷ []) c.reserve.ensures.entries)
    start_is end_is (c.push_reserved.ensures.items ∙ ap (λ ks. ks ++ added ∷ []) c.reserve-3.ensures.items)
    c.points-point.ensures.count (ap (λ p. p + 1) c.points-point.ensures.count) fits_low fits_high in
    record {
      network = subst IsNetwork (sym new_view) (IsNetwork-act net c.args.agent.0 name c.args.low c.args.high c.acts-number.ensures.valid passed.room c.requires passed.none_given
          (subst (λ b. IsTrue (is_name b)) start_name_is passed.form) (subst (λ b. is_some (find_point net b) ≡ false) start_name_is passed.start_lacks)
          (subst (λ b. is_some (find_point net b) ≡ false) end_name_is passed.end_lacks) (subst (λ x. pos 0 ≤ℤ x) fits_low passed.low_low) low.1 high.0 high.1);
      flags = subst (λ (w : Net). AreFlags w c.push_reserved-3.new.self.items) (sym new_view)
          (rw (c.push_reserved-3.ensures.items, c.push_reserved-2.ensures.items, c.reserve-2.ensures.items)
          (AreFlags-act net first second (with_act net c.args.agent.0 name c.args.low c.args.high).acts n.shared.items passed.none_given
          (subst (λ (w : Net). AreFlags w n.shared.items) c.self.view_is c.self.invariant.flags)));
    }

pub returns-clause-ok : goal.returns-clause-ok
returns-clause-ok c =
    let net = c.args.self.now in
    let start_is = c.in-Ok.ensures.items ∙ c.as_slice-3.ensures.value ∙ c.in-Some-Some.ensures.name in
    let end_is = c.in-Ok-from_slice.ensures.items ∙ c.as_slice-4.ensures.value ∙ c.in-Some-Some.ensures'.name in
    let fits_low : to_z w64 (of_z w64 c.args.low) ≡ c.args.low = omega (arith, ints) in
    let fits_high : to_z w64 (of_z w64 c.args.high) ≡ c.args.high = omega (arith, ints) in
    let added : Act =
    record {
      start = record { 0 = c.points-point.result };
      end = record { 0 = c.points-point.result + 1 };
      low = to_z w64 (of_z w64 c.args.low);
      high = to_z w64 (of_z w64 c.args.high);
    } in (
      c.acts-number.ensures.count,
      act_view c.self.inside net c.insert_two.new.places.entries c.in-Ok.start c.in-Ok-from_slice.end c.args.agent c.args.name.now c.push_reserved.new.self.items
          c.points-point.result (c.points-point.result + 1) (to_z w64 (of_z w64 c.args.low)) (to_z w64 (of_z w64 c.args.high)) c.args.low c.args.high
          c.self.view_is (c.insert_two.ensures ∙ ap (λ es. es ++ (c.in-Ok.start, c.args.agent) ∷ (c.in-Ok-from_slice.end, c.args.agent) ∷ []) c.reserve.ensures.entries)
          start_is end_is (c.push_reserved.ensures.items ∙ ap (λ ks. ks ++ added ∷ []) c.reserve-3.ensures.items)
          c.points-point.ensures.count (ap (λ p. p + 1) c.points-point.ensures.count) fits_low fits_high,
    )
