-- A network stays one when an agent, a point, an act or an arc comes, and when an arc gets another bound.
use Rattle.std.proofs.Common.{◌≡◌, ◌≢◌, ℕ, ◌+◌, ◌-◌, ◌*◌, ◌<◌, ◌≤◌, ℤ, pos, neg_ℤ, ◌≤ℤ◌, List, [], ◌∷◌, ◌++◌, length, get_or, set, is_some, IsTrue, false, refl, sym, ap, subst, ◌∙◌, arith, length-append, append_assoc, ⊎_elim, length-set}
use Rattle.std.proofs.lemmas.List.{map_push, length_push, get_or_append_left, get_or-append-add, get_or-set_same, get_or-set_other}
use Rattle.std.proofs.lemmas.List.Elements.{All-push}
use Rattle.std.proofs.lemmas.List.Quantifiers.{all_pairs_push}
use Rattle.std.proofs.lemmas.Bool.{cases_eq}
use Rattle.std.proofs.lemmas.Int.{ints}
use Rattle.std.specs.List.{All, AllPairs}
use Rattle.stn_model.specs.declared.ids.Constraint.{Constraint}
use Rattle.stn_model.specs.Refusals.{is_name, is_beyond}
use Rattle.stn_model.specs.declared.ids.Act.{Act}
use Rattle.stn_model.specs.Arcs.{arc_at, no_arc}
use Rattle.stn_model.specs.Limits.{most_agents, most_points, most_arcs, greatest_bound}
use Rattle.stn_model.specs.Valid.{IsNetwork, IsArcWithin, IsActWithin}
use Rattle.stn_model.specs.Net.{Net, Agent, Place, no_place, agent_names, point_names, find_point, find_agent, point_count, act_start_name, act_end_name, with_act}
use Rattle.stn_model.proofs.NameLemmas.{apart, push_name, point_lacks, end_is_name, ends_apart, lacks_more}

-- an act stays one of the points when more come
act_stays : (places more : List Place) (a : Act) → IsActWithin places a → IsActWithin (places ++ more) a
act_stays places more a h =
    let start_in : a.start.0 - 1 < length places = omega (arith, h.after_z, h.next, h.there) in
    let end_in : a.end.0 - 1 < length places = omega (arith, h.next, h.there) in
    let start = get_or_append_left places more no_place (a.start.0 - 1) start_in in
    let end = get_or_append_left places more no_place (a.end.0 - 1) end_in in
    record {
      after_z = h.after_z;
      next = h.next;
      there = omega (arith, h.there, length-append places more);
      one_owner = ap (λ (p : Place). p.owner) end ∙ h.one_owner ∙ sym (ap (λ (p : Place). p.owner) start);
      name = h.name;
      start_name = ap (λ (p : Place). p.name) start ∙ h.start_name;
      end_name = ap (λ (p : Place). p.name) end ∙ h.end_name;
      low_low = h.low_low;
      low_high = h.low_high;
      high_low = h.high_low;
      high_high = h.high_high;
    }

acts_stay : (places more : List Place) (acts : List Act) → All (IsActWithin places) acts → All (IsActWithin (places ++ more)) acts
acts_stay places more acts h = λ k d lt. act_stays places more (get_or acts k d) (h k d lt)

-- a network stays one when an agent comes with a new name
pub IsNetwork-agent : (net : Net) (agent : Agent) → IsNetwork net → length net.agents < most_agents → IsTrue (is_name agent.name) → is_some (find_agent net agent.name) ≡ false
    → IsNetwork (record net { agents = net.agents ++ agent ∷ [] })
IsNetwork-agent net agent h few form lacks = record {
  horizon_low = h.horizon_low;
  horizon_high = h.horizon_high;
  few_agents = omega (arith, length_push net.agents agent);
  few_points = h.few_points;
  few_acts = h.few_acts;
  few_arcs = h.few_arcs;
  agent_forms = All-push (λ a. IsTrue (is_name a.name)) net.agents agent h.agent_forms form;
  point_forms = h.point_forms;
  agents_differ = push_name (agent_names net) _ agent.name (map_push (λ a. a.name) net.agents agent) lacks h.agents_differ;
  points_differ = h.points_differ;
  not_z = h.not_z;
  owners = λ k d lt. let was = h.owners k d lt in omega (arith, length_push net.agents agent);
  acts = h.acts;
  in_order = h.in_order;
  arcs = h.arcs;
}

-- a network stays one when a point comes with a new name, if no arc is given yet
pub IsNetwork-point : (net : Net) (place : Place) → IsNetwork net → length net.places + 1 < most_points → place.owner < length net.agents → length net.given ≡ 0
    → IsTrue (is_name place.name) → is_some (find_point net place.name) ≡ false → IsNetwork (record net { places = net.places ++ place ∷ [] })
IsNetwork-point net place h few owned none form lacks =
    let lack = point_lacks net place.name lacks in
    record {
      horizon_low = h.horizon_low;
      horizon_high = h.horizon_high;
      few_agents = h.few_agents;
      few_points = omega (arith, length_push net.places place);
      few_acts = omega (arith, length_push net.places place, h.few_acts);
      few_arcs = h.few_arcs;
      agent_forms = h.agent_forms;
      point_forms = All-push (λ p. IsTrue (is_name p.name)) net.places place h.point_forms form;
      agents_differ = h.agents_differ;
      points_differ = push_name (point_names net) _ place.name (map_push (λ p. p.name) net.places place) lack.1 h.points_differ;
      not_z = All-push (λ p. p.name ≢ 122 ∷ []) net.places place h.not_z (λ e. apart place.name (122 ∷ []) lack.0 (sym e));
      owners = All-push (λ p. p.owner < length net.agents) net.places place h.owners owned;
      acts = acts_stay net.places (place ∷ []) net.acts h.acts;
      in_order = h.in_order;
      arcs = λ k d lt. absurd (omega arith);
    }

-- a network stays one when an arc between two of its points comes
pub IsNetwork-arc : (net : Net) (arc : Constraint) → IsNetwork net → 2 * length net.acts + length net.given < most_arcs → IsArcWithin (point_count net) arc
    → IsNetwork (record net { given = net.given ++ arc ∷ [] })
IsNetwork-arc net arc h few within = record {
  horizon_low = h.horizon_low;
  horizon_high = h.horizon_high;
  few_agents = h.few_agents;
  few_points = h.few_points;
  few_acts = h.few_acts;
  few_arcs = omega (arith, length_push net.given arc);
  agent_forms = h.agent_forms;
  point_forms = h.point_forms;
  agents_differ = h.agents_differ;
  points_differ = h.points_differ;
  not_z = h.not_z;
  owners = h.owners;
  acts = h.acts;
  in_order = h.in_order;
  arcs = All-push (IsArcWithin (point_count net)) net.given arc h.arcs within;
}

-- an act of two new points, which stand last
new_act : (places : List Place) (name : List ℕ) (owner : ℕ) (low high : ℤ) → pos 0 ≤ℤ low → low ≤ℤ pos greatest_bound → neg_ℤ (pos greatest_bound) ≤ℤ high
    → high ≤ℤ pos greatest_bound
    → IsActWithin (places ++ record { name = act_start_name name; owner = owner } ∷ record { name = act_end_name name; owner = owner } ∷ [])
    (record { start = record { 0 = length places + 1 }; end = record { 0 = length places + 1 + 1 }; low = low; high = high })
new_act places name owner low high low_low low_high high_low high_high =
    let start : Place = record { name = act_start_name name; owner = owner } in
    let end : Place = record { name = act_end_name name; owner = owner } in
    let two : List Place = start ∷ end ∷ [] in
    let first_place : length places + 1 - 1 ≡ length places + 0 = omega arith in
    let second_place : length places + 1 + 1 - 1 ≡ length places + 1 = omega arith in
    let first = ap (λ k. get_or (places ++ two) k no_place) first_place ∙ get_or-append-add places two 0 no_place in
    let second = ap (λ k. get_or (places ++ two) k no_place) second_place ∙ get_or-append-add places two 1 no_place in
    record {
      after_z = omega arith;
      next = refl;
      there = omega (arith, length-append places two);
      one_owner = ap (λ (p : Place). p.owner) second ∙ sym (ap (λ (p : Place). p.owner) first);
      name = name;
      start_name = ap (λ (p : Place). p.name) first;
      end_name = ap (λ (p : Place). p.name) second;
      low_low = low_low;
      low_high = low_high;
      high_low = high_low;
      high_high = high_high;
    }

-- a network stays one when an act comes with two new names, if no arc is given yet
pub IsNetwork-act : (net : Net) (agent : ℕ) (name : List ℕ) (low high : ℤ) → IsNetwork net → length net.places + 2 < most_points → agent < length net.agents
    → length net.given ≡ 0 → IsTrue (is_name (act_start_name name)) → is_some (find_point net (act_start_name name)) ≡ false → is_some (find_point net (act_end_name name)) ≡ false
    → pos 0 ≤ℤ low → low ≤ℤ pos greatest_bound → neg_ℤ (pos greatest_bound) ≤ℤ high → high ≤ℤ pos greatest_bound → IsNetwork (with_act net agent name low high)
IsNetwork-act net agent name low high h few owned none form start_lacks end_lacks low_low low_high high_low high_high =
    let start : Place = record { name = act_start_name name; owner = agent } in
    let end : Place = record { name = act_end_name name; owner = agent } in
    let once = IsNetwork-point net start h (omega arith) owned none form start_lacks in
    let mid : Net = record net { places = net.places ++ start ∷ [] } in
    let twice = IsNetwork-point mid end once (omega (arith, length_push net.places start)) owned none (end_is_name name form)
    (lacks_more net start (act_end_name name) end_lacks (ends_apart name)) in
    let seam : (net.places ++ start ∷ []) ++ end ∷ [] ≡ net.places ++ start ∷ end ∷ [] = append_assoc net.places (start ∷ []) (end ∷ []) in
    let whole = subst (λ ps. IsNetwork (record net { places = ps })) seam twice in
    let act : Act = record { start = record { 0 = point_count net }; end = record { 0 = point_count net + 1 }; low = low; high = high } in
    record {
      horizon_low = h.horizon_low;
      horizon_high = h.horizon_high;
      few_agents = h.few_agents;
      few_points = whole.few_points;
      few_acts = omega (arith, length_push net.acts act, length-append net.places (start ∷ end ∷ []), h.few_acts);
      few_arcs = omega (arith, length_push net.acts act, h.few_acts);
      agent_forms = h.agent_forms;
      point_forms = whole.point_forms;
      agents_differ = h.agents_differ;
      points_differ = whole.points_differ;
      not_z = whole.not_z;
      owners = whole.owners;
      acts = All-push (IsActWithin (net.places ++ start ∷ end ∷ [])) net.acts act whole.acts (new_act net.places name agent low high low_low low_high high_low high_high);
      in_order = all_pairs_push (λ a b. a.end.0 < b.start.0) net.acts act h.in_order (λ k d lt. let was = (h.acts k d lt).there in omega (arith, was));
      arcs = whole.arcs;
    }

-- a network stays one when a given arc gets another bound in range
pub IsNetwork-bound : (net : Net) (i : ℕ) (b : ℤ) → IsNetwork net → i < length net.given → neg_ℤ (pos greatest_bound) ≤ℤ b → b ≤ℤ pos greatest_bound
    → IsNetwork (record net { given = set net.given i (record (arc_at net.given i) { bound = b }) })
IsNetwork-bound net i b h lt low high =
    let arc : Constraint = record (arc_at net.given i) { bound = b } in
    let was = h.arcs i no_arc lt in
    let within : IsArcWithin (point_count net) arc = record { starts = was.starts; ends = was.ends; different = was.different; low = low; high = high } in
    record {
      horizon_low = h.horizon_low;
      horizon_high = h.horizon_high;
      few_agents = h.few_agents;
      few_points = h.few_points;
      few_acts = h.few_acts;
      few_arcs = omega (arith, length-set net.given i arc, h.few_arcs);
      agent_forms = h.agent_forms;
      point_forms = h.point_forms;
      agents_differ = h.agents_differ;
      points_differ = h.points_differ;
      not_z = h.not_z;
      owners = h.owners;
      acts = h.acts;
      in_order = h.in_order;
      arcs = λ k d less. ⊎_elim
          (λ (at : k ≡ i). subst (λ j. IsArcWithin (point_count net) (get_or (set net.given i arc) j d)) (sym at)
          (subst (IsArcWithin (point_count net)) (sym (get_or-set_same net.given i arc d lt)) within))
          (λ (off : k ≢ i). subst (IsArcWithin (point_count net)) (sym (get_or-set_other net.given i k arc d off))
          (h.arcs k d (omega (arith, length-set net.given i arc))))
          (cases_eq k i);
    }

-- a bound that is not beyond the range
pub in_range : (b : ℤ) → is_beyond b ≡ false → (neg_ℤ (pos greatest_bound) ≤ℤ b) × (b ≤ℤ pos greatest_bound)
in_range b h = (grind (arith, ints), grind (arith, ints))
