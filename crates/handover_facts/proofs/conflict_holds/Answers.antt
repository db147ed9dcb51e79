use Rattle.std.proofs.Common.{refl, arith}
use Rattle.std.proofs.lemmas.Bool.{false≢true}
use Rattle.std.proofs.lemmas.Int.{ints}
use Rattle.std.specs.Prelude.{[], ◌∷◌}
use Rattle.stn_model.specs.Conflicts.{IsOwnConflict}
use Rattle.handover_facts.specs.Conflict.{torn}
use Rattle.handover_facts.proofs.conflict_holds.Goals as goal

of_agent : IsOwnConflict torn 0 (10 ∷ 11 ∷ [])
of_agent = record {
  negative = record {
    start = 1;
    walk = (omega arith, refl, (omega arith, refl, refl));
    simple = ((omega arith, tt), (tt, tt));
    negative = omega (arith, ints);
  };
  own = (refl, (refl, tt));
  private_but_one = omega arith;
}

pub returns : goal.returns
returns c = record {
  p_shared = refl;
  r_private = refl;
  q_shared = refl;
  conflict = of_agent;
  conflict_normal = (omega arith, tt);
  between_shared = record {
    start = 1;
    walk = (omega arith, refl, (omega arith, refl, refl));
    simple = ((omega arith, tt), (tt, tt));
    negative = omega (arith, ints);
  };
  between_shared_own = (refl, (refl, tt));
  between_shared_none = λ h. let few = h.private_but_one in absurd (omega arith);
  no_summary = λ entries s. s.sound (10 ∷ 11 ∷ []) of_agent;
  other_agent = λ h. false≢true h.own.0;
}
