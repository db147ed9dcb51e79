use Rattle.std.proofs.Common.{◌≡◌, map, take}
use Rattle.stn_model.specs.declared.ids.PointId.{PointId}
use Rattle.private_elim.proofs.eliminate.take_listed.Given as goal

abbrev pub invariant-loop-n : goal.invariant-loop-n
invariant-loop-n g l = record {
  local : l.elimination.local ≡ l.fn.elimination.local;
  taken : l.elimination.order ≡ take l.n (map (λ (p : PointId). p.0) l.order);
}
