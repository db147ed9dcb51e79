-- Networks in which an agent has the points, kinds and own arcs of a local problem, whatever the numbers of the arcs:
--   private_of_part, seen_of_part, horizon_of_part   its private points, and those that others see
--   has_part                   the network whose local problem it is, is one
use Rattle.std.proofs.Common.{◌≡◌, ◌<◌, ℕ, [], length, sym, ap, refl, ◌∙◌}
use Rattle.std.proofs.lemmas.List.{append-nil}
use Rattle.stn_model.specs.Arcs.{bound_at}
use Rattle.stn_model.specs.Net.{Net}
use Rattle.stn_model.specs.Kinds.{is_private_of}
use Rattle.stn_model.specs.Summaries.{is_seen}
use Rattle.private_elim.specs.Locals.{LocalView, local_of, numbered_own, is_private_in, is_seen_in, horizon_in}
use Rattle.private_elim.specs.Parts.{HasPart}
use Rattle.private_elim.proofs.locals.Parts.{IsPart, private_part, seen_part, horizon_part}
use Rattle.private_elim.proofs.locals.LocalFacts.{arcs_of_net}

module _ (v : LocalView) (net : Net) (part : HasPart net v) where
  -- the same points and kinds, with the numbers that the arcs have there
  abbrev renumbered : LocalView
  renumbered = record { agent = v.agent; points = v.points; shared = v.shared; arcs = numbered_own net v.agent }

  abbrev part_there : IsPart renumbered net
  part_there = record {
    points = part.points;
    shared = part.shared;
    added = [];
    arcs = sym (append-nil (numbered_own net v.agent));
  }

  -- the kinds of its points do not hang on its arcs
  pub private_of_part : (p : ℕ) → is_private_in v p ≡ is_private_of net v.agent p
  private_of_part = private_part renumbered net part_there

  pub seen_of_part : (p : ℕ) → is_seen_in v p ≡ is_seen net v.agent p
  seen_of_part = seen_part renumbered net part_there

  -- the horizon is the bound of its first arc
  pub horizon_of_part : 1 < length v.points → horizon_in v ≡ net.horizon
  horizon_of_part many = ap (λ arcs. bound_at arcs 0) (part.arcs ∙ sym (arcs_of_net (local_of net v.agent) net refl)) ∙ horizon_part renumbered net part_there many

-- the agent has the part in the network whose local problem it is
pub has_part : (v : LocalView) (net : Net) → v ≡ local_of net v.agent → HasPart net v
has_part v net e = record { points = ap (λ w. w.points) e; shared = ap (λ w. w.shared) e; arcs = arcs_of_net v net e }
