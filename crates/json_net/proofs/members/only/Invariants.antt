-- The names that are left are keys exactly where all are.
use Rattle.std.proofs.Common.{◌≡◌}
use Rattle.serde_json.specs.View.{members_view}
use Rattle.json_net.specs.Members.{has_only}
use Rattle.json_net.proofs.Names.{are_among}
use Rattle.json_net.proofs.members.only.Given as goal

abbrev pub invariant-loop-name : goal.invariant-loop-name
invariant-loop-name l = has_only l.keys (members_view l.members.entries) ≡ are_among l.keys l.name-iterator
