use Rattle.std.proofs.Common.{◌++◌, ap, refl, ◌∙◌}
use Rattle.stn_model.specs.Net.{Net}
use Rattle.schedule_report.specs.Parts.{prove_part}
use Rattle.mastn.proofs.commands.say_proof.Goals as goal

pub returns : goal.returns
returns c =
    let net = c.args.joined.now.network in
    let from = c.args.from.0 in
    let to = c.args.to.0 in
    let proof = c.in_ok-proof.proof in (
      prove_part net from to proof.bound proof.walk proof.schedule,
      record { bound = proof.bound; walk = proof.walk; times = proof.schedule; shows = c.in_ok-proof.ensures; says = refl },
      c.in_ok-add_proof.ensures ∙ ap (λ (n : Net). c.args.out.now.items ++ prove_part n from to proof.bound proof.walk proof.schedule) c.network.ensures.network,
    )
