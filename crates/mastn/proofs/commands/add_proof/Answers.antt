use Rattle.mastn.proofs.BoundTexts.{walk_known}
use Rattle.mastn.proofs.commands.add_proof.Goals as goal

pub prove_part-requires : goal.prove_part-requires
prove_part-requires c =
    let proof = c.args.proof.now in
    record {
      from = c.requires.from;
      to = c.requires.to;
      arcs = walk_known c.args.net.now c.args.from.0 c.args.to.0 proof.bound proof.walk proof.schedule c.requires.shows;
      one_each = c.requires.shows.satisfies.one_each;
    }
