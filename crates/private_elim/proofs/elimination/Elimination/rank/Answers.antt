use Rattle.std.proofs.Common.{◌∙◌, rules, arith}
use Rattle.std.specs.Prelude.{reverse}
use Rattle.stn_walk.proofs.Members.{is_in-at}
use Rattle.elim_step.specs.Ranked.{key_at}
use Rattle.private_elim.specs.Keyed.{IsKeyed}
use Rattle.private_elim.proofs.taking.Keys.{given_more, others_kept}
use Rattle.private_elim.proofs.elimination.Elimination.rank.Goals as goal

pub key-requires : goal.key-requires
key-requires g c = c.requires.within _ (is_in-at c.args.places.now c.loop-place.place-index (search rules))

pub set-requires : goal.set-requires
set-requires g c =
    let low = c.requires.within _ (is_in-at c.args.places.now c.loop-place.place-index (search rules)) in
    omega (arith, low, c.loop-place.invariant.size, c.requires.size)

pub loop-place-preserved : goal.loop-place-preserved
loop-place-preserved g c =
    let v = c.args.self.now.local in
    let taken = reverse c.args.self.now.order in
    let xs = c.args.places.now in
    let n = c.loop-place.place-index in
    let was = c.loop-place.invariant in
    record {
      size = c.set.ensures.size ∙ was.size;
      listed = given_more (IsKeyed _ v taken) xs n (search rules) (key_at c.loop-place.ranking) (key_at c.set.new.self) c.key.result
          c.key.ensures c.set.ensures.keys was.listed;
      others = others_kept (IsKeyed _ v taken) xs n (search rules) (key_at c.loop-place.ranking) (key_at c.set.new.self) c.key.result
          c.key.ensures c.set.ensures.keys (key_at c.args.ranking.now) was.others;
    }
