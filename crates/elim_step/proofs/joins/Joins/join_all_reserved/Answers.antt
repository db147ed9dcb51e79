use Rattle.std.proofs.Common.{◌≡◌, ◌&&◌, ◌||◌, not, ◌==◌, ap, ◌∙◌, rules, take, get_or}
use Rattle.std.proofs.lemmas.List.{take_all}
use Rattle.stn_walk.specs.Eliminations.{is_in}
use Rattle.elim_step.specs.JoinedPlaces.{is_joined}
use Rattle.stn_walk.proofs.Members.{is_in-next, is_in-at}
use Rattle.elim_step.proofs.JoinWrites.{row-joined, rooms_left}
use Rattle.elim_step.proofs.joins.Joins.join_all_reserved.Goals as goal

pub add_all-requires-clause-within : goal.add_all-requires-clause-within
add_all-requires-clause-within c = rw c.loop-n.invariant.size (c.requires.within _ (is_in-at c.args.places.now c.loop-n.n (search rules)))

pub add_all-requires-clause-all_within : goal.add_all-requires-clause-all_within
add_all-requires-clause-all_within c = λ p here. rw c.loop-n.invariant.size (c.requires.within p here)

pub loop-n-preserved : goal.loop-n-preserved
loop-n-preserved c =
    let xs = c.args.places.now in
    let n = c.loop-n.n in
    let i = get_or xs n 0 in
    let was = c.loop-n.invariant in
    let now = c.add_all.ensures in
    record {
      size = now.size ∙ was.size;
      pairs = λ p q. now.pairs p q
          ∙ row-joined (is_joined c.args.self.now p q) (is_joined c.loop-n.self p q) p q i (is_in (take n xs) p) (is_in xs q) (was.pairs p q)
          ∙ ap (λ b. is_joined c.args.self.now p q || (not (p == q) && b && is_in xs q)) (is_in-next xs n p (search rules));
      room = rooms_left c.loop-n.self.lists.items c.add_all.new.self.lists.items xs n c.requires.rising now.others was.room;
    }

pub returns-clause-pairs : goal.returns-clause-pairs
returns-clause-pairs c = λ p q.
    let all : take c.loop-n.n c.args.places.now ≡ c.args.places.now = take_all c.loop-n.n c.args.places.now (search rules) in
    c.loop-n.invariant.pairs p q
    ∙ (λ t. is_joined c.args.self.now p q || (not (p == q) && is_in (all t) p && is_in c.args.places.now q))
