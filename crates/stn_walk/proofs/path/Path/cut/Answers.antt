use Rattle.std.proofs.Common.{◌≡◌, ℕ, ◌+◌, ◌-◌, ◌<◌, ◌∙◌, List, length, set, take, sym, subst, arith, length-set}
use Rattle.std.proofs.lemmas.List.{get_or_read, length-take-le, take-take}
use Rattle.stn_walk.specs.Marks.{IsMarked}
use Rattle.stn_walk.proofs.Marks.{last_within, IsMarked-take}
use Rattle.stn_walk.proofs.path.Path.cut.Goals as goal

pub index_mut-requires : goal.index_mut-requires
index_mut-requires c =
    let points = c.loop-self.self-inside.points.items in
    let places = c.loop-self.self-inside.places.items in
    let last = c.len-last.result - 1 in
    let len : c.len-last.result ≡ length points = omega (arith, c.len-last.ensures, c.loop-self.self-inside.points.ok.0) in
    let within = c.loop-self.invariant.within in
    let is : last + 1 ≡ length points = omega arith in
    let at = get_or_read points last c.index-point.result.now (omega arith) c.index-point.ensures 0 in
    let there = last_within points places last is c.loop-self.invariant.marked in
    let count = c.loop-self.self-inside.places.ok.0 in
    omega arith

pub loop-self-preserved : goal.loop-self-preserved
loop-self-preserved c =
    let points = c.loop-self.self-inside.points.items in
    let places = c.loop-self.self-inside.places.items in
    let last = c.len-last.result - 1 in
    let len : c.len-last.result ≡ length points = omega (arith, c.len-last.ensures, c.loop-self.self-inside.points.ok.0) in
    let same : c.len.result ≡ length points = omega (arith, c.len.ensures, c.loop-self.self-inside.points.ok.0) in
    let long = c.loop-self-test.true in
    let is : last + 1 ≡ length points = omega arith in
    let at = get_or_read points last c.index-point.result.now (omega arith) c.index-point.ensures 0 in
    let few = length-take-le last points (omega arith) in
    let low : c.args.place < length (take last points) = omega arith in
    record {
      marked = subst (λ (xs : List ℕ). IsMarked xs (set places c.index-point.result.now 0)) (sym c.truncate.ensures.items)
          (subst (λ (p : ℕ). IsMarked (take last points) (set places p 0)) (sym at) (IsMarked-take points places last is c.loop-self.invariant.marked));
      within = subst (λ (xs : List ℕ). c.args.place < length xs) (sym c.truncate.ensures.items) low;
      front = subst (λ (xs : List ℕ). take (c.args.place + 1) xs ≡ take (c.args.place + 1) c.self.inside.points.items) (sym c.truncate.ensures.items)
          (take-take (c.args.place + 1) last points (omega arith) ∙ c.loop-self.invariant.front);
      arcs = c.loop-self.invariant.arcs;
      room = length-set places c.index-point.result.now 0 ∙ c.loop-self.invariant.room;
    }
