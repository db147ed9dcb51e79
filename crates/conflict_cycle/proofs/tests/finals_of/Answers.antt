use Rattle.std.proofs.Common.{◌+◌, get_or, refl, sym, subst}
use Rattle.shared_graph.specs.Interfaces.{Summary}
use Rattle.conflict_cycle.proofs.MadeParts.{AreFinalsBelow, blank_entry, finals_next}
use Rattle.conflict_cycle.proofs.tests.finals_of.Goals as goal

pub loop-told-preserved : goal.loop-told-preserved
loop-told-preserved c =
    let face = c.args.shared.now.face in
    let s = c.args.shared.now.state in
    let k = c.loop-told.told-index in
    let items = c.entries-told-items.result.now in
    let value = c.entries-told-items.ensures.value in
    let old = c.loop-told.finals.items in
    subst (λ (told : Summary). AreFinalsBelow face s told (k + 1) c.push.new.self.items) value
    (finals_next face s items k (get_or items k blank_entry) blank_entry c.in-Some.entry old c.push.new.self.items c.loop-told-test.true refl
    c.in-Some.ensures c.in_ok-push.ensures.items (subst (λ (told : Summary). AreFinalsBelow face s told k old) (sym value) c.loop-told.invariant))
