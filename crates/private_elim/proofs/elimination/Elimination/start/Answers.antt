use Rattle.std.proofs.Common.{◌≡◌, true, false, [], ap, sym, ◌∙◌, arith, length, get_or}
use Rattle.std.specs.Prelude.{replicate}
use Rattle.std.proofs.lemmas.List.{length-replicate, get_or-replicate}
use Rattle.elim_step.specs.JoinedPlaces.{is_joined}
use Rattle.elim_step.proofs.JoinFacts.{joined-apart}
use Rattle.private_elim.specs.Locals.{LocalView, IsLocal, all_numbered}
use Rattle.private_elim.specs.Taken.{IsTaken}
use Rattle.private_elim.proofs.taking.Takes.{in_list}
use Rattle.private_elim.proofs.taking.Counts.{none_gone}
use Rattle.private_elim.proofs.taking.Laying.{taken_none}
use Rattle.private_elim.proofs.elimination.Elimination.start.Goals as goal

pub invariant_of-result : goal.invariant_of-result
invariant_of-result g c =
    let v = c.in_ok-local.local in
    let local : v ≡ c.args.local.now = c.in_ok-local.ensures in
    let known : IsLocal v = rw local c.size-size.ensures.valid in
    let numbered : all_numbered v.arcs ≡ true = rw local c.requires.numbered in
    let size : c.size-size.result ≡ length v.points = c.size-size.ensures.count ∙ ap (λ (l : LocalView). length l.points) (sym local) in
    let joins_size : c.lay_arcs.new.joins.size ≡ length v.points = c.lay_arcs.ensures.joins_size ∙ c.in_ok-joins.ensures.size ∙ size in
    let all : c.in_ok-remain.remain.items ≡ replicate (length v.points) true =
    c.in_ok-remain.ensures.items_if_clones_equal (λ y e. e) ∙ ap (λ n. replicate n true) size in
    let none : c.in_ok-gone.gone.items ≡ replicate (length v.points) 0 =
    c.in_ok-gone.ensures.items_if_clones_equal (λ y e. e) ∙ ap (λ n. replicate n 0) size in
    let rows = c.lay_arcs.new.rows in
    let joins = c.lay_arcs.new.joins in
    let many : length c.in_ok-remain.remain.items ≡ length v.points = ap length all ∙ length-replicate (length v.points) true in
    let taken : IsTaken v [] (g.R.Rows.at rows) (is_joined joins) c.in_ok-remain.remain.items =
    taken_none v known numbered (g.R.Rows.at rows) (is_joined joins) c.in_ok-remain.remain.items c.in_ok-lay_arcs.ensures.laid
    (joined-apart joins) all in
    record {
      square = c.lay_arcs.ensures.size ∙ c.requires.size ∙ ap (λ (l : LocalView). length l.points) (sym local);
      joins_size = joins_size;
      gone_len = ap length none ∙ length-replicate (length v.points) 0;
      gone = λ p there.
          let low = in_list c.in_ok-remain.remain.items p there in
          ap (λ xs. get_or xs p 0) none ∙ get_or-replicate (length v.points) p 0 0 (omega arith)
          ∙ sym (none_gone c.in_ok-remain.remain.items joins.size (is_joined joins p)
          (λ q lq. ap (λ xs. get_or xs q false) all ∙ get_or-replicate (length v.points) q true false (omega arith)));
      roomy = c.in_ok-lay_arcs.ensures.room;
      taken = rw c.in_ok-order.ensures.items taken;
    }
