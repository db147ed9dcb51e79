use Rattle.std.proofs.Common.{◌≡◌, ℕ, Bool, true, ◌&&◌, ◌||◌, ap, sym, ◌∙◌, refl, rules}
use Rattle.std.specs.Prelude.{◌==◌}
use Rattle.std.proofs.lemmas.Bool.{eq-eqb, false≢true}
use Rattle.std.proofs.lemmas.List.{take_all}
use Rattle.stn_walk.specs.Eliminations.{is_in}
use Rattle.stn_walk.proofs.Members.{is_in-at, is_in-cases, is_in-apart}
use Rattle.elim_step.proofs.Roomings.{row_made, row_kept}
use Rattle.shared_graph.proofs.take.open_finals.Goals as goal

-- the room of the pair that it is made for
pair_made : (new : Bool) (p q i j : ℕ) (old : Bool) → new ≡ (((p == i) && (q == j)) || old) → p ≡ i → q ≡ j → new ≡ true
pair_made new p q i j old is at_i at_j = is ∙ (λ t. (eq-eqb p i at_i t && eq-eqb q j at_j t) || old)

pub make_room-requires-clause-within : goal.make_room-requires-clause-within
make_room-requires-clause-within g c =
    let was = c.loop-n.invariant in
    (rw was.places (c.requires.others c.loop-n.n (search rules)), rw was.places c.requires.within)

pub make_room-requires-clause-apart : goal.make_room-requires-clause-apart
make_room-requires-clause-apart g c = is_in-apart c.args.list.now _ _ (is_in-at c.args.list.now c.loop-n.n (search rules)) c.requires.away

pub loop-n-init : goal.loop-n-init
loop-n-init g c =
    let now = c.in_ok-make_room_row.ensures in
    let list = c.args.list.now in
    record {
      places = now.places;
      cells = now.cells;
      kept = λ p q had. row_kept _ _ _ (now.room p q) had;
      out = λ m here. row_made _ c.args.place m list c.args.place _ (now.room c.args.place m) refl
          (λ e. is_in-apart list m c.args.place here c.requires.away (sym e)) here;
      back = λ m here. absurd (false≢true here);
    }

pub loop-n-preserved : goal.loop-n-preserved
loop-n-preserved g c =
    let was = c.loop-n.invariant in
    let now = c.in_ok-make_room.ensures in
    let list = c.args.list.now in
    let k = c.args.place in
    record {
      places = now.places ∙ was.places;
      cells = λ p q. now.cells p q ∙ was.cells p q;
      kept = λ p q had. row_kept _ _ _ (now.room p q) (was.kept p q had);
      out = λ m here. row_kept _ _ _ (now.room k m) (was.out m here);
      back = λ m here. is_in-cases {P = g.R.Rows.has_room c.make_room.new.self m k ≡ true} m list c.loop-n.n (search rules) here
          (λ before. row_kept _ _ _ (now.room m k) (was.back m before))
          (λ last. pair_made _ m k _ k _ (now.room m k) last refl);
    }

pub returns-clause-room : goal.returns-clause-room
returns-clause-room g c m here =
    let was = c.loop-n.invariant in
    (was.out m here, was.back m (ap (λ xs. is_in xs m) (take_all c.loop-n.n c.args.list.now c.loop-n-test.false) ∙ here))
