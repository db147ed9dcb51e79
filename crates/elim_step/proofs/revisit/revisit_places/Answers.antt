use Rattle.std.proofs.Common.{ap, sym, ◌∙◌, arith, rules, take, get_or}
use Rattle.std.proofs.lemmas.List.{take_more}
use Rattle.elim_step.specs.Revisits.{place_after, places_after}
use Rattle.stn_walk.proofs.Members.{is_in-at, is_in-apart}
use Rattle.elim_step.proofs.Revisits.{places-more, places-away, once_ahead}
use Rattle.elim_step.proofs.revisit.revisit_places.Goals as goal

pub revisit_place-requires : goal.revisit_place-requires
revisit_place-requires g c =
    let ns = c.args.later.now in
    let n = c.loop-j.j-index in
    let j = get_or ns n 0 in
    let k = c.args.k in
    let here = is_in-at ns n (search rules) in
    let was = c.loop-j.invariant in
    record {
      within = (c.requires.within, rw was.places (c.requires.all_within j here).1);
      all_within = λ m h. ((c.requires.all_within m h).0, rw was.places (c.requires.all_within m h).1);
      apart = is_in-apart ns j k here c.requires.others;
      others = c.requires.others;
      room_out = was.room k j ∙ c.requires.room_out j here;
      room_back = was.room j k ∙ c.requires.room_back j here;
      forward = c.requires.forward;
      finals =
          λ p q first second. rw (
            was.cells p q,
            places-away (g.R.Rows.at c.args.forward.now) k (take n ns) ns (g.R.Rows.at c.args.finals.now) p q first second,
          )
          (c.requires.finals p q first second);
    }

pub loop-j-preserved : goal.loop-j-preserved
loop-j-preserved g c =
    let ns = c.args.later.now in
    let n = c.loop-j.j-index in
    let j = get_or ns n 0 in
    let k = c.args.k in
    let fw = g.R.Rows.at c.args.forward.now in
    let f = g.R.Rows.at c.args.finals.now in
    let was = c.loop-j.invariant in
    let now = c.revisit_place.ensures in
    let apart = is_in-apart ns j k (is_in-at ns n (search rules)) c.requires.others in
    record {
      cells = λ p q.
          now.cells p q ∙ (λ t. place_after fw k j ns (λ a b. was.cells a b t) p q)
          ∙ places-more fw k j (take n ns) ns f apart (once_ahead ns n c.requires.once (search rules)) c.requires.others p q
          ∙ ap (λ xs. places_after fw k xs ns f p q) (sym (take_more ns n 0 (search rules)));
      room = λ p q. now.room p q ∙ was.room p q;
      places = now.places ∙ was.places;
      roomy = now.roomy ∙ was.roomy;
      steps = grind arith;
    }
