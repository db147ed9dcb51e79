use Rattle.std.proofs.Common.{◌≡◌, ◌≢◌, ℕ, List, true, sym, ap, ◌∙◌, arith}
use Rattle.std.specs.Prelude.{slice_index_or, pos}
use Rattle.std.proofs.lemmas.Int.{ints}
use Rattle.std.proofs.lemmas.List.{get_or_default}
use Rattle.elim_step.specs.declared.summary.SummaryEntry.{SummaryEntry}
use Rattle.elim_step.specs.Summaries.{is_valid}
use Rattle.elim_step.specs.Eliminated.{point_at}
use Rattle.private_elim.proofs.summary.Entries.{valid_at, valid_light, valid_differ, given_same, given_more}
use Rattle.private_elim.proofs.back_start.add_entry.Goals as goal

-- the entry that is read
abbrev no_entry : SummaryEntry
no_entry = record { from = record { 0 = 0 }; to = record { 0 = 0 }; weight = pos 0 }

pub returns-in_default-clause-given : goal.returns-in_default-clause-given
returns-in_default-clause-given g c =
    let es = c.args.entries.now in
    let n = c.args.n in
    let e : SummaryEntry = slice_index_or es n no_entry in
    given_same c.args.local.now c.requires.known es c.requires.valid n e c.requires.within
    (get_or_default es n e no_entry c.requires.within) _ c.requires.given
    (λ p q seen from to. c.in_default.ensures.none p seen.from_within seen.from_seen from)

pub returns-in_default-seen_place-clause-given : goal.returns-in_default-seen_place-clause-given
returns-in_default-seen_place-clause-given g c =
    let es = c.args.entries.now in
    let n = c.args.n in
    let e : SummaryEntry = slice_index_or es n no_entry in
    given_same c.args.local.now c.requires.known es c.requires.valid n e c.requires.within
    (get_or_default es n e no_entry c.requires.within) _ c.requires.given
    (λ p q seen from to. c.in_default-seen_place.ensures.none q seen.to_within seen.to_seen to)

-- the places of its points differ
places_differ : (points : List ℕ) (e : SummaryEntry) (from to : ℕ) → is_valid e ≡ true → point_at points from ≡ e.from.0 → point_at points to ≡ e.to.0
    → from ≢ to
places_differ points e from to valid starts ends same = valid_differ e valid (sym starts ∙ ap (point_at points) same ∙ ends)

pub make_room-requires-clause-apart : goal.make_room-requires-clause-apart
make_room-requires-clause-apart g c =
    let es = c.args.entries.now in
    let n = c.args.n in
    let e : SummaryEntry = slice_index_or es n no_entry in
    let valid = valid_at es n e c.requires.valid c.requires.within (get_or_default es n e no_entry c.requires.within) in
    places_differ c.args.local.now.points e c.in-Some.from c.in-Some-seen_place.to valid c.in-Some.ensures.some.2 c.in-Some-seen_place.ensures.some.2

pub lower-requires-clause-apart : goal.lower-requires-clause-apart
lower-requires-clause-apart g c =
    let es = c.args.entries.now in
    let n = c.args.n in
    let e : SummaryEntry = slice_index_or es n no_entry in
    let valid = valid_at es n e c.requires.valid c.requires.within (get_or_default es n e no_entry c.requires.within) in
    places_differ c.args.local.now.points e c.in-Some.from c.in-Some-seen_place.to valid c.in-Some.ensures.some.2 c.in-Some-seen_place.ensures.some.2

pub lower-requires-clause-light : goal.lower-requires-clause-light
lower-requires-clause-light g c =
    let es = c.args.entries.now in
    let n = c.args.n in
    let e : SummaryEntry = slice_index_or es n no_entry in
    let light = valid_light e (valid_at es n e c.requires.valid c.requires.within (get_or_default es n e no_entry c.requires.within)) in
    omega (arith, ints)

pub returns-clause-given : goal.returns-clause-given
returns-clause-given g c =
    let es = c.args.entries.now in
    let n = c.args.n in
    let e : SummaryEntry = slice_index_or es n no_entry in
    let is = get_or_default es n e no_entry c.requires.within in
    let valid = valid_at es n e c.requires.valid c.requires.within is in
    let light = valid_light e valid in
    let from = c.in-Some.ensures.some in
    let to = c.in-Some-seen_place.ensures.some in
    let differ = places_differ c.args.local.now.points e c.in-Some.from c.in-Some-seen_place.to valid from.2 to.2 in
    let same : g.R.Rows.at c.make_room.new.self ≡ g.R.Rows.at c.args.finals.now = (λ t p q. c.make_room.ensures.cells p q t) in
    given_more c.args.local.now c.requires.known es c.requires.valid n e c.requires.within is (g.R.Rows.at c.make_room.new.self) (rw same c.requires.given) c.in-Some.from c.in-Some-seen_place.to
    (record { from_within = from.0; to_within = to.0; different = differ; from_seen = from.1; to_seen = to.1 }) from.2 to.2
    _ (omega (arith, ints)) _ c.lower.ensures.cells
