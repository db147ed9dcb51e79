-- The names that are left are those after the one that was looked at.
use Rattle.std.proofs.Common.{◌≡◌, true, false, string_bytes, sym, ap, ◌∙◌}
use Rattle.serde_json.specs.View.{members_view}
use Rattle.json_net.specs.Members.{is_among}
use Rattle.json_net.proofs.Names.{are_among, only_names, names_left, another_name, refused_extra, taken_only}
use Rattle.json_net.proofs.members.only.Goals as goal

pub loop-name-init : goal.loop-name-init
loop-name-init c =
    only_names c.args.keys.now c.args.members.now.entries
    ∙ ap (are_among c.args.keys.now) (sym (c.into_iter-name-iterator.ensures.into_iter_gives ∙ c.keys-name-items.ensures.rest))

pub loop-name-preserved : goal.loop-name-preserved
loop-name-preserved c =
    let among : is_among c.args.keys.now (string_bytes c.in-Some.name.now) ≡ true =
    ap (is_among c.args.keys.now) (sym c.as_str.ensures.value) ∙ sym c.is_among.ensures ∙ c.if-not-is_among.false in
    names_left c.args.keys.now _ c.loop-name.name-iterator c.next.new.self c.in-Some.name.now c.loop-name.invariant c.in-Some.ensures.steps among

pub returns-then-not-is_among : goal.returns-then-not-is_among
returns-then-not-is_among c =
    let other : is_among c.args.keys.now (string_bytes c.in-Some.name.now) ≡ false =
    ap (is_among c.args.keys.now) (sym c.as_str.ensures.value) ∙ sym c.is_among.ensures ∙ c.if-not-is_among.true in
    refused_extra c.args.path (members_view c.args.members.now.entries) c.args.keys.now
    (another_name c.args.keys.now _ c.loop-name.name-iterator c.next.new.self c.in-Some.name.now c.loop-name.invariant c.in-Some.ensures.steps other)

pub returns : goal.returns
returns c =
    taken_only c.args.path (members_view c.args.members.now.entries) c.args.keys.now
    (c.loop-name.invariant ∙ ap (are_among c.args.keys.now) c.in-None.ensures.steps.0)
