use Rattle.std.proofs.Common.{◌∙◌, ◌∷◌, ◌++◌, [], ap, append_assoc}
use Rattle.std.specs.Str.{bytes_eq}
use Rattle.indexmap.proofs.CallerLemmas.{insert_entry-new}
use Rattle.stn_model.proofs.network.insert_two.Goals as goal

pub returns : goal.returns
returns c =
    let old = c.args.places.now in
    let once = c.in-Ok.ensures.entries ∙ insert_entry-new (λ x y. bytes_eq x.items y.items) old c.args.first c.args.agent c.requires.first_new in
    let absent = c.in-Ok.ensures.updates.2 c.args.second c.requires.apart ∙ c.requires.second_new in
    c.in-Ok-insert.ensures.entries ∙ insert_entry-new (λ x y. bytes_eq x.items y.items) c.insert.new.self c.args.second c.args.agent absent
    ∙ ap (λ es. es ++ (c.args.second, c.args.agent) ∷ []) once
    ∙ append_assoc old.entries ((c.args.first, c.args.agent) ∷ []) ((c.args.second, c.args.agent) ∷ [])
