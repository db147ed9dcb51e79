-- What agents have told, with the last one first, and the arcs that one of them tells: told_of, told_more, pairs_more, valid_at.
use Rattle.std.proofs.Common.{zero, suc, ◌≡◌, ℕ, ◌+◌, ◌<◌, List, [], ◌∷◌, ◌++◌, true, Option, Some, None, ap, sym, ◌∙◌}
use Rattle.std.proofs.Common.{refl, arith, length, map, take, get_or, append_assoc}
use Rattle.std.specs.Prelude.{if◌then◌else◌, nat_eq, reverse}
use Rattle.std.specs.Option.{option_eq}
use Rattle.std.proofs.lemmas.Bool.{and_parts}
use Rattle.std.proofs.lemmas.List.{take_more, map_push, reverse-append}
use Rattle.stn_model.specs.declared.ids.Constraint.{Constraint}
use Rattle.stn_model.specs.declared.ids.PointId.{PointId}
use Rattle.stn_model.specs.Net.{horizon_pair}
use Rattle.elim_step.specs.declared.summary.SummaryEntry.{SummaryEntry}
use Rattle.elim_step.specs.Summaries.{is_valid, is_less, may_follow, may_all_follow, is_summary}
use Rattle.shared_graph.specs.declared.told.Told.{Told}
use Rattle.shared_graph.specs.Interfaces.{InterfaceView, Summary, owner_in}
use Rattle.shared_graph.specs.States.{Published, agent_pairs}
use Rattle.shared_graph.specs.Graphs.{published_of}

-- what the first n have told, with the last one first
abbrev pub told_of : List Told → ℕ → List Published
told_of xs n = reverse (map published_of (take n xs))

-- one more has told
pub told_more : (xs : List Told) (x : Told) → reverse (map published_of (xs ++ x ∷ [])) ≡ published_of x ∷ reverse (map published_of xs)
told_more xs x = ap reverse (map_push published_of xs x) ∙ reverse-append (map published_of xs) (published_of x ∷ [])

-- the horizon arcs of the points of two lists
pairs_both : (face : InterfaceView) (agent : ℕ) (ps qs : List ℕ) → agent_pairs face agent (ps ++ qs) ≡ agent_pairs face agent ps ++ agent_pairs face agent qs
pairs_both face agent [] qs = refl
pairs_both face agent (p ∷ ps) qs =
    let own = if option_eq nat_eq (owner_in face p) (Some agent) then horizon_pair face.horizon p else [] in
    ap (λ xs. own ++ xs) (pairs_both face agent ps qs) ∙ sym (append_assoc own (agent_pairs face agent ps) (agent_pairs face agent qs))

-- and of one point more
pub pairs_more : (face : InterfaceView) (agent : ℕ) (ps : List PointId) (n : ℕ) (d : PointId) (arcs after : List Constraint) → n < length ps
    → arcs ≡ agent_pairs face agent (map (λ (p : PointId). p.0) (take n ps))
    → after ≡ arcs ++ agent_pairs face agent ((get_or ps n d).0 ∷ []) → after ≡ agent_pairs face agent (map (λ (p : PointId). p.0) (take (n + 1) ps))
pairs_more face agent ps n d arcs after lt was now =
    now ∙ ap (λ xs. xs ++ agent_pairs face agent ((get_or ps n d).0 ∷ [])) was
    ∙ sym (pairs_both face agent (map (λ (p : PointId). p.0) (take n ps)) ((get_or ps n d).0 ∷ []))
    ∙ ap (agent_pairs face agent) (sym (map_push (λ (p : PointId). p.0) (take n ps) (get_or ps n d)))
    ∙ ap (λ xs. agent_pairs face agent (map (λ (p : PointId). p.0) xs)) (sym (take_more ps n d lt))

-- each entry of a summary is valid
valid_after : (last : Option SummaryEntry) (es : Summary) (n : ℕ) (d : SummaryEntry) → may_all_follow last es ≡ true → n < length es
    → is_valid (get_or es n d) ≡ true
valid_after last [] n d h lt = absurd (omega arith)
valid_after last (e ∷ es) zero d h lt = first last (and_parts (may_follow last e) (may_all_follow (Some e) es) h).0 where
  first : (o : Option SummaryEntry) → may_follow o e ≡ true → is_valid e ≡ true
  first None h = h
  first (Some x) h = (and_parts (is_less x e) (is_valid e) h).1
valid_after last (e ∷ es) (suc n) d h lt = valid_after (Some e) es n d (and_parts (may_follow last e) (may_all_follow (Some e) es) h).1 (omega arith)

pub valid_at : (es : Summary) (n : ℕ) (d : SummaryEntry) → is_summary es ≡ true → n < length es → is_valid (get_or es n d) ≡ true
valid_at es n d h lt = valid_after None es n d h lt
