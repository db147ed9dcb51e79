-- A walk of an agent's own arcs through its private points, between two different points that are not hidden, has an entry of the agent's
-- summary that is no heavier: seen_pair, own_walk_contracts.
use Rattle.std.proofs.Common.{◌≡◌, ◌≢◌, ℕ, Bool, true, false, ◌||◌, nat_eq, List, [], ◌∷◌, Option, Some, None, refl, sym, ap, ◌∙◌, arith, inl}
use Rattle.std.specs.Prelude.{ℤ, ◌≤ℤ◌}
use Rattle.std.specs.List.{Contains}
use Rattle.std.proofs.lemmas.Int.{ints, clamps}
use Rattle.std.proofs.lemmas.List.Elements.{All-from_recursion, All-contains}
use Rattle.stn_model.specs.declared.ids.Constraint.{Constraint}
use Rattle.stn_model.specs.Net.{Net}
use Rattle.stn_model.specs.Kinds.{is_owned_by, is_private_of}
use Rattle.stn_model.specs.Conflicts.{own_arcs}
use Rattle.stn_model.specs.ArcWalks.{GoesOn, IsInner, IsInnerLeast, arcs_weight}
use Rattle.stn_model.specs.Summaries.{Entry, IsSeenPair, IsEntryWeight, IsSummary, entry_weight}
use Rattle.stn_walk.specs.Joins.{HasPath}
use Rattle.meeting_arcs.specs.Meeting.{is_hidden}
use Rattle.stn_walk.proofs.PrivateArcs.{own_passes, own_ends}
use Rattle.meeting_arcs.proofs.HiddenPoints.{seen_of}

-- the points of a walk between its ends are a path
inner_path : (passes : ℕ → Bool) (arcs : List Constraint) (i j : ℕ) (w : List Constraint) → IsInner passes arcs i j w → HasPath passes arcs i j
inner_path passes arcs i j [] h = absurd h
inner_path passes arcs i j (a ∷ []) h = ([], (a, h.0, inl (h.1, h.2)), tt)
inner_path passes arcs i j (a ∷ b ∷ w) h =
    let rest = inner_path passes arcs a.to.0 j (b ∷ w) (h.2.1, h.2.2, h.2.3) in
    (a.to.0 ∷ rest.0, ((a, h.0, inl (h.1, refl)), rest.1), (h.2.0, rest.2))

module _ (net : Net) (agent : ℕ) where
  -- z, or a point of the agent
  abbrev is_end : ℕ → Bool
  is_end p = nat_eq p 0 || is_owned_by net agent p

  -- a walk of own arcs ends at one
  goes_end : (passes : ℕ → Bool) (m j : ℕ) (w : List Constraint) → is_end m ≡ true → GoesOn passes (own_arcs net agent) m j w → is_end j ≡ true
  goes_end passes m j [] here h = ap is_end (sym h) ∙ here
  goes_end passes m j (a ∷ w) here h = goes_end passes a.to.0 j w (own_ends net agent a (own_passes net agent a h.1)).1 h.3

  -- and begins at one
  inner_ends : (passes : ℕ → Bool) (i j : ℕ) (w : List Constraint) → IsInner passes (own_arcs net agent) i j w → (is_end i ≡ true) × (is_end j ≡ true)
  inner_ends passes i j [] h = absurd h
  inner_ends passes i j (a ∷ w) h =
      let ends = own_ends net agent a (own_passes net agent a h.0) in
      (ap is_end (sym h.1) ∙ ends.0, goes_end passes a.to.0 j w ends.1 h.2)

  -- the ends of the walk are a seen pair
  pub seen_pair : (i j : ℕ) (w : List Constraint) → is_hidden net i ≡ false → is_hidden net j ≡ false → i ≢ j
      → IsInner (is_private_of net agent) (own_arcs net agent) i j w → IsSeenPair net agent i j
  seen_pair i j w start end apart h =
      let ends = inner_ends (is_private_of net agent) i j w h in
      let path = inner_path (is_private_of net agent) (own_arcs net agent) i j w h in
      record {
        different = apart;
        from = seen_of net agent i ends.0 start;
        to = seen_of net agent j ends.1 end;
        inner = path.0;
        path = path.1;
        privately = path.2;
      }

  -- the weight of an entry is at most the least weight
  entry_light : (horizon x : ℤ) (o : Option ℤ) (i j : ℕ) (w : List Constraint) → IsInnerLeast (is_private_of net agent) (own_arcs net agent) i j o
      → x ≡ entry_weight horizon o → IsInner (is_private_of net agent) (own_arcs net agent) i j w → x ≤ℤ arcs_weight w
  entry_light horizon x None i j w least is h = absurd (least w h)
  entry_light horizon x (Some b) i j w least is h =
      let low = least.1 w h in
      omega (arith, ints, clamps)

  -- the entry of the pair
  pub own_walk_contracts : (entries : List Entry) → IsSummary net agent entries → (i j : ℕ) (w : List Constraint)
      → is_hidden net i ≡ false → is_hidden net j ≡ false → i ≢ j → IsInner (is_private_of net agent) (own_arcs net agent) i j w
      → (x : ℤ) × Contains entries (record { from = i; to = j; weight = x }) × (x ≤ℤ arcs_weight w)
  own_walk_contracts entries s i j w start end apart h =
      let found = s.whole i j (seen_pair i j w start end apart h) in
      let e : Entry = record { from = i; to = j; weight = found.0 } in
      let holds : Entry → Type 0 = λ f. IsSeenPair net agent f.from f.to × IsEntryWeight net agent f.from f.to f.weight in
      let is = (All-contains holds entries e (All-from_recursion holds entries s.weights) found.1).1 in
      (found.0, found.1, entry_light net.horizon found.0 is.0 i j w is.1.least is.2 h)
