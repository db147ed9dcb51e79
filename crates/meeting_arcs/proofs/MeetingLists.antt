-- What the meeting arcs are: external arcs, horizon arcs and entries are among them, and nothing else is: meeting_is.
use Rattle.std.proofs.Common.{zero, suc, ◌≡◌, ◌≢◌, ℕ, ◌<◌, ◌≤◌, Bool, true, false, ◌||◌, nat_eq, List, [], ◌∷◌, ◌++◌, map, length, get_or}
use Rattle.std.proofs.Common.{if◌then◌else◌, refl, sym, ap, subst, ◌∙◌, arith, inl, inr}
use Rattle.std.specs.List.{Contains}
use Rattle.std.proofs.Math.Bool.{or-true}
use Rattle.std.proofs.lemmas.List.{length-map, get_or-map}
use Rattle.std.proofs.lemmas.List.Elements.{Contains-append_left, Contains-append_right, Contains-append_cases, All-filter, All-contains, All-contains_itself}
use Rattle.stn_model.specs.declared.ids.Constraint.{Constraint}
use Rattle.stn_model.specs.Net.{Net, arcs_of, horizon_pair, point_count}
use Rattle.stn_model.specs.Kinds.{is_external, is_shared}
use Rattle.stn_model.specs.Conflicts.{external_arcs}
use Rattle.stn_model.specs.Summaries.{Entry}
use Rattle.meeting_arcs.specs.Meeting.{meets, entry_arc, entry_arcs, shared_pairs, meeting_arcs, IsSeenArc, IsEntryOf, HasOnlyMeeting, IsMeeting}
use Rattle.stn_model.proofs.ArcKinds.{passes_of}
use Rattle.stn_walk.proofs.PrivateArcs.{from_shared, to_shared}
use Rattle.meeting_arcs.proofs.EntryWalks.{upper_listed, lower_listed}

-- what an image has
pub contains_map : {X Y : Type 0} (f : X → Y) (xs : List X) (x : X) → Contains xs x → Contains (map f xs) (f x)
contains_map f xs x h = (h.0, omega (arith, h.1, length-map xs f), get_or-map f xs h.0 x (f x) h.1 ∙ ap f h.2)

-- and what it comes from
pub map_contains : {X Y : Type 0} (f : X → Y) (xs : List X) (y : Y) → Contains (map f xs) y → (x : X) × Contains xs x × (y ≡ f x)
map_contains f [] y h = absurd (let low : h.0 < 0 = h.1 in omega arith)
map_contains f (x ∷ xs) y (zero, lt, is) = (x, (0, omega arith, refl), sym is)
map_contains f (x ∷ xs) y (suc k, lt, is) =
    let rest = map_contains f xs y (k, omega arith, is) in
    let there = rest.1 in
    (rest.0, (suc there.0, omega (arith, there.1), there.2), rest.2)

-- an entry of an agent is among the entries of all
entry_in : (summaries : List (List Entry)) (agent : ℕ) (e : Entry) → agent < length summaries → Contains (get_or summaries agent []) e
    → Contains (entry_arcs summaries) (entry_arc e)
entry_in [] agent e lt h = absurd (omega arith)
entry_in (es ∷ summaries) zero e lt h = Contains-append_left (map entry_arc es) (entry_arcs summaries) (entry_arc e) (contains_map entry_arc es e h)
entry_in (es ∷ summaries) (suc agent) e lt h =
    Contains-append_right (map entry_arc es) (entry_arcs summaries) (entry_arc e) (entry_in summaries agent e (omega arith) h)

-- and each of these is an agent's
in_entries : (summaries : List (List Entry)) (a : Constraint) → Contains (entry_arcs summaries) a → IsEntryOf summaries a
in_entries [] a h = absurd (let low : h.0 < 0 = h.1 in omega arith)
in_entries (es ∷ summaries) a h =
    elim (Contains-append_cases (map entry_arc es) (entry_arcs summaries) a h) [
      | inl here ↦ (let m = map_contains entry_arc es a here in record { agent = 0; known = omega arith; entry = m.0; listed = m.1; is = m.2 })
      | inr later ↦ (let r = in_entries summaries a later in let lt = r.known in
          record { agent = suc r.agent; known = omega arith; entry = r.entry; listed = r.listed; is = r.is })
    ]

-- the horizon arcs of shared points are arcs of the network between z and these points
meets_shared : (net : Net) (p : ℕ) → is_shared net p ≡ true → meets net p ≡ true
meets_shared net p h = ap (λ b. nat_eq p 0 || b) h ∙ or-true (nat_eq p 0)

in_pair : (net : Net) (p : ℕ) (a : Constraint) → p ≢ 0 → p < point_count net → is_shared net p ≡ true → Contains (horizon_pair net.horizon p) a
    → IsSeenArc net a
in_pair net p a other lt shared (zero, low, is) =
    subst (IsSeenArc net) is (record { listed = upper_listed net p other lt; starts = refl; ends = meets_shared net p shared })
in_pair net p a other lt shared (suc zero, low, is) =
    subst (IsSeenArc net) is (record { listed = lower_listed net p other lt; starts = meets_shared net p shared; ends = refl })
in_pair net p a other lt shared (suc (suc k), low, is) = absurd (omega arith)

in_pair_if : (b : Bool) (net : Net) (p : ℕ) (a : Constraint) → is_shared net p ≡ b → p ≢ 0 → p < point_count net
    → Contains (if b then horizon_pair net.horizon p else []) a → IsSeenArc net a
in_pair_if true net p a shared other lt h = in_pair net p a other lt shared h
in_pair_if false net p a shared other lt h = absurd (let low : h.0 < 0 = h.1 in omega arith)

in_pairs : (net : Net) (n : ℕ) (a : Constraint) → n ≤ length net.places → Contains (shared_pairs net n) a → IsSeenArc net a
in_pairs net zero a few h = absurd (let low : h.0 < 0 = h.1 in omega arith)
in_pairs net (suc n) a few h =
    elim (Contains-append_cases (shared_pairs net n) (if is_shared net (suc n) then horizon_pair net.horizon (suc n) else []) a h) [
      | inl before ↦ in_pairs net n a (omega arith) before
      | inr here ↦ in_pair_if (is_shared net (suc n)) net (suc n) a refl (λ (e : suc n ≡ 0). absurd (omega arith)) (omega arith) here
    ]

module _ (net : Net) (summaries : List (List Entry)) where
  -- a meeting arc is an arc of the network between z and shared points, or an entry
  meeting_cases : HasOnlyMeeting net summaries (meeting_arcs net summaries)
  meeting_cases a h =
      let externals = external_arcs net in
      let pairs = shared_pairs net (length net.places) in
      elim (Contains-append_cases (externals ++ pairs) (entry_arcs summaries) a h) [
        | inl first ↦ elim (Contains-append_cases externals pairs a first) [
          | inl external ↦
              (let here = All-contains (Contains (arcs_of net)) externals a
              (All-filter (is_external net) (Contains (arcs_of net)) (arcs_of net) (All-contains_itself (arcs_of net))) external in
              let test = passes_of (is_external net) (arcs_of net) a external in
              inl (record {
                listed = here;
                starts = meets_shared net a.from.0 (from_shared net a here test);
                ends =
                    meets_shared net a.to.0 (to_shared net a here test);
              }))
          | inr pair ↦ inl (in_pairs net (length net.places) a (omega arith) pair)
        ]
        | inr entry ↦ inr (in_entries summaries a entry)
      ]

  -- external arcs and entries are meeting arcs
  pub meeting_is : IsMeeting net summaries (meeting_arcs net summaries)
  meeting_is =
      let externals = external_arcs net in
      let pairs = shared_pairs net (length net.places) in
      record {
        only = meeting_cases;
        externals = λ a here. Contains-append_left (externals ++ pairs) (entry_arcs summaries) a (Contains-append_left externals pairs a here);
        entries = λ agent e lt h. Contains-append_right (externals ++ pairs) (entry_arcs summaries) (entry_arc e) (entry_in summaries agent e lt h);
      }
