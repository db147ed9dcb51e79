-- What comes before what in the joined order, in which the private points stand first, then the shared ones as they were eliminated, then z:
-- all_private, laid, before-private, before-shared, in_private, from_private, private_is, laid_private, laid_hidden, part_at,
-- private_laid.
use Rattle.std.proofs.Common.{zero, suc, ◌≡◌, ℕ, ◌<◌, List, [], ◌∷◌, ◌++◌, true, false, ◌||◌, Some, length}
use Rattle.std.proofs.Common.{get_or, append_assoc, ap, sym, ◌∙◌, refl, arith, subst, inl, inr, ◌⊎◌}
use Rattle.std.specs.Prelude.{◌↔◌, slice_get, Contains}
use Rattle.std.proofs.lemmas.Bool.{or_cases, false≢true}
use Rattle.std.proofs.lemmas.Option.{slice_get-get_or, get_or_from_slice_get}
use Rattle.stn_model.specs.Joined.{joined_order, ComesBefore}
use Rattle.stn_model.specs.Kinds.{is_private_of}
use Rattle.stn_model.specs.Net.{Net}
use Rattle.stn_walk.specs.Eliminations.{is_in}
use Rattle.stn_walk.proofs.Joins.{is_in-reverse}
use Rattle.stn_walk.proofs.Members.{is_in-behind}
use Rattle.elim_step.proofs.Parts.{is_in-append}
use Rattle.meeting_arcs.specs.Meeting.{is_hidden}
use Rattle.meeting_arcs.proofs.HiddenPoints.{private_hidden}
use Rattle.private_elim.specs.Locals.{LocalView, local_of, is_private_in}
use Rattle.private_elim.specs.ReducedViews.{ReducedView}
use Rattle.private_elim.proofs.locals.LocalFacts.{private_of_net}
use Rattle.private_elim.proofs.taking.TakenFacts.{in_all}
use Rattle.conflict_cycle.specs.Belongs.{AreReducedOf}
use Rattle.conflict_cycle.specs.PartOrders.{AreReduced}
use Rattle.conflict_cycle.proofs.PartLists.{orders}
use Rattle.conflict_cycle.proofs.LaidParts.{laid_place, place_at_most, place_front, place_within, place_behind, place_lacking}

-- before a shared point or z come the same points with z at the end and without
module _ (shared : List ℕ) (i : ℕ) (there : (is_in shared i ≡ true) ⊎ (i ≡ 0)) where
  place-end : laid_place (shared ++ 0 ∷ []) i ≡ laid_place shared i
  place-end =
      elim (is_in shared i) as (λ b. is_in shared i ≡ b → laid_place (shared ++ 0 ∷ []) i ≡ laid_place shared i) [
        | true ↦ λ t. place_front shared (0 ∷ []) i t
        | false ↦ λ t.
            let z : i ≡ 0 = elim there [ inl here ↦ absurd (false≢true (sym t ∙ here)) | inr z ↦ z ] in
            let first : laid_place (0 ∷ []) i ≡ 0 = ap (laid_place (0 ∷ [])) z in
            let skips = place_behind shared (0 ∷ []) i t in
            let lacks = place_lacking shared i t in
            omega arith
      ] refl

  before-end : (p : ℕ) → ComesBefore (shared ++ 0 ∷ []) p i ↔ ComesBefore shared p i
  before-end p =
      elim (is_in shared p) as (λ b. is_in shared p ≡ b → ComesBefore (shared ++ 0 ∷ []) p i ↔ ComesBefore shared p i) [
        | true ↦ λ t.
            let same = place_front shared (0 ∷ []) p t in
            let end = place-end in
            (λ h. omega arith, λ h. omega arith)
        | false ↦ λ t.
            let skips = place_behind shared (0 ∷ []) p t in
            let lacks = place_lacking shared p t in
            let end = place-end in
            let low = place_at_most shared i in
            (λ h. absurd (omega arith), λ h. absurd (omega arith))
      ] refl

-- the private points of all agents, in turn
abbrev pub all_private : List (List ℕ) → List ℕ
all_private [] = []
all_private (ps ∷ privates) = ps ++ all_private privates

pub laid : (privates : List (List ℕ)) (shared : List ℕ) → joined_order privates shared ≡ all_private privates ++ (shared ++ 0 ∷ [])
laid [] shared = refl
laid (ps ∷ privates) shared = ap (λ xs. ps ++ xs) (laid privates shared) ∙ sym (append_assoc ps (all_private privates) (shared ++ 0 ∷ []))

-- what comes before a shared point or z: each private point, and of the others those that come before it as they were eliminated
module _ (privates : List (List ℕ)) (shared : List ℕ) (i : ℕ) (away : is_in (all_private privates) i ≡ false) (there : (is_in shared i ≡ true) ⊎ (i ≡ 0)) where
  pub before-private : (p : ℕ) → is_in (all_private privates) p ≡ true → ComesBefore (joined_order privates shared) p i
  before-private p h =
      let rest = shared ++ 0 ∷ [] in
      let stays = place_front (all_private privates) rest p h in
      let low = place_within (all_private privates) p h in
      let skips = place_behind (all_private privates) rest i away in
      subst (λ order. ComesBefore order p i) (sym (laid privates shared)) (omega arith)

  pub before-shared : (p : ℕ) → is_in (all_private privates) p ≡ false → ComesBefore (joined_order privates shared) p i ↔ ComesBefore shared p i
  before-shared p h =
      let rest = shared ++ 0 ∷ [] in
      let here = place_behind (all_private privates) rest p h in
      let skips = place_behind (all_private privates) rest i away in
      let end = before-end shared i there p in (
        λ g. end.0 (let laid_so = subst (λ order. ComesBefore order p i) (laid privates shared) g in omega arith),
        λ g. subst (λ order. ComesBefore order p i) (sym (laid privates shared)) (let low = end.1 g in omega arith),
      )

-- the orders of reduced parts, in turn
pub in_private : (rs : List ReducedView) (r : ReducedView) (p : ℕ) → Contains rs r → is_in r.order p ≡ true → is_in (all_private (orders rs)) p ≡ true
in_private [] r p h here = absurd (let low : h.0 < 0 = h.1 in omega arith)
in_private (x ∷ rs) r p (zero, lt, is) here =
    is_in-append x.order (all_private (orders rs)) p ∙ ap (λ b. b || is_in (all_private (orders rs)) p) (ap (λ (y : ReducedView). is_in y.order p) is ∙ here)
in_private (x ∷ rs) r p (suc k, lt, is) here =
    is_in-behind x.order (all_private (orders rs)) p (in_private rs r p (k, omega arith, is) here)

pub from_private : (rs : List ReducedView) (p : ℕ) → is_in (all_private (orders rs)) p ≡ true
    → (r : ReducedView) × Contains rs r × (is_in r.order p ≡ true)
from_private [] p h = absurd (false≢true h)
from_private (x ∷ rs) p h =
    elim (or_cases (is_in x.order p) (is_in (all_private (orders rs)) p) (sym (is_in-append x.order (all_private (orders rs)) p) ∙ h)) [
      | inl here ↦ (x, (0, omega arith, refl), here)
      | inr later ↦
          (let rest = from_private rs p later in
          let there = rest.1 in
          (rest.0, (suc there.0, omega (arith, there.1), there.2), rest.2))
    ]

-- an item of a list is read at its place
item_read : (rs : List ReducedView) (r : ReducedView) (h : Contains rs r) → slice_get rs h.0 ≡ Some r
item_read rs r h = slice_get-get_or rs h.0 r h.1 ∙ ap (λ (x : ReducedView). Some x) h.2

-- the orders of the agents' reduced parts have exactly the private points
module _ (net : Net) (reduced : List ReducedView) (parts : AreReducedOf net reduced) (each : AreReduced reduced) where
  pub private_is : (a : ℕ) (r : ReducedView) → slice_get reduced a ≡ Some r → (p : ℕ) → is_private_in r.local p ≡ is_private_of net a p
  private_is a r there p =
      let local = parts.each a r there in
      let agent : r.local.agent ≡ a = ap (λ (v : LocalView). v.agent) local in
      private_of_net r.local net (local ∙ ap (local_of net) (sym agent)) p ∙ ap (λ b. is_private_of net b p) agent

  pub laid_private : (p : ℕ) → is_in (all_private (orders reduced)) p ≡ true → (a : ℕ) × (is_private_of net a p ≡ true)
  laid_private p h =
      let found = from_private reduced p h in
      let r = found.0 in
      let there = found.1 in
      let read = item_read reduced r there in
      let private = in_all (λ q. is_private_in r.local q ≡ true) r.order p (each there.0 r read).private found.2 in
      (there.0, sym (private_is there.0 r read p) ∙ private)

  pub laid_hidden : (p : ℕ) → is_in (all_private (orders reduced)) p ≡ true → is_hidden net p ≡ true
  laid_hidden p h = (let own = laid_private p h in private_hidden net own.0 p own.1)

  pub part_at : (a : ℕ) → a < length net.agents → (r : ReducedView) × Contains reduced r × (slice_get reduced a ≡ Some r)
  part_at a low =
      let d : ReducedView = record { local = local_of net a; order = []; summary = [] } in
      let r = get_or reduced a d in
      let many = parts.one_each in
      let lt : a < length reduced = omega arith in
      let read : slice_get reduced a ≡ Some r = slice_get-get_or reduced a d lt in
      (r, (a, lt, get_or_from_slice_get reduced a r r read), read)

  pub private_laid : (a p : ℕ) → a < length net.agents → is_private_of net a p ≡ true → is_in (all_private (orders reduced)) p ≡ true
  private_laid a p low private =
      let part = part_at a low in
      let r = part.0 in
      let whole = (each a r part.2).whole p (private_is a r part.2 p ∙ private) in
      in_private reduced r p part.1 (sym (is_in-reverse r.order p) ∙ whole)
