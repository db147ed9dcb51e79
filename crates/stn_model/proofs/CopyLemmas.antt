-- A cloned map is seen as its source.
use Rattle.std.proofs.Common.{◌≡◌, ℕ, ◌∷◌, [], List, map, Vec, Global, vec_len, ℤ, refl, ap, ◌∙◌}
use Rattle.std.specs.List.{AllZip}
use Rattle.std.proofs.lemmas.List.Elements.{same_from_all_zip}
use Rattle.stn_model.specs.declared.ids.Lean.{Lean}
use Rattle.stn_model.specs.declared.ids.AgentId.{AgentId}
use Rattle.stn_model.specs.declared.ids.Constraint.{Constraint}
use Rattle.stn_model.specs.declared.ids.Act.{Act}
use Rattle.stn_model.specs.declared.network.Network.TheInside.{Inside}
use Rattle.stn_model.specs.Views.{view_of}
use Rattle.stn_model.specs.Net.{Net, Agent, Place}

-- the entry q is a clone of p
abbrev pub EntryClone : {V : Type 0} → Vec ℕ Global × V → Vec ℕ Global × V → Type 0
EntryClone p q = (AllZip (λ (x y : ℕ). y ≡ x) p.0.items q.0.items × (vec_len q.0 ≡ vec_len p.0)) × (q.1 ≡ p.1)

pub map_clone : {V X : Type 0} (f : List ℕ → V → X) (es fs : List (Vec ℕ Global × V)) → AllZip EntryClone es fs → map (λ e. f e.0.items e.1) fs ≡ map (λ e. f e.0.items e.1) es
map_clone f [] [] h = refl
map_clone f [] (y ∷ ys) h = absurd h
map_clone f (x ∷ xs) [] h = absurd h
map_clone f (x ∷ xs) (y ∷ ys) h =
    let names = same_from_all_zip (λ (a b : ℕ). b ≡ a) x.0.items y.0.items h.0.0.0 (λ a b e. e) in
    ap (λ n. f n y.1 ∷ map (λ e. f e.0.items e.1) ys) names ∙ ap (λ v. f x.0.items v ∷ map (λ e. f e.0.items e.1) ys) h.0.1
    ∙ ap (λ l. f x.0.items x.1 ∷ l) (map_clone f xs ys h.1)

pub same_net : (h h' : ℤ) (a a' : List Agent) (p p' : List Place) (k k' : List Act) (g g' : List Constraint) → h' ≡ h → a' ≡ a → p' ≡ p → k' ≡ k → g' ≡ g
    → ◌≡◌ {A = Net} (record { horizon = h'; agents = a'; places = p'; acts = k'; given = g' }) (record { horizon = h; agents = a; places = p; acts = k; given = g })
same_net h h' a a' p p' k k' g g' eh ea ep ek eg =
    ap (λ x. record { horizon = x; agents = a'; places = p'; acts = k'; given = g' }) eh
    ∙ ap (λ x. record { horizon = h; agents = x; places = p'; acts = k'; given = g' }) ea
    ∙ ap (λ x. record { horizon = h; agents = a; places = x; acts = k'; given = g' }) ep
    ∙ ap (λ x. record { horizon = h; agents = a; places = p; acts = x; given = g' }) ek
    ∙ ap (λ x. record { horizon = h; agents = a; places = p; acts = k; given = x }) eg

pub agents_clone : (es fs : List (Vec ℕ Global × Lean)) → AllZip EntryClone es fs
    → ◌≡◌ {A = List Agent} (map (λ e. record { name = e.0.items; lean = e.1 }) fs) (map (λ e. record { name = e.0.items; lean = e.1 }) es)
agents_clone es fs h = map_clone {X = Agent} (λ n l. record { name = n; lean = l }) es fs h

pub places_clone : (es fs : List (Vec ℕ Global × AgentId)) → AllZip EntryClone es fs
    → ◌≡◌ {A = List Place} (map (λ e. record { name = e.0.items; owner = e.1.0 }) fs) (map (λ e. record { name = e.0.items; owner = e.1.0 }) es)
places_clone es fs h = map_clone {X = Place} (λ n a. record { name = n; owner = a.0 }) es fs h

-- fields that are copies are seen as the same network
pub same_view : (n m : Inside) → m.horizon ≡ n.horizon → AllZip EntryClone n.agents.entries m.agents.entries → AllZip EntryClone n.places.entries m.places.entries
    → m.acts.items ≡ n.acts.items → m.given.items ≡ n.given.items → view_of m ≡ view_of n
same_view n m horizon agents places acts given =
    same_net n.horizon m.horizon _ _ _ _ _ _ _ _ horizon
    (agents_clone n.agents.entries m.agents.entries agents) (places_clone n.places.entries m.places.entries places) acts given
