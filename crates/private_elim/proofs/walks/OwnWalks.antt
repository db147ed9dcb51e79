-- Walks of a network that touch only private points of an agent between their ends, and begin or end at one, are walks of its own arcs.
--   from_private, to_private              each arc of such a walk is own
--   least_from_private, least_to_private  so their least weights over own arcs are those over all arcs
use Rattle.std.proofs.Common.{◌≡◌, ℕ, Bool, true, List, [], ◌∷◌, Option, Some, None, sym, ap, subst, ◌∙◌}
use Rattle.std.specs.Prelude.{ℤ}
use Rattle.std.specs.List.{Contains}
use Rattle.stn_model.specs.declared.ids.Constraint.{Constraint}
use Rattle.stn_model.specs.Net.{Net, arcs_of}
use Rattle.stn_model.specs.Kinds.{is_own}
use Rattle.stn_model.specs.ArcWalks.{GoesOn, IsInner, IsInnerLeast}
use Rattle.stn_walk.proofs.PrivateArcs.{own_contained, own_listed, own_from_private, own_to_private}
use Rattle.private_elim.specs.Locals.{LocalView, arcs_in, is_private_in}
use Rattle.private_elim.specs.Parts.{HasPart}
use Rattle.private_elim.proofs.locals.PartNetworks.{private_of_part}

-- a walk over a list is one over each list that has its arcs
inner_more : (inner : ℕ → Bool) (arcs more : List Constraint) (i j : ℕ) (w : List Constraint) → ((a : Constraint) → Contains arcs a → Contains more a)
    → IsInner inner arcs i j w → IsInner inner more i j w
inner_more inner arcs more i j [] up h = absurd h
inner_more inner arcs more i j (a ∷ w) up h = (up a h.0, h.1, goes a.to.0 w h.2) where
  goes : (m : ℕ) (w : List Constraint) → GoesOn inner arcs m j w → GoesOn inner more m j w
  goes m [] g = g
  goes m (b ∷ w) g = (g.0, up b g.1, g.2, goes b.to.0 w g.3)

module _ (v : LocalView) (net : Net) (part : HasPart net v) where
  -- the own arcs are arcs of the network
  pub own_contained_in : (a : Constraint) → Contains (arcs_in v) a → Contains (arcs_of net) a
  own_contained_in a here = own_contained net v.agent a (subst (λ xs. Contains xs a) part.arcs here)

  -- and an arc of the network that is own is one of them
  contained_own : (a : Constraint) → Contains (arcs_of net) a → is_own net v.agent a ≡ true → Contains (arcs_in v) a
  contained_own a here own = subst (λ xs. Contains xs a) (sym part.arcs) (own_listed net v.agent a here own)

  own_from : (a : Constraint) → Contains (arcs_of net) a → is_private_in v a.from.0 ≡ true → Contains (arcs_in v) a
  own_from a here h = contained_own a here (own_from_private net v.agent a here (sym (private_of_part v net part a.from.0) ∙ h))

  own_to : (a : Constraint) → Contains (arcs_of net) a → is_private_in v a.to.0 ≡ true → Contains (arcs_in v) a
  own_to a here h = contained_own a here (own_to_private net v.agent a here (sym (private_of_part v net part a.to.0) ∙ h))

  module _ (inner : ℕ → Bool) (private : (p : ℕ) → inner p ≡ true → is_private_in v p ≡ true) where
    -- a walk from a private point is one of own arcs
    goes_from : (m j : ℕ) (w : List Constraint) → GoesOn inner (arcs_of net) m j w → GoesOn inner (arcs_in v) m j w
    goes_from m j [] h = h
    goes_from m j (a ∷ w) h =
        (h.0, own_from a h.1 (ap (is_private_in v) h.2 ∙ private m h.0), h.2, goes_from a.to.0 j w h.3)

    pub from_private : (i j : ℕ) (w : List Constraint) → is_private_in v i ≡ true → IsInner inner (arcs_of net) i j w → IsInner inner (arcs_in v) i j w
    from_private i j [] start h = absurd h
    from_private i j (a ∷ w) start h = (own_from a h.0 (ap (is_private_in v) h.1 ∙ start), h.1, goes_from a.to.0 j w h.2)

    -- and so is one to a private point
    next_private : (m j : ℕ) (w : List Constraint) → is_private_in v j ≡ true → GoesOn inner (arcs_of net) m j w → is_private_in v m ≡ true
    next_private m j [] end h = ap (is_private_in v) h ∙ end
    next_private m j (a ∷ w) end h = private m h.0

    goes_to : (m j : ℕ) (w : List Constraint) → is_private_in v j ≡ true → GoesOn inner (arcs_of net) m j w → GoesOn inner (arcs_in v) m j w
    goes_to m j [] end h = h
    goes_to m j (a ∷ w) end h = (h.0, own_to a h.1 (next_private a.to.0 j w end h.3), h.2, goes_to a.to.0 j w end h.3)

    pub to_private : (i j : ℕ) (w : List Constraint) → is_private_in v j ≡ true → IsInner inner (arcs_of net) i j w → IsInner inner (arcs_in v) i j w
    to_private i j [] end h = absurd h
    to_private i j (a ∷ w) end h = (own_to a h.0 (next_private a.to.0 j w end h.2), h.1, goes_to a.to.0 j w end h.2)

    -- least weights over own arcs are those over all arcs
    least_over : (i j : ℕ) (o : Option ℤ) → ((w : List Constraint) → IsInner inner (arcs_of net) i j w → IsInner inner (arcs_in v) i j w)
        → IsInnerLeast inner (arcs_in v) i j o → IsInnerLeast inner (arcs_of net) i j o
    least_over i j None own least = λ w h. least w (own w h)
    least_over i j (Some b) own least = (
      (least.0.0, inner_more inner (arcs_in v) (arcs_of net) i j least.0.0 own_contained_in least.0.1, least.0.2),
      λ w h. least.1 w (own w h),
    )

    pub least_from_private : (i j : ℕ) (o : Option ℤ) → is_private_in v i ≡ true → IsInnerLeast inner (arcs_in v) i j o
        → IsInnerLeast inner (arcs_of net) i j o
    least_from_private i j o start = least_over i j o (λ w. from_private i j w start)

    pub least_to_private : (i j : ℕ) (o : Option ℤ) → is_private_in v j ≡ true → IsInnerLeast inner (arcs_in v) i j o → IsInnerLeast inner (arcs_of net) i j o
    least_to_private i j o end = least_over i j o (λ w. to_private i j w end)
