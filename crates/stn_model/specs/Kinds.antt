-- Which arcs are external, which points are shared, and which arcs are an agent's own (Boerkoel and Durfee 2013): same_owner, is_external,
-- names_point, is_shared, kind_of, is_owned_by, is_own, is_private_of.
use Rattle.std.specs.Prelude.{ℕ, Bool, ◌&&◌, ◌||◌, not, nat_eq, Some, if◌then◌else◌}
use Rattle.std.specs.List.{list_any}
use Rattle.std.specs.Option.{option_eq}
use Rattle.stn_model.specs.declared.ids.Constraint.{Constraint}
use Rattle.stn_model.specs.declared.ids.Kind.{Kind}
use Rattle.stn_model.specs.declared.ids.Kind.TheVariants.{Reference, Private, Shared}
use Rattle.stn_model.specs.Net.{Net, owner_of, arcs_of}

-- two points have the same owner, or neither has one
abbrev pub same_owner : Net → ℕ → ℕ → Bool
same_owner net p q = option_eq nat_eq (owner_of net p) (owner_of net q)

-- the ends have different owners and neither is z
abbrev pub is_external : Net → Constraint → Bool
is_external net a = not (nat_eq a.from.0 0) && not (nat_eq a.to.0 0) && not (same_owner net a.from.0 a.to.0)

-- the arc begins or ends at p
abbrev pub names_point : ℕ → Constraint → Bool
names_point p a = nat_eq a.from.0 p || nat_eq a.to.0 p

-- an external arc names the point
abbrev pub is_shared : Net → ℕ → Bool
is_shared net p = list_any (λ a. is_external net a && names_point p a) (arcs_of net)

-- what others know of the point
abbrev pub kind_of : Net → ℕ → Kind
kind_of net p = if nat_eq p 0 then Reference else (if is_shared net p then Shared else Private)

-- the point has this owner
abbrev pub is_owned_by : Net → ℕ → ℕ → Bool
is_owned_by net agent p = option_eq nat_eq (owner_of net p) (Some agent)

-- the arc is own to the agent: its ends other than z, of which there is one, are all the agent's
abbrev pub is_own : Net → ℕ → Constraint → Bool
is_own net agent a =
    (nat_eq a.from.0 0 || is_owned_by net agent a.from.0) && (nat_eq a.to.0 0 || is_owned_by net agent a.to.0)
    && not (nat_eq a.from.0 0 && nat_eq a.to.0 0)

-- a private point of the agent
abbrev pub is_private_of : Net → ℕ → ℕ → Bool
is_private_of net agent p = is_owned_by net agent p && not (is_shared net p)
