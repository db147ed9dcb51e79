-- What hidden points are, all but z and the shared ones: private_hidden, hidden_parts, owned_hidden, seen_of.
use Rattle.std.proofs.Common.{◌≡◌, ◌≢◌, ℕ, Bool, true, false, ◌&&◌, ◌||◌, not, nat_eq, refl, sym, arith}
use Rattle.std.proofs.lemmas.Bool.{false≢true}
use Rattle.std.proofs.lemmas.Bool.Decides.{nat_tests}
use Rattle.stn_model.specs.Net.{Net}
use Rattle.stn_model.specs.Kinds.{is_shared, is_owned_by, is_private_of}
use Rattle.stn_model.specs.Summaries.{is_seen}
use Rattle.stn_walk.proofs.PrivateArcs.{private_owned}
use Rattle.meeting_arcs.specs.Meeting.{is_hidden}

-- a private point is hidden
pub private_hidden : (net : Net) (agent p : ℕ) → is_private_of net agent p ≡ true → is_hidden net p ≡ true
private_hidden net agent p h = let parts = private_owned net agent p h in (λ k. not (parts.1 k || parts.2 k))

-- a hidden point is not z, and not shared
pub hidden_parts : (net : Net) (p : ℕ) → is_hidden net p ≡ true → (p ≢ 0) × (is_shared net p ≡ false)
hidden_parts net p h = parts (nat_eq p 0) (is_shared net p) refl refl h where
  parts : (b s : Bool) → nat_eq p 0 ≡ b → is_shared net p ≡ s → not (b || s) ≡ true → (p ≢ 0) × (is_shared net p ≡ false)
  parts true s e f g = absurd (false≢true g)
  parts false true e f g = absurd (false≢true g)
  parts false false e f g = (grind (arith, nat_tests), f)

-- so it is a private point of its owner
pub owned_hidden : (net : Net) (agent p : ℕ) → is_owned_by net agent p ≡ true → is_hidden net p ≡ true → is_private_of net agent p ≡ true
owned_hidden net agent p own h = let parts = hidden_parts net p h in (λ k. own k && not (parts.1 k))

-- a point of an agent that is not hidden is seen, and so is z
pub seen_of : (net : Net) (agent p : ℕ) → (nat_eq p 0 || is_owned_by net agent p) ≡ true → is_hidden net p ≡ false → is_seen net agent p ≡ true
seen_of net agent p own h = parts (nat_eq p 0) (is_owned_by net agent p) (is_shared net p) own h where
  parts : (b o s : Bool) → (b || o) ≡ true → not (b || s) ≡ false → (b || o && s) ≡ true
  parts true o s e f = refl
  parts false true true e f = refl
  parts false true false e f = absurd (false≢true (sym f))
  parts false false s e f = absurd (false≢true e)
