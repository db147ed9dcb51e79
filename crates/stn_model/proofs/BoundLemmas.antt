-- Another bound at a given arc changes that arc alone, and no point's kind: bound_is_set, kinds_stay.
use Rattle.std.proofs.Common.{◌≡◌, ℕ, ◌+◌, ◌-◌, ◌<◌, ◌≤◌, ℤ, Bool, true, ◌&&◌, nat_eq, nat_le, nat_lt, IsTrue, length, set, refl, sym, ap, ◌∙◌, arith, if◌then◌else◌}
use Rattle.std.proofs.lemmas.List.{set-append_right}
use Rattle.std.specs.List.{list_any, All}
use Rattle.stn_model.specs.declared.ids.Constraint.{Constraint}
use Rattle.stn_model.specs.declared.ids.Kind.TheVariants.{Reference, Private, Shared}
use Rattle.stn_model.specs.Arcs.{arc_at}
use Rattle.stn_model.specs.Valid.{IsNetwork, IsActWithin}
use Rattle.stn_model.specs.Kinds.{is_external, names_point, is_shared, kind_of}
use Rattle.stn_model.specs.Net.{Net, fixed_arcs, fixed_count, arcs_of, is_given, with_bound}
use Rattle.stn_model.proofs.NetLemmas.{length-fixed_arcs}
use Rattle.stn_model.proofs.ArcLemmas.{arc_given, given_at}
use Rattle.stn_model.proofs.FlagLemmas.{is_shared-given, set_bound_any}

pub bound_is_set : (net : Net) (n : ℕ) (b : ℤ) → IsTrue (is_given net n) → arcs_of (with_bound net n b) ≡ set (arcs_of net) n (record (arc_at (arcs_of net) n) { bound = b })
bound_is_set net n b given =
    let low = (given_at (fixed_count net) n (length net.given) given).0 in
    let arc : Constraint = record (arc_at net.given (n - fixed_count net)) { bound = b } in
    sym (ap (λ (a : Constraint). set (arcs_of net) n (record a { bound = b })) (arc_given net n low)
    ∙ set-append_right (fixed_arcs net) net.given (fixed_count net) n arc (length-fixed_arcs net) low)

pub kinds_stay : (net : Net) (n : ℕ) (b : ℤ) → IsNetwork net → (p : ℕ) → kind_of (with_bound net n b) p ≡ kind_of net p
kinds_stay net n b valid p =
    let test : Constraint → Bool = λ a. is_external net a && names_point p a in
    let same : is_shared (with_bound net n b) p ≡ is_shared net p =
    is_shared-given (with_bound net n b) p valid.acts ∙ set_bound_any test (λ a c. refl) net.given (n - fixed_count net) b ∙ sym (is_shared-given net p valid.acts) in
    ap (λ s. if nat_eq p 0 then Reference else (if s then Shared else Private)) same
