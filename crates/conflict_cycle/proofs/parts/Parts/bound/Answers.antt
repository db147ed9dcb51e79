use Rattle.std.proofs.Common.{◌≡◌, ◌∙◌, sym, true, false, refl}
use Rattle.std.specs.Prelude.{is_some}
use Rattle.conflict_cycle.proofs.PartBounds.{held_by, final_by, bound_told, private_told, joined_told, least_told, unjoined_told}
use Rattle.conflict_cycle.proofs.parts.Parts.bound.Goals as goal

pub returns-then-is_some-clause-joined : goal.returns-then-is_some-clause-joined
returns-then-is_some-clause-joined c net belongs =
    let self = c.args.self.now in
    let there = sym c.is_some.ensures ∙ c.if-is_some.true in
    let held = held_by self c.shared-shared.result.now c.shared-shared.ensures.shared c.interface-face.ensures.together in
    let i = c.args.i.0 in
    let j = c.args.j.0 in
    let is = final_by self c.shared-shared.result.now c.shared-shared.ensures.shared i j c.final_bound-seen.result c.final_bound-seen.ensures.value in (
      λ yes. joined_told self c.shared-shared.ensures.known held net belongs i j c.final_bound-seen.result is there,
      λ joined. there,
    )

pub returns-then-is_some-clause-least : goal.returns-then-is_some-clause-least
returns-then-is_some-clause-least c net belongs =
    let self = c.args.self.now in
    let held = held_by self c.shared-shared.result.now c.shared-shared.ensures.shared c.interface-face.ensures.together in
    let i = c.args.i.0 in
    let j = c.args.j.0 in
    let is = final_by self c.shared-shared.result.now c.shared-shared.ensures.shared i j c.final_bound-seen.result c.final_bound-seen.ensures.value in
    least_told self c.shared-shared.ensures.known held net belongs i j c.final_bound-seen.result is

pub returns-clause-joined : goal.returns-clause-joined
returns-clause-joined c net belongs =
    let self = c.args.self.now in
    let known = c.shared-shared.ensures.known in
    let none : is_some c.final_bound-seen.result ≡ false = sym c.is_some.ensures ∙ c.if-is_some.false in
    let held = held_by self c.shared-shared.result.now c.shared-shared.ensures.shared c.interface-face.ensures.together in
    let i = c.args.i.0 in
    let j = c.args.j.0 in
    let is = final_by self c.shared-shared.result.now c.shared-shared.ensures.shared i j c.final_bound-seen.result c.final_bound-seen.ensures.value in
    let private = c.private_bound.result in (
      λ there. (bound_told self known held net belongs i j private there c.private_bound.ensures.some).0,
      λ joined. elim (is_some private) as (λ b. is_some private ≡ b → b ≡ true) [
        | true ↦ λ h. refl
        | false ↦ λ h. (let seen = unjoined_told self known held net belongs i j private c.final_bound-seen.result h is
            c.private_bound.ensures.none joined in sym none ∙ seen)
      ] refl,
    )

pub returns-clause-least : goal.returns-clause-least
returns-clause-least c net belongs =
    let self = c.args.self.now in
    let held = held_by self c.shared-shared.result.now c.shared-shared.ensures.shared c.interface-face.ensures.together in
    private_told self c.shared-shared.ensures.known held net belongs c.args.i.0 c.args.j.0 c.private_bound.result c.private_bound.ensures.some
