-- What a claim comes to: picked_claim, claim_of_picked, picked_number, claim_of_read.
use Rattle.std.proofs.Common.{◌≡◌, ℕ, List, Some, None, Ok, Err, sym, ap, ◌∙◌, inr, get_or, subst}
use Rattle.std.specs.Prelude.{Result, IfOk}
use Rattle.std.proofs.lemmas.List.{get_or_default}
use Rattle.stn_model.specs.declared.ids.AgentId.{AgentId}
use Rattle.stn_model.specs.declared.ids.PointId.{PointId}
use Rattle.elim_step.specs.declared.pick.Candidate.{Candidate}
use Rattle.elim_step.specs.Picks.{Picks, candidate_at}
use Rattle.shared_graph.specs.Histories.{SharedView}
use Rattle.shared_graph.specs.States.{point_id}
use Rattle.claim_pass.specs.declared.answers.Claim.{Claim}
use Rattle.claim_pass.specs.declared.answers.Claim.TheVariants.{Eliminated, NoneLeft, NotTaken, Stopped}
use Rattle.claim_pass.specs.Lent.{candidates_in, IsTaken, IsPickedStep, IsClaim}

-- a step with the picked point is a claim
pub picked_claim : (answers : ℕ → ℕ → ℕ → Type 0) (agent : AgentId) (old new : SharedView) (c : Claim) → IsPickedStep answers agent old new c
    → IsClaim answers agent old new c
picked_claim answers agent old new (Eliminated p place) h = h
picked_claim answers agent old new NoneLeft h = absurd h.taken
picked_claim answers agent old new (NotTaken cause) h = h
picked_claim answers agent old new (Stopped c) h = inr h

-- and so what a try with the picked point answers
pub claim_of_picked : {E : Type 0} (answers : ℕ → ℕ → ℕ → Type 0) (agent : AgentId) (old new : SharedView) (point : PointId) (r : Result Claim E)
    → old.state.stop ≡ None → (place : ℕ) → Picks answers (candidates_in old.face old.state agent.0) (Some place)
    → (candidate_at (candidates_in old.face old.state agent.0) place).number ≡ point.0
    → IfOk r (IsTaken agent point old new) → IfOk r (IsClaim answers agent old new)
claim_of_picked answers agent old new point (Ok c) going place picks is taken =
    picked_claim answers agent old new c (record {
      going = going;
      point = point;
      picked = record { place = place; picks = picks; is = is };
      taken = taken;
    })
claim_of_picked answers agent old new point (Err e) going place picks is taken = tt

-- the number that is read at the picked place
pub picked_number : (answers : ℕ → ℕ → ℕ → Type 0) (items all : List Candidate) (place : ℕ) (read : Candidate) → items ≡ all → read ≡ get_or items place read
    → Picks answers items (Some place) → (candidate_at all place).number ≡ read.number
picked_number answers items all place read same is picks =
    let within = picks.2.within in
    let default = get_or_default items place read (record { degree = 0; number = 0 }) within in
    ap (λ (c : Candidate). c.number) (ap (λ cs. get_or cs place (record { degree = 0; number = 0 })) (sym same) ∙ sym default ∙ sym is)

-- what a try with the point that is read at the picked place answers
pub claim_of_read : {E : Type 0} (answers : ℕ → ℕ → ℕ → Type 0) (agent : AgentId) (old new : SharedView) (r : Result Claim E)
    → old.state.stop ≡ None → (shown items : List Candidate) (place : ℕ) (read : Candidate) → shown ≡ items
    → items ≡ candidates_in old.face old.state agent.0 → read ≡ get_or items place read → Picks answers shown (Some place)
    → IfOk r (IsTaken agent (point_id read.number) old new) → IfOk r (IsClaim answers agent old new)
claim_of_read answers agent old new r going shown items place read same are is picks taken =
    let among : Picks answers items (Some place) = subst (λ cs. Picks answers cs (Some place)) same picks in
    claim_of_picked answers agent old new (point_id read.number) r going place
    (subst (λ cs. Picks answers cs (Some place)) are among)
    (picked_number answers items (candidates_in old.face old.state agent.0) place read are is among) taken
