use Rattle.std.specs.Prelude.{◌≡◌, ◌+◌, vec_len, sum_by}
use Rattle.claim_pass.proofs.desk.Desk.close.Given as goal

abbrev pub invariant-loop-count : goal.invariant-loop-count
invariant-loop-count g l =
    (l.all.parts + vec_len l.rest ≡ vec_len l.fn.passes) × (l.all.amount ≡ l.made) × (l.book.total ≡ l.initial.book.total)
    × (l.made + sum_by (λ p. p.count) l.rest.items ≡ sum_by (λ p. p.count) l.fn.passes.items)

abbrev pub decreases-loop-count : goal.decreases-loop-count
decreases-loop-count g l = vec_len l.rest
