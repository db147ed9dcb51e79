use Rattle.std.proofs.Common.{◌≡◌, ℕ, ◌+◌, ◌-◌, ◌≤◌, List, ◌++◌, length, take, drop, sym, ap, ◌∙◌, arith}
use Rattle.std.proofs.lemmas.List.{take_at, drop-drop, take-append-drop, length-take-le, length-drop, length-append, drop_all}
use Rattle.stn_io.proofs.memory.MemSourceSource.read.Goals as goal

given : (xs front rest : List ℕ) (at n : ℕ) → front ≡ take n (drop at xs) → at + n ≤ length xs → drop at xs ≡ take n (front ++ rest) ++ drop (at + n) xs
given xs front rest at n e le =
    let many = ap length e ∙ length-take-le n (drop at xs) (rw length-drop (omega arith)) in
    sym (ap (λ ys. ys ++ drop (at + n) xs) (take_at front rest n many ∙ e) ∙ ap (λ ys. take n (drop at xs) ++ ys) (sym (drop-drop n at xs)) ∙ take-append-drop n (drop at xs))

pub returns-clause-bytes : goal.returns-clause-bytes
returns-clause-bytes c =
    let bytes = c.self.inside.bytes in
    let v = bytes.ok.0 in
    let at = c.self.inside.at in
    let n = c.min-count.result in
    let xs = bytes.items in
    let a = rw c.deref-2.ensures.value at c.copy_from_slice.ensures.after in
    let many : at + n - at ≡ n = omega arith in
    let within = c.self.invariant.0 in
    let some = c.self.invariant.1 in
    let le : at + n ≤ length xs = omega arith in (
      rw (← c.self.view_is) (given xs c.copy_from_slice.new.self (drop n c.args.out.now) at n (a ∙ ap (λ k. take k (drop at xs)) many) le),
      λ z lt. drop_all (at + n) xs (omega (arith, rw (length-append, length-drop) at lt, c.copy_from_slice.ensures.len)),
    )
