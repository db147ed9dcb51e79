-- A step after a path takes the place of its first filler.
use Rattle.std.proofs.Common.{◌≡◌, ℕ, zero, suc, ◌+◌, ◌-◌, ◌<◌, ◌≤◌, List, [], ◌∷◌, ◌++◌, length, take, set, replicate, refl, sym, ap, ◌∙◌, arith, length-take-le, length-append, length-set}
use Rattle.json_net.specs.declared.path.Step.{Step}
use Rattle.json_net.specs.declared.path.Step.TheVariants.{Item}
use Rattle.json_net.specs.declared.path.Path.TheInside.{Inside}
use Rattle.json_net.specs.Paths.{longest_path}
use Rattle.json_net.specs.Filled.{filled, IsPath}

set_after : (xs : List Step) (s f : Step) (m : ℕ) → set (xs ++ replicate (suc m) f) (length xs) s ≡ (xs ++ s ∷ []) ++ replicate m f
set_after [] s f m = refl
set_after (x ∷ xs) s f m = ap (λ ys. x ∷ ys) (set_after xs s f m)

take_after : (xs ys : List Step) → take (length xs) (xs ++ ys) ≡ xs
take_after [] ys = refl
take_after (x ∷ xs) ys = ap (λ zs. x ∷ zs) (take_after xs ys)

pub one_more : (p : Inside) (s : Step) → IsPath p → p.count < longest_path → IsPath (record { steps = set p.steps p.count s; count = p.count + 1 })
one_more p s h room =
    let xs : List Step = take p.count p.steps in
    let f : Step = Item 0 in
    let m : ℕ = longest_path - (p.count + 1) in
    let counted : length xs ≡ p.count = length-take-le p.count p.steps (omega (arith, h.count, h.room)) in
    let gap : longest_path - length xs ≡ suc m = omega (arith, counted, room) in
    let laid : p.steps ≡ xs ++ replicate (suc m) f = h.filled ∙ ap (λ (k : ℕ). xs ++ replicate k f) gap in
    let written : set p.steps p.count s ≡ (xs ++ s ∷ []) ++ replicate m f =
    ap (λ (ys : List Step). set ys p.count s) laid ∙ ap (λ (k : ℕ). set (xs ++ replicate (suc m) f) k s) (sym counted) ∙ set_after xs s f m in
    let longer : length (xs ++ s ∷ []) ≡ p.count + 1 = omega (arith, length-append xs (s ∷ []), counted) in
    let seen : take (p.count + 1) (set p.steps p.count s) ≡ xs ++ s ∷ [] =
    ap (take (p.count + 1)) written ∙ ap (λ (k : ℕ). take k ((xs ++ s ∷ []) ++ replicate m f)) (sym longer) ∙ take_after (xs ++ s ∷ []) (replicate m f) in
    let rest : m ≡ longest_path - length (xs ++ s ∷ []) = omega (arith, longer) in
    record {
      count = omega (arith, room);
      room = length-set p.steps p.count s ∙ h.room;
      filled = written ∙ ap (λ (k : ℕ). (xs ++ s ∷ []) ++ replicate k f) rest ∙ sym (ap filled seen);
    }
