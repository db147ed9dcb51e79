-- A vector to which pieces are appended: what stands in it, and its front, which appends leave as it is.
use Rattle.std.proofs.Common.{◌≡◌, ℕ, ◌+◌, ◌≤◌, Result, Ok, Err, OnErr, List, ◌++◌, length, take, drop, get_or, ◌<◌, refl, sym, ap, ◌∙◌, arith, length-append}
use Rattle.std.specs.List.{flat_map}
use Rattle.std.proofs.lemmas.List.{flat_map_more, take_more, take_at, take-take, append_assoc, take_all, take-append-drop}
use Rattle.net_text.specs.Plain.{HasFront}

-- a list after one more of its lines, and after all of them
pub flat_map_step : {X : Type 0} (f : X → List ℕ) (xs : List X) (k : ℕ) (d : X) (start out more : List ℕ) → k < length xs
    → out ≡ start ++ flat_map f (take k xs) → more ≡ out ++ f (get_or xs k d) → more ≡ start ++ flat_map f (take (k + 1) xs)
flat_map_step f xs k d start out more lt before step =
    step ∙ ap (λ o. o ++ f (get_or xs k d)) before ∙ flat_map_more f start (take k xs) (get_or xs k d)
    ∙ ap (λ l. start ++ flat_map f l) (sym (take_more xs k d lt))

pub flat_map_whole : {X : Type 0} (f : X → List ℕ) (xs : List X) (k : ℕ) (start out : List ℕ)
    → length xs ≤ k → out ≡ start ++ flat_map f (take k xs) → out ≡ start ++ flat_map f xs
flat_map_whole f xs k start out all e = e ∙ ap (λ l. start ++ flat_map f l) (take_all k xs all)

-- five pieces, one after another
pub joined : (o a b c d e p q r s t : List ℕ) → a ≡ o ++ p → b ≡ a ++ q → c ≡ b ++ r → d ≡ c ++ s → e ≡ d ++ t → e ≡ o ++ (p ++ q ++ r ++ s ++ t)
joined o a b c d e p q r s t ea eb ec ed ee =
    ee ∙ ap (λ x. x ++ t) (ed ∙ ap (λ x. x ++ s) (ec ∙ ap (λ x. x ++ r) (eb ∙ ap (λ x. x ++ q) ea))) ∙ simp append_assoc

pub front_same : (a b : List ℕ) → b ≡ a → HasFront a b
front_same a b e = ap (take (length a)) e ∙ take_all (length a) a (omega arith)

pub front_append : (a x b : List ℕ) → b ≡ a ++ x → HasFront a b
front_append a x b e = ap (take (length a)) e ∙ take_at a x (length a) refl

-- what has a longer front has the shorter one
pub front_trans : (a x b c : List ℕ) → b ≡ a ++ x → HasFront b c → HasFront a c
front_trans a x b c e h =
    let short : length a ≤ length b = omega (arith, ap length e, length-append a x) in
    sym (take-take (length a) (length b) c short) ∙ ap (take (length a)) h ∙ front_append a x b e

pub front_on : (a b c : List ℕ) → HasFront a b → HasFront b c → HasFront a c
front_on a b c h k =
    front_trans a (drop (length a) b) b c (sym (take-append-drop (length a) b) ∙ ap (λ (x : List ℕ). x ++ drop (length a) b) h) k

-- what holds at any result holds at an `Err`
pub on_err_from : {T E P : Type 0} (r : Result T E) → P → OnErr r P
on_err_from (Ok x) h = tt
on_err_from (Err e) h = h
