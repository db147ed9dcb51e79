-- Bytes that were read one piece after another, as bytes that a source lost.
use Rattle.std.proofs.Common.{◌≡◌, ℕ, ◌≤◌, List, [], ◌++◌, length, drop, take, Some, None, IfSome, Option, sym, ap, ◌∙◌, subst, arith, append-nil, length-append}
use Rattle.std.specs.Io.KnownBytes.{Consumes, IsAtEnd}
use Rattle.std.proofs.KnownBytes.{Consumes-trans}
use Rattle.std.proofs.Math.Seq.{drop-append_seam}
use Rattle.stn_io.specs.Bytes.{Loses, LosesAtMost}

pub Loses-from_consumes : (old new : Option (List ℕ)) (bs : List ℕ) → Consumes old new bs → Loses old new (length bs)
Loses-from_consumes None new bs h = tt
Loses-from_consumes (Some xs) None bs h = absurd h
Loses-from_consumes (Some xs) (Some ys) bs h =
    let P : List ℕ → Type 0 = λ zs. (length bs ≤ length zs) × (ys ≡ drop (length bs) zs) in
    subst P (sym h) (rw length-append (omega arith), sym (drop-append_seam bs ys))

pub loses_at_most : (old new : Option (List ℕ)) (bs : List ℕ) (n : ℕ) → Consumes old new bs → length bs ≤ n → LosesAtMost old new n
loses_at_most old new bs n h le = record { count = length bs; within = le; gone = Loses-from_consumes old new bs h }

pub all_at_end : (old new : Option (List ℕ)) (all : List ℕ) → Consumes old new all → IsAtEnd new → IfSome old (λ xs. all ≡ xs)
all_at_end None new all h end = tt
all_at_end (Some xs) None all h end = absurd h
all_at_end (Some xs) (Some ys) all h end = sym (h ∙ ap (λ zs. all ++ zs) end ∙ append-nil all)

pub none_at_end : (old new : Option (List ℕ)) (all : List ℕ) → Consumes old new all → IsAtEnd new → IfSome old (λ xs. new ≡ Some [])
none_at_end None new all h end = tt
none_at_end (Some xs) None all h end = absurd h
none_at_end (Some xs) (Some ys) all h end = ap (λ (zs : List ℕ). Some zs) end

pub short_at_end : (old new : Option (List ℕ)) (all : List ℕ) (n : ℕ) → Consumes old new all → IsAtEnd new → length all ≤ n → IfSome old (λ xs. length xs ≤ n)
short_at_end None new all n h end le = tt
short_at_end (Some xs) None all n h end le = absurd h
short_at_end (Some xs) (Some ys) all n h end le =
    let P : List ℕ → Type 0 = λ zs. length zs ≤ n in
    subst P (all_at_end (Some xs) (Some ys) all h end) le

-- a read that gave nothing
pub nothing_more : (old mid new : Option (List ℕ)) (all out : List ℕ) (n : ℕ) → Consumes old mid all → Consumes mid new (take n out) → n ≡ 0 → Consumes old new all
nothing_more old mid new all out n before more none =
    let P : List ℕ → Type 0 = λ bs. Consumes old new (all ++ bs) in
    subst (Consumes old new) (append-nil all) (subst P (ap (λ (k : ℕ). take k out) none) (Consumes-trans old mid new all (take n out) before more))
