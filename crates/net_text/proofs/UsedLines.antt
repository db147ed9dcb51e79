-- What stands after the lines that a text uses makes no difference.
use Rattle.std.proofs.Common.{◌≡◌, ℕ, zero, suc, ◌+◌, ◌<◌, ◌≤◌, ◌==◌, Bool, true, false, cond, ◌⊎◌, inl, inr, List, [], ◌∷◌, ◌++◌, length, Result, Ok, refl, sym, ◌∙◌, ap, subst, arith, append_assoc, length-append}
use Rattle.std.specs.List.{onto_first}
use Rattle.std.proofs.lemmas.Bool.Decides.{nat_tests}
use Rattle.std.proofs.lemmas.List.Splits.{slice_split-cons_no}
use Rattle.net_text.specs.declared.cause.TextError.{TextError}
use Rattle.net_text.specs.declared.read.NetRead.{NetRead}
use Rattle.net_text.specs.declared.stage.Stage.{Stage}
use Rattle.net_text.specs.declared.stage.Stage.TheVariants.{Start}
use Rattle.net_text.specs.Lines.{parts, line_of, lines_of, lines, Sized, EndsInFeed}
use Rattle.net_text.specs.Networks.{Step, line_does, conclude, read_from}
use Rattle.net_text.specs.Networks.Step.{Goes, Ends, Fails}
use Rattle.net_text.specs.Laws.{NothingAfterIsRead}
use Rattle.net_text.proofs.Parts.{lines_before, some_byte}

abbrev is_feed : ℕ → Bool
is_feed b = b == 10

-- the first line of bytes that end in a line feed, and what follows it
pub record Cut (front : List ℕ) : Type 0 where
  pub line : List ℕ
  pub left : List ℕ
  pub is : front ≡ line ++ 10 ∷ left
  pub splits : (more : List ℕ) → parts (line ++ 10 ∷ more) ≡ line ∷ parts more

pub cut : (front : List ℕ) → EndsInFeed front → Cut front
cut [] fed = absurd fed
cut (b ∷ []) fed = record { line = []; left = []; is = ap (λ (x : ℕ). x ∷ []) fed; splits = λ more. refl }
cut (b ∷ c ∷ bs) fed =
    (elim (is_feed b) as (λ t. is_feed b ≡ t → Cut (b ∷ c ∷ bs)) [
      | true ↦ λ e.
          let same : b ≡ 10 = grind (arith, nat_tests) in record { line = []; left = c ∷ bs; is = ap (λ (x : ℕ). x ∷ c ∷ bs) same; splits = λ more. refl }
      | false ↦ λ e.
          let rest = cut (c ∷ bs) fed in
          record {
            line = b ∷ rest.line;
            left = rest.left;
            is = ap (λ (xs : List ℕ). b ∷ xs) rest.is;
            splits = λ more. slice_split-cons_no is_feed b (rest.line ++ 10 ∷ more) e ∙ ap (onto_first b) (rest.splits more);
          }
    ]) refl

-- what follows the first line is nothing, or ends in a line feed too
pub left_fed : (line left : List ℕ) → EndsInFeed (line ++ 10 ∷ left) → (left ≡ []) ⊎ EndsInFeed left
left_fed [] [] fed = inl refl
left_fed [] (c ∷ cs) fed = inr fed
left_fed (b ∷ []) left fed = left_fed [] left fed
left_fed (b ∷ c ∷ line) left fed = left_fed (c ∷ line) left fed

pub lines_cut : (front : List ℕ) (c : Cut front) (rest : List ℕ)
    → lines (front ++ rest) ≡ record { text = line_of c.line; size = length c.line + 1 } ∷ lines (c.left ++ rest)
lines_cut front c rest =
    ap (λ (bs : List ℕ). lines (bs ++ rest)) c.is
    ∙ ap lines (append_assoc c.line (10 ∷ c.left) rest)
    ∙ ap lines_of (c.splits (c.left ++ rest))
    ∙ lines_before c.line (c.left ++ rest)

-- each line takes a byte
after : (d : Step) (n u size : ℕ) (f : Stage → Result NetRead TextError) (r : NetRead)
    → ((t : Stage) → f t ≡ Ok r → u + size < r.used) → 0 < size → conclude d n (u + size) f ≡ Ok r → u < r.used
after (Goes t) n u size f r h some e = let more = h t e in omega arith
after (Ends net) n u size f r h some e =
    let is : record { net = net; used = u + size; lines = n } ≡ r = cc in
    let used : u + size ≡ r.used = ap (λ (x : NetRead). x.used) is in omega arith
after (Fails c) n u size f r h some e = absurd (cc)

grows : (ps : List (List ℕ)) (s : Stage) (n u : ℕ) (r : NetRead) → read_from s n u (lines_of ps) ≡ Ok r → u < r.used
grows [] s n u r e = absurd (cc)
grows (part ∷ []) s n u r e =
    let one : List Sized = record { text = line_of part; size = length part } ∷ [] in
    (elim (length (line_of part) == 0) as (λ t. (length (line_of part) == 0) ≡ t → read_from s n u (cond t [] one) ≡ Ok r → u < r.used) [
      | true ↦ λ z h. absurd (cc)
      | false ↦ λ z h.
          let some : 0 < length (line_of part) = grind (arith, nat_tests) in
          after (line_does s (line_of part)) n u (length part) (λ t. read_from t (n + 1) (u + length part) []) r (λ t k. absurd (cc)) (some_byte part some) h
    ]) refl e
grows (part ∷ next ∷ more) s n u r e =
    after (line_does s (line_of part)) n u (length part + 1) (λ t. read_from t (n + 1) (u + (length part + 1)) (lines_of (next ∷ more))) r
    (λ t k. grows (next ∷ more) t (n + 1) (u + (length part + 1)) r k) (omega arith) e

along : (d : Step) (n k : ℕ) (f g : Stage → Result NetRead TextError) (r : NetRead)
    → ((t : Stage) → f t ≡ Ok r → g t ≡ Ok r) → conclude d n k f ≡ Ok r → conclude d n k g ≡ Ok r
along (Goes t) n k f g r h e = h t e
along (Ends net) n k f g r h e = e
along (Fails c) n k f g r h e = e

-- A TEXT'S END. The used bytes end in a line feed, so they are cut at their first line feed into a line and the bytes
-- after it, and so is the whole text, whatever follows. If the line ends the network, nothing else is looked at. If
-- the text goes on, the bytes after the line are not empty, since each line takes a byte and no more are used than
-- there are; so they end in a line feed as well, and the same holds of them.
reads_on : (fuel : ℕ) (front rest other : List ℕ) (s : Stage) (n u : ℕ) (r : NetRead)
    → length front ≤ fuel → EndsInFeed front → read_from s n u (lines (front ++ rest)) ≡ Ok r → r.used ≡ u + length front
    → read_from s n u (lines (front ++ other)) ≡ Ok r
reads_on zero [] rest other s n u r few fed e used = absurd fed
reads_on zero (b ∷ bs) rest other s n u r few fed e used = absurd (omega arith)
reads_on (suc fuel) front rest other s n u r few fed e used =
    let c = cut front fed in
    let k : ℕ = u + (length c.line + 1) in
    let long : length front ≡ length c.line + length (10 ∷ c.left) = ap length c.is ∙ length-append c.line (10 ∷ c.left) in
    let both : EndsInFeed (c.line ++ 10 ∷ c.left) = subst EndsInFeed c.is fed in
    ap (read_from s n u) (lines_cut front c other)
    ∙ along (line_does s (line_of c.line)) n k (λ t. read_from t (n + 1) k (lines (c.left ++ rest))) (λ t. read_from t (n + 1) k (lines (c.left ++ other))) r
    (λ t q. elim (left_fed c.line c.left both) [
      | inl none ↦
          (let past : k < r.used = grows (parts (c.left ++ rest)) t (n + 1) k r q in let empty : length c.left ≡ 0 = ap length none in absurd (omega arith))
      | inr more ↦ reads_on fuel c.left rest other t (n + 1) k r (omega arith) more q (omega arith)
    ])
    (sym (ap (read_from s n u) (lines_cut front c rest)) ∙ e)

pub nothing_after_is_read : NothingAfterIsRead
nothing_after_is_read front rest other r fed e used = reads_on (length front) front rest other Start 1 0 r (omega arith) fed e (omega arith)
