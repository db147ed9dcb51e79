-- A line that is skipped changes only the numbers of lines and bytes.
use Rattle.std.proofs.Common.{◌≡◌, ◌≢◌, ℕ, zero, suc, ◌+◌, ◌≤◌, ◌==◌, Bool, true, cond, ◌⊎◌, inl, inr, List, [], ◌∷◌, ◌++◌, length, get_or, Result, Ok, refl, sym, ◌∙◌, ap, subst, arith, length-append}
use Rattle.std.specs.List.{All}
use Rattle.std.proofs.lemmas.Bool.{ne_eqb}
use Rattle.std.proofs.lemmas.List.Splits.{slice_split_at}
use Rattle.net_text.specs.declared.cause.TextError.{TextError}
use Rattle.net_text.specs.declared.cause.TextCause.TheVariants as cause
use Rattle.net_text.specs.declared.read.NetRead.{NetRead}
use Rattle.net_text.specs.declared.stage.Stage.{Stage}
use Rattle.net_text.specs.declared.stage.Stage.TheVariants.{Start}
use Rattle.net_text.specs.Fields.{fields}
use Rattle.net_text.specs.Lines.{line_of, lines_of, lines, Sized, EndsInFeed, is_skipped, is_text}
use Rattle.net_text.specs.Networks.{Step, fields_do, line_does, conclude, read_from}
use Rattle.net_text.specs.Networks.Step.{Goes, Ends, Fails}
use Rattle.net_text.specs.Laws.{moved, SkippedLineMoves}
use Rattle.net_text.proofs.Parts.{lines_before}
use Rattle.net_text.proofs.UsedLines.{cut, left_fed, lines_cut}

step_moved : (d : Step) (n k j size : ℕ) (f g : Stage → Result NetRead TextError) → k ≡ j + size → ((t : Stage) → f t ≡ moved size (g t))
    → conclude d (n + 1) k f ≡ moved size (conclude d n j g)
step_moved (Goes t) n k j size f g e h = h t
step_moved (Ends net) n k j size f g e h = ap (λ (u : ℕ). Ok (record { net = net; used = u; lines = n + 1 })) e
step_moved (Fails c) n k j size f g e h = refl

-- lines with other numbers say the same with other numbers
read_moved : (s : Stage) (n u size : ℕ) (ls : List Sized) → read_from s (n + 1) (u + size) ls ≡ moved size (read_from s n u ls)
read_moved s n u size [] = refl
read_moved s n u size (l ∷ ls) =
    let turned : u + size + l.size ≡ u + l.size + size = omega arith in
    step_moved (line_does s l.text) n (u + size + l.size) (u + l.size) size (λ t. read_from t (n + 1 + 1) (u + size + l.size) ls)
    (λ t. read_from t (n + 1) (u + l.size) ls) turned
    (λ t. ap (λ (k : ℕ). read_from t (n + 1 + 1) k ls) turned ∙ read_moved t (n + 1) (u + l.size) size ls)

skipped_here : (s : Stage) (n u : ℕ) (line rest : List ℕ) → All (λ b. b ≢ 10) line → is_skipped (line_of line) ≡ true
    → read_from s n u (lines (line ++ 10 ∷ rest)) ≡ moved (length line + 1) (read_from s n u (lines rest))
skipped_here s n u line rest unfed skipped =
    let l : List ℕ = line_of line in
    let k : ℕ = u + (length line + 1) in
    ap (read_from s n u)
    (ap lines_of (slice_split_at (λ b. b == 10) line 10 rest (λ i d lt. ne_eqb (get_or line i d) 10 (unfed i d lt)) refl) ∙ lines_before line rest)
    ∙ ap (λ (t : Bool). conclude (cond t (Goes s) (cond (is_text l) (fields_do s (fields l)) (Fails cause.NotText))) n k
    (λ t. read_from t (n + 1) k (lines rest))) skipped
    ∙ read_moved s n u (length line + 1) (lines rest)

either : (d : Step) (n k size : ℕ) (f g : Stage → Result NetRead TextError) → ((t : Stage) → (f t ≡ g t) ⊎ (f t ≡ moved size (g t)))
    → (conclude d n k f ≡ conclude d n k g) ⊎ (conclude d n k f ≡ moved size (conclude d n k g))
either (Goes t) n k size f g h = h t
either (Ends net) n k size f g h = inl refl
either (Fails c) n k size f g h = inl refl

along : {A : Type 0} (f : A → A) (a b a' b' : A) → a ≡ a' → b ≡ b' → (a' ≡ b') ⊎ (a' ≡ f b') → (a ≡ b) ⊎ (a ≡ f b)
along f a b a' b' ea eb h = elim h [ inl e ↦ inl (ea ∙ e ∙ sym eb) | inr e ↦ inr (ea ∙ e ∙ ap f (sym eb)) ]

-- by the lines before it, one after the other
skipped_in : (fuel : ℕ) (prefix line rest : List ℕ) (s : Stage) (n u : ℕ) → length prefix ≤ fuel → (prefix ≡ []) ⊎ EndsInFeed prefix
    → All (λ b. b ≢ 10) line → is_skipped (line_of line) ≡ true
    → (read_from s n u (lines (prefix ++ (line ++ 10 ∷ rest))) ≡ read_from s n u (lines (prefix ++ rest)))
    ⊎ (read_from s n u (lines (prefix ++ (line ++ 10 ∷ rest))) ≡ moved (length line + 1) (read_from s n u (lines (prefix ++ rest))))
skipped_in fuel [] line rest s n u few fed unfed skipped = inr (skipped_here s n u line rest unfed skipped)
skipped_in zero (b ∷ bs) line rest s n u few fed unfed skipped = absurd (omega arith)
skipped_in (suc fuel) (b ∷ bs) line rest s n u few (inl none) unfed skipped = absurd (cc)
skipped_in (suc fuel) (b ∷ bs) line rest s n u few (inr fed) unfed skipped =
    let prefix : List ℕ = b ∷ bs in
    let c = cut prefix fed in
    let k : ℕ = u + (length c.line + 1) in
    let long : length prefix ≡ length c.line + length (10 ∷ c.left) = ap length c.is ∙ length-append c.line (10 ∷ c.left) in
    along (moved (length line + 1)) _ _ _ _ (ap (read_from s n u) (lines_cut prefix c (line ++ 10 ∷ rest))) (ap (read_from s n u) (lines_cut prefix c rest))
    (either (line_does s (line_of c.line)) n k (length line + 1) (λ t. read_from t (n + 1) k (lines (c.left ++ (line ++ 10 ∷ rest))))
    (λ t. read_from t (n + 1) k (lines (c.left ++ rest)))
    (λ t. skipped_in fuel c.left line rest t (n + 1) k (omega arith) (left_fed c.line c.left (subst EndsInFeed c.is fed)) unfed skipped))

pub skipped_line_moves : SkippedLineMoves
skipped_line_moves prefix line rest fed unfed skipped = skipped_in (length prefix) prefix line rest Start 1 0 (omega arith) fed unfed skipped
