-- A line that is skipped changes only the numbers of lines and bytes.
use Rattle.std.proofs.Common.{◌≡◌, ◌≢◌, ℕ, zero, suc, ◌+◌, ◌≤◌, ◌==◌, Bool, true, cond, is_some, ◌⊎◌, inl, inr, List, [], ◌∷◌, ◌++◌, length, get_or, Result, Ok, Err, refl, sym, ◌∙◌, ap, subst, arith, length-append}
use Rattle.std.specs.List.{All}
use Rattle.std.proofs.lemmas.Bool.{ne_eqb}
use Rattle.std.proofs.lemmas.List.Splits.{slice_split_at}
use Rattle.stn_model.specs.Net.{Net}
use Rattle.net_text.specs.declared.cause.TextError.{TextError}
use Rattle.net_text.specs.declared.cause.TextError.TheVariants.{At}
use Rattle.net_text.specs.declared.cause.TextCause.TheVariants as cause
use Rattle.net_text.specs.Fields.{fields}
use Rattle.net_text.specs.Lines.{line_of, lines_of, lines, Sized, EndsInFeed, is_skipped, is_text}
use Rattle.net_text.proofs.Parts.{lines_before}
use Rattle.net_text.proofs.UsedLines.{cut, left_fed, lines_cut}
use Rattle.script_text.specs.declared.line.Line.TheVariants.{Nothing}
use Rattle.script_text.specs.declared.read.ScriptRead.{ScriptRead}
use Rattle.script_text.specs.Laws.{moved, SkippedLineMoves}
use Rattle.script_text.specs.Lines.{line_of as asked}
use Rattle.script_text.specs.Scripts.{Reading, Step, beginning, does_what, line_does, missing, conclude, read_from}
use Rattle.script_text.specs.Scripts.Step.{Goes, Ends, Fails}

step_moved : (d : Step) (m number n k j size : ℕ) (f g : Reading → Result ScriptRead TextError) → m ≡ number + 1 → k ≡ j + size
    → ((t : Reading) → f t ≡ moved size (g t)) → conclude d m (n + 1) k f ≡ moved size (conclude d number n j g)
step_moved (Goes t) m number n k j size f g one e h = h t
step_moved (Ends cs) m number n k j size f g one e h = ap (λ (u : ℕ). Ok (record { script = cs; used = u; lines = n + 1 })) e
step_moved (Fails c) m number n k j size f g one e h = ap (λ (u : ℕ). Err (At u c)) one

-- lines with other numbers say the same with other numbers
read_moved : (net : Net) (s : Reading) (first n u size : ℕ) (ls : List Sized)
    → read_from net s first (n + 1) (u + size) ls ≡ moved size (read_from net s first n u ls)
read_moved net s first n u size [] =
    let one : first + (n + 1) ≡ first + n + 1 = omega arith in ap (λ (k : ℕ). Err (At k (missing s))) one
read_moved net s first n u size (l ∷ ls) =
    let turned : u + size + l.size ≡ u + l.size + size = omega arith in
    step_moved (line_does net s l.text) (first + (n + 1)) (first + n) (n + 1) (u + size + l.size) (u + l.size) size
    (λ t. read_from net t first (n + 1 + 1) (u + size + l.size) ls) (λ t. read_from net t first (n + 1) (u + l.size) ls) (omega arith) turned
    (λ t. ap (λ (k : ℕ). read_from net t first (n + 1 + 1) k ls) turned ∙ read_moved net t first (n + 1) (u + l.size) size ls)

skipped_here : (net : Net) (s : Reading) (first n u : ℕ) (line rest : List ℕ) → All (λ b. b ≢ 10) line → is_skipped (line_of line) ≡ true
    → read_from net s first n u (lines (line ++ 10 ∷ rest)) ≡ moved (length line + 1) (read_from net s first n u (lines rest))
skipped_here net s first n u line rest unfed skipped =
    let l : List ℕ = line_of line in
    let k : ℕ = u + (length line + 1) in
    ap (read_from net s first n u)
    (ap lines_of (slice_split_at (λ b. b == 10) line 10 rest (λ i d lt. ne_eqb (get_or line i d) 10 (unfed i d lt)) refl) ∙ lines_before line rest)
    ∙ ap (λ (t : Bool). conclude (does_what s (cond t (Ok Nothing) (cond (is_text l) (asked net (is_some s.batch) (fields l)) (Err cause.NotText))))
    (first + n) (n + 1) k (λ t. read_from net t first (n + 1) k (lines rest))) skipped
    ∙ read_moved net s first n u (length line + 1) (lines rest)

either : (d : Step) (number n k size : ℕ) (f g : Reading → Result ScriptRead TextError) → ((t : Reading) → (f t ≡ g t) ⊎ (f t ≡ moved size (g t)))
    → (conclude d number n k f ≡ conclude d number n k g) ⊎ (conclude d number n k f ≡ moved size (conclude d number n k g))
either (Goes t) number n k size f g h = h t
either (Ends cs) number n k size f g h = inl refl
either (Fails c) number n k size f g h = inl refl

along : {A : Type 0} (f : A → A) (a b a' b' : A) → a ≡ a' → b ≡ b' → (a' ≡ b') ⊎ (a' ≡ f b') → (a ≡ b) ⊎ (a ≡ f b)
along f a b a' b' ea eb h = elim h [ inl e ↦ inl (ea ∙ e ∙ sym eb) | inr e ↦ inr (ea ∙ e ∙ ap f (sym eb)) ]

-- by the lines before it, one after the other
skipped_in : (net : Net) (first fuel : ℕ) (prefix line rest : List ℕ) (s : Reading) (n u : ℕ) → length prefix ≤ fuel
    → (prefix ≡ []) ⊎ EndsInFeed prefix → All (λ b. b ≢ 10) line → is_skipped (line_of line) ≡ true
    → (read_from net s first n u (lines (prefix ++ (line ++ 10 ∷ rest))) ≡ read_from net s first n u (lines (prefix ++ rest)))
    ⊎ (read_from net s first n u (lines (prefix ++ (line ++ 10 ∷ rest))) ≡ moved (length line + 1) (read_from net s first n u (lines (prefix ++ rest))))
skipped_in net first fuel [] line rest s n u few fed unfed skipped = inr (skipped_here net s first n u line rest unfed skipped)
skipped_in net first zero (b ∷ bs) line rest s n u few fed unfed skipped = absurd (omega arith)
skipped_in net first (suc fuel) (b ∷ bs) line rest s n u few (inl none) unfed skipped = absurd (cc)
skipped_in net first (suc fuel) (b ∷ bs) line rest s n u few (inr fed) unfed skipped =
    let prefix : List ℕ = b ∷ bs in
    let c = cut prefix fed in
    let k : ℕ = u + (length c.line + 1) in
    let long : length prefix ≡ length c.line + length (10 ∷ c.left) = ap length c.is ∙ length-append c.line (10 ∷ c.left) in
    along (moved (length line + 1)) _ _ _ _ (ap (read_from net s first n u) (lines_cut prefix c (line ++ 10 ∷ rest)))
    (ap (read_from net s first n u) (lines_cut prefix c rest))
    (either (line_does net s (line_of c.line)) (first + n) (n + 1) k (length line + 1)
    (λ t. read_from net t first (n + 1) k (lines (c.left ++ (line ++ 10 ∷ rest)))) (λ t. read_from net t first (n + 1) k (lines (c.left ++ rest)))
    (λ t. skipped_in net first fuel c.left line rest t (n + 1) k (omega arith) (left_fed c.line c.left (subst EndsInFeed c.is fed)) unfed skipped))

pub skipped_line_moves : SkippedLineMoves
skipped_line_moves net first prefix line rest fed unfed skipped =
    skipped_in net first (length prefix) prefix line rest (beginning net) 0 0 (omega arith) fed unfed skipped
