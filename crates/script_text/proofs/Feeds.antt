-- A script that ends among lines that end in a line feed is read without what follows them.
use Rattle.std.proofs.Common.{◌≡◌, ℕ, zero, suc, ◌+◌, ◌≤◌, inl, inr, List, [], ◌∷◌, ◌++◌, length, Result, Ok, refl, sym, ap, subst, ◌∙◌, arith, length-append}
use Rattle.std.proofs.lemmas.List.{append_assoc, append-nil}
use Rattle.stn_model.specs.Net.{Net}
use Rattle.net_text.specs.declared.cause.TextError.{TextError}
use Rattle.net_text.specs.Lines.{line_of, lines, EndsInFeed}
use Rattle.net_text.proofs.UsedLines.{cut, left_fed, lines_cut}
use Rattle.script_text.specs.declared.read.ScriptRead.{ScriptRead}
use Rattle.script_text.specs.Scripts.{Reading, Step, beginning, line_does, conclude, read_from, script_of}
use Rattle.script_text.specs.Scripts.Step.{Goes, Ends, Fails}
use Rattle.script_text.specs.Laws.{DoneEndsTheText}

along : (d : Step) (number n k : ℕ) (f g : Reading → Result ScriptRead TextError) (r : ScriptRead) → ((t : Reading) → f t ≡ Ok r → g t ≡ Ok r)
    → conclude d number n k f ≡ Ok r → conclude d number n k g ≡ Ok r
along (Goes t) number n k f g r h e = h t e
along (Ends cs) number n k f g r h e = e
along (Fails c) number n k f g r h e = cc

-- no script stands in no bytes
nothing_read : (net : Net) (first : ℕ) (s : Reading) (n u : ℕ) (left : List ℕ) (r : ScriptRead) → left ≡ []
    → read_from net s first n u (lines (left ++ [])) ≡ Ok r → ⊥
nothing_read net first s n u left r none e =
    let at_end = sym (ap (λ (bs : List ℕ). read_from net s first n u (lines (bs ++ []))) none) ∙ e in cc

-- A SCRIPT'S END. The bytes end in a line feed, so they are cut at their first line feed into a line and the bytes after it, and so is the
-- text, whatever follows. If the line ends the script, nothing else is looked at. If the script goes on, the bytes after the line are not
-- empty, since a script stands there; so they end in a line feed as well, and the same holds of them.
reads_on : (net : Net) (first fuel : ℕ) (front other : List ℕ) (s : Reading) (n u : ℕ) (r : ScriptRead) → length front ≤ fuel → EndsInFeed front
    → read_from net s first n u (lines (front ++ [])) ≡ Ok r → read_from net s first n u (lines (front ++ other)) ≡ Ok r
reads_on net first zero [] other s n u r few fed e = absurd fed
reads_on net first zero (b ∷ bs) other s n u r few fed e = absurd (omega arith)
reads_on net first (suc fuel) front other s n u r few fed e =
    let c = cut front fed in
    let k : ℕ = u + (length c.line + 1) in
    let long : length front ≡ length c.line + length (10 ∷ c.left) = ap length c.is ∙ length-append c.line (10 ∷ c.left) in
    let both : EndsInFeed (c.line ++ 10 ∷ c.left) = subst EndsInFeed c.is fed in
    ap (read_from net s first n u) (lines_cut front c other)
    ∙ along (line_does net s (line_of c.line)) (first + n) (n + 1) k (λ t. read_from net t first (n + 1) k (lines (c.left ++ [])))
    (λ t. read_from net t first (n + 1) k (lines (c.left ++ other))) r
    (λ t q. elim (left_fed c.line c.left both) [
      | inl none ↦ absurd (nothing_read net first t (n + 1) k c.left r none q)
      | inr more ↦ reads_on net first fuel c.left other t (n + 1) k r (omega arith) more q
    ])
    (sym (ap (read_from net s first n u) (lines_cut front c [])) ∙ e)

-- where a text that ends in a line feed is read, what follows it is not looked at
pub fed_alike : (net : Net) (first : ℕ) (text other : List ℕ) (r : ScriptRead) → EndsInFeed text → script_of net first text ≡ Ok r
    → script_of net first (text ++ other) ≡ Ok r
fed_alike net first text other r fed e =
    reads_on net first (length text) text other (beginning net) 0 0 r (omega arith) fed (ap (script_of net first) (append-nil text) ∙ e)

fed_end : (text : List ℕ) → EndsInFeed (text ++ 10 ∷ [])
fed_end [] = refl
fed_end (b ∷ []) = refl
fed_end (b ∷ c ∷ bs) = fed_end (c ∷ bs)

pub done_ends : DoneEndsTheText
done_ends net first text more r e =
    ap (script_of net first) (sym (append_assoc text (10 ∷ []) more)) ∙ fed_alike net first (text ++ 10 ∷ []) more r (fed_end text) e
