-- Lines that lead a checker from stage to stage, one after another.
use Rattle.std.proofs.Common.{◌≡◌, ℕ, ◌+◌, true, false, List, [], ◌∷◌, ◌++◌, Ok, Err, sym, ap, ◌∙◌, arith, if◌then◌else◌}
use Rattle.std.specs.List.{AllByRecursion}
use Rattle.std.proofs.lemmas.List.{append_assoc, append-nil}
use Rattle.stn_model.specs.Net.{Net}
use Rattle.net_text.specs.Lines.{lines, is_skipped, is_text}
use Rattle.net_text.specs.Fields.{fields}
use Rattle.net_text.specs.Plain.{spaced, line}
use Rattle.net_text.proofs.FieldsOfLines.{IsField, text_line, fields_spaced}
use Rattle.net_text.proofs.LinesRead.{lines_feed}
use Rattle.cert_check.specs.declared.stage.Stage.{Stage}
use Rattle.cert_check.specs.declared.stage.Stage.TheVariants as stage
use Rattle.cert_check.specs.declared.verdict.CertCause.TheVariants as cause
use Rattle.cert_check.specs.declared.verdict.Verdict.TheVariants as verdict
use Rattle.cert_check.specs.Certificates.{line_does, fields_do, is_ended, conclude, read_from, verdict_of}
use Rattle.cert_print.specs.Leads.{Leads}

module _ (net : Net) where
  -- what a written line does is what its fields do
  written_does : (s : Stage) (w : List ℕ) (fs : List (List ℕ)) → IsField w → AllByRecursion IsField fs → is_skipped (w ++ spaced fs) ≡ false → is_ended s ≡ false
      → line_does net s (w ++ spaced fs) ≡ fields_do net s (w ∷ fs)
  written_does s w fs h hs word going =
      let l : List ℕ = w ++ spaced fs in
      ap (λ b. if b then Ok s else (if is_ended s then Err cause.AfterEnd else (if is_text l then fields_do net s (fields l) else Err cause.NotText))) word
      ∙ ap (λ b. if b then Err cause.AfterEnd else (if is_text l then fields_do net s (fields l) else Err cause.NotText)) going
      ∙ ap (λ b. if b then fields_do net s (fields l) else Err cause.NotText) (text_line w fs h hs)
      ∙ ap (fields_do net s) (fields_spaced w fs h hs)

  -- THE STEP. A written line is its word and its fields with one space before each, and then a line feed. It is cut into these again, so
  -- a line that the checker accepts by its fields leads to the stage after it.
  pub line_leads : (s t : Stage) (w : List ℕ) (fs : List (List ℕ)) → IsField w → AllByRecursion IsField fs → is_skipped (w ++ spaced fs) ≡ false → is_ended s ≡ false
      → fields_do net s (w ∷ fs) ≡ Ok t → Leads net s t (line w fs)
  line_leads s t w fs h hs word going does = record {
    count = 1;
    reads = λ n rest.
        let l : List ℕ = w ++ spaced fs in
        ap (λ x. read_from net s n (lines x)) (append_assoc l (10 ∷ []) rest)
        ∙ ap (read_from net s n) (lines_feed l rest (text_line w fs h hs))
        ∙ ap (λ d. conclude d n (λ u. read_from net u (n + 1) (lines rest))) (written_does s w fs h hs word going ∙ does);
  }

  pub leads_on : (s t u : Stage) (a b : List ℕ) → Leads net s t a → Leads net t u b → Leads net s u (a ++ b)
  leads_on s t u a b h k = record {
    count = h.count + k.count;
    reads = λ n rest.
        let sum : n + h.count + k.count ≡ n + (h.count + k.count) = omega arith in
        ap (λ x. read_from net s n (lines x)) (append_assoc a b rest) ∙ h.reads n (b ++ rest) ∙ k.reads (n + h.count) rest
        ∙ ap (λ m. read_from net u m (lines rest)) sum;
  }

  -- no line leads nowhere
  pub leads_nowhere : (s : Stage) → Leads net s s []
  leads_nowhere s = record { count = 0; reads = λ n rest. let sum : n ≡ n + 0 = omega arith in ap (λ m. read_from net s m (lines rest)) sum }

  pub verdict_consistent : (text : List ℕ) → Leads net stage.Start (stage.Ended true) text → (first : ℕ) → verdict_of net first text ≡ verdict.Consistent
  verdict_consistent text h first = ap (λ x. read_from net stage.Start first (lines x)) (sym (append-nil text)) ∙ h.reads first []

  pub verdict_inconsistent : (text : List ℕ) → Leads net stage.Start (stage.Ended false) text → (first : ℕ) → verdict_of net first text ≡ verdict.Inconsistent
  verdict_inconsistent text h first = ap (λ x. read_from net stage.Start first (lines x)) (sym (append-nil text)) ∙ h.reads first []
