-- Four fields after the word tell what a line does where no cycle is due: none has more than three.
use Rattle.std.proofs.Common.{◌≡◌, ℕ, Bool, true, false, List, [], ◌∷◌, take, refl, sym}
use Rattle.std.proofs.lemmas.Bool.{false≢true}
use Rattle.stn_model.specs.Net.{Net}
use Rattle.cert_check.specs.declared.stage.Stage.{Stage}
use Rattle.cert_check.specs.declared.stage.Stage.TheVariants as stage
use Rattle.cert_check.specs.declared.words.Word.{Word}
use Rattle.cert_check.specs.declared.words.Word.TheVariants as word
use Rattle.cert_check.specs.Rows.{Row}
use Rattle.cert_check.specs.Certificates.{headed_line, due_line, section_line, end_due_line, line_after, is_cycle_due}

module _ (net : Net) (a b c d e : List ℕ) (more : List (List ℕ)) where
  headed : (w : Word) → headed_line net w (a ∷ b ∷ c ∷ d ∷ []) ≡ headed_line net w (a ∷ b ∷ c ∷ d ∷ e ∷ more)
  headed word.Consistent = refl
  headed word.Inconsistent = refl
  headed word.From = refl
  headed word.To = refl
  headed word.Holds = refl
  headed word.Cycle = refl
  headed word.End = refl

  due : (next : ℕ) (w : Word) → due_line net next w (a ∷ b ∷ c ∷ d ∷ []) ≡ due_line net next w (a ∷ b ∷ c ∷ d ∷ e ∷ more)
  due next word.Consistent = refl
  due next word.Inconsistent = refl
  due next word.From = refl
  due next word.To = refl
  due next word.Holds = refl
  due next word.Cycle = refl
  due next word.End = refl

  section : (i : ℕ) (row : Row) (w : Word) → section_line net i row w (a ∷ b ∷ c ∷ d ∷ []) ≡ section_line net i row w (a ∷ b ∷ c ∷ d ∷ e ∷ more)
  section i row word.Consistent = refl
  section i row word.Inconsistent = refl
  section i row word.From = refl
  section i row word.To = refl
  section i row word.Holds = refl
  section i row word.Cycle = refl
  section i row word.End = refl

  end_due : (consistent : Bool) (w : Word) → end_due_line consistent w (a ∷ b ∷ c ∷ d ∷ []) ≡ end_due_line consistent w (a ∷ b ∷ c ∷ d ∷ e ∷ more)
  end_due consistent word.Consistent = refl
  end_due consistent word.Inconsistent = refl
  end_due consistent word.From = refl
  end_due consistent word.To = refl
  end_due consistent word.Holds = refl
  end_due consistent word.Cycle = refl
  end_due consistent word.End = refl

  many : (s : Stage) (w : Word) → is_cycle_due s ≡ false → line_after net s w (a ∷ b ∷ c ∷ d ∷ []) ≡ line_after net s w (a ∷ b ∷ c ∷ d ∷ e ∷ more)
  many stage.Start w other = refl
  many stage.Headed w other = headed w
  many (stage.FromDue next) w other = due next w
  many (stage.Section i row) w other = section i row w
  many stage.CycleDue w other = absurd (false≢true (sym other))
  many (stage.EndDue consistent) w other = end_due consistent w
  many (stage.Ended consistent) w other = refl

pub few_enough : (net : Net) (s : Stage) (w : Word) (fs : List (List ℕ)) → is_cycle_due s ≡ false → line_after net s w (take 4 fs) ≡ line_after net s w fs
few_enough net s w [] other = refl
few_enough net s w (a ∷ []) other = refl
few_enough net s w (a ∷ b ∷ []) other = refl
few_enough net s w (a ∷ b ∷ c ∷ []) other = refl
few_enough net s w (a ∷ b ∷ c ∷ d ∷ []) other = refl
few_enough net s w (a ∷ b ∷ c ∷ d ∷ e ∷ more) other = many net a b c d e more s w other
