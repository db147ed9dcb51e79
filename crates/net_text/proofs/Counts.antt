-- A line has at most five fields, so the seventh and all after it make no difference.
use Rattle.std.proofs.Common.{◌≡◌, ℕ, ◌<◌, Bool, true, false, cond, List, [], ◌∷◌, length, take, Option, Some, None, Err, refl, sym, ◌∙◌, ap, subst, arith}
use Rattle.std.proofs.lemmas.Bool.Decides.{nat_tests}
use Rattle.stn_model.specs.Net.{Net}
use Rattle.net_text.specs.declared.cause.TextCause.TheVariants as cause
use Rattle.net_text.specs.declared.stage.Next.{Next}
use Rattle.net_text.specs.declared.stage.Stage.{Stage}
use Rattle.net_text.specs.declared.stage.Stage.TheVariants.{Start, Headed, Building}
use Rattle.net_text.specs.declared.version.Version.{Version}
use Rattle.net_text.specs.declared.words.Word.{Word}
use Rattle.net_text.specs.declared.words.Word.TheVariants as word
use Rattle.net_text.specs.Adding.{Takes}
use Rattle.net_text.specs.Networks.{building, counts, fields_do, read_opening, opening_line, line_in_network, network_line, line_does}
use Rattle.net_text.specs.Networks.Step.{Goes, Fails}
use Rattle.net_text.specs.Fields.{fields}
use Rattle.net_text.specs.Lines.{is_skipped, is_text}
use Rattle.net_text.specs.Versions.{word_in}

miscounted : (w : Word) (n : ℕ) → 4 < n → counts w n ≡ false
miscounted word.Horizon n many = grind (arith, nat_tests)
miscounted word.Agent n many = grind (arith, nat_tests)
miscounted word.Point n many = grind (arith, nat_tests)
miscounted word.Act n many = grind (arith, nat_tests)
miscounted word.Bound n many = grind (arith, nat_tests)
miscounted word.Arc n many = grind (arith, nat_tests)
miscounted word.End n many = grind (arith, nat_tests)

opening_over : (o : Option Word) (fs gs : List (List ℕ)) → 4 < length fs → 4 < length gs → opening_line o fs ≡ opening_line o gs
opening_over None fs gs l m = refl
opening_over (Some w) fs gs l m =
    ap (λ (t : Bool). cond t (read_opening w fs) (Err cause.FieldCount)) (miscounted w (length fs) l)
    ∙ sym (ap (λ (t : Bool). cond t (read_opening w gs) (Err cause.FieldCount)) (miscounted w (length gs) m))

network_over : (v : Version) (net : Net) (o : Option Word) (fs gs : List (List ℕ)) → 4 < length fs → 4 < length gs
    → network_line v net o fs ≡ network_line v net o gs
network_over v net None fs gs l m = refl
network_over v net (Some w) fs gs l m =
    ap (λ (t : Bool). cond t (line_in_network v net w fs) (Fails cause.FieldCount)) (miscounted w (length fs) l)
    ∙ sym (ap (λ (t : Bool). cond t (line_in_network v net w gs) (Fails cause.FieldCount)) (miscounted w (length gs) m))

pub few_fields : (s : Stage) (fs : List (List ℕ)) → fields_do s (take 6 fs) ≡ fields_do s fs
few_fields s [] = refl
few_fields s (a ∷ []) = refl
few_fields s (a ∷ b ∷ []) = refl
few_fields s (a ∷ b ∷ c ∷ []) = refl
few_fields s (a ∷ b ∷ c ∷ d ∷ []) = refl
few_fields s (a ∷ b ∷ c ∷ d ∷ e ∷ []) = refl
few_fields Start (a ∷ b ∷ c ∷ d ∷ e ∷ f ∷ fs) = refl
few_fields (Headed v) (a ∷ b ∷ c ∷ d ∷ e ∷ f ∷ fs) =
    ap (building v) (opening_over (word_in v a) (b ∷ c ∷ d ∷ e ∷ f ∷ []) (b ∷ c ∷ d ∷ e ∷ f ∷ fs) (omega arith) (omega arith))
few_fields (Building v net) (a ∷ b ∷ c ∷ d ∷ e ∷ f ∷ fs) =
    network_over v net (word_in v a) (b ∷ c ∷ d ∷ e ∷ f ∷ []) (b ∷ c ∷ d ∷ e ∷ f ∷ fs) (omega arith) (omega arith)

-- a line by its first six fields
pub line_by_fields : (next : Next) (after s : Stage) (line : List ℕ) (texts : List (List ℕ)) → is_skipped line ≡ false → is_text line ≡ true
    → texts ≡ take 6 (fields line) → Takes next after (fields_do s texts) → Takes next after (line_does s line)
line_by_fields next after s line texts kept text cut is =
    let same : fields_do s texts ≡ line_does s line =
    ap (fields_do s) cut ∙ few_fields s (fields line)
    ∙ sym (ap (λ (t : Bool). cond t (Goes s) (cond (is_text line) (fields_do s (fields line)) (Fails cause.NotText))) kept
    ∙ ap (λ (t : Bool). cond t (fields_do s (fields line)) (Fails cause.NotText)) text) in
    subst (Takes next after) same is
