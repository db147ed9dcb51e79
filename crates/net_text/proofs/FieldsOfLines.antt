-- A written line is read as its fields.
use Rattle.std.proofs.Common.{◌≡◌, ℕ, ◌-◌, ◌<◌, Bool, true, false, not, ◌&&◌, ◌==◌, nat_le, List, [], ◌∷◌, ◌++◌, length, get_or, take, filter, cond, refl, ap, ◌∙◌, arith, if◌then◌else◌}
use Rattle.std.specs.List.{All, AllByRecursion, list_all, slice_split}
use Rattle.std.proofs.lemmas.Bool.{and_parts, and_from, ne_eqb}
use Rattle.std.proofs.lemmas.Bool.Decides.{nat_tests}
use Rattle.std.proofs.lemmas.List.{append-nil}
use Rattle.std.proofs.lemmas.List.Folds.{list_all-append}
use Rattle.std.proofs.lemmas.List.Splits.{slice_split_none, slice_split_at}
use Rattle.std.proofs.lemmas.List.Sums.{AllPass-from_list_all}
use Rattle.net_text.specs.Fields.{is_blank, is_filled, fields}
use Rattle.net_text.specs.Lines.{line_of, is_text_byte, is_text, is_skipped}
use Rattle.net_text.specs.Networks.{fields_do, line_does}
use Rattle.net_text.specs.declared.stage.Stage.{Stage}
use Rattle.net_text.specs.Networks.Step.{Goes, Fails}
use Rattle.net_text.specs.declared.cause.TextCause.TheVariants as cause
use Rattle.net_text.specs.Plain.{spaced}

-- a printable byte that is no space
abbrev pub is_solid : ℕ → Bool
is_solid b = nat_le 33 b && nat_le b 126

-- a field: solid bytes, of which it has some
pub record IsField (f : List ℕ) : Type 0 where
  pub filled : is_filled f ≡ true
  pub solid : list_all is_solid f ≡ true

pub filled_from_length : (f : List ℕ) → 0 < length f → is_filled f ≡ true
filled_from_length f h = ap not (ne_eqb (length f) 0 (omega arith))

pub list_all_weaker : (p q : ℕ → Bool) → ((b : ℕ) → p b ≡ true → q b ≡ true) → (bs : List ℕ) → list_all p bs ≡ true → list_all q bs ≡ true
list_all_weaker p q weaker [] h = refl
list_all_weaker p q weaker (b ∷ bs) h =
    let parts = and_parts (p b) (list_all p bs) h in
    and_from (q b) (list_all q bs) (weaker b parts.0) (list_all_weaker p q weaker bs parts.1)

-- where all bytes pass one test, none passes a test that excludes it
pub none_passes : (p q : ℕ → Bool) → ((b : ℕ) → p b ≡ true → q b ≡ false) → (bs : List ℕ) → list_all p bs ≡ true → All (λ b. q b ≡ false) bs
none_passes p q excludes bs h = λ k d lt. excludes (get_or bs k d) (AllPass-from_list_all p bs h k d lt)

solid_no_blank : (b : ℕ) → is_solid b ≡ true → is_blank b ≡ false
solid_no_blank b h = grind (arith, nat_tests)

solid_text : (b : ℕ) → is_solid b ≡ true → is_text_byte b ≡ true
solid_text b h = grind (arith, nat_tests)

pub text_no_feed : (b : ℕ) → is_text_byte b ≡ true → (b == 10) ≡ false
text_no_feed b h = grind (arith, nat_tests)

text_no_return : (b : ℕ) → is_text_byte b ≡ true → (b == 13) ≡ false
text_no_return b h = grind (arith, nat_tests)

-- fields with one space before each are cut where they were joined
split_spaced : (w : List ℕ) (fs : List (List ℕ)) → IsField w → AllByRecursion IsField fs → slice_split is_blank (w ++ spaced fs) ≡ w ∷ fs
split_spaced w [] h hs =
    ap (slice_split is_blank) (append-nil w) ∙ slice_split_none is_blank w (none_passes is_solid is_blank solid_no_blank w h.solid)
split_spaced w (f ∷ fs) h hs =
    slice_split_at is_blank w 32 (f ++ spaced fs) (none_passes is_solid is_blank solid_no_blank w h.solid) refl
    ∙ ap (λ l. w ∷ l) (split_spaced f fs hs.0 hs.1)

filled_kept : (fs : List (List ℕ)) → AllByRecursion IsField fs → filter is_filled fs ≡ fs
filled_kept [] hs = refl
filled_kept (f ∷ fs) hs = ap (λ b. cond b (f ∷ filter is_filled fs) (filter is_filled fs)) hs.0.filled ∙ ap (λ l. f ∷ l) (filled_kept fs hs.1)

pub fields_spaced : (w : List ℕ) (fs : List (List ℕ)) → IsField w → AllByRecursion IsField fs → fields (w ++ spaced fs) ≡ w ∷ fs
fields_spaced w fs h hs = ap (filter is_filled) (split_spaced w fs h hs) ∙ filled_kept (w ∷ fs) (h, hs)

text_spaced : (fs : List (List ℕ)) → AllByRecursion IsField fs → is_text (spaced fs) ≡ true
text_spaced [] hs = refl
text_spaced (f ∷ fs) hs =
    list_all-append is_text_byte f (spaced fs)
    ∙ and_from (is_text f) (is_text (spaced fs)) (list_all_weaker is_solid is_text_byte solid_text f hs.0.solid) (text_spaced fs hs.1)

pub text_line : (w : List ℕ) (fs : List (List ℕ)) → IsField w → AllByRecursion IsField fs → is_text (w ++ spaced fs) ≡ true
text_line w fs h hs =
    list_all-append is_text_byte w (spaced fs)
    ∙ and_from (is_text w) (is_text (spaced fs)) (list_all_weaker is_solid is_text_byte solid_text w h.solid) (text_spaced fs hs)

-- no carriage return ends a text that has none
pub line_of_text : (l : List ℕ) → is_text l ≡ true → line_of l ≡ l
line_of_text [] h = refl
line_of_text (b ∷ bs) h =
    ap (λ t. if t then take (length (b ∷ bs) - 1) (b ∷ bs) else (b ∷ bs))
    (none_passes is_text_byte (λ c. c == 13) text_no_return (b ∷ bs) h (length (b ∷ bs) - 1) 0 (omega arith))

-- what a written line does is what its fields do
pub line_does_fields : (s : Stage) (w : List ℕ) (fs : List (List ℕ)) → IsField w → AllByRecursion IsField fs → is_skipped (w ++ spaced fs) ≡ false
    → line_does s (w ++ spaced fs) ≡ fields_do s (w ∷ fs)
line_does_fields s w fs h hs word =
    ap (λ b. if b then Goes s else (if is_text (w ++ spaced fs) then fields_do s (fields (w ++ spaced fs)) else Fails cause.NotText)) word
    ∙ ap (λ b. if b then fields_do s (fields (w ++ spaced fs)) else Fails cause.NotText) (text_line w fs h hs)
    ∙ ap (fields_do s) (fields_spaced w fs h hs)
