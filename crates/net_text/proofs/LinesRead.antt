-- A text that begins with a written line is read by that line.
use Rattle.std.proofs.Common.{◌≡◌, ℕ, ◌+◌, ◌<◌, true, false, ◌==◌, List, [], ◌∷◌, ◌++◌, length, refl, sym, ap, ◌∙◌, arith, length-append}
use Rattle.std.specs.List.{AllByRecursion}
use Rattle.std.proofs.lemmas.List.{append_assoc}
use Rattle.std.proofs.lemmas.List.Splits.{slice_split_at, length-slice_split}
use Rattle.net_text.specs.declared.stage.Stage.{Stage}
use Rattle.net_text.specs.Lines.{parts, lines, lines_of, line_of, is_skipped, is_text, is_text_byte}
use Rattle.net_text.specs.Networks.{fields_do, conclude, read_from}
use Rattle.net_text.specs.Plain.{spaced, line}
use Rattle.net_text.proofs.FieldsOfLines.{IsField, none_passes, text_no_feed, text_line, line_of_text, line_does_fields}

-- a part that others follow is a line, with a line feed
lines_of_more : (part : List ℕ) (q : List (List ℕ)) → 0 < length q → lines_of (part ∷ q) ≡ record { text = line_of part; size = length part + 1 } ∷ lines_of q
lines_of_more part [] h = absurd (omega arith)
lines_of_more part (next ∷ more) h = refl

pub lines_feed : (l more : List ℕ) → is_text l ≡ true → lines (l ++ 10 ∷ more) ≡ record { text = l; size = length l + 1 } ∷ lines more
lines_feed l more text =
    ap lines_of (slice_split_at (λ b. b == 10) l 10 more (none_passes is_text_byte (λ b. b == 10) text_no_feed l text) refl)
    ∙ lines_of_more l (parts more) (omega (arith, length-slice_split (λ b. b == 10) more))
    ∙ ap (λ k. record { text = k; size = length l + 1 } ∷ lines more) (line_of_text l text)

pub length-line : (w : List ℕ) (fs : List (List ℕ)) → length (line w fs) ≡ length (w ++ spaced fs) + 1
length-line w fs = length-append (w ++ spaced fs) (10 ∷ [])

-- THE STEP OF READING. A written line is its word and its fields with one space before each, and then a line feed.
-- Fields have no line feed, so the first part of the text is that line, and more parts follow. The line has no
-- carriage return at its end, it is text, and its word begins no comment; blanks stand only where fields were
-- joined, so it is cut into the word and the fields again. So the text is read as its fields do, and reading goes
-- on after the line feed, one line and the line's length further.
pub read_line : (s : Stage) (n before : ℕ) (w : List ℕ) (fs : List (List ℕ)) (more : List ℕ)
    → IsField w → AllByRecursion IsField fs → is_skipped (w ++ spaced fs) ≡ false
    → read_from s n before (lines (line w fs ++ more))
    ≡ conclude (fields_do s (w ∷ fs)) n (before + length (line w fs)) (λ t. read_from t (n + 1) (before + length (line w fs)) (lines more))
read_line s n before w fs more h hs word =
    let l : List ℕ = w ++ spaced fs in
    ap (λ t. read_from s n before (lines t)) (append_assoc l (10 ∷ []) more)
    ∙ ap (read_from s n before) (lines_feed l more (text_line w fs h hs))
    ∙ ap (λ d. conclude d n (before + (length l + 1)) (λ t. read_from t (n + 1) (before + (length l + 1)) (lines more))) (line_does_fields s w fs h hs word)
    ∙ ap (λ u. conclude (fields_do s (w ∷ fs)) n (before + u) (λ t. read_from t (n + 1) (before + u) (lines more))) (sym (length-line w fs))
