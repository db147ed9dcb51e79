-- The prefix of a text that was read is read by itself.
use Rattle.std.proofs.Common.{◌≡◌, ℕ, zero, suc, ◌+◌, ◌≤◌, ◌==◌, Bool, true, false, cond, ◌⊎◌, inl, inr, List, [], ◌∷◌, ◌++◌, length, take, Result, Ok, refl, sym, ◌∙◌, ap, arith, length-append}
use Rattle.std.specs.List.{onto_first}
use Rattle.std.proofs.lemmas.Bool.Decides.{nat_tests}
use Rattle.std.proofs.lemmas.List.{take_all, append-nil, length-take-le}
use Rattle.std.proofs.lemmas.List.Splits.{slice_split-cons_no}
use Rattle.std.proofs.Math.Seq.{take-append-add}
use Rattle.net_text.specs.declared.cause.TextError.{TextError}
use Rattle.net_text.specs.declared.read.NetRead.{NetRead}
use Rattle.net_text.specs.declared.stage.Stage.{Stage}
use Rattle.net_text.specs.declared.stage.Stage.TheVariants.{Start}
use Rattle.net_text.specs.Lines.{parts, line_of, lines_of, lines, Sized}
use Rattle.net_text.specs.Networks.{Step, line_does, conclude, read_from, text_of}
use Rattle.net_text.specs.Networks.Step.{Goes, Ends, Fails}
use Rattle.net_text.specs.Laws.{PrefixIsRead}
use Rattle.net_text.proofs.Parts.{lines_before}
use Rattle.net_text.proofs.UsedLines.{Cut, nothing_after_is_read}

abbrev is_feed : ℕ → Bool
is_feed b = b == 10

-- bytes have no line feed, or are cut at their first one
pub cut_or_whole : (bytes : List ℕ) → (parts bytes ≡ bytes ∷ []) ⊎ Cut bytes
cut_or_whole [] = inl refl
cut_or_whole (b ∷ bs) =
    (elim (is_feed b) as (λ t. is_feed b ≡ t → (parts (b ∷ bs) ≡ (b ∷ bs) ∷ []) ⊎ Cut (b ∷ bs)) [
      | true ↦ λ e.
          let same : b ≡ 10 = grind (arith, nat_tests) in
          inr (record { line = []; left = bs; is = ap (λ (x : ℕ). x ∷ bs) same; splits = λ more. refl })
      | false ↦ λ e.
          elim (cut_or_whole bs) [
            | inl one ↦ inl (slice_split-cons_no is_feed b bs e ∙ ap (onto_first b) one)
            | inr rest ↦ inr (record {
              line = b ∷ rest.line;
              left = rest.left;
              is = ap (λ (xs : List ℕ). b ∷ xs) rest.is;
              splits = λ more. slice_split-cons_no is_feed b (rest.line ++ 10 ∷ more) e ∙ ap (onto_first b) (rest.splits more);
            })
          ]
    ]) refl

-- so many bytes are read by themselves, and have so many lines
record Prefix (bytes : List ℕ) (s : Stage) (n u : ℕ) (r : NetRead) : Type 0 where
  size : ℕ
  fits : size ≤ length bytes
  used : r.used ≡ u + size
  alike : read_from s n u (lines (take size bytes)) ≡ Ok r
  counted : n + length (lines (take size bytes)) ≡ r.lines + 1

-- the answer of a line after which nothing is read
ended_by : (d : Step) (n k : ℕ) (f : Stage → Result NetRead TextError) (r : NetRead) → ((t : Stage) → f t ≡ Ok r → ⊥) → conclude d n k f ≡ Ok r
    → (r.used ≡ k) × (r.lines ≡ n)
ended_by (Goes t) n k f r nothing e = absurd (nothing t e)
ended_by (Ends net) n k f r nothing e =
    let is : record { net = net; used = k; lines = n } ≡ r = cc in
    (sym (ap (λ (x : NetRead). x.used) is), sym (ap (λ (x : NetRead). x.lines) is))
ended_by (Fails c) n k f r nothing e = absurd (cc)

whole_read : (bytes : List ℕ) (s : Stage) (n u : ℕ) (r : NetRead) → parts bytes ≡ bytes ∷ [] → read_from s n u (lines bytes) ≡ Ok r → Prefix bytes s n u r
whole_read bytes s n u r one e =
    let lone : List Sized = record { text = line_of bytes; size = length bytes } ∷ [] in
    let all : take (length bytes) bytes ≡ bytes = take_all (length bytes) bytes (omega arith) in
    let same : lines (take (length bytes) bytes) ≡ lines bytes = ap lines all in
    let from : read_from s n u (lines_of (bytes ∷ [])) ≡ Ok r = ap (λ (ps : List (List ℕ)). read_from s n u (lines_of ps)) (sym one) ∙ e in
    (elim (length (line_of bytes) == 0) as (λ t. read_from s n u (cond t [] lone) ≡ Ok r → lines bytes ≡ cond t [] lone → Prefix bytes s n u r) [
      | true ↦ λ h l. absurd (cc)
      | false ↦ λ h l.
          let at = ended_by (line_does s (line_of bytes)) n (u + length bytes) (λ t. read_from t (n + 1) (u + length bytes) []) r (λ t k. absurd (cc)) h in
          let one_line : length (lines (take (length bytes) bytes)) ≡ 1 = ap length (same ∙ l) in
          record { size = length bytes; fits = omega arith; used = at.0; alike = ap (read_from s n u) same ∙ e; counted = omega (arith, at.1, one_line) }
    ]) from (ap lines_of one)

-- after one line, so many bytes more are read
record Onward (d : Step) (n k : ℕ) (left : List ℕ) (r : NetRead) : Type 0 where
  more : ℕ
  fits : more ≤ length left
  used : r.used ≡ k + more
  alike : conclude d n k (λ t. read_from t (n + 1) k (lines (take more left))) ≡ Ok r
  counted : n + 1 + length (lines (take more left)) ≡ r.lines + 1

onward : (d : Step) (n k : ℕ) (left : List ℕ) (r : NetRead) → ((t : Stage) → read_from t (n + 1) k (lines left) ≡ Ok r → Prefix left t (n + 1) k r)
    → conclude d n k (λ t. read_from t (n + 1) k (lines left)) ≡ Ok r → Onward d n k left r
onward (Goes t) n k left r next e =
    let p = next t e in record { more = p.size; fits = p.fits; used = p.used; alike = p.alike; counted = p.counted }
onward (Ends net) n k left r next e =
    let is : record { net = net; used = k; lines = n } ≡ r = cc in
    let used : k ≡ r.used = ap (λ (x : NetRead). x.used) is in
    let count : n ≡ r.lines = ap (λ (x : NetRead). x.lines) is in
    record { more = 0; fits = omega arith; used = omega arith; alike = e; counted = omega arith }
onward (Fails c) n k left r next e = absurd (cc)

-- so many bytes of a text are its first line, its line feed and what was taken of the rest
pub taken_after : (line left : List ℕ) (m : ℕ) → take (length line + 1 + m) (line ++ 10 ∷ left) ≡ line ++ 10 ∷ take m left
taken_after line left m =
    let more : length line + 1 + m ≡ length line + suc m = omega arith in
    ap (λ (k : ℕ). take k (line ++ 10 ∷ left)) more ∙ take-append-add line (10 ∷ left) (suc m)

pub lines_fed : (bytes : List ℕ) (c : Cut bytes) (more : List ℕ)
    → lines (c.line ++ 10 ∷ more) ≡ record { text = line_of c.line; size = length c.line + 1 } ∷ lines more
lines_fed bytes c more = ap lines_of (c.splits more) ∙ lines_before c.line more

cut_read : (bytes : List ℕ) (c : Cut bytes) (s : Stage) (n u : ℕ) (r : NetRead)
    → ((t : Stage) (k : ℕ) → read_from t (n + 1) k (lines c.left) ≡ Ok r → Prefix c.left t (n + 1) k r)
    → read_from s n u (lines bytes) ≡ Ok r → Prefix bytes s n u r
cut_read bytes c s n u r next e =
    let k : ℕ = u + (length c.line + 1) in
    let long : length bytes ≡ length c.line + length (10 ∷ c.left) = ap length c.is ∙ length-append c.line (10 ∷ c.left) in
    let on = onward (line_does s (line_of c.line)) n k c.left r (λ t q. next t k q)
    (sym (ap (λ (bs : List ℕ). read_from s n u (lines bs)) c.is ∙ ap (read_from s n u) (lines_fed bytes c c.left)) ∙ e) in
    let size : ℕ = length c.line + 1 + on.more in
    let taken : take size bytes ≡ c.line ++ 10 ∷ take on.more c.left = ap (take size) c.is ∙ taken_after c.line c.left on.more in
    let split : lines (take size bytes) ≡ record { text = line_of c.line; size = length c.line + 1 } ∷ lines (take on.more c.left) =
    ap lines taken ∙ lines_fed bytes c (take on.more c.left) in
    let many : length (lines (take size bytes)) ≡ suc (length (lines (take on.more c.left))) = ap length split in
    let used : r.used ≡ k + on.more = on.used in
    let count : n + 1 + length (lines (take on.more c.left)) ≡ r.lines + 1 = on.counted in
    let more : on.more ≤ length c.left = on.fits in
    record { size = size; fits = omega arith; used = omega arith; alike = ap (read_from s n u) split ∙ on.alike; counted = omega arith }

left_shorter : (bytes : List ℕ) (c : Cut bytes) (fuel : ℕ) → length bytes ≤ suc fuel → length c.left ≤ fuel
left_shorter bytes c fuel few =
    let long : length bytes ≡ length c.line + length (10 ∷ c.left) = ap length c.is ∙ length-append c.line (10 ∷ c.left) in omega arith

-- A PREFIX BY ITSELF. The text is cut at its first line feed into a line and the bytes after it. If the line ends the network, the line with
-- its line feed is the prefix. If the text goes on, the bytes after it have such a prefix, and the line stands before that. A text without a
-- line feed is one line, and its own prefix.
prefix_from : (fuel : ℕ) (bytes : List ℕ) (s : Stage) (n u : ℕ) (r : NetRead)
    → length bytes ≤ fuel → read_from s n u (lines bytes) ≡ Ok r → Prefix bytes s n u r
prefix_from zero [] s n u r few e = absurd (cc)
prefix_from zero (b ∷ bs) s n u r few e = absurd (omega arith)
prefix_from (suc fuel) bytes s n u r few e =
    elim (cut_or_whole bytes) [
      | inl one ↦ whole_read bytes s n u r one e
      | inr c ↦ cut_read bytes c s n u r (λ t k q. prefix_from fuel c.left t (n + 1) k r (left_shorter bytes c fuel few) q) e
    ]

pub prefix_is_read : PrefixIsRead
prefix_is_read bytes r e =
    let p = prefix_from (length bytes) bytes Start 1 0 r (omega arith) e in
    let size : p.size ≡ r.used = let used : r.used ≡ 0 + p.size = p.used in omega arith in
    let fits : p.size ≤ length bytes = p.fits in
    let alike : text_of (take r.used bytes) ≡ Ok r = ap (λ k. text_of (take k bytes)) (sym size) ∙ p.alike in
    let long : length (take r.used bytes) ≡ r.used = length-take-le r.used bytes (omega arith) in
    record {
      fits = omega arith;
      alike = alike;
      counted =
          let count : 1 + length (lines (take p.size bytes)) ≡ r.lines + 1 = p.counted in
          let same = ap (λ k. length (lines (take k bytes))) size in omega arith;
      whatever = λ fed other.
          nothing_after_is_read (take r.used bytes) [] other r fed (ap text_of (append-nil (take r.used bytes)) ∙ alike) (sym long);
    }
