-- The prefix of a text that was read is a script by itself.
use Rattle.std.proofs.Common.{◌≡◌, ℕ, zero, suc, ◌+◌, ◌≤◌, ◌==◌, true, false, cond, inl, inr, List, [], ◌∷◌, ◌++◌, length, take, Result, Ok, sym, ◌∙◌, ap, arith, length-append}
use Rattle.std.proofs.lemmas.List.{take_all}
use Rattle.stn_model.specs.Net.{Net}
use Rattle.net_text.specs.declared.cause.TextError.{TextError}
use Rattle.net_text.specs.Lines.{parts, line_of, lines_of, lines, Sized}
use Rattle.net_text.proofs.UsedLines.{Cut}
use Rattle.net_text.proofs.ReadPrefix.{cut_or_whole, taken_after, lines_fed}
use Rattle.script_text.specs.declared.read.ScriptRead.{ScriptRead}
use Rattle.script_text.specs.Scripts.{Reading, Step, beginning, line_does, conclude, read_from, script_of}
use Rattle.script_text.specs.Scripts.Step.{Goes, Ends, Fails}
use Rattle.script_text.specs.Laws.{PrefixIsRead}
use Rattle.script_text.proofs.Feeds.{fed_alike}

-- so many bytes are read by themselves, and have so many lines
record Prefix (net : Net) (first : ℕ) (bytes : List ℕ) (s : Reading) (n u : ℕ) (r : ScriptRead) : Type 0 where
  size : ℕ
  fits : size ≤ length bytes
  used : r.used ≡ u + size
  alike : read_from net s first n u (lines (take size bytes)) ≡ Ok r
  counted : n + length (lines (take size bytes)) ≡ r.lines

-- the answer of a line after which nothing is read
ended_by : (d : Step) (number n k : ℕ) (f : Reading → Result ScriptRead TextError) (r : ScriptRead) → ((t : Reading) → f t ≡ Ok r → ⊥)
    → conclude d number n k f ≡ Ok r → (r.used ≡ k) × (r.lines ≡ n)
ended_by (Goes t) number n k f r nothing e = absurd (nothing t e)
ended_by (Ends cs) number n k f r nothing e =
    let is : record { script = cs; used = k; lines = n } ≡ r = cc in
    (sym (ap (λ (x : ScriptRead). x.used) is), sym (ap (λ (x : ScriptRead). x.lines) is))
ended_by (Fails c) number n k f r nothing e = absurd (cc)

whole_read : (net : Net) (first : ℕ) (bytes : List ℕ) (s : Reading) (n u : ℕ) (r : ScriptRead) → parts bytes ≡ bytes ∷ []
    → read_from net s first n u (lines bytes) ≡ Ok r → Prefix net first bytes s n u r
whole_read net first bytes s n u r one e =
    let lone : List Sized = record { text = line_of bytes; size = length bytes } ∷ [] in
    let all : take (length bytes) bytes ≡ bytes = take_all (length bytes) bytes (omega arith) in
    let same : lines (take (length bytes) bytes) ≡ lines bytes = ap lines all in
    let from : read_from net s first n u (lines_of (bytes ∷ [])) ≡ Ok r =
    ap (λ (ps : List (List ℕ)). read_from net s first n u (lines_of ps)) (sym one) ∙ e in
    (elim (length (line_of bytes) == 0)
    as (λ t. read_from net s first n u (cond t [] lone) ≡ Ok r → lines bytes ≡ cond t [] lone → Prefix net first bytes s n u r) [
      | true ↦ λ h l. absurd (cc)
      | false ↦ λ h l.
          let at =
          ended_by (line_does net s (line_of bytes)) (first + n) (n + 1) (u + length bytes) (λ t. read_from net t first (n + 1) (u + length bytes) []) r
          (λ t k. absurd (cc)) h in
          let one_line : length (lines (take (length bytes) bytes)) ≡ 1 = ap length (same ∙ l) in
          record {
            size = length bytes;
            fits = omega arith;
            used = at.0;
            alike = ap (read_from net s first n u) same ∙ e;
            counted = omega (arith, at.1, one_line);
          }
    ]) from (ap lines_of one)

-- after one line, so many bytes more are read
record Onward (net : Net) (first : ℕ) (d : Step) (n k : ℕ) (left : List ℕ) (r : ScriptRead) : Type 0 where
  more : ℕ
  fits : more ≤ length left
  used : r.used ≡ k + more
  alike : conclude d (first + n) (n + 1) k (λ t. read_from net t first (n + 1) k (lines (take more left))) ≡ Ok r
  counted : n + 1 + length (lines (take more left)) ≡ r.lines

onward : (net : Net) (first : ℕ) (d : Step) (n k : ℕ) (left : List ℕ) (r : ScriptRead)
    → ((t : Reading) → read_from net t first (n + 1) k (lines left) ≡ Ok r → Prefix net first left t (n + 1) k r)
    → conclude d (first + n) (n + 1) k (λ t. read_from net t first (n + 1) k (lines left)) ≡ Ok r → Onward net first d n k left r
onward net first (Goes t) n k left r next e =
    let p = next t e in record { more = p.size; fits = p.fits; used = p.used; alike = p.alike; counted = p.counted }
onward net first (Ends cs) n k left r next e =
    let is : record { script = cs; used = k; lines = n + 1 } ≡ r = cc in
    let used : k ≡ r.used = ap (λ (x : ScriptRead). x.used) is in
    let count : n + 1 ≡ r.lines = ap (λ (x : ScriptRead). x.lines) is in
    record { more = 0; fits = omega arith; used = omega arith; alike = e; counted = omega arith }
onward net first (Fails c) n k left r next e = absurd (cc)

cut_read : (net : Net) (first : ℕ) (bytes : List ℕ) (c : Cut bytes) (s : Reading) (n u : ℕ) (r : ScriptRead)
    → ((t : Reading) (k : ℕ) → read_from net t first (n + 1) k (lines c.left) ≡ Ok r → Prefix net first c.left t (n + 1) k r)
    → read_from net s first n u (lines bytes) ≡ Ok r → Prefix net first bytes s n u r
cut_read net first bytes c s n u r next e =
    let k : ℕ = u + (length c.line + 1) in
    let long : length bytes ≡ length c.line + length (10 ∷ c.left) = ap length c.is ∙ length-append c.line (10 ∷ c.left) in
    let on = onward net first (line_does net s (line_of c.line)) n k c.left r (λ t q. next t k q)
    (sym (ap (λ (bs : List ℕ). read_from net s first n u (lines bs)) c.is ∙ ap (read_from net s first n u) (lines_fed bytes c c.left)) ∙ e) in
    let size : ℕ = length c.line + 1 + on.more in
    let taken : take size bytes ≡ c.line ++ 10 ∷ take on.more c.left = ap (take size) c.is ∙ taken_after c.line c.left on.more in
    let split : lines (take size bytes) ≡ record { text = line_of c.line; size = length c.line + 1 } ∷ lines (take on.more c.left) =
    ap lines taken ∙ lines_fed bytes c (take on.more c.left) in
    let many : length (lines (take size bytes)) ≡ suc (length (lines (take on.more c.left))) = ap length split in
    let used : r.used ≡ k + on.more = on.used in
    let count : n + 1 + length (lines (take on.more c.left)) ≡ r.lines = on.counted in
    let more : on.more ≤ length c.left = on.fits in
    record { size = size; fits = omega arith; used = omega arith; alike = ap (read_from net s first n u) split ∙ on.alike; counted = omega arith }

left_shorter : (bytes : List ℕ) (c : Cut bytes) (fuel : ℕ) → length bytes ≤ suc fuel → length c.left ≤ fuel
left_shorter bytes c fuel few =
    let long : length bytes ≡ length c.line + length (10 ∷ c.left) = ap length c.is ∙ length-append c.line (10 ∷ c.left) in omega arith

-- A PREFIX BY ITSELF. The text is cut at its first line feed into a line and the bytes after it. If the line ends the script, the line with
-- its line feed is the prefix. If the script goes on, the bytes after it have such a prefix, and the line stands before that. A text without
-- a line feed is one line, and its own prefix.
prefix_from : (net : Net) (first fuel : ℕ) (bytes : List ℕ) (s : Reading) (n u : ℕ) (r : ScriptRead) → length bytes ≤ fuel
    → read_from net s first n u (lines bytes) ≡ Ok r → Prefix net first bytes s n u r
prefix_from net first zero [] s n u r few e = absurd (cc)
prefix_from net first zero (b ∷ bs) s n u r few e = absurd (omega arith)
prefix_from net first (suc fuel) bytes s n u r few e =
    elim (cut_or_whole bytes) [
      | inl one ↦ whole_read net first bytes s n u r one e
      | inr c ↦
          cut_read net first bytes c s n u r (λ t k q. prefix_from net first fuel c.left t (n + 1) k r (left_shorter bytes c fuel few) q) e
    ]

pub prefix_is_read : PrefixIsRead
prefix_is_read net first bytes r e =
    let p = prefix_from net first (length bytes) bytes (beginning net) 0 0 r (omega arith) e in
    let size : p.size ≡ r.used = let used : r.used ≡ 0 + p.size = p.used in omega arith in
    let fits : p.size ≤ length bytes = p.fits in
    let alike : script_of net first (take r.used bytes) ≡ Ok r = ap (λ k. script_of net first (take k bytes)) (sym size) ∙ p.alike in
    record {
      fits = omega arith;
      alike = alike;
      counted =
          let count : 0 + length (lines (take p.size bytes)) ≡ r.lines = p.counted in
          let same = ap (λ k. length (lines (take k bytes))) size in omega arith;
      whatever = λ fed other. fed_alike net first (take r.used bytes) other r fed alike;
    }
