-- A line that is written plainly: fields of bytes from `$` to `~` with one space between them, and a line feed.
use Rattle.std.proofs.Common.{◌≡◌, ℕ, ◌+◌, ◌-◌, ◌<◌, ◌≤◌, true, false, ◌==◌, List, [], ◌∷◌, ◌++◌, length, get_or, set, take, drop, refl, sym, ap, ◌∙◌, arith, subst, length-append, if◌then◌else◌}
use denote.Ref.{Bor}
use Rattle.std.specs.List.{AllByRecursion, list_all}
use Rattle.std.proofs.lemmas.Bool.{false≢true, and_parts}
use Rattle.std.proofs.lemmas.Bool.Decides.{nat_tests}
use Rattle.std.proofs.lemmas.List.{append_assoc, map-append, take_more_set, take-append-drop, drop_at, drop_more, flat_map_more, length-take-le}
use Rattle.net_text.specs.Fields.{is_blank, is_filled}
use Rattle.net_text.specs.Lines.{is_skipped, lines}
use Rattle.net_text.specs.Plain.{spaced}
use Rattle.net_text.specs.Scans.{is_plain, IsScanned, IsCut}
use Rattle.net_text.proofs.FieldsOfLines.{is_solid, IsField, filled_from_length, list_all_weaker, fields_spaced, text_line}
use Rattle.net_text.proofs.LinesRead.{lines_feed}
use Rattle.net_text.proofs.Takes.{texts}

-- a field of plain bytes
pub record IsPlain (f : List ℕ) : Type 0 where
  pub filled : is_filled f ≡ true
  pub plain : list_all is_plain f ≡ true

plain_solid : (b : ℕ) → is_plain b ≡ true → is_solid b ≡ true
plain_solid b h = grind (arith, nat_tests)

plain_no_blank : (b : ℕ) → is_plain b ≡ true → is_blank b ≡ false
plain_no_blank b h = grind (arith, nat_tests)

plain_no_comment : (b : ℕ) → is_plain b ≡ true → (b == 35) ≡ false
plain_no_comment b h = grind (arith, nat_tests)

plain_field : (f : List ℕ) → IsPlain f → IsField f
plain_field f h = record { filled = h.filled; solid = list_all_weaker is_plain is_solid plain_solid f h.plain }

plain_fields : (fs : List (List ℕ)) → AllByRecursion IsPlain fs → AllByRecursion IsField fs
plain_fields [] hs = tt
plain_fields (f ∷ fs) hs = (plain_field f hs.0, plain_fields fs hs.1)

plain_push : (fs : List (List ℕ)) (f : List ℕ) → AllByRecursion IsPlain fs → IsPlain f → AllByRecursion IsPlain (fs ++ f ∷ [])
plain_push [] f hs h = (h, tt)
plain_push (g ∷ fs) f hs h = (hs.0, plain_push fs f hs.1 h)

-- a plain field begins no comment
unskipped : (f more : List ℕ) → IsPlain f → is_skipped (f ++ more) ≡ false
unskipped [] more h = absurd (false≢true h.filled)
unskipped (b ∷ bs) more h =
    let plain = (and_parts (is_plain b) (list_all is_plain bs) h.plain).0 in
    ap (λ t. if t then is_skipped (bs ++ more) else (b == 35)) (plain_no_blank b plain) ∙ plain_no_comment b plain

-- what was cut off so far are these fields, each with a space after it
pub record IsSoFar (bytes rest : List ℕ) (fs : List (List ℕ)) : Type 0 where
  pub written : 32 ∷ bytes ≡ spaced fs ++ 32 ∷ rest
  pub plain : AllByRecursion IsPlain fs

pub begun : (bytes : List ℕ) → IsSoFar bytes bytes []
begun bytes = record { written = refl; plain = tt }

-- a field more, with what ends it
one_more : (bytes rest left : List ℕ) (fs : List (List ℕ)) (f : List ℕ) (b : ℕ) → 32 ∷ bytes ≡ spaced fs ++ 32 ∷ rest → rest ≡ f ++ b ∷ left
    → 32 ∷ bytes ≡ spaced (fs ++ f ∷ []) ++ b ∷ left
one_more bytes rest left fs f b so is =
    so ∙ ap (λ (xs : List ℕ). spaced fs ++ 32 ∷ xs) is
    ∙ sym (append_assoc (spaced fs) (32 ∷ f) (b ∷ left))
    ∙ ap (λ (xs : List ℕ). xs ++ b ∷ left) (flat_map_more (λ (x : List ℕ). 32 ∷ x) [] fs f)

pub goes_on : (bytes rest left : List ℕ) (fs : List (List ℕ)) (f : List ℕ) → IsSoFar bytes rest fs → IsPlain f → rest ≡ f ++ 32 ∷ left
    → IsSoFar bytes left (fs ++ f ∷ [])
goes_on bytes rest left fs f so plain is =
    record { written = one_more bytes rest left fs f 32 so.written is; plain = plain_push fs f so.plain plain }

closed : (bytes left : List ℕ) (fs : List (List ℕ)) → 0 < length fs → AllByRecursion IsPlain fs → 32 ∷ bytes ≡ spaced fs ++ 10 ∷ left → IsScanned bytes left fs
closed bytes left [] some plain is = absurd (omega arith)
closed bytes left (w ∷ more) some plain is =
    let whole : bytes ≡ (w ++ spaced more) ++ 10 ∷ left = cc in
    record {
      line = w ++ spaced more;
      whole = whole;
      has = record {
        unskipped = unskipped w (spaced more) plain.0;
        text = text_line w more (plain_field w plain.0) (plain_fields more plain.1);
        fields = fields_spaced w more (plain_field w plain.0) (plain_fields more plain.1);
      };
    }

pub ends : (bytes rest left : List ℕ) (fs : List (List ℕ)) (f : List ℕ) → IsSoFar bytes rest fs → IsPlain f → rest ≡ f ++ 10 ∷ left
    → IsScanned bytes left (fs ++ f ∷ [])
ends bytes rest left fs f so plain is =
    closed bytes left (fs ++ f ∷ []) (omega (arith, length-append fs (f ∷ []))) (plain_push fs f so.plain plain)
    (one_more bytes rest left fs f 10 so.written is)

-- what was put into the room
pub put : (room : List (Bor (List ℕ))) (i : ℕ) (t : Bor (List ℕ)) → i < length room → texts (take (i + 1) (set room i t)) ≡ texts (take i room) ++ t.now ∷ []
put room i t lt = ap texts (take_more_set room i t lt) ∙ map-append (λ (f : Bor (List ℕ)). f.now) (take i room) (t ∷ [])

-- a plain front that is not empty is a field
pub front_plain : (rest : List ℕ) (n : ℕ) → 0 < n → n ≤ length rest → list_all is_plain (take n rest) ≡ true → IsPlain (take n rest)
front_plain rest n some fits plain =
    record { filled = filled_from_length (take n rest) (omega (arith, length-take-le n rest fits)); plain = plain }

-- a text is cut at a byte of it
pub cut_at : (rest : List ℕ) (n b : ℕ) → n < length rest → get_or rest n 0 ≡ b → rest ≡ take n rest ++ b ∷ drop (n + 1) rest
cut_at rest n b lt is =
    sym (take-append-drop n rest)
    ∙ ap (λ (xs : List ℕ). take n rest ++ xs) (drop_more rest n 0 lt)
    ∙ ap (λ (x : ℕ). take n rest ++ x ∷ drop (n + 1) rest) is

-- the last field of a line
pub last_field : (bytes rest left : List ℕ) (room : List (Bor (List ℕ))) (i n : ℕ) (t : Bor (List ℕ)) → i < length room
    → IsSoFar bytes rest (texts (take i room)) → 0 < n → n < length rest → list_all is_plain (take n rest) ≡ true → t.now ≡ take n rest
    → get_or rest n 0 ≡ 10 → left ≡ drop (n + 1) rest → IsScanned bytes left (texts (take (i + 1) (set room i t)))
last_field bytes rest left room i n t in_room so some fits plain is feed after =
    let cut : rest ≡ t.now ++ 10 ∷ left =
    cut_at rest n 10 fits feed ∙ ap (λ (x : List ℕ). x ++ 10 ∷ drop (n + 1) rest) (sym is) ∙ ap (λ (x : List ℕ). t.now ++ 10 ∷ x) (sym after) in
    let field : IsPlain t.now = subst IsPlain (sym is) (front_plain rest n some (omega arith) plain) in
    subst (IsScanned bytes left) (sym (put room i t in_room)) (ends bytes rest left (texts (take i room)) t.now so field cut)

-- a line that was cut was taken
pub cut_from : (bytes rest : List ℕ) (used count : ℕ) (fs : List (List ℕ)) → IsScanned bytes rest fs
    → IsCut bytes used count fs rest (used + (length bytes - length rest)) (count + 1)
cut_from bytes rest used count fs h =
    let size : length bytes ≡ length h.line + 1 + length rest = omega (arith, ap length h.whole, length-append h.line (10 ∷ rest)) in
    let left : drop (length h.line + 1) bytes ≡ rest =
    ap (drop (length h.line + 1)) (h.whole ∙ sym (append_assoc h.line (10 ∷ []) rest))
    ∙ drop_at (h.line ++ 10 ∷ []) rest (length h.line + 1) (length-append h.line (10 ∷ [])) in
    let split : lines bytes ≡ record { text = h.line; size = length h.line + 1 } ∷ lines rest = ap lines h.whole ∙ lines_feed h.line rest h.has.text in
    record {
      line = h.line;
      taken = record {
        size = length h.line + 1;
        first = record { fits = omega arith; moves = omega arith; splits = cc };
        drops = sym left;
        uses = omega arith;
        one_more = refl;
      };
      has = h.has;
    }
