-- What a line asks for is possible in the network: its points are there, and its arc may be added.
use Rattle.std.proofs.Common.{◌≡◌, ◌≢◌, ℕ, zero, suc, ◌+◌, ◌^◌, ◌<◌, ◌==◌, ◌&&◌, nat_le, nat_lt, ℤ, pos, negsuc, neg_ℤ, ◌∙◌, ◌≤ℤ◌, Bool, true, false, cond, List, [], ◌∷◌, length, Option, Some, None, Result, Ok, Err, IfOk, IfSome, refl, arith}
use Rattle.std.specs.List.{position}
use Rattle.std.specs.Option.{option_map}
use Rattle.std.specs.Str.{all_ascii_digits, bytes_eq}
use Rattle.std.specs.Str.Parse.{digits_value}
use Rattle.std.proofs.lemmas.Bool.{and_parts, leb-true, ltb-true}
use Rattle.std.proofs.lemmas.Bool.Decides.{nat_tests}
use Rattle.std.proofs.lemmas.Int.{ints}
use Rattle.std.proofs.lemmas.List.{length-map}
use Rattle.std.proofs.lemmas.List.Quantifiers.{position-Some}
use Rattle.stn_model.specs.declared.ids.PointId.{PointId}
use Rattle.stn_model.specs.Net.{Net, find_point, point_count, point_names}
use Rattle.stn_model.specs.Limits.{greatest_bound}
use Rattle.stn_model.specs.Refusals.{is_beyond}
use Rattle.stn_model.specs.Valid.{IsArcWithin}
use Rattle.net_text.specs.declared.cause.TextCause.{TextCause}
use Rattle.net_text.specs.declared.cause.TextCause.TheVariants as cause
use Rattle.net_text.specs.Fields.{fields}
use Rattle.net_text.specs.Lines.{is_skipped, is_text}
use Rattle.net_text.specs.Networks.{arc_between}
use Rattle.net_text.specs.Numbers.{magnitude_of, number_of}
use Rattle.script_text.specs.declared.line.Line.{Line}
use Rattle.script_text.specs.declared.line.Line.TheVariants as line
use Rattle.script_text.specs.declared.words.Word.{Word}
use Rattle.script_text.specs.declared.words.Word.TheVariants as word
use Rattle.script_text.specs.Words.{word_of}
use Rattle.script_text.specs.Possible.{IsTime}
use Rattle.net_text.proofs.Digits.{are_digits, digits_below}
use Rattle.script_text.specs.Lines.{and_then, arc_numbers, number_in, point_in, arc_number, arc_number_in, not_z, free_point_in, arc_allowed, arc_in, alone, prove_between, prove_line, choose_at, choose_line, withdraw_line, advance_line, do_line, arc_line, tighten_line, batch_arc_line, line_outside, line_inside, line_by_word, line_of, line_in}

and_then_is : {A B : Type 0} (P : A → Type 0) (Q : B → Type 0) (x : Result A TextCause) (next : A → Result B TextCause) → IfOk x P
    → ((a : A) → P a → IfOk (next a) Q) → IfOk (and_then x next) Q
and_then_is P Q (Ok a) next h k = k a h
and_then_is P Q (Err c) next h k = tt

-- a name that is found names a point of the network
position_is : (p : List ℕ → Bool) (xs : List (List ℕ)) (r : Option ℕ) → position p xs ≡ r → IfSome r (λ k. k < length xs)
position_is p xs None e = tt
position_is p xs (Some k) e = (position-Some p xs k [] e).0

shifted : (n m : ℕ) (r : Option ℕ) → m ≡ n → IfSome r (λ k. k < m) → IfSome (option_map (λ k. k + 1) r) (λ p. p < n + 1)
shifted n m None e h = tt
shifted n m (Some k) e h = omega arith

find_point_is : (net : Net) (name : List ℕ) → IfSome (find_point net name) (λ p. p < point_count net)
find_point_is net name =
    elim (bytes_eq name (122 ∷ [])) as
    (λ t. IfSome (cond t (Some 0) (option_map (λ k. k + 1) (position (bytes_eq name) (point_names net)))) (λ p. p < point_count net)) [
      | true ↦ omega arith
      | false ↦ shifted (length net.places) (length (point_names net)) (position (bytes_eq name) (point_names net))
          (length-map net.places (λ p. p.name)) (position_is (bytes_eq name) (point_names net) _ refl)
    ]

point_of_is : (net : Net) (r : Option ℕ) → IfSome r (λ p. p < point_count net)
    → IfOk {E = TextCause} (elim r [ None ↦ Err cause.NameUnknown | Some p ↦ Ok (record { 0 = p }) ]) (λ (p : PointId). p.0 < point_count net)
point_of_is net None h = tt
point_of_is net (Some p) h = h

point_in_is : (net : Net) (field : List ℕ) → IfOk (point_in net field) (λ p. p.0 < point_count net)
point_in_is net field = point_of_is net (find_point net field) (find_point_is net field)

-- a number in a text has at most 18 digits
abbrev pub IsShort : ℕ → Type 0
IsShort n = n < 10 ^ 18

magnitude_short : (ds : List ℕ) → IfSome (magnitude_of ds) IsShort
magnitude_short ds =
    (elim (nat_le 1 (length ds) && nat_le (length ds) 18 && all_ascii_digits ds)
    as (λ t. (nat_le 1 (length ds) && nat_le (length ds) 18 && all_ascii_digits ds) ≡ t → IfSome (cond t (Some (digits_value 10 ds)) None) IsShort) [
      | true ↦ λ e.
          let all = and_parts (nat_le 1 (length ds) && nat_le (length ds) 18) (all_ascii_digits ds) e in
          let few = and_parts (nat_le 1 (length ds)) (nat_le (length ds) 18) all.0 in
          digits_below ds (leb-true (length ds) 18 few.1) (are_digits ds ∙ all.1)
      | false ↦ λ e. tt
    ]) refl

positive_short : (r : Option ℕ) → IfSome r IsShort → IfSome (option_map pos r) IsTime
positive_short None h = tt
positive_short (Some n) h = h

negative_short : (r : Option ℕ) → IfSome r IsShort → IfSome (option_map (λ n. neg_ℤ (pos n)) r) IsTime
negative_short None h = tt
negative_short (Some zero) h = h
negative_short (Some (suc n)) h = h

number_short : (field : List ℕ) → IfSome (number_of field) IsTime
number_short [] = tt
number_short (b ∷ bs) =
    elim (b == 45)
    as (λ t. IfSome (cond t (option_map (λ n. neg_ℤ (pos n)) (magnitude_of bs)) (option_map pos (magnitude_of (b ∷ bs)))) IsTime) [
      | true ↦ negative_short (magnitude_of bs) (magnitude_short bs)
      | false ↦ positive_short (magnitude_of (b ∷ bs)) (magnitude_short (b ∷ bs))
    ]

number_in_is : (field : List ℕ) → IfOk (number_in field) IsTime
number_in_is field = found (number_of field) (number_short field)
  where
    found : (r : Option ℤ) → IfSome r IsTime → IfOk {E = TextCause} (elim r [ None ↦ Err cause.NumberBad | Some n ↦ Ok n ]) IsTime
    found None h = tt
    found (Some n) h = h

arc_number_is : (n : ℤ) → IfOk (arc_number n) (λ k. k < arc_numbers)
arc_number_is (pos n) =
    (elim (nat_lt n arc_numbers) as (λ t. nat_lt n arc_numbers ≡ t → IfOk {E = TextCause} (cond t (Ok n) (Err cause.NumberBad)) (λ k. k < arc_numbers)) [
      | true ↦ λ e. ltb-true n arc_numbers e
      | false ↦ λ e. tt
    ]) refl
arc_number_is (negsuc n) = tt

arc_number_in_is : (field : List ℕ) → IfOk (arc_number_in field) (λ k. k < arc_numbers)
arc_number_in_is field = and_then_is IsTime (λ k. k < arc_numbers) (number_in field) arc_number (number_in_is field) (λ n h. arc_number_is n)

low_of : (b : ℤ) → is_beyond b ≡ false → neg_ℤ (pos greatest_bound) ≤ℤ b
low_of b e = grind (arith, ints)

high_of : (b : ℤ) → is_beyond b ≡ false → b ≤ℤ pos greatest_bound
high_of b e = grind (arith, ints)

different_of : (i j : ℕ) → (i == j) ≡ false → i ≢ j
different_of i j e = grind (arith, nat_tests)

arc_allowed_is : (n : ℕ) (b : ℤ) (i j : PointId) → i.0 < n → j.0 < n → IfOk (arc_allowed b i j) (IsArcWithin n)
arc_allowed_is n b i j from to =
    (elim (i.0 == j.0) as
    (λ t. (i.0 == j.0) ≡ t → IfOk (cond t (Err cause.SamePoint) (cond (is_beyond b) (Err cause.BoundRange) (Ok (arc_between i.0 j.0 b)))) (IsArcWithin n)) [
      | true ↦ λ e. tt
      | false ↦ λ e. (elim (is_beyond b) as
          (λ t. is_beyond b ≡ t → IfOk {E = TextCause} (cond t (Err cause.BoundRange) (Ok (arc_between i.0 j.0 b))) (IsArcWithin n)) [
            | true ↦ λ f. tt
            | false ↦ λ f. record { starts = from; ends = to; different = different_of i.0 j.0 e; low = low_of b f; high = high_of b f }
          ]) refl
    ]) refl

arc_in_is : (net : Net) (from to bound : List ℕ) → IfOk (arc_in net from to bound) (IsArcWithin (point_count net))
arc_in_is net from to bound =
    and_then_is IsTime (IsArcWithin (point_count net)) (number_in bound) _ (number_in_is bound) (λ b _.
    and_then_is (λ p. p.0 < point_count net) (IsArcWithin (point_count net)) (point_in net from) _ (point_in_is net from) (λ i low.
    and_then_is (λ p. p.0 < point_count net) (IsArcWithin (point_count net)) (point_in net to) _ (point_in_is net to) (λ j high.
    arc_allowed_is (point_count net) b i j low high)))

-- what is true of what a line asks for, inside a batch or outside one
abbrev pub IsLineOf : Net → Bool → Line → Type 0
IsLineOf net inside line.Nothing = Unit {0}
IsLineOf net inside line.Bounds = Unit {0}
IsLineOf net inside line.Windows = Unit {0}
IsLineOf net inside (line.Prove from to) = (from.0 < point_count net) × (to.0 < point_count net) × (from.0 ≢ to.0)
IsLineOf net inside (line.Tighten arc) = IsArcWithin (point_count net) arc
IsLineOf net inside line.BeginBatch = inside ≡ false
IsLineOf net inside (line.BatchArc arc) = IsArcWithin (point_count net) arc
IsLineOf net inside line.CloseBatch = Unit {0}
IsLineOf net inside (line.Withdraw arc) = arc < arc_numbers
IsLineOf net inside line.Decouple = inside ≡ false
IsLineOf net inside (line.Choose point time) = (point.0 < point_count net) × (0 < point.0) × IsTime time
IsLineOf net inside line.Execute = Unit {0}
IsLineOf net inside (line.Advance time) = IsTime time
IsLineOf net inside (line.Do point) = (point.0 < point_count net) × (0 < point.0)
IsLineOf net inside line.Schedule = Unit {0}
IsLineOf net inside line.Done = Unit {0}

alone_is : (net : Net) (inside : Bool) (l : Line) (fs : List (List ℕ)) → IsLineOf net inside l → IfOk (alone l fs) (IsLineOf net inside)
alone_is net inside l [] h = h
alone_is net inside l (f ∷ fs) h = tt

prove_between_is : (net : Net) (inside : Bool) (from to : List ℕ) → IfOk (prove_between net from to) (IsLineOf net inside)
prove_between_is net inside from to =
    and_then_is (λ p. p.0 < point_count net) (IsLineOf net inside) (point_in net from) _ (point_in_is net from) (λ i low.
    and_then_is (λ p. p.0 < point_count net) (IsLineOf net inside) (point_in net to) _ (point_in_is net to) (λ j high.
    (elim (i.0 == j.0) as (λ t. (i.0 == j.0) ≡ t → IfOk {E = TextCause} (cond t (Err cause.SamePoint) (Ok (line.Prove i j))) (IsLineOf net inside)) [
      | true ↦ λ e. tt
      | false ↦ λ e. (low, high, different_of i.0 j.0 e)
    ]) refl))

prove_line_is : (net : Net) (inside : Bool) (fs : List (List ℕ)) → IfOk (prove_line net fs) (IsLineOf net inside)
prove_line_is net inside [] = tt
prove_line_is net inside (from ∷ []) = tt
prove_line_is net inside (from ∷ to ∷ []) = prove_between_is net inside from to
prove_line_is net inside (from ∷ to ∷ next ∷ more) = tt

above_none : (p : ℕ) → (p == 0) ≡ false → 0 < p
above_none p e = grind (arith, nat_tests)

-- the point of a `choose` or a `do`
abbrev pub IsFree : Net → PointId → Type 0
IsFree net p = (p.0 < point_count net) × (0 < p.0)

not_z_is : (net : Net) (p : PointId) → p.0 < point_count net → IfOk (not_z p) (IsFree net)
not_z_is net p low =
    (elim (p.0 == 0) as (λ b. (p.0 == 0) ≡ b → IfOk {E = TextCause} (cond b (Err cause.ReferencePoint) (Ok p)) (IsFree net)) [
      | true ↦ λ e. tt
      | false ↦ λ e. (low, above_none p.0 e)
    ]) refl

free_point_in_is : (net : Net) (field : List ℕ) → IfOk (free_point_in net field) (IsFree net)
free_point_in_is net field =
    and_then_is (λ p. p.0 < point_count net) (IsFree net) (point_in net field) not_z (point_in_is net field) (λ p low. not_z_is net p low)

choose_at_is : (net : Net) (inside : Bool) (point time : List ℕ) → IfOk (choose_at net point time) (IsLineOf net inside)
choose_at_is net inside point time =
    and_then_is IsTime (IsLineOf net inside) (number_in time) _ (number_in_is time) (λ t short.
    and_then_is (IsFree net) (IsLineOf net inside) (free_point_in net point) _ (free_point_in_is net point) (λ p free. (free.0, free.1, short)))

withdraw_line_is : (net : Net) (inside : Bool) (fs : List (List ℕ)) → IfOk (withdraw_line fs) (IsLineOf net inside)
withdraw_line_is net inside [] = tt
withdraw_line_is net inside (number ∷ []) =
    and_then_is (λ k. k < arc_numbers) (IsLineOf net inside) (arc_number_in number) (λ n. Ok (line.Withdraw n)) (arc_number_in_is number) (λ n h. h)
withdraw_line_is net inside (number ∷ next ∷ more) = tt

advance_line_is : (net : Net) (inside : Bool) (fs : List (List ℕ)) → IfOk (advance_line fs) (IsLineOf net inside)
advance_line_is net inside [] = tt
advance_line_is net inside (time ∷ []) =
    and_then_is IsTime (IsLineOf net inside) (number_in time) (λ t. Ok (line.Advance t)) (number_in_is time) (λ t h. h)
advance_line_is net inside (time ∷ next ∷ more) = tt

do_line_is : (net : Net) (inside : Bool) (fs : List (List ℕ)) → IfOk (do_line net fs) (IsLineOf net inside)
do_line_is net inside [] = tt
do_line_is net inside (point ∷ []) =
    and_then_is (IsFree net) (IsLineOf net inside) (free_point_in net point) (λ p. Ok (line.Do p)) (free_point_in_is net point) (λ p h. h)
do_line_is net inside (point ∷ next ∷ more) = tt

choose_line_is : (net : Net) (inside : Bool) (fs : List (List ℕ)) → IfOk (choose_line net fs) (IsLineOf net inside)
choose_line_is net inside [] = tt
choose_line_is net inside (point ∷ []) = tt
choose_line_is net inside (point ∷ time ∷ []) = choose_at_is net inside point time
choose_line_is net inside (point ∷ time ∷ next ∷ more) = tt

arc_line_is : (net : Net) (fs : List (List ℕ)) → IfOk (arc_line net fs) (IsArcWithin (point_count net))
arc_line_is net [] = tt
arc_line_is net (from ∷ []) = tt
arc_line_is net (from ∷ to ∷ []) = tt
arc_line_is net (from ∷ to ∷ bound ∷ []) = arc_in_is net from to bound
arc_line_is net (from ∷ to ∷ bound ∷ next ∷ more) = tt

tighten_line_is : (net : Net) (inside : Bool) (fs : List (List ℕ)) → IfOk (tighten_line net fs) (IsLineOf net inside)
tighten_line_is net inside fs =
    and_then_is (IsArcWithin (point_count net)) (IsLineOf net inside) (arc_line net fs) (λ a. Ok (line.Tighten a)) (arc_line_is net fs) (λ a h. h)

batch_arc_line_is : (net : Net) (inside : Bool) (fs : List (List ℕ)) → IfOk (batch_arc_line net fs) (IsLineOf net inside)
batch_arc_line_is net inside fs =
    and_then_is (IsArcWithin (point_count net)) (IsLineOf net inside) (arc_line net fs) (λ a. Ok (line.BatchArc a)) (arc_line_is net fs) (λ a h. h)

line_outside_is : (net : Net) (w : Word) (fs : List (List ℕ)) → IfOk (line_outside net w fs) (IsLineOf net false)
line_outside_is net word.Bounds fs = alone_is net false line.Bounds fs tt
line_outside_is net word.Windows fs = alone_is net false line.Windows fs tt
line_outside_is net word.Prove fs = prove_line_is net false fs
line_outside_is net word.Tighten fs = tighten_line_is net false fs
line_outside_is net word.Batch fs = alone_is net false line.BeginBatch fs refl
line_outside_is net word.Arc fs = tt
line_outside_is net word.Close fs = tt
line_outside_is net word.Withdraw fs = withdraw_line_is net false fs
line_outside_is net word.Decouple fs = alone_is net false line.Decouple fs refl
line_outside_is net word.Choose fs = choose_line_is net false fs
line_outside_is net word.Execute fs = alone_is net false line.Execute fs tt
line_outside_is net word.Advance fs = advance_line_is net false fs
line_outside_is net word.Do fs = do_line_is net false fs
line_outside_is net word.Schedule fs = alone_is net false line.Schedule fs tt
line_outside_is net word.Done fs = alone_is net false line.Done fs tt

line_inside_is : (net : Net) (w : Word) (fs : List (List ℕ)) → IfOk (line_inside net w fs) (IsLineOf net true)
line_inside_is net word.Bounds fs = tt
line_inside_is net word.Windows fs = tt
line_inside_is net word.Prove fs = tt
line_inside_is net word.Tighten fs = tt
line_inside_is net word.Batch fs = tt
line_inside_is net word.Arc fs = batch_arc_line_is net true fs
line_inside_is net word.Close fs = alone_is net true line.CloseBatch fs tt
line_inside_is net word.Withdraw fs = tt
line_inside_is net word.Decouple fs = tt
line_inside_is net word.Choose fs = tt
line_inside_is net word.Execute fs = tt
line_inside_is net word.Advance fs = tt
line_inside_is net word.Do fs = tt
line_inside_is net word.Schedule fs = tt
line_inside_is net word.Done fs = tt

line_by_word_is : (net : Net) (inside : Bool) (w : Option Word) (fs : List (List ℕ)) → IfOk (line_by_word net inside w fs) (IsLineOf net inside)
line_by_word_is net false None fs = tt
line_by_word_is net true None fs = tt
line_by_word_is net false (Some w) fs = line_outside_is net w fs
line_by_word_is net true (Some w) fs = line_inside_is net w fs

line_of_is : (net : Net) (inside : Bool) (fs : List (List ℕ)) → IfOk (line_of net inside fs) (IsLineOf net inside)
line_of_is net inside [] = tt
line_of_is net inside (f ∷ fs) = line_by_word_is net inside (word_of f) fs

pub line_in_is : (net : Net) (inside : Bool) (text : List ℕ) → IfOk (line_in net inside text) (IsLineOf net inside)
line_in_is net inside text =
    elim (is_skipped text) as
    (λ t. IfOk {E = TextCause} (cond t (Ok line.Nothing) (cond (is_text text) (line_of net inside (fields text)) (Err cause.NotText)))
    (IsLineOf net inside)) [
      | true ↦ tt
      | false ↦ elim (is_text text) as (λ t. IfOk {E = TextCause} (cond t (line_of net inside (fields text)) (Err cause.NotText)) (IsLineOf net inside)) [
        | true ↦ line_of_is net inside (fields text)
        | false ↦ tt
      ]
    ]
