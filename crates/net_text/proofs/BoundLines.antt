-- A `bound` line is two `arc` lines.
use Rattle.std.proofs.Common.{◌≡◌, ℕ, ◌+◌, ◌*◌, ℤ, neg_ℤ, Bool, true, false, not, cond, ◌||◌, nat_eq, nat_le, List, [], ◌∷◌, length, codes, Option, Some, None, Result, Err, refl, ◌∙◌, ap, arith, length-append, append_assoc}
use Rattle.std.specs.Option.{option_map}
use Rattle.std.proofs.lemmas.Bool.Decides.{nat_tests}
use Rattle.std.proofs.lemmas.Int.{ints}
use Rattle.stn_model.specs.declared.error.NetError.TheVariants as refused
use Rattle.stn_model.specs.declared.ids.Constraint.{Constraint}
use Rattle.stn_model.specs.Limits.{most_arcs}
use Rattle.stn_model.specs.Net.{Net, find_point}
use Rattle.stn_model.specs.Refusals.{is_beyond}
use Rattle.net_text.specs.declared.cause.TextCause.{TextCause}
use Rattle.net_text.specs.declared.cause.TextCause.TheVariants as cause
use Rattle.net_text.specs.declared.stage.Stage.{Stage}
use Rattle.net_text.specs.declared.version.Version.{Version}
use Rattle.net_text.specs.Numbers.{number_of}
use Rattle.net_text.specs.Networks.{building, given, given_number, given_point, add_arc, add_bound, read_arc, with_arcs, arc_between, goes_unless}
use Rattle.net_text.specs.Networks.Step.{Goes}
use Rattle.net_text.specs.Laws.{follows, BoundIsTwoArcs}
use Rattle.net_text.proofs.Meanings.{built}

-- a line that goes on found what it looked for, and passed its tests
record Found {A : Type 0} (v : Version) (o : Option A) (next : A → Result Net TextCause) (s : Stage) : Type 0 where
  value : A
  is : o ≡ Some value
  on : building v (next value) ≡ Goes s

found : {A : Type 0} (v : Version) (o : Option A) (c : TextCause) (next : A → Result Net TextCause) (s : Stage)
    → building v (given o c next) ≡ Goes s → Found v o next s
found v None c next s e = absurd (cc)
found v (Some x) c next s e = record { value = x; is = refl; on = e }

passed : (v : Version) (t : Bool) (c : TextCause) (rest : Result Net TextCause) (s : Stage) → building v (cond t (Err c) rest) ≡ Goes s
    → (t ≡ false) × (building v rest ≡ Goes s)
passed v true c rest s e = absurd (cc)
passed v false c rest s e = (refl, e)

neither : (x y : Bool) → (x || y) ≡ false → (x ≡ false) × (y ≡ false)
neither true y e = absurd (cc)
neither false y e = (refl, e)

-- an arc that is in range, joins two points and has room is accepted
arc_read : (net : Net) (from to bound : List ℕ) (i j : ℕ) (b : ℤ) → number_of bound ≡ Some b → find_point net from ≡ Some i → find_point net to ≡ Some j
    → nat_eq i j ≡ false → is_beyond b ≡ false → nat_le most_arcs (2 * length net.acts + length net.given) ≡ false
    → read_arc net (from ∷ to ∷ bound ∷ []) ≡ built (with_arcs net (arc_between i j b ∷ []))
arc_read net from to bound i j b is_bound is_from is_to apart near room =
    ap (λ (o : Option ℤ). given o cause.NumberBad (λ b. given_point net from (λ i. given_point net to (λ j. add_arc net i j b)))) is_bound
    ∙ ap (λ (o : Option ℕ). given o cause.NameUnknown (λ i. given_point net to (λ j. add_arc net i j b))) is_from
    ∙ ap (λ (o : Option ℕ). given o cause.NameUnknown (λ j. add_arc net i j b)) is_to
    ∙ ap (λ (t : Bool). goes_unless (cond t (Some refused.SamePoint) (cond (is_beyond b) (Some refused.BoundRange)
    (cond (nat_le most_arcs (2 * length net.acts + length net.given)) (Some refused.TooManyArcs) None))) (with_arcs net (arc_between i j b ∷ []))) apart
    ∙ ap (λ (t : Bool). goes_unless (cond t (Some refused.BoundRange)
    (cond (nat_le most_arcs (2 * length net.acts + length net.given)) (Some refused.TooManyArcs) None)) (with_arcs net (arc_between i j b ∷ []))) near
    ∙ ap (λ (t : Bool). goes_unless (cond t (Some refused.TooManyArcs) None) (with_arcs net (arc_between i j b ∷ []))) room

turned : (i j : ℕ) → nat_eq i j ≡ false → nat_eq j i ≡ false
turned i j e = grind (arith, nat_tests)

near_back : (l : ℤ) → is_beyond l ≡ false → is_beyond (neg_ℤ l) ≡ false
near_back l e = grind (arith, ints)

room_now : (n : ℕ) → not (nat_le (n + 2) most_arcs) ≡ false → nat_le most_arcs n ≡ false
room_now n e = grind (arith, nat_tests)

room_then : (n m : ℕ) → m ≡ n + 1 → not (nat_le (n + 2) most_arcs) ≡ false → nat_le most_arcs m ≡ false
room_then n m is e = grind (arith, nat_tests)

-- TWO ARCS. A `bound` line that goes on has read both numbers and found both points, which differ; both numbers are in range, and there is
-- room for two arcs more. So the `arc` line there is accepted, finds the points unchanged, and leaves room for the `arc` line back.
pub bound_is_two_arcs : BoundIsTwoArcs
bound_is_two_arcs v net from to low high back s goes minus =
    let low_at = found v (number_of low) cause.NumberBad
    (λ l. given_number high (λ h. given_point net from (λ i. given_point net to (λ j. add_bound net i j l h)))) s goes in
    let l : ℤ = low_at.value in
    let high_at = found v (number_of high) cause.NumberBad (λ h. given_point net from (λ i. given_point net to (λ j. add_bound net i j l h))) s low_at.on in
    let h : ℤ = high_at.value in
    let from_at = found v (find_point net from) cause.NameUnknown (λ i. given_point net to (λ j. add_bound net i j l h)) s high_at.on in
    let i : ℕ = from_at.value in
    let to_at = found v (find_point net to) cause.NameUnknown (λ j. add_bound net i j l h) s from_at.on in
    let j : ℕ = to_at.value in
    let both : List Constraint = arc_between i j h ∷ arc_between j i (neg_ℤ l) ∷ [] in
    let many : ℕ = 2 * length net.acts + length net.given in
    let apart = passed v (nat_eq i j) cause.SamePoint (cond (is_beyond h || is_beyond l) (Err cause.BoundRange)
    (cond (not (nat_le (many + 2) most_arcs)) (Err cause.TooManyArcs) (built (with_arcs net both)))) s to_at.on in
    let near = passed v (is_beyond h || is_beyond l) cause.BoundRange
    (cond (not (nat_le (many + 2) most_arcs)) (Err cause.TooManyArcs) (built (with_arcs net both))) s apart.1 in
    let room = passed v (not (nat_le (many + 2) most_arcs)) cause.TooManyArcs (built (with_arcs net both)) s near.1 in
    let ranges = neither (is_beyond h) (is_beyond l) near.0 in
    let one : Net = with_arcs net (arc_between i j h ∷ []) in
    let longer : 2 * length one.acts + length one.given ≡ many + 1 = omega (arith, length-append net.given (arc_between i j h ∷ [])) in
    let there : read_arc net (from ∷ to ∷ high ∷ []) ≡ built one =
    arc_read net from to high i j h high_at.is from_at.is to_at.is apart.0 ranges.0 (room_now many room.0) in
    let again : read_arc one (to ∷ from ∷ back ∷ []) ≡ built (with_arcs one (arc_between j i (neg_ℤ l) ∷ [])) =
    arc_read one to from back j i (neg_ℤ l) (minus ∙ ap (option_map neg_ℤ) low_at.is) to_at.is from_at.is (turned i j apart.0) (near_back l ranges.1)
    (room_then many (2 * length one.acts + length one.given) longer room.0) in
    let joined : with_arcs one (arc_between j i (neg_ℤ l) ∷ []) ≡ with_arcs net both =
    ap (λ (g : List Constraint). record net { given = g }) (append_assoc net.given (arc_between i j h ∷ []) (arc_between j i (neg_ℤ l) ∷ [])) in
    ap (λ r. follows (building v r) (codes "arc" ∷ to ∷ from ∷ back ∷ [])) there
    ∙ ap (building v) again ∙ ap (λ n. building v (built n)) joined ∙ room.1
