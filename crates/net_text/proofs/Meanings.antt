-- What lines add, by what their fields stand for.
use Rattle.std.proofs.Common.{◌≡◌, ℕ, ◌<◌, ◌≤◌, Bool, true, false, cond, ◌||◌, List, [], ◌∷◌, ◌++◌, length, Option, Some, None, Result, Ok, Err, refl, sym, ◌∙◌, ap, arith, append_assoc}
use Rattle.std.proofs.lemmas.Int.{ints}
use Rattle.std.specs.Prelude.{ℤ, pos, neg_ℤ, ◌≤ℤ◌, int_lt}
use denote.Ref.{Bor}
use Rattle.stn_model.specs.declared.ids.Constraint.{Constraint}
use Rattle.stn_model.specs.Limits.{greatest_bound}
use Rattle.stn_model.specs.Net.{Net, find_agent, find_point}
use Rattle.stn_model.specs.Refusals.{is_beyond}
use Rattle.net_text.specs.declared.cause.TextCause.{TextCause}
use Rattle.net_text.specs.declared.cause.TextCause.TheVariants as cause
use Rattle.net_text.specs.declared.version.Version.{Version}
use Rattle.net_text.specs.Numbers.{number_of}
use Rattle.net_text.specs.Networks.{read_point, read_act, read_bound, read_horizon, add_point, add_act, add_bound, add_horizon, with_arcs, arc_between, given, given_number, given_point, given_agent}
use Rattle.net_text.proofs.Takes.{texts, text_at, one_field, two_fields, four_fields}

abbrev pub built : Net → Result Net TextCause
built net = Ok net

pub point_miscounted : (v : Version) (net : Net) (fs : List (Bor (List ℕ))) → (length fs ≡ 2 → ⊥) → read_point v net (texts fs) ≡ Err cause.FieldCount
point_miscounted v net [] other = refl
point_miscounted v net (a ∷ []) other = refl
point_miscounted v net (a ∷ b ∷ []) other = absurd (other refl)
point_miscounted v net (a ∷ b ∷ c ∷ fs) other = refl

pub point_unknown : (v : Version) (net : Net) (fs : List (Bor (List ℕ)))
    → 2 ≤ length fs → length fs < 3 → find_agent net (text_at fs 0) ≡ None → read_point v net (texts fs) ≡ Err cause.NameUnknown
point_unknown v net fs low high no_agent =
    ap (read_point v net) (two_fields fs low high)
    ∙ ap (λ (o : Option ℕ). given o cause.NameUnknown (λ a. add_point v net a (text_at fs 1))) no_agent

pub point_known : (v : Version) (net : Net) (fs : List (Bor (List ℕ))) (a : ℕ)
    → 2 ≤ length fs → length fs < 3 → find_agent net (text_at fs 0) ≡ Some a
    → add_point v net a (text_at fs 1) ≡ read_point v net (texts fs)
point_known v net fs a low high agent =
    sym (ap (read_point v net) (two_fields fs low high)
    ∙ ap (λ (o : Option ℕ). given o cause.NameUnknown (λ b. add_point v net b (text_at fs 1))) agent)

pub bound_known : (net : Net) (fs : List (Bor (List ℕ))) (l h l' h' : ℤ) (i j : ℕ)
    → 4 ≤ length fs → length fs < 5 → number_of (text_at fs 2) ≡ Some l → number_of (text_at fs 3) ≡ Some h
    → find_point net (text_at fs 0) ≡ Some i → find_point net (text_at fs 1) ≡ Some j → l' ≡ l → h' ≡ h
    → add_bound net i j l' h' ≡ read_bound net (texts fs)
bound_known net fs l h l' h' i j low high is_low is_high is_from is_to same_low same_high =
    let to_do : ℕ → ℕ → ℤ → ℤ → Result Net TextCause = λ i j l h. add_bound net i j l h in
    let line =
    ap (read_bound net) (four_fields fs low high)
    ∙ ap (λ (o : Option ℤ). given o cause.NumberBad (λ l. given_number (text_at fs 3)
    (λ h. given_point net (text_at fs 0) (λ i. given_point net (text_at fs 1) (λ j. to_do i j l h))))) is_low
    ∙ ap (λ (o : Option ℤ). given o cause.NumberBad (λ h. given_point net (text_at fs 0) (λ i. given_point net (text_at fs 1) (λ j. to_do i j l h)))) is_high
    ∙ ap (λ (o : Option ℕ). given o cause.NameUnknown (λ i. given_point net (text_at fs 1) (λ j. to_do i j l h))) is_from
    ∙ ap (λ (o : Option ℕ). given o cause.NameUnknown (λ j. to_do i j l h)) is_to
    in
    ap (λ (x : ℤ). to_do i j x h') same_low ∙ ap (λ (x : ℤ). to_do i j l x) same_high ∙ sym line

pub act_known : (net : Net) (fs : List (Bor (List ℕ))) (l h l' h' : ℤ) (a : ℕ) → 4 ≤ length fs → length fs < 5 → number_of (text_at fs 2) ≡ Some l
    → number_of (text_at fs 3) ≡ Some h → find_agent net (text_at fs 0) ≡ Some a → l' ≡ l → h' ≡ h
    → add_act net a (text_at fs 1) l' h' ≡ read_act net (texts fs)
act_known net fs l h l' h' a low high is_low is_high is_agent same_low same_high =
    let to_do : ℕ → ℤ → ℤ → Result Net TextCause = λ a l h. add_act net a (text_at fs 1) l h in
    let line =
    ap (read_act net) (four_fields fs low high)
    ∙ ap (λ (o : Option ℤ). given o cause.NumberBad (λ l. given_number (text_at fs 3) (λ h. given_agent net (text_at fs 0) (λ a. to_do a l h)))) is_low
    ∙ ap (λ (o : Option ℤ). given o cause.NumberBad (λ h. given_agent net (text_at fs 0) (λ a. to_do a l h))) is_high
    ∙ ap (λ (o : Option ℕ). given o cause.NameUnknown (λ a. to_do a l h)) is_agent
    in
    ap (λ (x : ℤ). to_do a x h') same_low ∙ ap (λ (x : ℤ). to_do a l x) same_high ∙ sym line

-- two arcs, one after the other, are two arcs more
pub two_arcs : (net one two : Net) (i j : ℕ) (u h t l : ℤ) → one ≡ record net { given = net.given ++ arc_between i j u ∷ [] }
    → two ≡ record one { given = one.given ++ arc_between j i t ∷ [] } → u ≡ h → t ≡ neg_ℤ l
    → built (with_arcs net (arc_between i j h ∷ arc_between j i (neg_ℤ l) ∷ [])) ≡ built two
two_arcs net one two i j u h t l is_one is_two is_u is_t =
    let there = arc_between i j h in
    let joined : (net.given ++ there ∷ []) ++ arc_between j i (neg_ℤ l) ∷ [] ≡ net.given ++ (there ∷ arc_between j i (neg_ℤ l) ∷ []) =
    append_assoc net.given (there ∷ []) (arc_between j i (neg_ℤ l) ∷ []) in
    let last : record one { given = one.given ++ arc_between j i t ∷ [] } ≡ with_arcs net (there ∷ arc_between j i (neg_ℤ l) ∷ []) =
    ap (λ (n : Net). record n { given = n.given ++ arc_between j i t ∷ [] }) is_one
    ∙ ap (λ (x : ℤ). record net { given = (net.given ++ arc_between i j x ∷ []) ++ arc_between j i t ∷ [] }) is_u
    ∙ ap (λ (x : ℤ). record net { given = (net.given ++ there ∷ []) ++ arc_between j i x ∷ [] }) is_t
    ∙ ap (λ (g : List Constraint). record net { given = g }) joined
    in
    ap built (sym (is_two ∙ last))

pub within : (b : ℤ) → is_beyond b ≡ false → (neg_ℤ (pos greatest_bound) ≤ℤ b) × (b ≤ℤ pos greatest_bound)
within b kept = (grind (arith, ints), grind (arith, ints))

in_range : (h : ℤ) → ((pos 0 ≤ℤ h × h ≤ℤ pos greatest_bound → ⊥) → ⊥) → (int_lt h (pos 0) || int_lt (pos greatest_bound) h) ≡ false
in_range h within =
    (elim (int_lt h (pos 0) || int_lt (pos greatest_bound) h) as (λ t. (int_lt h (pos 0) || int_lt (pos greatest_bound) h) ≡ t → t ≡ false) [
      | true ↦ λ e. absurd (within (λ r. grind (arith, ints)))
      | false ↦ λ e. refl
    ]) refl

pub horizon_given : (fs : List (Bor (List ℕ))) (h h' : ℤ) (net : Net)
    → 1 ≤ length fs → length fs < 2 → number_of (text_at fs 0) ≡ Some h → h' ≡ h
    → ((pos 0 ≤ℤ h' × h' ≤ℤ pos greatest_bound → ⊥) → ⊥)
    → net ≡ record { horizon = h'; agents = []; places = []; acts = []; given = [] } → built net ≡ read_horizon (texts fs)
horizon_given fs h h' net low high is_number same within is =
    let opened : ℤ → Net = λ x. record { horizon = x; agents = []; places = []; acts = []; given = [] } in
    let line =
    ap (read_horizon) (one_field fs low high)
    ∙ ap (λ (o : Option ℤ). given o cause.NumberBad add_horizon) is_number
    ∙ ap add_horizon (sym same)
    ∙ ap (λ (t : Bool). cond t (Err cause.HorizonRange) (built (opened h'))) (in_range h' within)
    in
    ap built is ∙ sym line
