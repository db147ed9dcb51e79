-- The answers of `repair`, one given arc after another, and a bound that is set back.
use Rattle.std.proofs.Common.{◌≡◌, ℕ, ◌+◌, ◌-◌, ◌<◌, ℤ, Bool, true, false, get_or, take, subst, IsTrue, List, [], ◌∷◌, ◌++◌, length, set, refl, sym, ap, ◌∙◌, append_assoc}
use Rattle.std.proofs.lemmas.List.{append-nil, set-get_or, take_more}
use Rattle.std.proofs.lemmas.Bool.{false≢true}
use Rattle.stn_model.specs.declared.ids.Constraint.{Constraint}
use Rattle.stn_model.specs.Arcs.{arc_at, bound_at, no_arc}
use Rattle.stn_model.specs.Net.{Net, arcs_of, point_count, fixed_count, is_given, with_bound}
use Rattle.stn_model.proofs.ArcLemmas.{arc_given, given_at}
use Rattle.stn_model.proofs.WalkLemmas.{no_schedule}
use Rattle.least_repair.proofs.OtherBound.{with_bound-twice}
use Rattle.plain_solve.specs.Answers.{IsEarliest}
use Rattle.mastn.specs.declared.answer.Outcome.{Outcome}
use Rattle.mastn.specs.declared.answer.Outcome.TheVariants.{Done, Inconsistent, NetBad, ScriptBad, NotProved, TooLarge}
use Rattle.mastn.specs.Checks.{Checks}
use Rattle.mastn.specs.Repairs.{AnswersArc, AnswersWalk, Adds, Repairs}

-- one more arc
pub AnswersWalk-push : (net : Net) (ns : List ℕ) (n : ℕ) (text last : List ℕ) → AnswersWalk net ns text → AnswersArc (is_given net n) net n last
    → AnswersWalk net (ns ++ n ∷ []) (text ++ last)
AnswersWalk-push net [] n text last h here = (last, [], here, refl, ap (λ (t : List ℕ). t ++ last) h ∙ sym (append-nil last))
AnswersWalk-push net (m ∷ ns) n text last h here =
    (h.0, h.1 ++ last, h.2, AnswersWalk-push net ns n h.1 last h.3 here, ap (λ (t : List ℕ). t ++ last) h.4 ∙ append_assoc h.0 h.1 last)

-- the answers for the first arcs of a walk, and for one more
pub AnswersWalk-more : (net : Net) (walk items : List ℕ) (i : ℕ) (old now new : List ℕ) → items ≡ walk → i < length items
    → Adds (AnswersWalk net (take i walk)) old now → Adds (AnswersArc (is_given net (get_or items i 0)) net (get_or items i 0)) now new
    → Adds (AnswersWalk net (take (i + 1) walk)) old new
AnswersWalk-more net walk items i old now new same lt h here =
    let said = subst (λ (ns : List ℕ). AnswersWalk net (take i ns) h.0) (sym same) h.1 in (
      h.0 ++ here.0,
      subst (λ (ns : List ℕ). AnswersWalk net (take (i + 1) ns) (h.0 ++ here.0)) same
          (subst (λ (ns : List ℕ). AnswersWalk net ns (h.0 ++ here.0)) (sym (take_more items i 0 lt))
          (AnswersWalk-push net (take i items) (get_or items i 0) h.0 here.0 said here.1)),
      here.2 ∙ ap (λ (t : List ℕ). t ++ here.0) h.2 ∙ append_assoc old h.0 here.0,
    )

-- nothing is said of an arc that was not given
pub Adds-nothing : (net : Net) (n : ℕ) (given : Bool) (text : List ℕ) → given ≡ false → Adds (AnswersArc given net n) text text
Adds-nothing net n true text h = absurd (false≢true (sym h))
Adds-nothing net n false text h = ([], refl, sym (append-nil text))

module _ (net : Net) (n : ℕ) (given : IsTrue (is_given net n)) where
  -- the bound that the arc has
  with_bound-own : with_bound net n (bound_at (arcs_of net) n) ≡ net
  with_bound-own =
      let low = (given_at (fixed_count net) n (length net.given) given).0 in
      let place = n - fixed_count net in
      ap (λ (b : ℤ). record net { given = set net.given place (record (arc_at net.given place) { bound = b }) }) (ap (λ (a : Constraint). a.bound) (arc_given net n low))
      ∙ ap (λ (list : List Constraint). record net { given = list }) (set-get_or net.given place no_arc)

  -- a bound that is set and set back
  pub set_back : (other new : Net) (a b : ℤ) → other ≡ with_bound net n a → new ≡ with_bound other n b → b ≡ bound_at (arcs_of net) n → new ≡ net
  set_back other new a b is set own =
      set ∙ ap (λ (o : Net). with_bound o n b) is ∙ with_bound-twice net n given a b ∙ ap (with_bound net n) own ∙ with_bound-own

-- for a consistent network `repair` says what `check` says
pub Repairs-consistent : (net : Net) (times : List ℤ) → IsEarliest net times → (o : Outcome) (text : List ℕ) → Checks net o text → Repairs net o text
Repairs-consistent net times earliest Done text h = h
Repairs-consistent net times earliest Inconsistent text h =
    absurd (no_schedule (arcs_of net) (point_count net) h.walk h.cycle (times, earliest.satisfies))
Repairs-consistent net times earliest NetBad text h = absurd h
Repairs-consistent net times earliest ScriptBad text h = absurd h
Repairs-consistent net times earliest NotProved text h = absurd h
Repairs-consistent net times earliest TooLarge text h = absurd h
