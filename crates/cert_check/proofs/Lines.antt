-- What each line does: it keeps what is true of how far a certificate has come, and what follows from it makes the line's claim true.
use Rattle.std.proofs.Common.{◌≡◌, ℕ, ◌+◌, ◌<◌, ℤ, pos, negsuc, Bool, true, false, not, cond, List, [], ◌∷◌, length, set, nat_eq, nat_lt, int_lt, is_some, Option, Some, None, IfSome, Result, Ok, Err, IfOk, codes, refl, sym, ap, subst, ◌∙◌, arith}
use Rattle.std.specs.List.{AllByRecursion, list_all, position}
use Rattle.std.specs.Ordering.{int_eq}
use Rattle.std.specs.Str.{bytes_eq}
use Rattle.std.proofs.lemmas.Bool.{false≢true}
use Rattle.std.proofs.lemmas.Bool.Decides.{Decides-int_eq}
use Rattle.stn_model.specs.Arcs.{arc_at}
use Rattle.stn_model.specs.Net.{Net, arcs_of, point_count}
use Rattle.stn_model.specs.Valid.{IsNetwork}
use Rattle.stn_model.specs.Schedules.{IsConsistent, IsLeastBound}
use Rattle.stn_model.proofs.WalkLemmas.{no_schedule}
use Rattle.net_text.specs.Fields.{fields}
use Rattle.net_text.specs.Lines.{is_skipped, is_text}
use Rattle.net_text.specs.Numbers.{number_of}
use Rattle.cert_check.specs.declared.stage.Stage.{Stage}
use Rattle.cert_check.specs.declared.stage.Stage.TheVariants as stage
use Rattle.cert_check.specs.declared.verdict.CertCause.{CertCause}
use Rattle.cert_check.specs.declared.verdict.CertCause.TheVariants as cause
use Rattle.cert_check.specs.declared.words.Word.{Word}
use Rattle.cert_check.specs.declared.words.Word.TheVariants as word
use Rattle.cert_check.specs.Words.{word_of}
use Rattle.cert_check.specs.Rows.{Row, distance_to, is_missing, is_broken}
use Rattle.cert_check.specs.Cycles.{is_cycle}
use Rattle.cert_check.specs.Certificates.{and_then, number_in, index_in, kept_as, number_below, point_in, sum_from, sum_along, sum_in, to_step, to_line, after_section, unless_broken, unless_missing, holds_line, due_number, from_line, consistent_line, is_index, arc_numbers, writes_cycle, cycle_line, headed_line, due_line, section_line, cycle_due_line, end_due_line, line_after, line_by_word, header, first_line, is_ended, fields_do, line_does}
use Rattle.cert_check.specs.Claims.{Claim, fields_in, point_of, point_written, section_after, claim_of, claims_in, IsTrueOf}
use Rattle.cert_check.proofs.Decided.{same, below}
use Rattle.cert_check.proofs.Cycles.{cycle_from}
use Rattle.cert_check.proofs.Attained.{IsRow, consistent, attained}
use Rattle.cert_check.proofs.Sections.{GivesDistance, first_is_row, given_is_row, distance_given, distance_kept}

-- what a certificate shows that is of a consistent network, or not
abbrev pub IsShown : Net → Bool → Type 0
IsShown net true = IsConsistent (point_count net) (arcs_of net)
IsShown net false = IsConsistent (point_count net) (arcs_of net) → ⊥

-- what is true of how far a certificate has come
abbrev pub IsSound : Net → Stage → Type 0
IsSound net stage.Start = Unit {0}
IsSound net stage.Headed = Unit {0}
IsSound net (stage.FromDue next) = next < point_count net
IsSound net (stage.Section i row) = IsRow net i row
IsSound net stage.CycleDue = Unit {0}
IsSound net (stage.EndDue b) = IsShown net b
IsSound net (stage.Ended b) = IsShown net b

-- what is true where the verdict will be Consistent: the distances of the section are least bounds
abbrev pub Leads : Net → Stage → Type 0
Leads net stage.Start = Unit {0}
Leads net stage.Headed = Unit {0}
Leads net (stage.FromDue next) = Unit {0}
Leads net (stage.Section i row) = (p : ℕ) (d : ℤ) → distance_to row p ≡ Some d → IsLeastBound (point_count net) (arcs_of net) i p d
Leads net stage.CycleDue = Unit {0}
Leads net (stage.EndDue true) = Unit {0}
Leads net (stage.EndDue false) = ⊥
Leads net (stage.Ended true) = Unit {0}
Leads net (stage.Ended false) = ⊥

-- the point of the section is that of the claims
abbrev pub Stands : Option ℕ → Stage → Type 0
Stands o stage.Start = Unit {0}
Stands o stage.Headed = Unit {0}
Stands o (stage.FromDue next) = Unit {0}
Stands o (stage.Section i row) = o ≡ Some i
Stands o stage.CycleDue = Unit {0}
Stands o (stage.EndDue b) = Unit {0}
Stands o (stage.Ended b) = Unit {0}

-- a line of these fields leads from one stage to another
pub record After (net : Net) (s : Stage) (fs : List (List ℕ)) (t : Stage) : Type 0 where
  pub sound : IsSound net t
  pub back : Leads net t → Leads net s
  pub claims : (o : Option ℕ) → Stands o s → Leads net t → AllByRecursion (IsTrueOf net) (claims_in o fs)
  pub stands : (o : Option ℕ) → Stands o s → Stands (section_after o fs) t

and_then_is : {A B : Type 0} (P : A → Type 0) (Q : B → Type 0) (x : Result A CertCause) (next : A → Result B CertCause)
    → IfOk x P → ((a : A) → P a → IfOk (next a) Q) → IfOk (and_then x next) Q
and_then_is P Q (Ok a) next h k = k a h
and_then_is P Q (Err c) next h k = tt

if_ok_more : {A : Type 0} (P Q : A → Type 0) (x : Result A CertCause) → IfOk x P → ((a : A) → P a → Q a) → IfOk x Q
if_ok_more P Q (Ok a) h k = k a h
if_ok_more P Q (Err c) h k = tt

number_is : (field : List ℕ) → IfOk (number_in field) (λ n. number_of field ≡ Some n)
number_is field = by (number_of field) refl
  where
    by : (r : Option ℤ) → number_of field ≡ r → IfOk {E = CertCause} (elim r [ None ↦ Err cause.NumberBad | Some n ↦ Ok n ]) (λ n. number_of field ≡ Some n)
    by None e = tt
    by (Some n) e = e

index_is : (field : List ℕ) → IfOk (index_in field) (λ n. number_of field ≡ Some n)
index_is field =
    and_then_is (λ n. number_of field ≡ Some n) (λ n. number_of field ≡ Some n) (number_in field) _ (number_is field) (λ n e. by (int_lt n (pos 0)) n e)
  where
    by : (b : Bool) (n : ℤ) → number_of field ≡ Some n → IfOk {E = CertCause} (cond b (Err cause.NumberBad) (Ok n)) (λ n. number_of field ≡ Some n)
    by true n e = tt
    by false n e = e

kept_is : (a n : ℤ) → IfOk (kept_as a n) (λ k. (a ≡ k) × (k ≡ n))
kept_is a n = by (int_eq a n) refl
  where
    by : (b : Bool) → int_eq a n ≡ b → IfOk {E = CertCause} (cond b (Ok n) (Err (cause.WrongValue a n))) (λ k. (a ≡ k) × (k ≡ n))
    by true e = ((Decides-int_eq a n).0 e, refl)
    by false e = tt

below_is : (limit : ℕ) (j : ℤ) → IfSome (number_below limit j) (λ p. (j ≡ pos p) × (p < limit))
below_is limit (pos n) = by (nat_lt n limit) refl
  where
    by : (b : Bool) → nat_lt n limit ≡ b → IfSome (cond b (Some n) None) (λ p. (pos n ≡ pos p) × (p < limit))
    by true e = (refl, below n limit e)
    by false e = tt
below_is limit (negsuc n) = tt

point_is : (net : Net) (row : Row) (j : ℤ) → IfOk (point_in net row j) (λ p. (j ≡ pos p) × (p < point_count net) × (distance_to row p ≡ None))
point_is net row j = by (number_below (point_count net) j) (below_is (point_count net) j)
  where
    fresh : (p : ℕ) → j ≡ pos p → p < point_count net → (x : Option ℤ) → distance_to row p ≡ x
        → IfOk {E = CertCause} (cond (is_some x) (Err (cause.AgainTo j)) (Ok p)) (λ p. (j ≡ pos p) × (p < point_count net) × (distance_to row p ≡ None))
    fresh p is lt None e = (is, lt, e)
    fresh p is lt (Some d) e = tt

    by : (r : Option ℕ) → IfSome r (λ p. (j ≡ pos p) × (p < point_count net))
        → IfOk {E = CertCause} (elim r [ None ↦ Err (cause.AgainTo j) | Some p ↦ cond (is_some (distance_to row p)) (Err (cause.AgainTo j)) (Ok p) ])
        (λ p. (j ≡ pos p) × (p < point_count net) × (distance_to row p ≡ None))
    by None h = tt
    by (Some p) h = fresh p h.0 h.1 (distance_to row p) refl

sum_is : (net : Net) (row : Row) (p : ℕ) (n : ℤ) → IfOk (sum_in net row p n) (GivesDistance net row p)
sum_is net row p n = by (number_below (length (arcs_of net)) n) (below_is (length (arcs_of net)) n)
  where
    from : (m : ℕ) → m < length (arcs_of net) → (arc_at (arcs_of net) m).to.0 ≡ p → (x : Option ℤ) → distance_to row (arc_at (arcs_of net) m).from.0 ≡ x
        → IfOk (sum_from x (arc_at (arcs_of net) m).bound n) (GivesDistance net row p)
    from m lt ends None e = tt
    from m lt ends (Some d) e = record { arc = m; within = lt; ends = ends; before = d; known = e; sum = refl }

    along : (m : ℕ) → m < length (arcs_of net) → (b : Bool) → nat_eq (arc_at (arcs_of net) m).to.0 p ≡ b
        → IfOk {E = CertCause} (cond b (sum_from (distance_to row (arc_at (arcs_of net) m).from.0) (arc_at (arcs_of net) m).bound n) (Err (cause.BadArc n))) (GivesDistance net row p)
    along m lt true e = from m lt (same (arc_at (arcs_of net) m).to.0 p e) (distance_to row (arc_at (arcs_of net) m).from.0) refl
    along m lt false e = tt

    by : (r : Option ℕ) → IfSome r (λ m. (n ≡ pos m) × (m < length (arcs_of net)))
        → IfOk {E = CertCause} (elim r [ None ↦ Err (cause.BadArc n) | Some m ↦ sum_along row p (arc_at (arcs_of net) m) n ]) (GivesDistance net row p)
    by None h = tt
    by (Some m) h = along m h.1 (nat_eq (arc_at (arcs_of net) m).to.0 p) refl

-- the claim of a `to` line
claim_is : (net : Net) (o : Option ℕ) (a b : Option ℤ) (i p : ℕ) (d : ℤ) → o ≡ Some i → a ≡ Some (pos p) → b ≡ Some d
    → IsLeastBound (point_count net) (arcs_of net) i p d → AllByRecursion (IsTrueOf net) (claim_of o (point_of a) b)
claim_is net o a b i p d at to bound least = rw (at, to, bound) (least, tt)

if_claimed : (net : Net) (b : Bool) (cs : List Claim) → AllByRecursion (IsTrueOf net) cs → AllByRecursion (IsTrueOf net) (cond b cs [])
if_claimed net true cs h = h
if_claimed net false cs h = tt

module _ (net : Net) (valid : IsNetwork net) (i : ℕ) (row : Row) (h : IsRow net i row) (w : List ℕ) where
  given_is : (to bound arc : List ℕ) (p : ℕ) (d : ℤ) → number_of to ≡ Some (pos p)
      → number_of bound ≡ Some d → p < point_count net → distance_to row p ≡ None → GivesDistance net row p d
      → After net (stage.Section i row) (w ∷ to ∷ bound ∷ arc ∷ []) (stage.Section i (set row p (Some d)))
  given_is to bound arc p d named said lt fresh g = record {
    sound = given_is_row net i row h p d lt fresh g;
    back = λ leads q c is. leads q c (distance_kept net i row h p d lt fresh g q c is);
    claims = λ o at leads.
        if_claimed net (bytes_eq w (codes "to")) (claim_of o (point_written to) (number_of bound))
        (claim_is net o (number_of to) (number_of bound) i p d at named said (leads p d (distance_given net i row h p d lt fresh g)));
    stands = λ o at. at;
  }

  to_step_is : (to bound arc : List ℕ) (j b n : ℤ) → number_of to ≡ Some j → number_of bound ≡ Some b
      → IfOk (to_step net i row j b n) (After net (stage.Section i row) (w ∷ to ∷ bound ∷ arc ∷ []))
  to_step_is to bound arc j b n named said =
      and_then_is (λ p. (j ≡ pos p) × (p < point_count net) × (distance_to row p ≡ None)) _ (point_in net row j) _ (point_is net row j) (λ p hp.
      and_then_is (GivesDistance net row p) _ (sum_in net row p n) _ (sum_is net row p n) (λ s hs.
      and_then_is (λ d. (s ≡ d) × (d ≡ b)) _ (kept_as s b) _ (kept_is s b) (λ d hd.
      given_is to bound arc p d (named ∙ ap (λ x. Some x) hp.0) (said ∙ ap (λ x. Some x) (sym hd.1)) hp.1 hp.2 (subst (GivesDistance net row p) hd.0 hs))))

  to_is : (fs : List (List ℕ)) → IfOk (to_line net i row fs) (After net (stage.Section i row) (w ∷ fs))
  to_is [] = tt
  to_is (to ∷ []) = tt
  to_is (to ∷ bound ∷ []) = tt
  to_is (to ∷ bound ∷ arc ∷ []) =
      and_then_is (λ j. number_of to ≡ Some j) _ (index_in to) _ (index_is to) (λ j named.
      and_then_is (λ b. number_of bound ≡ Some b) _ (number_in bound) _ (number_is bound) (λ b said.
      and_then_is (λ n. number_of arc ≡ Some n) _ (index_in arc) _ (index_is arc) (λ n numbered.
      to_step_is to bound arc j b n named said)))
  to_is (to ∷ bound ∷ arc ∷ next ∷ more) = tt

  holds_is : (fs : List (List ℕ)) → IfOk (holds_line net i row fs) (After net (stage.Section i row) (w ∷ fs))
  holds_is (f ∷ fs) = tt
  holds_is [] = by (position is_missing row) refl (position (is_broken row) (arcs_of net)) refl
    where
      next : position is_missing row ≡ None → position (is_broken row) (arcs_of net) ≡ None → (b : Bool) → nat_lt (i + 1) (point_count net) ≡ b
          → After net (stage.Section i row) (w ∷ []) (cond b (stage.FromDue (i + 1)) (stage.EndDue true))
      next whole kept true e = record {
        sound = below (i + 1) (point_count net) e;
        back = λ leads. attained net valid i row h whole kept;
        claims = λ o at leads. tt;
        stands = λ o at. tt;
      }
      next whole kept false e = record {
        sound = consistent net valid i row h whole kept;
        back = λ leads. attained net valid i row h whole kept;
        claims = λ o at leads. tt;
        stands = λ o at. tt;
      }

      by : (m : Option ℕ) → position is_missing row ≡ m → (k : Option ℕ) → position (is_broken row) (arcs_of net) ≡ k
          → IfOk (unless_missing m (unless_broken k (after_section net i))) (After net (stage.Section i row) (w ∷ []))
      by (Some p) e k f = tt
      by None e (Some n) f = tt
      by None e None f = next e f (nat_lt (i + 1) (point_count net)) refl

  section_is : (x : Word) (fs : List (List ℕ)) → IfOk (section_line net i row x fs) (After net (stage.Section i row) (w ∷ fs))
  section_is word.To fs = to_is fs
  section_is word.Holds fs = holds_is fs
  section_is x fs = tt

-- only `from` is the word of a section's first line
from_word : (w : List ℕ) → word_of w ≡ Some word.From → bytes_eq w (codes "from") ≡ true
from_word w e =
    by (bytes_eq w (codes "consistent")) (bytes_eq w (codes "inconsistent")) (bytes_eq w (codes "from")) (bytes_eq w (codes "to")) (bytes_eq w (codes "holds"))
    (bytes_eq w (codes "cycle")) (bytes_eq w (codes "end")) e
  where
    by : (a b c d e f g : Bool)
        → cond a (Some word.Consistent) (cond b (Some word.Inconsistent) (cond c (Some word.From) (cond d (Some word.To)
        (cond e (Some word.Holds) (cond f (Some word.Cycle) (cond g (Some word.End) None))))))
        ≡ Some word.From
        → c ≡ true
    by true b c d e f g h = absurd (cc)
    by false true c d e f g h = absurd (cc)
    by false false true d e f g h = refl
    by false false false true e f g h = absurd (cc)
    by false false false false true f g h = absurd (cc)
    by false false false false false true g h = absurd (cc)
    by false false false false false false true h = absurd (cc)
    by false false false false false false false h = absurd (cc)

due_is : (next : ℕ) (f : List ℕ) → IfOk (due_number next (f ∷ [])) (λ n. number_of f ≡ Some (pos next))
due_is next f =
    and_then_is (λ n. number_of f ≡ Some n) (λ n. number_of f ≡ Some (pos next)) (index_in f) _ (index_is f) (λ n e.
    if_ok_more (λ k. (pos next ≡ k) × (k ≡ n)) (λ k. number_of f ≡ Some (pos next)) (kept_as (pos next) n) (kept_is (pos next) n)
    (λ k h. e ∙ ap (λ x. Some x) (sym h.1 ∙ sym h.0)))

from_is : (net : Net) (next : ℕ) (w : List ℕ) (fs : List (List ℕ)) → word_of w ≡ Some word.From → next < point_count net
    → IfOk (from_line net next fs) (After net (stage.FromDue next) (w ∷ fs))
from_is net next w [] e lt = tt
from_is net next w (f ∷ []) e lt =
    and_then_is (λ n. number_of f ≡ Some (pos next)) _ (due_number next (f ∷ [])) _ (due_is next f) (λ n is. record {
      sound = first_is_row net next lt;
      back = λ leads. tt;
      claims = λ o at leads. tt;
      stands = λ o at. ap (λ b. cond b (point_written f) o) (from_word w e) ∙ ap point_of is;
    })
from_is net next w (f ∷ g ∷ fs) e lt = tt

consistent_is : (net : Net) (w : List ℕ) (fs : List (List ℕ)) → IfOk (consistent_line net fs) (After net stage.Headed (w ∷ fs))
consistent_is net w [] = tt
consistent_is net w (f ∷ []) =
    and_then_is (λ n. number_of f ≡ Some n) _ (number_in f) _ (number_is f) (λ n e.
    and_then_is (λ k. (pos (point_count net) ≡ k) × (k ≡ n)) _ (kept_as (pos (point_count net)) n) _ (kept_is (pos (point_count net)) n) (λ k h.
    record { sound = omega arith; back = λ leads. tt; claims = λ o at leads. tt; stands = λ o at. tt }))
consistent_is net w (f ∷ g ∷ fs) = tt

headed_is : (net : Net) (w : List ℕ) (x : Word) (fs : List (List ℕ)) → IfOk (headed_line net x fs) (After net stage.Headed (w ∷ fs))
headed_is net w word.Consistent fs = consistent_is net w fs
headed_is net w word.Inconsistent [] = record { sound = tt; back = λ leads. tt; claims = λ o at leads. tt; stands = λ o at. tt }
headed_is net w word.Inconsistent (f ∷ fs) = tt
headed_is net w x fs = tt

due_line_is : (net : Net) (next : ℕ) (w : List ℕ) (x : Word) (fs : List (List ℕ)) → word_of w ≡ Some x → next < point_count net
    → IfOk (due_line net next x fs) (After net (stage.FromDue next) (w ∷ fs))
due_line_is net next w word.From fs e lt = from_is net next w fs e lt
due_line_is net next w x fs e lt = tt

written : (net : Net) (fs : List (List ℕ)) → writes_cycle net fs ≡ true → IsConsistent (point_count net) (arcs_of net) → ⊥
written net fs e = by (arc_numbers net fs) e
  where
    by : (r : Option (List ℕ)) → (elim r [ None ↦ false | Some ns ↦ is_cycle (arcs_of net) ns ]) ≡ true → IsConsistent (point_count net) (arcs_of net) → ⊥
    by None e s = absurd (false≢true e)
    by (Some ns) e s = no_schedule (arcs_of net) (point_count net) ns (cycle_from (arcs_of net) ns e).0 s

cycle_is : (net : Net) (w : List ℕ) (fs : List (List ℕ)) → IfOk (cycle_line net fs) (After net stage.CycleDue (w ∷ fs))
cycle_is net w fs = by (nat_lt (length fs) 2) (not (list_all is_index fs)) (writes_cycle net fs) refl
  where
    by : (a b c : Bool) → writes_cycle net fs ≡ c
        → IfOk {E = CertCause} (cond a (Err cause.FieldCount) (cond b (Err cause.NumberBad) (cond c (Ok (stage.EndDue false)) (Err cause.BadCycle)))) (After net stage.CycleDue (w ∷ fs))
    by true b c e = tt
    by false true c e = tt
    by false false true e = record { sound = written net fs e; back = λ leads. tt; claims = λ o at leads. absurd leads; stands = λ o at. tt }
    by false false false e = tt

cycle_due_is : (net : Net) (w : List ℕ) (x : Word) (fs : List (List ℕ)) → IfOk (cycle_due_line net x fs) (After net stage.CycleDue (w ∷ fs))
cycle_due_is net w word.Cycle fs = cycle_is net w fs
cycle_due_is net w x fs = tt

end_is : (net : Net) (b : Bool) (w : List ℕ) → IsShown net b → After net (stage.EndDue b) (w ∷ []) (stage.Ended b)
end_is net true w h = record { sound = h; back = λ leads. tt; claims = λ o at leads. tt; stands = λ o at. tt }
end_is net false w h = record { sound = h; back = λ leads. leads; claims = λ o at leads. tt; stands = λ o at. tt }

end_due_is : (net : Net) (b : Bool) (w : List ℕ) (x : Word) (fs : List (List ℕ)) → IsShown net b → IfOk (end_due_line b x fs) (After net (stage.EndDue b) (w ∷ fs))
end_due_is net b w word.End [] h = end_is net b w h
end_due_is net b w word.End (f ∷ fs) h = tt
end_due_is net b w x fs h = tt

after_is : (net : Net) (valid : IsNetwork net) (s : Stage) (w : List ℕ) (x : Word) (fs : List (List ℕ)) → word_of w ≡ Some x → IsSound net s
    → IfOk (line_after net s x fs) (After net s (w ∷ fs))
after_is net valid stage.Start w x fs e h = tt
after_is net valid stage.Headed w x fs e h = headed_is net w x fs
after_is net valid (stage.FromDue next) w x fs e h = due_line_is net next w x fs e h
after_is net valid (stage.Section i row) w x fs e h = section_is net valid i row h w x fs
after_is net valid stage.CycleDue w x fs e h = cycle_due_is net w x fs
after_is net valid (stage.EndDue b) w x fs e h = end_due_is net b w x fs h
after_is net valid (stage.Ended b) w x fs e h = tt

by_word_is : (net : Net) (valid : IsNetwork net) (s : Stage) (w : List ℕ) (o : Option Word) (fs : List (List ℕ)) → word_of w ≡ o → IsSound net s
    → IfOk (line_by_word net s o fs) (After net s (w ∷ fs))
by_word_is net valid s w None fs e h = tt
by_word_is net valid s w (Some x) fs e h = after_is net valid s w x fs e h

header_is : (net : Net) (w : List ℕ) (fs : List (List ℕ)) → IfOk (header fs) (After net stage.Start (w ∷ fs))
header_is net w [] = tt
header_is net w (v ∷ []) = by (bytes_eq v (codes "1"))
  where
    by : (b : Bool) → IfOk {E = CertCause} (cond b (Ok stage.Headed) (Err cause.Version)) (After net stage.Start (w ∷ v ∷ []))
    by true = record { sound = tt; back = λ leads. tt; claims = λ o at leads. tt; stands = λ o at. tt }
    by false = tt
header_is net w (v ∷ g ∷ fs) = tt

first_is : (net : Net) (w : List ℕ) (fs : List (List ℕ)) → IfOk (first_line w fs) (After net stage.Start (w ∷ fs))
first_is net w fs = by (bytes_eq w (codes "mastncert"))
  where
    by : (b : Bool) → IfOk {E = CertCause} (cond b (header fs) (Err cause.NoHeader)) (After net stage.Start (w ∷ fs))
    by true = header_is net w fs
    by false = tt

fields_is : (net : Net) (valid : IsNetwork net) (s : Stage) (fs : List (List ℕ)) → IsSound net s → IfOk (fields_do net s fs) (After net s fs)
fields_is net valid s [] h = record { sound = h; back = λ leads. leads; claims = λ o at leads. tt; stands = λ o at. at }
fields_is net valid stage.Start (w ∷ fs) h = first_is net w fs
fields_is net valid s (w ∷ fs) h = by_word_is net valid s w (word_of w) fs refl h

-- a line that goes on leads to a stage that is as sound
pub line_is : (net : Net) (valid : IsNetwork net) (s : Stage) (text : List ℕ) → IsSound net s → IfOk (line_does net s text) (After net s (fields_in text))
line_is net valid s text h = by (is_skipped text) (is_ended s) (is_text text)
  where
    by : (a b c : Bool)
        → IfOk {E = CertCause} (cond a (Ok s) (cond b (Err cause.AfterEnd) (cond c (fields_do net s (fields text)) (Err cause.NotText)))) (After net s (cond a [] (fields text)))
    by true b c = record { sound = h; back = λ leads. leads; claims = λ o at leads. tt; stands = λ o at. at }
    by false true c = tt
    by false false true = fields_is net valid s (fields text) h
    by false false false = tt
