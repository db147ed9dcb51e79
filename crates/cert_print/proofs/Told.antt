-- The section of a point leads from where it is due to where the next one is.
use Rattle.std.proofs.Common.{◌≡◌, ◌≢◌, ℕ, zero, suc, ◌+◌, ◌<◌, ◌≤◌, ℤ, pos, neg_ℤ, ◌+ℤ◌, ◌≤ℤ◌, Bool, true, false, List, [], ◌∷◌, ◌++◌, length, get_or, set, take, codes, nat_eq, nat_lt, int_lt, is_some, Option, Some, None, Result, Ok, Err, add-one, refl, sym, ap, subst, ◌∙◌, arith, take_all, ⊎_elim, inl, inr, if◌then◌else◌, slice_index}
use Rattle.std.specs.List.{AllByRecursion, flat_map, position}
use Rattle.std.specs.Fmt.{decimal, signed_decimal}
use Rattle.std.proofs.lemmas.Bool.{cases_eq}
use Rattle.std.proofs.lemmas.Bool.Decides.{nat_tests}
use Rattle.std.proofs.lemmas.Int.{ints}
use Rattle.std.proofs.lemmas.List.{append_assoc, append-nil}
use Rattle.std.proofs.lemmas.Grind.{flat_map-append}
use Rattle.stn_model.specs.Limits.{greatest_bound}
use Rattle.stn_model.specs.Arcs.{no_arc, arc_at, from_at, to_at, bound_at}
use Rattle.stn_model.specs.Net.{Net, arcs_of, point_count}
use Rattle.stn_model.specs.Schedules.{time_at}
use Rattle.stn_model.specs.Valid.{IsNetwork}
use Rattle.stn_model.proofs.ArcLemmas.{arcs_within}
use Rattle.stn_model.proofs.NetLemmas.{length-arcs_of}
use Rattle.net_text.specs.Plain.{line}
use Rattle.net_text.proofs.FieldsOfLines.{IsField}
use Rattle.net_text.proofs.Fronts.{flat_map_step}
use Rattle.net_text.proofs.NumbersBack.{number-signed_decimal, number_is_field}
use Rattle.plain_solve.specs.LeastWalks.{LeastWalks, point_at}
use Rattle.cert_check.specs.declared.stage.Stage.{Stage}
use Rattle.cert_check.specs.declared.stage.Stage.TheVariants as stage
use Rattle.cert_check.specs.declared.verdict.CertCause.{CertCause}
use Rattle.cert_check.specs.declared.verdict.CertCause.TheVariants as cause
use Rattle.cert_check.specs.Rows.{Row, distance_to, is_missing, is_broken, exceeds}
use Rattle.cert_check.specs.Certificates.{fields_do, number_in, index_in, kept_as, number_below, and_then, point_in, sum_in, sum_along, sum_from, to_step, unless_missing, unless_broken, after_section}
use Rattle.cert_check.proofs.Decided.{is_below}
use Rattle.cert_check.proofs.Firsts.{none_at}
use Rattle.cert_print.specs.Leads.{Leads, WritesSections}
use Rattle.cert_print.specs.Sections.{AreLeast, AreFrom, row_of, due}
use Rattle.cert_print.specs.Texts.{distance_line, section_text}
use Rattle.cert_print.proofs.Leading.{line_leads, leads_on, leads_nowhere}
use Rattle.cert_print.proofs.Readings.{decimal_is_field, number_in_is, index_in_is, kept_same, number_below_is}
use Rattle.cert_print.proofs.Rows.{length-row_of, untold, told}
use Rattle.cert_print.proofs.Times.{least_low, least_high, arc_holds}

point_known : (net : Net) (row : Row) (p : ℕ) → p < point_count net → distance_to row p ≡ None → point_in net row (pos p) ≡ Ok p
point_known net row p lt none = by (number_below (point_count net) (pos p)) (number_below_is (point_count net) p lt)
  where
    by : (r : Option ℕ) → r ≡ Some p
        → ◌≡◌ {A = Result ℕ CertCause} (elim r [ None ↦ Err (cause.AgainTo (pos p)) | Some q ↦ if is_some (distance_to row q) then Err (cause.AgainTo (pos p)) else Ok q ]) (Ok p)
    by r e = rw e (ap (λ (o : Option ℤ). if is_some o then Err (cause.AgainTo (pos p)) else Ok p) none)

sum_known : (net : Net) (row : Row) (p n : ℕ) (d : ℤ) → n < length (arcs_of net) → sum_along row p (arc_at (arcs_of net) n) (pos n) ≡ Ok d → sum_in net row p (pos n) ≡ Ok d
sum_known net row p n d less along = by (number_below (length (arcs_of net)) (pos n)) (number_below_is (length (arcs_of net)) n less)
  where
    by : (r : Option ℕ) → r ≡ Some n
        → ◌≡◌ {A = Result ℤ CertCause} (elim r [ None ↦ Err (cause.BadArc (pos n)) | Some m ↦ sum_along row p (arc_at (arcs_of net) m) (pos n) ]) (Ok d)
    by r e = rw e along

-- a `to` line by its numbers: the point has no distance, and the arc leads to it from one that has
to_goes : (net : Net) (i : ℕ) (row : Row) (p n : ℕ) (d e : ℤ) → p < point_count net → distance_to row p ≡ None → n < length (arcs_of net) → to_at (arcs_of net) n ≡ p
    → distance_to row (from_at (arcs_of net) n) ≡ Some e → e +ℤ bound_at (arcs_of net) n ≡ d
    → to_step net i row (pos p) d (pos n) ≡ Ok (stage.Section i (set row p (Some d)))
to_goes net i row p n d e lt none less ends start sum =
    let a : point_in net row (pos p) ≡ Ok p = point_known net row p lt none in
    let same : nat_eq (to_at (arcs_of net) n) p ≡ true = grind (arith, nat_tests) in
    let along : sum_along row p (arc_at (arcs_of net) n) (pos n) ≡ Ok d =
    ap (λ (b : Bool). if b then sum_from (distance_to row (from_at (arcs_of net) n)) (bound_at (arcs_of net) n) (pos n) else Err (cause.BadArc (pos n))) same
    ∙ ap (λ (o : Option ℤ). sum_from o (bound_at (arcs_of net) n) (pos n)) start ∙ ap Ok sum in
    let b : sum_in net row p (pos n) ≡ Ok d = sum_known net row p n d less along in
    ap (λ (r : Result ℕ CertCause). and_then r
    (λ (q : ℕ). and_then (sum_in net row q (pos n)) (λ (s : ℤ). and_then (kept_as s d) (λ (k : ℤ). Ok (stage.Section i (set row q (Some k))))))) a
    ∙ ap (λ (r : Result ℤ CertCause). and_then r (λ (s : ℤ). and_then (kept_as s d) (λ (k : ℤ). Ok (stage.Section i (set row p (Some k)))))) b
    ∙ ap (λ (r : Result ℤ CertCause). and_then r (λ (k : ℤ). Ok (stage.Section i (set row p (Some k))))) (kept_same d)

-- the fields of a `to` line
fields_go : (net : Net) (i : ℕ) (row : Row) (p n : ℕ) (d : ℤ) (next : Stage) → index_in (decimal p) ≡ Ok (pos p)
    → number_in (signed_decimal d) ≡ Ok d → index_in (decimal n) ≡ Ok (pos n)
    → to_step net i row (pos p) d (pos n) ≡ Ok next
    → fields_do net (stage.Section i row) (codes "to" ∷ decimal p ∷ signed_decimal d ∷ decimal n ∷ []) ≡ Ok next
fields_go net i row p n d next a b c step =
    ap (λ (r : Result ℤ CertCause). and_then r (λ (j : ℤ). and_then (number_in (signed_decimal d)) (λ (e : ℤ). and_then (index_in (decimal n)) (λ (m : ℤ). to_step net i row j e m)))) a
    ∙ ap (λ (r : Result ℤ CertCause). and_then r (λ (e : ℤ). and_then (index_in (decimal n)) (λ (m : ℤ). to_step net i row (pos p) e m))) b
    ∙ ap (λ (r : Result ℤ CertCause). and_then r (λ (m : ℤ). to_step net i row (pos p) d m)) c
    ∙ step

no_more : (x b y : ℤ) → y ≤ℤ (x +ℤ b) → int_lt (x +ℤ b) y ≡ false
no_more x b y h = grind (arith, ints)

pub due_is : (net : Net) (i : ℕ) → i < point_count net → due net i ≡ stage.FromDue i
due_is net i lt = ap (λ (b : Bool). if b then stage.FromDue i else stage.EndDue true) (is_below i (point_count net) lt)

pub due_end : (net : Net) (i : ℕ) → point_count net ≤ i → due net i ≡ stage.EndDue true
due_end net i past =
    let over : nat_lt i (point_count net) ≡ false = grind (arith, nat_tests) in
    ap (λ (b : Bool). if b then stage.FromDue i else stage.EndDue true) over

module _ (net : Net) (valid : IsNetwork net) (t : LeastWalks) (h : AreLeast net t) where
  own : time_at t.distances t.source ≡ pos 0
  own = let a = (h.least t.source h.within).attains in omega (arith, ints)

  abbrev row : ℕ → Row
  row k = row_of (point_count net) t k

  abbrev in_section : ℕ → Stage
  in_section k = stage.Section t.source (row k)

  small_point : (p : ℕ) → p < point_count net → p ≤ greatest_bound
  small_point p lt = let few = valid.few_points in omega arith

  small_arc : (n : ℕ) → n < length (arcs_of net) → n ≤ greatest_bound
  small_arc n lt = let few = valid.few_points in let arcs = valid.few_arcs in omega (arith, length-arcs_of net)

  low : (p : ℕ) → p < point_count net → neg_ℤ (pos greatest_bound) ≤ℤ time_at t.distances p
  low p lt = least_low net valid t.source p (time_at t.distances p) h.within lt (h.least p lt)

  high : (p : ℕ) → p < point_count net → time_at t.distances p ≤ℤ pos greatest_bound
  high p lt = least_high net valid t.source p (time_at t.distances p) h.within lt (h.least p lt)

  -- THE LINE OF A POINT. Its arc starts at the source or at a point whose line stands above, so that point has its distance. The point
  -- itself has none yet, since it is not the source and stands once in the order. And its distance is that of the start and the bound.
  distance_leads : (k : ℕ) → k < length t.order → Leads net (in_section k) (in_section (suc k)) (distance_line t (get_or t.order k (record { 0 = 0 })))
  distance_leads k lt =
      let p : ℕ = point_at t.order k in
      let n : ℕ = slice_index t.last_arcs p in
      let d : ℤ = time_at t.distances p in
      let within : p < point_count net = (h.order.others k lt).0 in
      let other : p ≢ t.source = (h.order.others k lt).1 in
      let less : n < length (arcs_of net) = (h.ends p within other).0 in
      let none : distance_to (row k) p ≡ None = untold (point_count net) t k p within other (λ j before. h.order.once j k before lt) in
      let start : distance_to (row k) (from_at (arcs_of net) n) ≡ Some (time_at t.distances (from_at (arcs_of net) n)) =
      told (point_count net) t k (from_at (arcs_of net) n) h.within own (λ j before. (h.order.others j (omega arith)).0) (h.starts k lt) in
      let step = to_goes net t.source (row k) p n d (time_at t.distances (from_at (arcs_of net) n)) within none less (h.ends p within other).1 start (sym (h.tight p within other)) in
      let fields : AllByRecursion IsField (decimal p ∷ signed_decimal d ∷ decimal n ∷ []) = (
        decimal_is_field p (small_point p within),
        (
          number_is_field d (low p within) (high p within),
          (decimal_is_field n (small_arc n less), tt),
        ),
      ) in
      line_leads net (in_section k) (in_section (suc k)) (codes "to") (decimal p ∷ signed_decimal d ∷ decimal n ∷ []) (record { filled = refl; solid = refl }) fields refl refl
      (fields_go net t.source (row k) p n d (in_section (suc k)) (index_in_is p (small_point p within))
      (number_in_is (signed_decimal d) d (number-signed_decimal d (low p within) (high p within))) (index_in_is n (small_arc n less)) step)

  distances_lead : (k : ℕ) → k ≤ length t.order → Leads net (in_section 0) (in_section k) (flat_map (distance_line t) (take k t.order))
  distances_lead zero le = leads_nowhere net (in_section 0)
  distances_lead (suc k) le =
      let line_k : List ℕ = distance_line t (get_or t.order k (record { 0 = 0 })) in
      let before : List ℕ = flat_map (distance_line t) (take k t.order) in
      let lt : k < length t.order = omega arith in
      let joins : before ++ line_k ≡ flat_map (distance_line t) (take (suc k) t.order) =
      flat_map_step (distance_line t) t.order k (record { 0 = 0 }) [] before (before ++ line_k) lt refl refl ∙ ap (λ m. flat_map (distance_line t) (take m t.order)) (add-one k) in
      subst (Leads net (in_section 0) (in_section (suc k))) joins
      (leads_on net (in_section 0) (in_section k) (in_section (suc k)) before line_k (distances_lead k (omega arith)) (distance_leads k lt))

  all_told : (p : ℕ) → p < point_count net → distance_to (row (length t.order)) p ≡ Some (time_at t.distances p)
  all_told p lt =
      told (point_count net) t (length t.order) p h.within own (λ j before. (h.order.others j before).0)
      (⊎_elim (λ (e : p ≡ t.source). inl e) (λ (other : p ≢ t.source). inr (h.order.each p lt other)) (cases_eq p t.source))

  none_missing : position is_missing (row (length t.order)) ≡ None
  none_missing =
      let len = length-row_of (point_count net) t (length t.order) in
      none_at is_missing (row (length t.order)) None (length (row (length t.order))) refl (λ p lt. ap is_missing (all_told p (omega arith)))

  none_broken : position (is_broken (row (length t.order))) (arcs_of net) ≡ None
  none_broken = none_at (is_broken (row (length t.order))) (arcs_of net) no_arc (length (arcs_of net)) refl (λ n lt.
      let ends = arcs_within net valid n lt in
      let from : ℕ = from_at (arcs_of net) n in
      let to : ℕ = to_at (arcs_of net) n in
      ap (λ (o : Option ℤ). exceeds o (bound_at (arcs_of net) n) (distance_to (row (length t.order)) to)) (all_told from ends.starts)
      ∙ ap (λ (o : Option ℤ). exceeds (Some (time_at t.distances from)) (bound_at (arcs_of net) n) o) (all_told to ends.ends)
      ∙ no_more (time_at t.distances from) (bound_at (arcs_of net) n) (time_at t.distances to)
      (arc_holds net valid t.source n (time_at t.distances from) (time_at t.distances to) lt (h.least from ends.starts) (h.least to ends.ends)))

  from_goes : fields_do net (stage.FromDue t.source) (codes "from" ∷ decimal t.source ∷ []) ≡ Ok (in_section 0)
  from_goes =
      ap (λ (r : Result ℤ CertCause). and_then (and_then r (λ (m : ℤ). kept_as (pos t.source) m)) (λ (m : ℤ). Ok (in_section 0))) (index_in_is t.source (small_point t.source h.within))
      ∙ ap (λ (r : Result ℤ CertCause). and_then r (λ (m : ℤ). Ok (in_section 0))) (kept_same (pos t.source))

  holds_goes : fields_do net (in_section (length t.order)) (codes "holds" ∷ []) ≡ Ok (due net (t.source + 1))
  holds_goes =
      ap (λ (o : Option ℕ). unless_missing o (unless_broken (position (is_broken (row (length t.order))) (arcs_of net)) (after_section net t.source))) none_missing
      ∙ ap (λ (o : Option ℕ). unless_broken o (after_section net t.source)) none_broken

  pub section_leads : Leads net (due net t.source) (due net (t.source + 1)) (section_text t)
  section_leads =
      let first = line_leads net (stage.FromDue t.source) (in_section 0) (codes "from") (decimal t.source ∷ []) (record { filled = refl; solid = refl })
      (decimal_is_field t.source (small_point t.source h.within), tt) refl refl from_goes in
      let last = line_leads net (in_section (length t.order)) (due net (t.source + 1)) (codes "holds") [] (record { filled = refl; solid = refl }) tt refl refl holds_goes in
      let middle = subst (λ xs. Leads net (in_section 0) (in_section (length t.order)) (flat_map (distance_line t) xs)) (take_all (length t.order) t.order (omega arith))
      (distances_lead (length t.order) (omega arith)) in
      subst (λ (s : Stage). Leads net s (due net (t.source + 1)) (section_text t)) (sym (due_is net t.source h.within))
      (leads_on net (stage.FromDue t.source) (in_section (length t.order)) (due net (t.source + 1))
      (line (codes "from") (decimal t.source ∷ []) ++ flat_map (distance_line t) t.order)
      (line (codes "holds") [])
      (leads_on net (stage.FromDue t.source) (in_section 0) (in_section (length t.order)) (line (codes "from") (decimal t.source ∷ [])) (flat_map (distance_line t) t.order) first middle) last)

-- the sections of points that follow each other
pub sections_lead : (net : Net) → IsNetwork net → (i j : ℕ) (ts : List LeastWalks) → AreFrom net i j ts → Leads net (due net i) (due net j) (flat_map section_text ts)
sections_lead net valid i j [] h = subst (λ (k : ℕ). Leads net (due net i) (due net k) []) h (leads_nowhere net (due net i))
sections_lead net valid i j (t ∷ ts) h =
    let first : Leads net (due net i) (due net (i + 1)) (section_text t) =
    subst (λ (k : ℕ). Leads net (due net k) (due net (k + 1)) (section_text t)) h.0 (section_leads net valid t h.1) in
    leads_on net (due net i) (due net (i + 1)) (due net j) (section_text t) (flat_map section_text ts) first (sections_lead net valid (i + 1) j ts h.2)

AreFrom-append : (net : Net) (i j k : ℕ) (ts us : List LeastWalks) → AreFrom net i j ts → AreFrom net j k us → AreFrom net i k (ts ++ us)
AreFrom-append net i j k [] us h g = subst (λ (m : ℕ). AreFrom net m k us) (sym h) g
AreFrom-append net i j k (t ∷ ts) us h g = (h.0, h.1, AreFrom-append net (i + 1) j k ts us h.2 g)

pub sections_nothing : (net : Net) (i : ℕ) (old : List ℕ) → WritesSections net i i old old
sections_nothing net i old = record { walks = []; are = refl; whole = sym (append-nil old) }

pub sections_on : (net : Net) (i j k : ℕ) (old mid new : List ℕ) → WritesSections net i j old mid → WritesSections net j k mid new → WritesSections net i k old new
sections_on net i j k old mid new w v = record {
  walks = w.walks ++ v.walks;
  are = AreFrom-append net i j k w.walks v.walks w.are v.are;
  whole =
      v.whole ∙ ap (λ (x : List ℕ). x ++ flat_map section_text v.walks) w.whole ∙ append_assoc old (flat_map section_text w.walks) (flat_map section_text v.walks)
      ∙ ap (λ (x : List ℕ). old ++ x) (sym (flat_map-append section_text w.walks v.walks));
}
