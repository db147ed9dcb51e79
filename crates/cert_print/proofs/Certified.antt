-- The lines around the sections and around the cycle.
use Rattle.std.proofs.Common.{◌≡◌, ℕ, ◌≤◌, ℤ, pos, Bool, true, false, List, [], ◌∷◌, ◌++◌, map, codes, Result, Ok, inl, inr, refl, sym, ap, subst, ◌∙◌, arith}
use Rattle.std.specs.List.{flat_map}
use Rattle.std.specs.Fmt.{decimal}
use Rattle.stn_model.specs.Net.{Net, arcs_of, point_count}
use Rattle.stn_model.specs.Schedules.{IsConsistent}
use Rattle.stn_model.specs.Valid.{IsNetwork}
use Rattle.stn_model.specs.Walks.{IsNegativeCycle, IsNormal}
use Rattle.std.proofs.lemmas.List.{append_assoc}
use Rattle.stn_model.specs.Limits.{greatest_bound}
use Rattle.stn_model.proofs.WalkLemmas.{no_schedule}
use Rattle.net_text.specs.Plain.{line}
use Rattle.plain_solve.specs.LeastWalks.{LeastWalks}
use Rattle.cert_check.specs.declared.stage.Stage.{Stage}
use Rattle.cert_check.specs.declared.stage.Stage.TheVariants as stage
use Rattle.cert_check.specs.declared.verdict.CertCause.{CertCause}
use Rattle.cert_check.specs.Certificates.{fields_do, kept_as, and_then}
use Rattle.cert_print.specs.Leads.{Leads, Certifies, ShowsBounds, ShowsCycle}
use Rattle.cert_print.specs.Sections.{AreFrom, due}
use Rattle.cert_print.specs.Texts.{section_text, consistent_text, inconsistent_text}
use Rattle.cert_print.proofs.Leading.{line_leads, leads_on, verdict_consistent, verdict_inconsistent}
use Rattle.cert_print.proofs.Readings.{decimal_is_field, number_in_is, number-decimal, kept_same}
use Rattle.cert_print.proofs.Told.{due_is, due_end, sections_lead}
use Rattle.cert_print.proofs.CycleLines.{number_fields, cycle_goes}

module _ (net : Net) where
  pub header_leads : Leads net stage.Start stage.Headed (line (codes "mastncert") (codes "1" ∷ []))
  header_leads =
      line_leads net stage.Start stage.Headed (codes "mastncert") (codes "1" ∷ []) (record { filled = refl; solid = refl }) (record { filled = refl; solid = refl }, tt) refl refl refl

  pub inconsistent_leads : Leads net stage.Headed stage.CycleDue (line (codes "inconsistent") [])
  inconsistent_leads = line_leads net stage.Headed stage.CycleDue (codes "inconsistent") [] (record { filled = refl; solid = refl }) tt refl refl refl

  pub end_leads : (c : Bool) → Leads net (stage.EndDue c) (stage.Ended c) (line (codes "end") [])
  end_leads c = line_leads net (stage.EndDue c) (stage.Ended c) (codes "end") [] (record { filled = refl; solid = refl }) tt refl refl refl

module _ (net : Net) (valid : IsNetwork net) where
  small : point_count net ≤ greatest_bound
  small = let few = valid.few_points in omega arith

  count_goes : fields_do net stage.Headed (codes "consistent" ∷ decimal (point_count net) ∷ []) ≡ Ok (stage.FromDue 0)
  count_goes =
      ap (λ (r : Result ℤ CertCause). and_then r (λ (n : ℤ). and_then (kept_as (pos (point_count net)) n) (λ (k : ℤ). Ok (stage.FromDue 0))))
      (number_in_is (decimal (point_count net)) (pos (point_count net)) (number-decimal (point_count net) small))
      ∙ ap (λ (r : Result ℤ CertCause). and_then r (λ (k : ℤ). Ok (stage.FromDue 0))) (kept_same (pos (point_count net)))

  pub count_leads : Leads net stage.Headed (due net 0) (line (codes "consistent") (decimal (point_count net) ∷ []))
  count_leads =
      line_leads net stage.Headed (due net 0) (codes "consistent") (decimal (point_count net) ∷ []) (record { filled = refl; solid = refl }) (decimal_is_field (point_count net) small, tt) refl refl
      (count_goes ∙ ap Ok (sym (due_is net 0 (omega arith))))

  pub cycle_leads : (ns : List ℕ) → IsNegativeCycle (arcs_of net) ns → IsNormal ns → Leads net stage.CycleDue (stage.EndDue false) (line (codes "cycle") (map decimal ns))
  cycle_leads ns c normal =
      line_leads net stage.CycleDue (stage.EndDue false) (codes "cycle") (map decimal ns) (record { filled = refl; solid = refl })
      (number_fields net valid c.start c.start ns c.walk) refl refl (cycle_goes net valid ns c normal)

  -- the sections of all points, with the lines before and after them
  pub consistent_leads : (ts : List LeastWalks) → AreFrom net 0 (point_count net) ts → Leads net stage.Start (stage.Ended true) (consistent_text (point_count net) ts)
  consistent_leads ts are =
      let a : List ℕ = line (codes "mastncert") (codes "1" ∷ []) in
      let b : List ℕ = line (codes "consistent") (decimal (point_count net) ∷ []) in
      let body : Leads net (due net 0) (stage.EndDue true) (flat_map section_text ts) =
      subst (λ (s : Stage). Leads net (due net 0) s (flat_map section_text ts)) (due_end net (point_count net) (omega arith)) (sections_lead net valid 0 (point_count net) ts are) in
      leads_on net stage.Start (stage.EndDue true) (stage.Ended true) (a ++ b ++ flat_map section_text ts) (line (codes "end") [])
      (leads_on net stage.Start (due net 0) (stage.EndDue true) (a ++ b) (flat_map section_text ts)
      (leads_on net stage.Start stage.Headed (due net 0) a b (header_leads net) count_leads) body) (end_leads net true)

  pub inconsistent_text_leads : (ns : List ℕ) → IsNegativeCycle (arcs_of net) ns → IsNormal ns → Leads net stage.Start (stage.Ended false) (inconsistent_text ns)
  inconsistent_text_leads ns c normal =
      let a : List ℕ = line (codes "mastncert") (codes "1" ∷ []) in
      let b : List ℕ = line (codes "inconsistent") [] in
      let d : List ℕ = line (codes "cycle") (map decimal ns) in
      leads_on net stage.Start (stage.EndDue false) (stage.Ended false) (a ++ b ++ d) (line (codes "end") [])
      (leads_on net stage.Start stage.CycleDue (stage.EndDue false) (a ++ b) d
      (leads_on net stage.Start stage.Headed stage.CycleDue a b (header_leads net) (inconsistent_leads net)) (cycle_leads ns c normal)) (end_leads net false)

  pub certifies_consistent : (o e : List ℕ) (ts : List LeastWalks) → IsConsistent (point_count net) (arcs_of net) → AreFrom net 0 (point_count net) ts
      → e ≡ o ++ consistent_text (point_count net) ts → Certifies net o e
  certifies_consistent o e ts s are is =
      let shows : ShowsBounds net (consistent_text (point_count net) ts) = record {
        consistent = s;
        walks = ts;
        are = are;
        written = refl;
        accepted = verdict_consistent net (consistent_text (point_count net) ts) (consistent_leads ts are);
      } in
      (consistent_text (point_count net) ts, is, inl shows)

  pub certifies_inconsistent : (o e ns : List ℕ) → IsNegativeCycle (arcs_of net) ns → IsNormal ns → e ≡ o ++ inconsistent_text ns → Certifies net o e
  certifies_inconsistent o e ns c normal is =
      let shows : ShowsCycle net (inconsistent_text ns) = record {
        inconsistent = λ s. no_schedule (arcs_of net) (point_count net) ns c s;
        cycle = ns;
        negative = c;
        normal = normal;
        written = refl;
        accepted = verdict_inconsistent net (inconsistent_text ns) (inconsistent_text_leads ns c normal);
      } in
      (inconsistent_text ns, is, inr shows)

-- three pieces, one after another
pub three_joined : (o a b c p q r : List ℕ) → a ≡ o ++ p → b ≡ a ++ q → c ≡ b ++ r → c ≡ o ++ (p ++ q ++ r)
three_joined o a b c p q r ea eb ec = ec ∙ ap (λ x. x ++ r) (eb ∙ ap (λ x. x ++ q) ea) ∙ simp append_assoc

pub four_joined : (o a b c d p q r s : List ℕ) → a ≡ o ++ p → b ≡ a ++ q → c ≡ b ++ r → d ≡ c ++ s → d ≡ o ++ (p ++ q ++ r ++ s)
four_joined o a b c d p q r s ea eb ec ed = ed ∙ ap (λ x. x ++ s) (three_joined o a b c p q r ea eb ec) ∙ append_assoc o (p ++ q ++ r) s
