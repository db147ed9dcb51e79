use Rattle.std.proofs.Common.{◌≡◌, ℕ, ◌<◌, ◌++◌, ◌∷◌, [], List, refl, sym, ap, subst, ◌∙◌}
use Rattle.std.proofs.lemmas.List.{append-nil}
use Rattle.stn_model.specs.Net.{point_count}
use Rattle.plain_solve.specs.LeastWalks.{ListsOthersOnce}
use Rattle.cert_print.specs.Sections.{AreLeast}
use Rattle.cert_print.specs.Texts.{section_text}
use Rattle.cert_print.proofs.certificate.add_section_from.Goals as goal

pub returns-clause-ok : goal.returns-clause-ok
returns-clause-ok c =
    let net = c.args.net.now in
    let t = c.in_ok-walks.walks in
    let source : t.source ≡ c.args.source.0 = c.in_ok-walks.ensures.source in
    let within : t.source < point_count net = subst (λ (s : ℕ). s < point_count net) (sym source) c.requires.within in
    let least : AreLeast net t = record {
      within = within;
      sizes = c.in_ok-walks.ensures.sizes;
      order = subst (λ (s : ℕ). ListsOthersOnce (point_count net) s t.order) (sym source) (c.in_ok-walks.ensures.order);
      ends = c.in_ok-walks.ensures.ends;
      starts = c.in_ok-walks.ensures.starts;
      tight = c.in_ok-walks.ensures.tight;
      least = c.in_ok-walks.ensures.least;
    } in
    record {
      walks = t ∷ [];
      are = (source, least, refl);
      whole = c.in_ok-add_section.ensures.ok ∙ ap (λ (x : List ℕ). c.args.out.now.items ++ x) (sym (append-nil (section_text t)));
    }
