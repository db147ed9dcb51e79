use Rattle.std.proofs.Common.{◌≡◌, ◌+◌, ℕ, subst, arith}
use Rattle.std.specs.List.{flat_map}
use Rattle.stn_model.specs.Net.{point_count}
use Rattle.net_text.proofs.Fronts.{front_trans, on_err_from}
use Rattle.cert_print.specs.Leads.{WritesSections}
use Rattle.cert_print.specs.Texts.{section_text}
use Rattle.cert_print.proofs.Told.{sections_nothing, sections_on}
use Rattle.cert_print.proofs.certificate.add_sections.Goals as goal

pub loop-number-init : goal.loop-number-init
loop-number-init c = record { serves = c.requires; writes = sections_nothing c.args.net.now 0 c.args.out.now.items }

pub returns-in_err-add_section_from-clause-err : goal.returns-in_err-add_section_from-clause-err
returns-in_err-add_section_from-clause-err c =
    on_err_from c.from_residual.result
    (front_trans c.args.out.now.items (flat_map section_text c.loop-number.invariant.writes.walks) c.loop-number.out.items c.add_section_from.new.out.items c.loop-number.invariant.writes.whole
    c.in_err-add_section_from.ensures.err)

pub loop-number-preserved : goal.loop-number-preserved
loop-number-preserved c =
    record {
      serves = c.add_section_from.ensures.serves;
      writes =
          sections_on c.args.net.now 0 c.loop-number.number (c.loop-number.number + 1) c.args.out.now.items c.loop-number.out.items c.add_section_from.new.out.items
          c.loop-number.invariant.writes c.in_ok-add_section_from.ensures.ok;
    }

pub returns-clause-ok : goal.returns-clause-ok
returns-clause-ok c =
    let all : c.loop-number.number ≡ point_count c.args.net.now = omega arith in
    subst (λ (k : ℕ). WritesSections c.args.net.now 0 k c.args.out.now.items c.loop-number.out.items) all c.loop-number.invariant.writes
