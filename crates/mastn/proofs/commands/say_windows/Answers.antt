use Rattle.std.proofs.Common.{List, ◌<◌, sym, subst}
use Rattle.std.specs.List.{All}
use Rattle.stn_model.specs.Net.{Net, point_count}
use Rattle.schedule_report.specs.declared.window.Window3.{Window3}
use Rattle.mastn.proofs.CommandTexts.{windows_known}
use Rattle.mastn.proofs.commands.say_windows.Goals as goal

pub windows_part-requires : goal.windows_part-requires
windows_part-requires c = record {
  points =
      (let known = windows_known c.args.joined.now.network c.in_ok-windows.windows.items c.in_ok-windows.ensures in
      subst (λ (net : Net). All (λ w. w.point.0 < point_count net) c.as_slice.result.now) (sym c.network.ensures.network)
      (subst (λ (ws : List Window3). All (λ w. w.point.0 < point_count c.args.joined.now.network) ws) (sym c.as_slice.ensures.value) known));
}
