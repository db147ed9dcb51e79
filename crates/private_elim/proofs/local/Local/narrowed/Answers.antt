use Rattle.std.proofs.Common.{◌≡◌, ◌∙◌, ◌++◌, length, ap, length-append, arith}
use Rattle.std.specs.List.{All}
use Rattle.private_elim.specs.Locals.{window_arcs, IsWindowOf}
use Rattle.private_elim.specs.Views.{local_view}
use Rattle.private_elim.proofs.locals.Windows.{IsLocal-narrowed, IsLocal-same, length-window_arcs}
use Rattle.private_elim.proofs.local.Local.narrowed.Goals as goal

pub invariant_of-result : goal.invariant_of-result
invariant_of-result c =
    let l = local_view c.self.inside in
    let ws = c.args.windows.now in
    let known : All (IsWindowOf l.points) ws = rw (← c.self.view_is) at c.requires in
    let points = c.in_ok-points.ensures.items ∙ c.as_slice.ensures.value in
    let shared = c.in_ok-shared.ensures.items ∙ c.as_slice-2.ensures.value in
    let arcs : c.add_windows.new.arcs.items ≡ l.arcs ++ window_arcs ws =
    c.in_ok-add_windows.ensures ∙ ap (λ xs. xs ++ window_arcs ws) (c.in_ok-arcs.ensures.items ∙ c.as_slice-3.ensures.value) in
    record {
      local = IsLocal-same l.agent l.points _ l.shared _ (l.arcs ++ window_arcs ws) _ points shared arcs (IsLocal-narrowed l c.self.invariant.local ws known);
      few = omega (arith, ap length arcs, length-append l.arcs (window_arcs ws), length-window_arcs ws, c.self.inside.arcs.ok.0, c.self.invariant.few);
    }
