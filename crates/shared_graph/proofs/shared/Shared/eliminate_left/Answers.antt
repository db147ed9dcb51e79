use Rattle.std.proofs.Common.{◌≡◌, false, sym, ◌∙◌, subst}
use Rattle.stn_walk.specs.Eliminations.{is_in}
use Rattle.shared_graph.specs.Histories.{SharedView, IsJournal}
use Rattle.shared_graph.proofs.graphs.Finishing.{may_take, finished_taken}
use Rattle.shared_graph.proofs.graphs.Histories.{journal_sound}
use Rattle.shared_graph.proofs.shared.Shared.eliminate_left.Goals as goal

pub eliminate-requires : goal.eliminate-requires
eliminate-requires g c =
    let v = c.args.self.now in
    let j : IsJournal v.face v.state v.journal = subst (λ (w : SharedView). IsJournal w.face w.state w.journal) c.self.view_is c.self.invariant.0 in
    let fresh : is_in v.state.order c.args.point.0 ≡ false =
    subst (λ (w : SharedView). is_in w.state.order c.args.point.0 ≡ false) c.self.view_is (sym c.is_taken.ensures ∙ c.if-is_taken.false) in
    may_take v.face j.interface v.state (journal_sound v.face v.state v.journal j) c.requires.going c.requires.all c.args.point.0 c.requires.listed fresh

pub returns-in-Clear-clause-finished : goal.returns-in-Clear-clause-finished
returns-in-Clear-clause-finished g c summaries agree =
    let v = c.args.self.now in
    let j : IsJournal v.face v.state v.journal = subst (λ (w : SharedView). IsJournal w.face w.state w.journal) c.self.view_is c.self.invariant.0 in
    let fresh : is_in v.state.order c.args.point.0 ≡ false =
    subst (λ (w : SharedView). is_in w.state.order c.args.point.0 ≡ false) c.self.view_is (sym c.is_taken.ensures ∙ c.if-is_taken.false) in
    finished_taken summaries v c.eliminate.new.self c.args.point c.in_ok-eliminate.field-0 j.interface (journal_sound v.face v.state v.journal j)
    c.requires.going c.requires.all c.requires.listed fresh c.requires.before c.in_ok-eliminate.ensures.eliminated agree

pub returns-in-Stopped-clause-finished : goal.returns-in-Stopped-clause-finished
returns-in-Stopped-clause-finished g c summaries agree =
    let v = c.args.self.now in
    let j : IsJournal v.face v.state v.journal = subst (λ (w : SharedView). IsJournal w.face w.state w.journal) c.self.view_is c.self.invariant.0 in
    let fresh : is_in v.state.order c.args.point.0 ≡ false =
    subst (λ (w : SharedView). is_in w.state.order c.args.point.0 ≡ false) c.self.view_is (sym c.is_taken.ensures ∙ c.if-is_taken.false) in
    finished_taken summaries v c.eliminate.new.self c.args.point c.in_ok-eliminate.field-0 j.interface (journal_sound v.face v.state v.journal j)
    c.requires.going c.requires.all c.requires.listed fresh c.requires.before c.in_ok-eliminate.ensures.eliminated agree
