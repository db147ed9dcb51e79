-- What is said of a network that was solved.
use Rattle.std.proofs.Common.{◌≡◌, ℕ, List, [], ◌∷◌, map, Some, subst}
use Rattle.std.specs.Prelude.{reverse, slice_index_or}
use Rattle.stn_model.specs.declared.ids.PointId.{PointId}
use Rattle.stn_model.specs.Net.{Net, arcs_of, point_count}
use Rattle.stn_model.specs.Schedules.{IsConsistent}
use Rattle.stn_model.proofs.WalkLemmas.{no_schedule}
use Rattle.elim_step.proofs.Finds.{picks_weaker}
use Rattle.private_elim.specs.Locals.{LocalView, local_of}
use Rattle.private_elim.specs.Picked.{ArePicked}
use Rattle.elim_journal.specs.Sections.{SectionView}
use Rattle.joined_answer.specs.Joins.{IsLegalSection, ArePickedOrders, joined_order}
use Rattle.script_text.specs.declared.command.Command.{Command}
use Rattle.mastn.specs.Commands.{SaysCommands}
use Rattle.mastn.specs.declared.answer.Outcome.TheVariants.{Done, Inconsistent}
use Rattle.mastn.specs.declared.words.Pick.{Pick}
use Rattle.mastn.specs.Checks.{ReportsInconsistent}
use Rattle.mastn.specs.Solves.{Solves, is_answer, solved_report}

-- points that were picked by answers are picked by what these answers are too
module _ (answers other : ℕ → ℕ → ℕ → Type 0) (weaker : (degree number key : ℕ) → answers degree number key → other degree number key) where
  ArePicked-weaker : (v : LocalView) (taken : List ℕ) → ArePicked answers v taken → ArePicked other v taken
  ArePicked-weaker v [] h = tt
  ArePicked-weaker v (p ∷ taken) h = (
    record {
      candidates = h.0.candidates;
      are = h.0.are;
      place = h.0.place;
      picks = picks_weaker answers other h.0.candidates (Some h.0.place) (λ q key low. weaker _ _ key) h.0.picks;
      is = h.0.is;
    },
    ArePicked-weaker v taken h.1,
  )

  ArePickedOrders-weaker : (net : Net) (section : SectionView) → ArePickedOrders answers net section → ArePickedOrders other net section
  ArePickedOrders-weaker net section h = record {
    orders = h.orders;
    private = h.private;
    picked = λ a lt. ArePicked-weaker (local_of net a) (reverse (slice_index_or h.orders a [])) (h.picked a lt);
  }

-- what is said of the order is said of that of the record
pub says_order : (net network : Net) (section : SectionView) (order : List PointId) (commands : List Command) (said : List ℕ) → network ≡ net
    → order ≡ joined_order section → SaysCommands network (map (λ p. p.0) order) commands said
    → SaysCommands net (map (λ p. p.0) (joined_order section)) commands said
says_order net network section order commands said same ordered says =
    subst (λ (n : Net). SaysCommands n (map (λ p. p.0) (joined_order section)) commands said) same
    (subst (λ (ps : List PointId). SaysCommands network (map (λ p. p.0) ps) commands said) ordered says)

-- a consistent network, by the record of how it was solved
pub says_consistent : (pick : Pick) (answers : ℕ → ℕ → ℕ → Type 0) (net : Net) (section : SectionView) (commands : List Command)
    (text said : List ℕ) → ((degree number key : ℕ) → answers degree number key → is_answer pick degree number key)
    → IsConsistent (point_count net) (arcs_of net) → IsLegalSection net section → ArePickedOrders answers net section
    → SaysCommands net (map (λ p. p.0) (joined_order section)) commands said → text ≡ solved_report net section said → Solves pick net commands Done text
says_consistent pick answers net section commands text said keys consistent legal picked says report = record {
  verdict = consistent;
  says = record {
    section = section;
    legal = legal;
    picked = ArePickedOrders-weaker answers (is_answer pick) keys net section picked;
    said = said;
    says = says;
    report = report;
  };
}

-- an inconsistent network, by a negative cycle
pub says_inconsistent : (pick : Pick) (net : Net) (commands : List Command) (text : List ℕ) → ReportsInconsistent net text
    → Solves pick net commands Inconsistent text
says_inconsistent pick net commands text h = record { verdict = no_schedule (arcs_of net) (point_count net) h.walk h.cycle; says = h }
