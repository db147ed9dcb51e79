-- Each entry of a summary joins different points and is light, so a summary fits where its entries name only z and shared points of the agent: all_fit.
use Rattle.std.proofs.Common.{zero, suc, ◌≡◌, ◌≢◌, ℕ, ◌<◌, ◌≤◌, List, [], ◌∷◌, true, not, Option, Some, None, arith, length, get_or, subst}
use Rattle.std.specs.Prelude.{◌==◌, nat_le, nat_abs}
use Rattle.std.proofs.lemmas.Bool.{and_parts, not-true}
use Rattle.std.proofs.lemmas.Bool.Decides.{nat_tests}
use Rattle.stn_model.specs.Limits.{greatest_walk}
use Rattle.elim_step.specs.declared.summary.SummaryEntry.{SummaryEntry}
use Rattle.elim_step.specs.Summaries.{is_valid, is_less, may_follow, may_all_follow, is_summary}
use Rattle.shared_graph.specs.Interfaces.{InterfaceView, IsEnd, IsFitting}

follows_valid : (last : Option SummaryEntry) (e : SummaryEntry) → may_follow last e ≡ true → is_valid e ≡ true
follows_valid None e h = h
follows_valid (Some last) e h = (and_parts (is_less last e) (is_valid e) h).1

valid_apart : (e : SummaryEntry) → is_valid e ≡ true → e.from.0 ≢ e.to.0
valid_apart e h =
    let off = not-true (e.from.0 == e.to.0) (and_parts (not (e.from.0 == e.to.0)) (nat_le (nat_abs e.weight) greatest_walk) h).0 in
    grind (arith, nat_tests)

valid_light : (e : SummaryEntry) → is_valid e ≡ true → nat_abs e.weight ≤ greatest_walk
valid_light e h =
    let test = (and_parts (not (e.from.0 == e.to.0)) (nat_le (nat_abs e.weight) greatest_walk) h).1 in
    grind (arith, nat_tests)

all_valid : (last : Option SummaryEntry) (entries : List SummaryEntry) → may_all_follow last entries ≡ true → (k : ℕ) (d : SummaryEntry)
    → k < length entries → is_valid (get_or entries k d) ≡ true
all_valid last [] h k d lt = absurd (omega arith)
all_valid last (e ∷ entries) h zero d lt = follows_valid last e (and_parts (may_follow last e) (may_all_follow (Some e) entries) h).0
all_valid last (e ∷ entries) h (suc k) d lt =
    all_valid (Some e) entries (and_parts (may_follow last e) (may_all_follow (Some e) entries) h).1 k d (omega arith)

-- what an entry of a fitting summary is
abbrev Fits : InterfaceView → ℕ → SummaryEntry → Type 0
Fits face agent e = IsEnd face agent e.from.0 × IsEnd face agent e.to.0 × (e.from.0 ≢ e.to.0) × (nat_abs e.weight ≤ greatest_walk)

pub all_fit : (face : InterfaceView) (agent n : ℕ) (entries : List SummaryEntry) → is_summary entries ≡ true → length entries ≤ n
    → ((k : ℕ) (d : SummaryEntry) → k < n → IsEnd face agent (get_or entries k d).from.0 × IsEnd face agent (get_or entries k d).to.0)
    → IsFitting face agent entries
all_fit face agent n entries valid few each e here =
    let ends = each here.0 e (omega (arith, here.1)) in
    let entry = get_or entries here.0 e in
    let is_one = all_valid None entries valid here.0 e here.1 in
    subst (Fits face agent) here.2 (ends.0, ends.1, valid_apart entry is_one, valid_light entry is_one)
