-- What commands say, one after another, and the least windows that they tell: said_none, said_more, said_all, command_of, windows_none,
-- windows_more, windows_all, windows_known.
use Rattle.std.proofs.Common.{◌≡◌, ℕ, ◌+◌, ◌-◌, ◌<◌, ◌≤◌, List, [], ◌∷◌, ◌++◌, Some, length, take, get_or, length-append, ap, sym, ◌∙◌, refl, arith, subst}
use Rattle.std.proofs.Common.{inl, inr, append_assoc, append-nil}
use Rattle.std.specs.Prelude.{slice_get}
use Rattle.std.specs.List.{All}
use Rattle.std.proofs.lemmas.Bool.{cases_lt}
use Rattle.std.proofs.lemmas.List.{take_more, take_all, get_or_append_left, get_or-append_right}
use Rattle.std.proofs.lemmas.List.Elements.{All-from_recursion}
use Rattle.std.proofs.lemmas.Option.{slice_get-get_or, slice_get_within, get_or_from_slice_get}
use Rattle.stn_model.specs.Net.{Net, point_count}
use Rattle.script_text.specs.declared.command.Command.{Command}
use Rattle.script_text.specs.Possible.{IsCommandOf, IsScriptOf}
use Rattle.schedule_report.specs.declared.window.Window3.{Window3}
use Rattle.mastn.specs.Commands.{IsLeastWindow, AreLeastWindows, SaysCommand, SaysCommands}

-- one command more
said_behind : (net : Net) (order : List ℕ) (commands : List Command) (c : Command) (said first : List ℕ) → SaysCommands net order commands said
    → SaysCommand net order c first → SaysCommands net order (commands ++ c ∷ []) (said ++ first)
said_behind net order [] c said first none h =
    (first, ([], h, refl, ap (λ (xs : List ℕ). xs ++ first) none ∙ sym (append-nil first)))
said_behind net order (d ∷ commands) c said first (one, rest) h = (
  one,
  (rest.0 ++ first, rest.1, said_behind net order commands c rest.0 first rest.2 h, ap (λ (xs : List ℕ). xs ++ first) rest.3 ∙ append_assoc one rest.0 first),
)

-- what the first n commands say has been appended
abbrev pub IsSaid : Net → List ℕ → List Command → ℕ → List ℕ → List ℕ → Type 0
IsSaid net order commands n old new = (said : List ℕ) × SaysCommands net order (take n commands) said × (new ≡ old ++ said)

pub said_none : (net : Net) (order : List ℕ) (commands : List Command) (old : List ℕ) → IsSaid net order commands 0 old old
said_none net order commands old = ([], refl, sym (append-nil old))

pub said_more : (net : Net) (order : List ℕ) (commands : List Command) (n : ℕ) (c : Command) (old middle new first : List ℕ) → n < length commands
    → c ≡ get_or commands n c → IsSaid net order commands n old middle → SaysCommand net order c first → new ≡ middle ++ first
    → IsSaid net order commands (n + 1) old new
said_more net order commands n c old middle new first low is (said, says, so) h grown = (
  said ++ first,
  subst (λ cs. SaysCommands net order cs (said ++ first)) (ap (λ (x : Command). take n commands ++ x ∷ []) is ∙ sym (take_more commands n c low))
      (said_behind net order (take n commands) c said first says h),
  grown ∙ ap (λ (xs : List ℕ). xs ++ first) so ∙ append_assoc old said first,
)

pub said_all : (net : Net) (order : List ℕ) (commands : List Command) (n : ℕ) (old new : List ℕ) → length commands ≤ n
    → IsSaid net order commands n old new → (said : List ℕ) × SaysCommands net order commands said × (new ≡ old ++ said)
said_all net order commands n old new past (said, says, so) =
    (said, subst (λ cs. SaysCommands net order cs said) (take_all n commands past) says, so)

-- each command of a script is one of the network
pub command_of : (net : Net) (commands : List Command) (n : ℕ) (c : Command) → n < length commands → c ≡ get_or commands n c → IsScriptOf net commands
    → IsCommandOf net c
command_of net commands n c low is h = subst (IsCommandOf net) (sym is) (All-from_recursion (IsCommandOf net) commands h.commands n c low)

-- the windows of the points from 1 to below n
pub record AreWindowsBelow (net : Net) (n : ℕ) (windows : List Window3) : Type 0 where
  pub len : length windows + 1 ≡ n
  pub each : (k : ℕ) (w : Window3) → slice_get windows k ≡ Some w → (w.point.0 ≡ k + 1) × IsLeastWindow net w

pub windows_none : (net : Net) → AreWindowsBelow net 1 []
windows_none net = record { len = refl; each = λ k w h. (let low = slice_get_within [] k w h in absurd (omega arith)) }

pub windows_more : (net : Net) (n : ℕ) (w : Window3) (old new : List Window3) → new ≡ old ++ w ∷ [] → w.point.0 ≡ n → IsLeastWindow net w
    → AreWindowsBelow net n old → AreWindowsBelow net (n + 1) new
windows_more net n w old new is at least h =
    subst (AreWindowsBelow net (n + 1)) (sym is) (record {
      len = (let many = length-append old (w ∷ []) in let len = h.len in omega arith);
      each = each;
    }) where
      each : (k : ℕ) (x : Window3) → slice_get (old ++ w ∷ []) k ≡ Some x → (x.point.0 ≡ k + 1) × IsLeastWindow net x
      each k x there =
          let inside = slice_get_within (old ++ w ∷ []) k x there in
          let read = get_or_from_slice_get (old ++ w ∷ []) k x x there in
          let many = length-append old (w ∷ []) in
          let len = h.len in
          elim (cases_lt k (length old)) [
            | inl low ↦
                h.each k x (slice_get-get_or old k x low ∙ ap (λ (y : Window3). Some y) (sym (get_or_append_left old (w ∷ []) x k low) ∙ read))
            | inr high ↦
                (let zeroth : k - length old ≡ 0 = omega arith in
                let last : w ≡ x = sym (get_or-append_right old (w ∷ []) (length old) k x refl high
                ∙ ap (λ m. get_or (w ∷ []) m x) zeroth) ∙ read in
                let place : n ≡ k + 1 = omega arith in
                (ap (λ (y : Window3). y.point.0) (sym last) ∙ at ∙ place, subst (IsLeastWindow net) last least))
          ]

pub windows_all : (net : Net) (n : ℕ) (windows : List Window3) → n ≡ point_count net → AreWindowsBelow net n windows → AreLeastWindows net windows
windows_all net n windows end h = record { one_each = h.len ∙ end; each = h.each }

-- they are of points of the network
pub windows_known : (net : Net) (windows : List Window3) → AreLeastWindows net windows → All (λ w. w.point.0 < point_count net) windows
windows_known net windows h k d low =
    let there = slice_get-get_or windows k d low in
    let at = (h.each k (get_or windows k d) there).0 in
    let many = h.one_each in
    omega arith
