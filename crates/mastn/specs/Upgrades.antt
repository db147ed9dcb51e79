-- What the job `upgrade` says of a network: Upgrades.
use Rattle.std.specs.Prelude.{◌≡◌, ℕ, List}
use Rattle.stn_model.specs.Net.{Net}
use Rattle.net_text.specs.declared.version.Version.TheVariants.{Two}
use Rattle.net_text.specs.Laws.{IsReadBackIn}
use Rattle.net_text.specs.Plain.{plain_form2}
use Rattle.mastn.specs.declared.answer.Outcome.{Outcome}
use Rattle.mastn.specs.declared.answer.Outcome.TheVariants.{Done}

-- the network's plain form in version 2, which is read as that network, whether or not some schedule satisfies it
pub record IsUpgrade (net : Net) (text : List ℕ) : Type 0 where
  pub form : text ≡ plain_form2 net
  pub read_back : IsReadBackIn Two net

-- the outcome and the text for a network
abbrev pub Upgrades : Net → Outcome → List ℕ → Type 0
Upgrades net Done text = IsUpgrade net text
Upgrades net outcome text = ⊥
