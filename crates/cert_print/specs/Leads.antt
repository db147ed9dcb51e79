-- What lines lead to where a checker reads them, and what it is that a text is a certificate.
use Rattle.std.specs.Prelude.{◌≡◌, ℕ, ◌+◌, List, ◌++◌, ◌⊎◌}
use Rattle.std.specs.List.{flat_map}
use Rattle.stn_model.specs.Net.{Net, arcs_of, point_count}
use Rattle.stn_model.specs.Schedules.{IsConsistent}
use Rattle.stn_model.specs.Walks.{IsNegativeCycle, IsNormal}
use Rattle.net_text.specs.Lines.{lines}
use Rattle.plain_solve.specs.LeastWalks.{LeastWalks}
use Rattle.cert_check.specs.declared.stage.Stage.{Stage}
use Rattle.cert_check.specs.declared.verdict.Verdict.TheVariants as verdict
use Rattle.cert_check.specs.Certificates.{read_from, verdict_of}
use Rattle.cert_print.specs.Sections.{AreFrom}
use Rattle.cert_print.specs.Texts.{section_text, consistent_text, inconsistent_text}

-- no line of the text is false where a checker has come to one stage, and after it the checker has come to the other; whatever follows
pub record Leads (net : Net) (here there : Stage) (text : List ℕ) : Type 0 where
  pub count : ℕ
  pub reads : (n : ℕ) (rest : List ℕ) → read_from net here n (lines (text ++ rest)) ≡ read_from net there (n + count) (lines rest)

-- sections of the points from i up to j were appended
pub record WritesSections (net : Net) (i j : ℕ) (old new : List ℕ) : Type 0 where
  pub walks : List LeastWalks
  pub are : AreFrom net i j walks
  pub whole : new ≡ old ++ flat_map section_text walks

-- some schedule satisfies the network, and the text proves least bounds from each point; a checker accepts it
pub record ShowsBounds (net : Net) (text : List ℕ) : Type 0 where
  pub consistent : IsConsistent (point_count net) (arcs_of net)
  pub walks : List LeastWalks
  pub are : AreFrom net 0 (point_count net) walks
  pub written : text ≡ consistent_text (point_count net) walks
  pub accepted : (first : ℕ) → verdict_of net first text ≡ verdict.Consistent

-- no schedule satisfies the network, and the text tells a negative cycle, its least arc first; a checker accepts it
pub record ShowsCycle (net : Net) (text : List ℕ) : Type 0 where
  pub inconsistent : IsConsistent (point_count net) (arcs_of net) → ⊥
  pub cycle : List ℕ
  pub negative : IsNegativeCycle (arcs_of net) cycle
  pub normal : IsNormal cycle
  pub written : text ≡ inconsistent_text cycle
  pub accepted : (first : ℕ) → verdict_of net first text ≡ verdict.Inconsistent

-- what was appended is a certificate of the network, whichever of the two it is
abbrev pub Certifies : Net → List ℕ → List ℕ → Type 0
Certifies net old new = (text : List ℕ) × (new ≡ old ++ text) × (ShowsBounds net text ⊎ ShowsCycle net text)
