-- What a step that was tried leaves: IsTried.
use Rattle.std.specs.Prelude.{◌≡◌}
use Rattle.graph_tests.specs.declared.steps.Tried.{Tried}
use Rattle.graph_tests.specs.declared.steps.Tried.TheVariants.{Made, Refused}
use Rattle.shared_graph.specs.Histories.{SharedView}

-- a step that is refused changes nothing, and one that is made leaves the interface
abbrev pub IsTried : SharedView → SharedView → Tried → Type 0
IsTried old new Made = new.face ≡ old.face
IsTried old new (Refused cause) = new ≡ old
