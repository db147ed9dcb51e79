-- Labels of points, and the table of numbers that they are: number_of, label_at, number_at, offered, lesser_label, IsBelow, IsLightLabel, Offered, Came, IsLabel, AreLabels.
use Rattle.std.specs.Prelude.{◌≡◌, ℕ, map, Bool, ℤ, ◌+ℤ◌, ◌-ℤ◌, ◌<ℤ◌, List, Option, Some, None, slice_index_or, int_lt, if◌then◌else◌, Contains, IfSome}
use Rattle.tri_solve.specs.declared.edge.Edge.{Edge}
use Rattle.tri_solve.specs.declared.label.Label.{Label}
use Rattle.tri_solve.specs.Passes.{IsLight}
use Rattle.tri_solve.specs.Layouts.{is_up}

-- the number of a label that may be missing
abbrev pub number_of : Option Label → Option ℤ
number_of None = None
number_of (Some l) = Some l.number

-- the label of a point
abbrev pub label_at : List (Option Label) → ℕ → Option Label
label_at labels p = slice_index_or labels p None

-- its number
abbrev pub number_at : List (Option Label) → ℕ → Option ℤ
number_at labels p = number_of (label_at labels p)

-- the label that the point at an edge's end gets by way of it
abbrev pub offered : Option Label → Edge → Option Label
offered None e = None
offered (Some l) e = Some (record { number = l.number +ℤ e.bound; via = e.from })

-- the second where it is less, else the first
abbrev pub lesser_label : Option Label → Option Label → Option Label
lesser_label None b = b
lesser_label (Some a) None = Some a
lesser_label (Some a) (Some b) = if int_lt b.number a.number then Some b else Some a

-- a number below another one, or where there is no other
abbrev pub IsBelow : ℤ → Option ℤ → Type 0
IsBelow x None = Unit {0}
IsBelow x (Some d) = x <ℤ d

-- a label whose number is that light, if it is there
abbrev pub IsLightLabel : ℕ → Option Label → Type 0
IsLightLabel m o = IfSome o (λ l. IsLight m l.number)

-- a label of p by way of an edge from an earlier point (up) or from a later one, below the number that p has
pub record Offered (order : List ℕ) (edges : List Edge) (labels : List (Option Label)) (p : ℕ) (up : Bool) (o : Option Label) : Type 0 where
  pub label : Label
  pub is : o ≡ Some label
  pub before : ℤ
  pub known : number_at labels label.via.0 ≡ Some before
  pub edge : Contains edges (record { from = label.via; to = record { 0 = p }; bound = label.number -ℤ before })
  pub side : is_up order label.via.0 p ≡ up
  pub less : IsBelow label.number (number_at labels p)

-- the label that p has now, by way of a point that is set
pub record Came (order : List ℕ) (edges : List Edge) (old now : List (Option Label)) (xs : List ℕ) (p : ℕ) (up : Bool) : Type 0 where
  pub label : Label
  pub is : label_at now p ≡ Some label
  pub set : Contains xs label.via.0
  pub before : ℤ
  pub known : number_at now label.via.0 ≡ Some before
  pub edge : Contains edges (record { from = label.via; to = record { 0 = p }; bound = label.number -ℤ before })
  pub side : is_up order label.via.0 p ≡ up
  pub less : IsBelow label.number (number_at old p)

-- the point has a label
abbrev pub IsLabel : List (Option Label) → ℕ → Type 0
IsLabel labels p = (l : Label) × (label_at labels p ≡ Some l)

-- these are the labels, all there
abbrev pub AreLabels : List (Option Label) → List Label → Type 0
AreLabels labels whole = labels ≡ map (λ l. Some l) whole
