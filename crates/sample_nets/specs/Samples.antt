-- The networks of the samples: arc, people, letters, arc_of, sample, handover.
use Rattle.std.specs.Prelude.{ℕ, zero, suc, ◌+◌, ℤ, pos, neg_ℤ, List, [], ◌∷◌, ◌++◌, map, take, length, get_or}
use Rattle.stn_model.specs.declared.ids.Constraint.{Constraint}
use Rattle.stn_model.specs.declared.ids.Lean.TheVariants.{Early}
use Rattle.stn_model.specs.Net.{Net, Place}

-- an arc from i to j
abbrev pub arc : ℕ → ℕ → ℤ → Constraint
arc i j b = record { from = record { 0 = i }; to = record { 0 = j }; bound = b }

-- two agents, ann and bob, without points
abbrev pub people : ℤ → Net
people h = record {
  horizon = h;
  agents = record { name = 97 ∷ 110 ∷ 110 ∷ []; lean = Early } ∷ record { name = 98 ∷ 111 ∷ 98 ∷ []; lean = Early } ∷ [];
  places = [];
  acts = [];
  given = [];
}

-- points of these owners, named by the letter c and those after it
abbrev pub letters : ℕ → List ℕ → List Place
letters c [] = []
letters c (o ∷ owners) = record { name = c ∷ []; owner = o } ∷ letters (c + 1) owners

-- an arc (from, to, bound)
abbrev pub arc_of : ℕ × ℕ × ℤ → Constraint
arc_of a = arc a.0 a.1 a.2

-- the network of these owners and arcs
abbrev pub sample : ℤ → List ℕ → List (ℕ × ℕ × ℤ) → Net
sample h owners arcs = record (people h) { places = letters 97 owners; given = map arc_of arcs }

-- ann has a1 and a2 (1 and 2), bob has b1 and b2 (3 and 4); the given arcs have the numbers 8 to 14
abbrev pub handover : Net
handover = record (people (pos 100)) {
  places = record { name = 97 ∷ 49 ∷ []; owner = 0 } ∷ record { name = 97 ∷ 50 ∷ []; owner = 0 }
      ∷ record { name = 98 ∷ 49 ∷ []; owner = 1 } ∷ record { name = 98 ∷ 50 ∷ []; owner = 1 } ∷ [];
  given = arc 0 1 (pos 20) ∷ arc 1 2 (pos 40) ∷ arc 2 1 (neg_ℤ (pos 30)) ∷ arc 2 3 (pos 5) ∷ arc 3 2 (pos 0) ∷ arc 3 4 (pos 20)
      ∷ arc 4 3 (neg_ℤ (pos 10)) ∷ [];
}
