-- The texts of certificates, and of their parts.
use Rattle.std.specs.Prelude.{ℕ, List, [], ◌∷◌, ◌++◌, map, codes, slice_index}
use Rattle.std.specs.List.{flat_map}
use Rattle.std.specs.Fmt.{decimal, signed_decimal}
use Rattle.stn_model.specs.declared.ids.PointId.{PointId}
use Rattle.stn_model.specs.Schedules.{time_at}
use Rattle.net_text.specs.Plain.{line}
use Rattle.plain_solve.specs.LeastWalks.{LeastWalks}

-- the line of a point: its number, its distance and its last arc
abbrev pub distance_line : LeastWalks → PointId → List ℕ
distance_line t p = line (codes "to") (decimal p.0 ∷ signed_decimal (time_at t.distances p.0) ∷ decimal (slice_index t.last_arcs p.0) ∷ [])

-- the section of the point from which the walks lead
abbrev pub section_text : LeastWalks → List ℕ
section_text t = line (codes "from") (decimal t.source ∷ []) ++ flat_map (distance_line t) t.order ++ line (codes "holds") []

-- numbers with one space before each
abbrev pub numbers_text : List ℕ → List ℕ
numbers_text ns = flat_map (λ n. 32 ∷ decimal n) ns

-- the certificate of a consistent network, by least walks from each point
abbrev pub consistent_text : ℕ → List LeastWalks → List ℕ
consistent_text points ts =
    line (codes "mastncert") (codes "1" ∷ []) ++ line (codes "consistent") (decimal points ∷ []) ++ flat_map section_text ts ++ line (codes "end") []

-- the certificate of an inconsistent network, by the arcs of a cycle
abbrev pub inconsistent_text : List ℕ → List ℕ
inconsistent_text ns = line (codes "mastncert") (codes "1" ∷ []) ++ line (codes "inconsistent") [] ++ line (codes "cycle") (map decimal ns) ++ line (codes "end") []
