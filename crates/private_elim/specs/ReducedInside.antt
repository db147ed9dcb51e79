-- How the fields of a reduced local problem are seen: reduced_view.
use Rattle.private_elim.specs.declared.reduced.Reduced.TheInside.{Inside}
use Rattle.private_elim.specs.ReducedViews.{ReducedView}

-- what contracts see of the fields
abbrev pub reduced_view : Inside → ReducedView
reduced_view r = record { local = r.elimination.local; order = r.elimination.order; summary = r.summary }
