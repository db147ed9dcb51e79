-- The shared points of each agent, from a table of owners:
--   items_after                 one point more in one of the lists
--   own_start, own_push         the lists of no points, and of one row more
--   row_known, row_more         the owner of a row is an agent, and what one row more lists
--   own_more                    the lists after one row more
use Rattle.std.proofs.Common.{zero, suc, ◌≡◌, ℕ, ◌+◌, ◌<◌, List, [], ◌∷◌, ◌++◌, true, false, Bool, Option, Some, None, ap, sym, ◌∙◌, refl, inl, inr}
use Rattle.std.proofs.Common.{arith, length, get_or, set, take, map, replicate, Vec, Global, get_or-set_same, get_or-set_other, length-set, subst}
use Rattle.std.specs.Prelude.{◌==◌, IfSome, if◌then◌else◌, filter}
use Rattle.std.specs.List.{All}
use Rattle.std.proofs.lemmas.Bool.{cases_eq}
use Rattle.std.proofs.lemmas.Bool.Decides.{nat_tests}
use Rattle.std.proofs.lemmas.List.{append-nil, get_or-map, get_or-replicate, length-replicate, map-append, map-set, take_more, length-take-le}
use Rattle.stn_model.specs.declared.ids.AgentId.{AgentId}
use Rattle.stn_model.specs.declared.ids.PointId.{PointId}
use Rattle.shared_graph.specs.Interfaces.{SharedPoint, own_among}
use Rattle.shared_graph.specs.States.{point_id}
use Rattle.shared_graph.specs.Views.{listed_from, own_after, AreOwn}
use Rattle.shared_graph.proofs.interfaces.Tables.{one_at, listed_push}

-- a point is put at the end of one of the lists
pub items_after : (own : List (Vec PointId Global)) (o : Option AgentId) (a : AgentId) (point : PointId) (found list : Vec PointId Global) → o ≡ Some a
    → IfSome o (λ b. b.0 < length own) → found ≡ get_or own a.0 found → list.items ≡ found.items ++ point ∷ []
    → map (λ (l : Vec PointId Global). l.items) (set own a.0 list) ≡ own_after (map (λ (l : Vec PointId Global). l.items) own) point o
items_after own o a point found list some low read is =
    let lt : a.0 < length own = subst (λ (x : Option AgentId). IfSome x (λ b. b.0 < length own)) some low in
    let here : get_or (map (λ (l : Vec PointId Global). l.items) own) a.0 [] ≡ found.items =
    get_or-map (λ (l : Vec PointId Global). l.items) own a.0 found [] lt ∙ sym (ap (λ (l : Vec PointId Global). l.items) read) in
    map-set (λ (l : Vec PointId Global). l.items) own a.0 list
    ∙ ap (set (map (λ (l : Vec PointId Global). l.items) own) a.0) (is ∙ sym (ap (λ (xs : List PointId). xs ++ point ∷ []) here))
    ∙ ap (own_after (map (λ (l : Vec PointId Global). l.items) own) point) (sym some)

-- no agent has a point of none
pub own_start : (agents : ℕ) (lists : List (List PointId)) → lists ≡ replicate agents [] → AreOwn agents [] lists
own_start agents lists is = record {
  many = ap length is ∙ length-replicate agents [];
  each = λ a lt. ap (λ (xs : List (List PointId)). map (λ (p : PointId). p.0) (get_or xs a [])) is
      ∙ ap (map (λ (p : PointId). p.0)) (get_or-replicate agents a [] [] lt);
}

-- the points of an agent among one more
own_among-push : (points : List SharedPoint) (q : SharedPoint) (a : ℕ)
    → own_among (points ++ q ∷ []) a ≡ own_among points a ++ (if q.owner == a then q.point ∷ [] else [])
own_among-push [] q a = elim (q.owner == a) as (λ b. map (λ (x : SharedPoint). x.point) (if b then q ∷ [] else []) ≡ (if b then q.point ∷ [] else [])) [
  | true ↦ refl
  | false ↦ refl
]
own_among-push (x ∷ xs) q a =
    elim (x.owner == a) as (λ b. map (λ (y : SharedPoint). y.point) (if b then x ∷ filter (λ (y : SharedPoint). y.owner == a) (xs ++ q ∷ [])
    else filter (λ (y : SharedPoint). y.owner == a) (xs ++ q ∷ []))
    ≡ map (λ (y : SharedPoint). y.point) (if b then x ∷ filter (λ (y : SharedPoint). y.owner == a) xs else filter (λ (y : SharedPoint). y.owner == a) xs)
    ++ (if q.owner == a then q.point ∷ [] else [])) [
      | true ↦ ap (λ (ps : List ℕ). x.point ∷ ps) (own_among-push xs q a)
      | false ↦ own_among-push xs q a
    ]

-- one row more
pub own_push : (agents p : ℕ) (points : List SharedPoint) (lists : List (List PointId)) (o : Option AgentId) → IfSome o (λ a. a.0 < agents)
    → AreOwn agents points lists → AreOwn agents (points ++ one_at p o) (own_after lists (point_id p) o)
own_push agents p points lists None known own = record {
  many = own.many;
  each = λ a lt. own.each a lt ∙ ap (λ (qs : List SharedPoint). own_among qs a) (sym (append-nil points));
}
own_push agents p points lists (Some a) known own =
    let many = own.many in
    let longer : List PointId = get_or lists a.0 [] ++ point_id p ∷ [] in
    record {
      many = length-set lists a.0 longer ∙ own.many;
      each = λ b lt. elim (cases_eq b a.0) [
        | inl same ↦
            (let here : (a.0 == b) ≡ true = grind (arith, nat_tests) in
            ap (λ (n : ℕ). map (λ (q : PointId). q.0) (get_or (set lists a.0 longer) n [])) same
            ∙ ap (map (λ (q : PointId). q.0)) (get_or-set_same lists a.0 longer [] (omega arith))
            ∙ map-append (λ (q : PointId). q.0) (get_or lists a.0 []) (point_id p ∷ [])
            ∙ ap (λ (n : ℕ). map (λ (q : PointId). q.0) (get_or lists n []) ++ p ∷ []) (sym same)
            ∙ ap (λ (xs : List ℕ). xs ++ p ∷ []) (own.each b lt)
            ∙ ap (λ (c : Bool). own_among points b ++ (if c then p ∷ [] else [])) (sym here)
            ∙ sym (own_among-push points (record { point = p; owner = a.0 }) b))
        | inr other ↦
            (let off : (a.0 == b) ≡ false = (let apart : a.0 ≡ b → ⊥ = λ e. other (sym e) in grind (arith, nat_tests)) in
            ap (map (λ (q : PointId). q.0)) (get_or-set_other lists a.0 b longer [] other)
            ∙ own.each b lt ∙ sym (append-nil (own_among points b))
            ∙ ap (λ (c : Bool). own_among points b ++ (if c then p ∷ [] else [])) (sym off)
            ∙ sym (own_among-push points (record { point = p; owner = a.0 }) b))
      ];
    }

-- the owner of a row is an agent
pub row_known : (agents n p : ℕ) (owners : List (Option AgentId)) (o : Option AgentId) → All (λ (q : SharedPoint). q.owner < agents) (listed_from n owners)
    → o ≡ get_or owners p None → IfSome o (λ a. a.0 < agents)
row_known agents n p owners None known is = tt
row_known agents n p [] (Some a) known is = absurd (cc)
row_known agents n zero (None ∷ owners) (Some a) known is = absurd (cc)
row_known agents n zero (Some b ∷ owners) (Some a) known is =
    let same : a ≡ b = cc in
    let lt = known 0 (record { point = n; owner = b.0 }) (omega arith) in
    let number = ap (λ (x : AgentId). x.0) same in
    omega arith
row_known agents n (suc p) (None ∷ owners) (Some a) known is = row_known agents (suc n) p owners (Some a) known is
row_known agents n (suc p) (Some b ∷ owners) (Some a) known is =
    row_known agents (suc n) p owners (Some a) (λ i d lt. known (suc i) d (omega arith)) is

-- what one row more lists
pub row_more : (owners : List (Option AgentId)) (p : ℕ) → p < length owners
    → listed_from 0 (take (p + 1) owners) ≡ listed_from 0 (take p owners) ++ one_at p (get_or owners p None)
row_more owners p lt =
    let some = length-take-le p owners (omega arith) in
    let many : 0 + length (take p owners) ≡ p = omega arith in
    ap (listed_from 0) (take_more owners p None lt) ∙ listed_push 0 (take p owners) (get_or owners p None)
    ∙ ap (λ (n : ℕ). listed_from 0 (take p owners) ++ one_at n (get_or owners p None)) many

-- the lists after one row more
pub own_more : (agents p : ℕ) (owners : List (Option AgentId)) (lists after : List (List PointId)) (point : PointId) → p < length owners → point.0 ≡ p
    → All (λ (q : SharedPoint). q.owner < agents) (listed_from 0 owners) → AreOwn agents (listed_from 0 (take p owners)) lists
    → after ≡ own_after lists point (get_or owners p None) → AreOwn agents (listed_from 0 (take (p + 1) owners)) after
own_more agents p owners lists after point lt number known own is =
    let o = get_or owners p None in
    let more : AreOwn agents (listed_from 0 (take p owners) ++ one_at p o) (own_after lists (point_id p) o) =
    own_push agents p (listed_from 0 (take p owners)) lists o (row_known agents 0 p owners o known refl) own in
    let same : own_after lists (point_id p) o ≡ after = ap (λ (n : ℕ). own_after lists (point_id n) o) (sym number) ∙ sym is in
    subst (λ (qs : List SharedPoint). AreOwn agents qs after) (sym (row_more owners p lt))
    (subst (AreOwn agents (listed_from 0 (take p owners) ++ one_at p o)) same more)
