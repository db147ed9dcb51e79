-- Tables of owners by point: what one row more lists, the owner of a point, and the points that a network's table lists.
--   one_at, listed_push                   what a row lists, and one row more
--   owner_missing, owner_found            the owner of a point past the end, and of one in the table
--   rows_push                             the rows of a network's points, one by one
use Rattle.std.proofs.Common.{zero, suc, ◌≡◌, ℕ, ◌+◌, ◌-◌, ◌<◌, ◌≤◌, List, [], ◌∷◌, ◌++◌, true, false, Bool, Option, Some, None, is_some, ap, sym, ◌∙◌, refl}
use Rattle.std.proofs.Common.{arith, length, length-append, get_or, map}
use Rattle.std.specs.Prelude.{◌==◌, if◌then◌else◌, nat_eq, nat_lt, slice_get, slice_index_or}
use Rattle.std.specs.Option.{option_map}
use Rattle.std.proofs.lemmas.Bool.Decides.{nat_tests}
use Rattle.std.proofs.lemmas.List.{map-append}
use Rattle.std.proofs.lemmas.Option.{slice_get-get_or}
use Rattle.stn_model.specs.declared.ids.AgentId.{AgentId}
use Rattle.stn_model.specs.declared.ids.PointId.{PointId}
use Rattle.stn_model.specs.Net.{Net, owner_of, no_place}
use Rattle.stn_model.specs.Kinds.{is_shared}
use Rattle.shared_graph.specs.Interfaces.{SharedPoint, owner_among, shared_points}
use Rattle.shared_graph.specs.States.{point_id}
use Rattle.shared_graph.specs.Views.{listed_from}

-- the number of an owner, and of what a row has
abbrev number_of : Option AgentId → Option ℕ
number_of o = option_map (λ a. a.0) o

abbrev found : Option (Option AgentId) → Option ℕ
found None = None
found (Some o) = number_of o

-- what a row lists
abbrev pub one_at : ℕ → Option AgentId → List SharedPoint
one_at p None = []
one_at p (Some a) = record { point = p; owner = a.0 } ∷ []

pub listed_push : (n : ℕ) (owners : List (Option AgentId)) (o : Option AgentId)
    → listed_from n (owners ++ o ∷ []) ≡ listed_from n owners ++ one_at (n + length owners) o
listed_push n [] None = refl
listed_push n [] (Some a) = (let e : n ≡ n + 0 = omega arith in ap (λ (m : ℕ). record { point = m; owner = a.0 } ∷ []) e)
listed_push n (None ∷ owners) o =
    let e : suc n + length owners ≡ n + suc (length owners) = omega arith in
    listed_push (suc n) owners o ∙ ap (λ (m : ℕ). listed_from (suc n) owners ++ one_at m o) e
listed_push n (Some a ∷ owners) o =
    let e : suc n + length owners ≡ n + suc (length owners) = omega arith in
    ap (λ (qs : List SharedPoint). record { point = n; owner = a.0 } ∷ qs) (listed_push (suc n) owners o
    ∙ ap (λ (m : ℕ). listed_from (suc n) owners ++ one_at m o) e)

-- no point before the first row is listed
below : (n p : ℕ) (owners : List (Option AgentId)) → p < n → owner_among (listed_from n owners) p ≡ None
below n p [] lt = refl
below n p (None ∷ owners) lt = below (suc n) p owners (omega arith)
below n p (Some a ∷ owners) lt =
    let differ : (p == n) ≡ false = (let ne : p ≡ n → ⊥ = λ e. absurd (omega arith) in grind (arith, nat_tests)) in
    ap (λ b. if b then Some a.0 else owner_among (listed_from (suc n) owners) p) differ ∙ below (suc n) p owners (omega arith)

owner_from : (n k : ℕ) (owners : List (Option AgentId)) → owner_among (listed_from n owners) (n + k) ≡ found (slice_get owners k)
owner_from n k [] = refl
owner_from n zero (None ∷ owners) = below (suc n) (n + 0) owners (omega arith)
owner_from n zero (Some a ∷ owners) =
    let same : (n + 0 == n) ≡ true = (let e : n + 0 ≡ n = omega arith in grind (arith, nat_tests)) in
    ap (λ b. if b then Some a.0 else owner_among (listed_from (suc n) owners) (n + 0)) same
owner_from n (suc k) (None ∷ owners) =
    let e : n + suc k ≡ suc n + k = omega arith in
    ap (owner_among (listed_from (suc n) owners)) e ∙ owner_from (suc n) k owners
owner_from n (suc k) (Some a ∷ owners) =
    let e : n + suc k ≡ suc n + k = omega arith in
    let differ : (n + suc k == n) ≡ false = (let ne : n + suc k ≡ n → ⊥ = λ f. absurd (omega arith) in grind (arith, nat_tests)) in
    ap (λ b. if b then Some a.0 else owner_among (listed_from (suc n) owners) (n + suc k)) differ
    ∙ ap (owner_among (listed_from (suc n) owners)) e ∙ owner_from (suc n) k owners

-- past the end nothing stands
slice_get_past : {X : Type 0} (xs : List X) (i : ℕ) → length xs ≤ i → slice_get xs i ≡ None
slice_get_past [] i high = refl
slice_get_past (x ∷ xs) zero high = absurd (omega arith)
slice_get_past (x ∷ xs) (suc i) high = slice_get_past xs i (omega arith)

pub owner_is : (owners : List (Option AgentId)) (p : ℕ) → owner_among (listed_from 0 owners) p ≡ found (slice_get owners p)
owner_is owners p = (let e : p ≡ 0 + p = omega arith in ap (owner_among (listed_from 0 owners)) e ∙ owner_from 0 p owners)

-- what a table has in a row, by number, where a row past the end has none
pub found_is : (owners : List (Option AgentId)) (p : ℕ) → found (slice_get owners p) ≡ option_map (λ (a : AgentId). a.0) (get_or owners p None)
found_is [] p = refl
found_is (o ∷ owners) zero = refl
found_is (o ∷ owners) (suc p) = found_is owners p

pub owner_missing : (owners now : List (Option AgentId)) (p : ℕ) → now ≡ owners → false ≡ nat_lt p (length now)
    → None ≡ owner_among (listed_from 0 owners) p
owner_missing owners now p e h =
    let high : length owners ≤ p = (let many = ap length e in let low : length now ≤ p = grind (arith, nat_tests) in omega arith) in
    sym (owner_is owners p ∙ ap found (slice_get_past owners p high))

pub owner_found : (owners now : List (Option AgentId)) (p : ℕ) (o : Option AgentId) → now ≡ owners → true ≡ nat_lt p (length now) → o ≡ get_or now p o
    → number_of o ≡ owner_among (listed_from 0 owners) p
owner_found owners now p o e h is =
    let low : p < length owners = (let many = ap length e in let lt : p < length now = grind (arith, nat_tests) in omega arith) in
    let there : get_or owners p o ≡ o = ap (λ (xs : List (Option AgentId)). get_or xs p o) (sym e) ∙ sym is in
    sym (owner_is owners p ∙ ap found (slice_get-get_or owners p o low ∙ ap (λ x. Some x) there))

-- the row of a point, where it is shared, and its number
row_is : (b : Bool) (o : Option AgentId) (x q : ℕ) → number_of o ≡ (if b then Some x else None)
    → one_at q o ≡ (if b then record { point = q; owner = x } ∷ [] else [])
row_is true None x q h = absurd (cc)
row_is true (Some a) x q h = (let e : a.0 ≡ x = cc in ap (λ (y : ℕ). record { point = q; owner = y } ∷ []) e)
row_is false None x q h = refl
row_is false (Some a) x q h = absurd (cc)

row_points : (o : Option AgentId) (p : ℕ)
    → map (λ (q : PointId). q.0) (if is_some o then point_id p ∷ [] else []) ≡ map (λ (q : SharedPoint). q.point) (one_at p o)
row_points None p = refl
row_points (Some a) p = refl

-- the owner of a point of the network
owner_here : (net : Net) (n : ℕ) → n < length net.places → owner_of net (suc n) ≡ Some (slice_index_or net.places n no_place).owner
owner_here net n lt =
    let at : suc n - 1 ≡ n = omega arith in
    let off : nat_eq (suc n) 0 ≡ false = grind (arith, nat_tests) in
    ap (λ b. if b then None else option_map (λ q. q.owner) (slice_get net.places (suc n - 1))) off
    ∙ ap (λ m. option_map (λ q. q.owner) (slice_get net.places m)) at
    ∙ ap (option_map (λ q. q.owner)) (slice_get-get_or net.places n no_place lt)

-- the rows of a network's points after one more
pub rows_push : (net : Net) (n p : ℕ) (points new_points : List PointId) (owners new_owners : List (Option AgentId)) (o : Option AgentId) (wanted : Bool)
    → p ≡ suc n → n < length net.places → length owners ≡ p → listed_from 0 owners ≡ shared_points net n
    → map (λ (q : PointId). q.0) points ≡ map (λ (q : SharedPoint). q.point) (shared_points net n)
    → number_of o ≡ (if is_shared net p then owner_of net p else None)
    → new_points ≡ points ++ (if wanted then point_id p ∷ [] else []) → wanted ≡ is_some o → new_owners ≡ owners ++ o ∷ []
    → (length new_owners ≡ p + 1) × (listed_from 0 new_owners ≡ shared_points net p)
    × (map (λ (q : PointId). q.0) new_points ≡ map (λ (q : SharedPoint). q.point) (shared_points net p))
rows_push net n p points new_points owners new_owners o wanted at low many listed numbers owner more_points is more_owners =
    let at_end : 0 + length owners ≡ p = omega arith in
    let kind : number_of o ≡ (if is_shared net (suc n) then Some (slice_index_or net.places n no_place).owner else None) =
    owner ∙ ap (λ (m : ℕ). if is_shared net m then owner_of net m else None) at
    ∙ ap (λ x. if is_shared net (suc n) then x else None) (owner_here net n low) in
    let row : one_at p o ≡ (if is_shared net (suc n) then record { point = suc n; owner = (slice_index_or net.places n no_place).owner } ∷ [] else []) =
    ap (λ (m : ℕ). one_at m o) at ∙ row_is (is_shared net (suc n)) o (slice_index_or net.places n no_place).owner (suc n) kind in
    let whole : shared_points net n ++ one_at p o ≡ shared_points net p = ap (λ (qs : List SharedPoint). shared_points net n ++ qs) row
    ∙ ap (shared_points net) (sym at) in
    let count = ap length more_owners ∙ length-append owners (o ∷ []) in (
      omega arith,
      ap (listed_from 0) more_owners ∙ listed_push 0 owners o ∙ ap (λ (m : ℕ). listed_from 0 owners ++ one_at m o) at_end
          ∙ ap (λ (qs : List SharedPoint). qs ++ one_at p o) listed ∙ whole,
      ap (map (λ (q : PointId). q.0)) (more_points ∙ ap (λ b. points ++ (if b then point_id p ∷ [] else [])) is)
          ∙ map-append (λ (q : PointId). q.0) points (if is_some o then point_id p ∷ [] else [])
          ∙ (λ t. numbers t ++ row_points o p t)
          ∙ sym (map-append (λ (q : SharedPoint). q.point) (shared_points net n) (one_at p o))
          ∙ ap (map (λ (q : SharedPoint). q.point)) whole,
    )
