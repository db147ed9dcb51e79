-- Where the points of an agent stand among all points, and lists that grow place by place.
use Rattle.std.proofs.Common.{◌≡◌, ℕ, zero, suc, ◌+◌, ◌-◌, ◌*◌, ◌/◌, ◌%◌, ◌<◌, ◌≤◌, List, [], ◌∷◌, ◌++◌, length, map, refl, sym, ap, ◌∙◌, arith, length-append, append-nil, append_assoc, add-one, get_or, ℤ, pos, neg_ℤ, ◌+ℤ◌, ◌-ℤ◌}
use Rattle.std.specs.List.{flat_map, range_with_len}
use Rattle.std.proofs.lemmas.Grind.{flat_map-append}
use Rattle.std.proofs.lemmas.Nat.{mul-le}
use Rattle.std.proofs.Math.Nat.{add-mul, mul-le-mul_right, div-lt_iff_lt-mul, mod-lt}
use Rattle.std.proofs.lemmas.List.FromFn.{map-range_with_len_more, get_or-map-range_with_len, length-map-range_with_len}
use Rattle.stn_model.specs.declared.ids.Constraint.{Constraint}
use Rattle.stn_model.specs.Net.{Net}
use Rattle.net_gen.specs.Generated.{width, point_total, gap_total, gap_start, agent_at, place_at, time_of, AreTimes, bound_arcs, drawn_bound}
use Rattle.net_gen.specs.Draws.{DrawState, drawn}

-- the points of an agent end within all points
pub agent_fits : (size i : ℕ) → i < size → i * width size + width size ≤ point_total size
agent_fits size i lt =
    let row : (i + 1) * width size ≡ i * width size + 1 * width size = add-mul i 1 (width size) in
    let most : (i + 1) * width size ≤ size * width size = mul-le-mul_right (width size) (omega arith) in
    omega arith

pub point_total_small : (size : ℕ) → size ≤ 32 → point_total size ≤ 2048
point_total_small size le = mul-le size (width size) 32 64 le (omega arith)

pub gap_total_small : (size : ℕ) → size ≤ 32 → gap_total size ≤ 2016
gap_total_small size le = mul-le size (width size - 1) 32 63 le (omega arith)

-- the agent of a pair of neighbours
pub gap_agent : (size g : ℕ) → 1 ≤ size → g < gap_total size → g / (width size - 1) < size
gap_agent size g low lt =
    let some : 0 < width size - 1 = omega arith in
    (div-lt_iff_lt-mul {k = width size - 1} some).1 lt

-- the second of two neighbours is a point of the same agent
pub gap_fits : (size g : ℕ) → 1 ≤ size → g < gap_total size → gap_start size g + 1 < point_total size
gap_fits size g low lt =
    let fits = agent_fits size (g / (width size - 1)) (gap_agent size g low lt) in
    let some : 0 < width size - 1 = omega arith in
    let rest : g % (width size - 1) < width size - 1 = mod-lt g some in
    omega arith

pub range_with_len_more : (a n j : ℕ) → a + n ≡ j → range_with_len a (n + 1) ≡ range_with_len a n ++ j ∷ []
range_with_len_more a zero j e =
    let same : a ≡ j = omega arith in
    ap (λ (k : ℕ). k ∷ []) same
range_with_len_more a (suc n) j e =
    ap (range_with_len a) (add-one (suc n))
    ∙ ap (λ (ks : List ℕ). a ∷ ks) (ap (range_with_len (a + 1)) (sym (add-one n)) ∙ range_with_len_more (a + 1) n j (omega arith))

pub flat_map-range_with_len_more : {X : Type 0} (f : ℕ → List X) (n : ℕ) → flat_map f (range_with_len 0 (n + 1)) ≡ flat_map f (range_with_len 0 n) ++ f n
flat_map-range_with_len_more f n =
    ap (flat_map f) (range_with_len_more 0 n n (omega arith))
    ∙ flat_map-append f (range_with_len 0 n) (n ∷ [])
    ∙ ap (λ ys. flat_map f (range_with_len 0 n) ++ ys) (append-nil (f n))

pub length-pairs : {X : Type 0} (f : ℕ → List X) (a n : ℕ) → ((k : ℕ) → length (f k) ≡ 2) → length (flat_map f (range_with_len a n)) ≡ 2 * n
length-pairs f a zero two = refl
length-pairs f a (suc n) two =
    omega (arith, two a, length-pairs f (a + 1) n two, length-append (f a) (flat_map f (range_with_len (a + 1) n)))

pub agents_more : (first net new : Net) (n : ℕ) → net ≡ record first { agents = map agent_at (range_with_len 0 n) }
    → new ≡ record net { agents = net.agents ++ agent_at n ∷ [] } → new ≡ record first { agents = map agent_at (range_with_len 0 (n + 1)) }
agents_more first net new n e h =
    h ∙ ap (λ (m : Net). record m { agents = m.agents ++ agent_at n ∷ [] }) e
    ∙ ap (λ names. record first { agents = names }) (sym (map-range_with_len_more agent_at 0 n n (omega arith)))

pub places_more : (first net new : Net) (size n : ℕ) → net ≡ record first { places = map (place_at size) (range_with_len 0 n) }
    → new ≡ record net { places = net.places ++ place_at size n ∷ [] } → new ≡ record first { places = map (place_at size) (range_with_len 0 (n + 1)) }
places_more first net new size n e h =
    h ∙ ap (λ (m : Net). record m { places = m.places ++ place_at size n ∷ [] }) e
    ∙ ap (λ ps. record first { places = ps }) (sym (map-range_with_len_more (place_at size) 0 n n (omega arith)))

-- given arcs that grow by those of each number in turn; k is the number of the draws
pub given_more : (first net new : Net) (f : ℕ → ℕ → List Constraint) (k number n : ℕ) → k ≡ number
    → net ≡ record first { given = first.given ++ flat_map (f number) (range_with_len 0 n) } → new ≡ record net { given = net.given ++ f k n }
    → new ≡ record first { given = first.given ++ flat_map (f number) (range_with_len 0 (n + 1)) }
given_more first net new f k number n same e h =
    h ∙ ap (λ (j : ℕ). record net { given = net.given ++ f j n }) same
    ∙ ap (λ (m : Net). record m { given = m.given ++ f number n }) e
    ∙ ap (λ (given : List Constraint). record first { given = given })
    (append_assoc first.given (flat_map (f number) (range_with_len 0 n)) (f number n) ∙ ap (λ (given : List Constraint). first.given ++ given) (sym (flat_map-range_with_len_more (f number) n)))

pub length-given : (first net : Net) (f : ℕ → List Constraint) (n : ℕ) → ((k : ℕ) → length (f k) ≡ 2)
    → net ≡ record first { given = first.given ++ flat_map f (range_with_len 0 n) } → length net.given ≡ length first.given + 2 * n
length-given first net f n two e =
    ap (λ (m : Net). length m.given) e ∙ length-append first.given (flat_map f (range_with_len 0 n)) ∙ ap (λ (k : ℕ). length first.given + k) (length-pairs f 0 n two)

pub AreTimes-from_range : (number n : ℕ) (times : List ℕ) → times ≡ map (time_of number) (range_with_len 0 n) → AreTimes number times
AreTimes-from_range number n times e =
    let many : length times ≡ n = ap length e ∙ length-map-range_with_len (time_of number) 0 n in
    e ∙ ap (λ (k : ℕ). map (time_of number) (range_with_len 0 k)) (sym many)

pub times_more : (first state : DrawState) (n x : ℕ) (times new : List ℕ) → times ≡ map (time_of first.number) (range_with_len 0 n)
    → state ≡ record first { count = n } → x ≡ drawn state.number (state.count + 1) 900000 → new ≡ times ++ x ∷ []
    → new ≡ map (time_of first.number) (range_with_len 0 (n + 1))
times_more first state n x times new e at here h =
    let value : x ≡ time_of first.number n = here ∙ ap (λ (s : DrawState). drawn s.number (s.count + 1) 900000) at in
    h ∙ ap (λ (y : ℕ). times ++ y ∷ []) value
    ∙ ap (λ (ts : List ℕ). ts ++ time_of first.number n ∷ []) e
    ∙ sym (map-range_with_len_more (time_of first.number) 0 n n (omega arith))

-- one arc after the other
pub bound_laid : (old mid new : Net) (from to low high : ℕ) (apart up down : ℤ) → up ≡ apart +ℤ pos high → down ≡ neg_ℤ (apart -ℤ pos low)
    → mid ≡ record old { given = old.given ++ record { from = record { 0 = from + 1 }; to = record { 0 = to + 1 }; bound = up } ∷ [] }
    → new ≡ record mid { given = mid.given ++ record { from = record { 0 = to + 1 }; to = record { 0 = from + 1 }; bound = down } ∷ [] }
    → new ≡ record old { given = old.given ++ bound_arcs from to apart low high }
bound_laid old mid new from to low high apart up down eu ed e h =
    let there : ℤ → Constraint = λ b. record { from = record { 0 = from + 1 }; to = record { 0 = to + 1 }; bound = b } in
    let back : ℤ → Constraint = λ b. record { from = record { 0 = to + 1 }; to = record { 0 = from + 1 }; bound = b } in
    h ∙ ap (λ (m : Net). record m { given = m.given ++ back down ∷ [] }) e
    ∙ ap (λ (given : List Constraint). record old { given = given }) (append_assoc old.given (there up ∷ []) (back down ∷ []))
    ∙ ap (λ (b : ℤ). record old { given = old.given ++ there b ∷ back down ∷ [] }) eu
    ∙ ap (λ (b : ℤ). record old { given = old.given ++ there (apart +ℤ pos high) ∷ back b ∷ [] }) ed

-- a bound round the distance of two times that were drawn
pub bound_drawn : (old new : Net) (number count from to below low high : ℕ) (apart : ℤ) (times : List ℕ) → AreTimes number times → from < length times
    → to < length times → apart ≡ pos (get_or times to 0) -ℤ pos (get_or times from 0) → low ≡ drawn number (count + 1) below
    → high ≡ drawn number (count + 1 + 1) below → new ≡ record old { given = old.given ++ bound_arcs from to apart low high }
    → new ≡ record old { given = old.given ++ drawn_bound number from to (count + 1) below }
bound_drawn old new number count from to below low high apart times all lf lt ea el eh h =
    let start : get_or times from 0 ≡ time_of number from =
    ap (λ (ts : List ℕ). get_or ts from 0) all ∙ get_or-map-range_with_len (time_of number) 0 (length times) from from 0 lf (omega arith) in
    let end : get_or times to 0 ≡ time_of number to =
    ap (λ (ts : List ℕ). get_or ts to 0) all ∙ get_or-map-range_with_len (time_of number) 0 (length times) to to 0 lt (omega arith) in
    let distance : apart ≡ pos (time_of number to) -ℤ pos (time_of number from) =
    ea ∙ ap (λ (k : ℕ). pos k -ℤ pos (get_or times from 0)) end ∙ ap (λ (k : ℕ). pos (time_of number to) -ℤ pos k) start in
    let after : ℤ → ℕ → ℕ → Net = λ d l k. record old { given = old.given ++ bound_arcs from to d l k } in
    h ∙ ap (λ (d : ℤ). after d low high) distance
    ∙ ap (λ (l : ℕ). after (pos (time_of number to) -ℤ pos (time_of number from)) l high) el
    ∙ ap (λ (k : ℕ). after (pos (time_of number to) -ℤ pos (time_of number from)) (drawn number (count + 1) below) k) eh
