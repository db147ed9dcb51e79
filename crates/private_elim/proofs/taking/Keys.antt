-- The kept order of private points: the places of those that are not taken, with the keys that a picker gives them.
--   left_parts, first_left         a place whose point is left; the one that comes first
--   given_more, others_kept        places that are given keys one by one
--   first_picked                   the picker allows the point that comes first
--   none_left                      where none comes first all private points are taken
--   keys_after                     the keys once one point more is taken
use Rattle.std.proofs.Common.{zero, suc, ◌≡◌, ◌≢◌, ℕ, ◌+◌, ◌<◌, ◌≤◌, List, [], ◌∷◌, ◌++◌, Bool, true, false, ◌&&◌, ◌||◌, not, Option, Some, None, ap, sym, ◌∙◌}
use Rattle.std.proofs.Common.{refl, arith, subst, length, get_or, take, map, add-one, append-nil, inl, inr}
use Rattle.std.specs.Prelude.{◌==◌, if◌then◌else◌, filter, is_some}
use Rattle.std.specs.List.{AllByRecursion}
use Rattle.std.proofs.lemmas.Bool.{and_parts, not-true, false≢true, cases_lt, cases_eq, cases_order}
use Rattle.std.proofs.lemmas.Bool.Decides.{nat_tests}
use Rattle.std.proofs.lemmas.List.{take_more, take_all, map-append, length-map, get_or_past, get_or_append_left, get_or_push, length_push}
use Rattle.std.proofs.lemmas.List.Elements.{filter-append}
use Rattle.stn_walk.specs.Eliminations.{is_in}
use Rattle.stn_walk.proofs.Members.{is_in-first, is_in-rest, is_in-cases, is_in-next, AllByRecursion-append}
use Rattle.elim_step.specs.declared.pick.Candidate.{Candidate}
use Rattle.elim_step.specs.Eliminated.{point_at}
use Rattle.elim_step.specs.Picks.{candidate_at}
use Rattle.elim_step.specs.Rankings.{IsFirst}
use Rattle.elim_step.proofs.Firsts.{AreRanked, picks_first}
use Rattle.private_elim.specs.Keyed.{left_at, IsKeyed, AreKeyed}
use Rattle.stn_model.specs.Kinds.{is_shared}
use Rattle.private_elim.specs.Locals.{LocalView, IsLocal, points_of, is_private_in, is_point_of, private_at}
use Rattle.private_elim.specs.Met.{AreMet}
use Rattle.private_elim.specs.Picked.{IsDegree, IsPicked}
use Rattle.private_elim.proofs.locals.LocalFacts.{rises, place_of_point_at}
use Rattle.private_elim.proofs.locals.Places.{place_found}
use Rattle.private_elim.proofs.taking.Choices.{private_placed}
use Rattle.private_elim.proofs.taking.DegreeFacts.{degree_stays}
use Rattle.private_elim.proofs.taking.Takes.{local_ground, private_at_is}

-- whether a point is private and not taken
abbrev is_left : LocalView → List ℕ → ℕ → Bool
is_left v taken p = is_private_in v p && not (is_in taken p)

-- some candidate has this number
abbrev IsNumbered : List Candidate → ℕ → Type 0
IsNumbered cs p = (r : ℕ) × (r < length cs) × ((candidate_at cs r).number ≡ p)

-- only places of points are private
private_within : (v : LocalView) → IsLocal v → (k : ℕ) → private_at v k ≡ true → k < length v.points
private_within v h k private =
    let many : length v.shared ≡ length v.points = ap length h.shared ∙ length-map (points_of h.net v.agent) (is_shared h.net) ∙ ap length (sym h.points) in
    elim (cases_lt k (length v.points)) [
      | inl low ↦ low
      | inr past ↦
          let beyond = get_or_past v.shared k true (omega (arith, many, past)) in
          absurd (false≢true (sym (ap (λ b. not (k == 0) && not b) beyond ∙ never (not (k == 0))) ∙ private))
    ] where
      never : (b : Bool) → (b && false) ≡ false
      never true = refl
      never false = refl

-- one place more of a list is given its key
module _ (P : ℕ → Option ℕ → Type 0) (xs : List ℕ) (n : ℕ) (lt : n < length xs) (keys after : ℕ → Option ℕ) (key : Option ℕ)
    (given : P (get_or xs n 0) key) (changed : (p : ℕ) → after p ≡ (if p == get_or xs n 0 then key else keys p)) where
  pub given_more : ((p : ℕ) → is_in (take n xs) p ≡ true → P p (keys p)) → (p : ℕ) → is_in (take (n + 1) xs) p ≡ true → P p (after p)
  given_more was p here =
      elim (cases_eq p (get_or xs n 0)) [
        | inl same ↦
            let is : after p ≡ key = changed p ∙ (let e : (p == get_or xs n 0) ≡ true = grind (arith, nat_tests) in ap (λ b. if b then key else keys p) e) in
            subst (P p) (sym is) (subst (λ q. P q key) (sym same) given)
        | inr apart ↦
            let is : after p ≡ keys p =
            changed p ∙ (let e : (p == get_or xs n 0) ≡ false = grind (arith, nat_tests) in ap (λ b. if b then key else keys p) e) in
            subst (P p) (sym is) (is_in-cases {P = P p (keys p)} p xs n lt here (was p) (λ e. absurd (apart e)))
      ]

  pub others_kept : (old : ℕ → Option ℕ) → ((p : ℕ) → is_in (take n xs) p ≡ false → keys p ≡ old p) → (p : ℕ) → is_in (take (n + 1) xs) p ≡ false
      → after p ≡ old p
  others_kept old was p away =
      let b = neither (is_in (take n xs) p) (p == get_or xs n 0) (is_in-next xs n p lt ∙ away) in
      changed p ∙ ap (λ t. if t then key else keys p) b.1 ∙ was p b.0 where
        neither : (a b : Bool) → (a || b) ≡ false → (a ≡ false) × (b ≡ false)
        neither true b e = absurd (false≢true (sym e))
        neither false b e = (refl, e)

-- a place and its point
left_point : (v : LocalView) → IsLocal v → (taken : List ℕ) (k : ℕ) → k < length v.points → left_at v taken k ≡ is_left v taken (point_at v.points k)
left_point v h taken k lk = ap (λ b. b && not (is_in taken (point_at v.points k))) (sym (private_at_is v h k lk))

-- a place whose point is left
pub left_parts : (v : LocalView) → IsLocal v → (taken : List ℕ) (k : ℕ) → left_at v taken k ≡ true
    → (k < length v.points) × (is_private_in v (point_at v.points k) ≡ true) × (is_in taken (point_at v.points k) ≡ false)
left_parts v h taken k left =
    let b = and_parts (private_at v k) (not (is_in taken (point_at v.points k))) left in
    let within = private_within v h k b.0 in
    (within, private_at_is v h k within ∙ b.0, not-true (is_in taken (point_at v.points k)) b.1)

module _ (answers : ℕ → ℕ → ℕ → Type 0) (v : LocalView) (h : IsLocal v) (taken : List ℕ) (keys : ℕ → Option ℕ) (keyed : AreKeyed answers v taken keys) where
  -- a candidate that stands at a place with a key
  record RankedAs (c : Candidate) (place key : ℕ) : Type 0 where
    within : place < length v.points
    is : c.number ≡ point_at v.points place
    here : keys place ≡ Some key
    answer : answers c.degree c.number key
    degree : IsDegree v taken c.number c.degree

  abbrev IsRanked : Candidate → Type 0
  IsRanked c = (place : ℕ) × (key : ℕ) × RankedAs c place key

  -- the candidates at the places below n
  record IsListed (n : ℕ) : Type 0 where
    candidates : List Candidate
    numbers : map (λ (c : Candidate). c.number) candidates ≡ filter (is_left v taken) (take n v.points)
    ranked : AllByRecursion IsRanked candidates
    whole : (k : ℕ) → k < n → left_at v taken k ≡ true → IsNumbered candidates (point_at v.points k)

  filter_more : (n : ℕ) → n < length v.points → (b : Bool) → is_left v taken (point_at v.points n) ≡ b
      → filter (is_left v taken) (take (suc n) v.points) ≡ filter (is_left v taken) (take n v.points) ++ (if b then point_at v.points n ∷ [] else [])
  filter_more n lt b is =
      ap (λ m. filter (is_left v taken) (take m v.points)) (sym (add-one n)) ∙ ap (filter (is_left v taken)) (take_more v.points n 0 lt)
      ∙ filter-append (is_left v taken) (take n v.points) (point_at v.points n ∷ [])
      ∙ ap (λ t. filter (is_left v taken) (take n v.points) ++ (if t then point_at v.points n ∷ [] else [])) is

  numbered_more : (cs : List Candidate) (c : Candidate) (p : ℕ) → IsNumbered cs p → IsNumbered (cs ++ c ∷ []) p
  numbered_more cs c p m = (
    m.0,
    (let low = m.1 in let more = length_push cs c in omega (arith, low, more)),
    ap (λ (c : Candidate). c.number) (get_or_append_left cs (c ∷ []) (record { degree = 0; number = 0 }) m.0 m.1) ∙ m.2,
  )

  numbered_last : (cs : List Candidate) (c : Candidate) → IsNumbered (cs ++ c ∷ []) c.number
  numbered_last cs c = (
    length cs,
    (let more = length_push cs c in omega (arith, more)),
    ap (λ (c : Candidate). c.number) (get_or_push cs c (record { degree = 0; number = 0 }) (length cs) refl),
  )

  listed : (n : ℕ) → n ≤ length v.points → IsListed n
  listed zero le = record { candidates = []; numbers = refl; ranked = tt; whole = λ k low left. absurd (omega arith) }
  listed (suc n) le = by (listed n (omega arith)) (keys n) refl (keyed n) where
    by : IsListed n → (o : Option ℕ) → keys n ≡ o → IsKeyed answers v taken n o → IsListed (suc n)
    by before None e off = record {
      candidates = before.candidates;
      numbers = before.numbers ∙ sym (append-nil (filter (is_left v taken) (take n v.points)))
          ∙ sym (filter_more n (omega arith) false (sym (left_point v h taken n (omega arith)) ∙ off));
      ranked = before.ranked;
      whole = λ k low left. elim (cases_eq k n) [
        | inl same ↦ absurd (false≢true (sym off ∙ ap (left_at v taken) (sym same) ∙ left))
        | inr apart ↦ before.whole k (omega (arith, low, apart)) left
      ];
    }
    by before (Some key) e has =
        let c : Candidate = record { degree = has.1.degree; number = point_at v.points n } in
        record {
          candidates = before.candidates ++ c ∷ [];
          numbers = map-append (λ (c : Candidate). c.number) before.candidates (c ∷ []) ∙ ap (λ ns. ns ++ point_at v.points n ∷ []) before.numbers
              ∙ sym (filter_more n (omega arith) true (sym (left_point v h taken n (omega arith)) ∙ has.0));
          ranked = AllByRecursion-append IsRanked before.candidates (c ∷ []) before.ranked (
            (
              n,
              key,
              record { within = omega arith; is = refl; here = e; answer = has.1.answer; degree = has.1.is_degree },
            ),
            tt,
          );
          whole = λ k low left. elim (cases_eq k n) [
            | inl same ↦ subst (λ p. IsNumbered (before.candidates ++ c ∷ []) p) (ap (point_at v.points) (sym same)) (numbered_last before.candidates c)
            | inr apart ↦ numbered_more before.candidates c (point_at v.points k) (before.whole k (omega (arith, low, apart)) left)
          ];
        }

  -- the places and keys of candidates
  places_in : (cs : List Candidate) → AllByRecursion IsRanked cs → ℕ → ℕ
  places_in [] all q = 0
  places_in (c ∷ cs) all zero = all.0.0
  places_in (c ∷ cs) all (suc q) = places_in cs all.1 q

  keys_in : (cs : List Candidate) → AllByRecursion IsRanked cs → ℕ → ℕ
  keys_in [] all q = 0
  keys_in (c ∷ cs) all zero = all.0.1
  keys_in (c ∷ cs) all (suc q) = keys_in cs all.1 q

  ranked_at : (cs : List Candidate) (all : AllByRecursion IsRanked cs) (q : ℕ) → q < length cs
      → RankedAs (candidate_at cs q) (places_in cs all q) (keys_in cs all q)
  unfolding places_in keys_in
  ranked_at [] all q low = absurd (omega arith)
  ranked_at (c ∷ cs) all zero low = all.0.2
  ranked_at (c ∷ cs) all (suc q) low = ranked_at cs all.1 q (omega arith)

  degrees_in : (cs : List Candidate) → AllByRecursion IsRanked cs → AllByRecursion (λ (c : Candidate). IsDegree v taken c.number c.degree) cs
  degrees_in [] all = tt
  degrees_in (c ∷ cs) all = (all.0.2.degree, degrees_in cs all.1)

  are_ranked : (cs : List Candidate) (all : AllByRecursion IsRanked cs) → AreRanked answers cs (places_in cs all) keys
  are_ranked cs all = record {
    key = keys_in cs all;
    here = λ q low. (ranked_at cs all q low).here;
    answer = λ q low. (ranked_at cs all q low).answer;
    order = λ q r lq lr less. rising (places_in cs all q) (places_in cs all r) (ranked_at cs all q lq).within (ranked_at cs all r lr).within
        (subst (λ m. m < point_at v.points (places_in cs all r)) (ranked_at cs all q lq).is
        (subst (λ m. (candidate_at cs q).number < m) (ranked_at cs all r lr).is less));
  } where
    rising : (i j : ℕ) → i < length v.points → j < length v.points → point_at v.points i < point_at v.points j → i < j
    rising i j li lj less = elim (cases_order i j) [
      | inl same ↦ absurd (let e = ap (point_at v.points) same in omega (arith, e, less))
      | inr rest ↦ elim rest [ inl before ↦ before | inr after ↦ absurd (let r = rises v h j i after li in omega (arith, r, less)) ]
    ]

  -- what has a key is left
  key_left : (k a : ℕ) → keys k ≡ Some a → left_at v taken k ≡ true
  key_left k a is = (subst (IsKeyed answers v taken k) is (keyed k)).0

  pub first_left : (place : ℕ) → IsFirst keys (Some place) → left_at v taken place ≡ true
  first_left place first = key_left place first.0 first.1

  -- the point that comes first is one that the picker allows
  pub first_picked : (place : ℕ) → IsFirst keys (Some place) → IsPicked answers v taken (point_at v.points place)
  first_picked place first =
      let left = first_left place first in
      let within = private_within v h place (and_parts (private_at v place) (not (is_in taken (point_at v.points place))) left).0 in
      let all = listed (length v.points) (omega arith) in
      let cs = all.candidates in
      let r = all.whole place within left in
      let at = ranked_at cs all.ranked r.0 r.1 in
      let same : places_in cs all.ranked r.0 ≡ place =
      (local_ground v h).apart (places_in cs all.ranked r.0) place at.within within (sym at.is ∙ r.2) in
      record {
        candidates = cs;
        are = record {
          numbers = all.numbers ∙ ap (filter (is_left v taken)) (take_all (length v.points) v.points (omega arith));
          degrees = degrees_in cs all.ranked;
        };
        place = r.0;
        picks = picks_first answers cs (places_in cs all.ranked) keys r.0 (are_ranked cs all.ranked) r.1
            (subst (λ q. IsFirst keys (Some q)) (sym same) first);
        is = r.2;
      }

  -- where none comes first no private point is left
  pub none_left : IsFirst keys None → (p : ℕ) → is_private_in v p ≡ true → is_in taken p ≡ true
  none_left none p private =
      let placed = private_placed v p private in
      let found = place_found v.points p placed.0 placed.1 in
      let off : left_at v taken placed.0 ≡ false = subst (IsKeyed answers v taken placed.0) (none placed.0) (keyed placed.0) in
      let gone : (is_private_in v p && not (is_in taken p)) ≡ false =
      ap (is_left v taken) (sym found.1) ∙ sym (left_point v h taken placed.0 found.0) ∙ off in
      by (is_in taken p) (ap (λ b. b && not (is_in taken p)) (sym private) ∙ gone) where
        by : (b : Bool) → (true && not b) ≡ false → b ≡ true
        by true e = refl
        by false e = absurd (false≢true (sym e))

  -- the keys once one point more is taken: it has none, its neighbours are given theirs anew, and the others keep them
  module _ (place : ℕ) (met : List ℕ) (within : place < length v.points) (are : AreMet v taken place met) (after : ℕ → Option ℕ)
      (anew : (p : ℕ) → is_in met p ≡ true → IsKeyed answers v (point_at v.points place ∷ taken) p (after p))
      (kept : (p : ℕ) → is_in met p ≡ false → after p ≡ (if p == place then None else keys p)) where
    still_off : (p : ℕ) → left_at v taken p ≡ false → left_at v (point_at v.points place ∷ taken) p ≡ false
    still_off p = by (private_at v p) (is_in taken (point_at v.points p)) (point_at v.points p == point_at v.points place) where
      by : (a b c : Bool) → (a && not b) ≡ false → (a && not (b || c)) ≡ false
      by true true c e = refl
      by true false c e = absurd (false≢true (sym e))
      by false b c e = refl

    still_keyed : (p : ℕ) → is_in met p ≡ false → p ≢ place → (o : Option ℕ) → IsKeyed answers v taken p o
        → IsKeyed answers v (point_at v.points place ∷ taken) p o
    still_keyed p away apart None off = still_off p off
    still_keyed p away apart (Some key) has =
        let y = point_at v.points p in
        let b = and_parts (private_at v p) (not (is_in taken y)) has.0 in
        let lp = private_within v h p b.0 in
        let out : is_in taken y ≡ false = not-true (is_in taken y) b.1 in
        let differ : y ≢ point_at v.points place = λ e. apart ((local_ground v h).apart p place lp within e) in
        let known : is_point_of v y ≡ true = ap is_some (place_of_point_at v h p lp) in (
          (λ t. b.0 t && not ((is_in-rest (point_at v.points place) taken y differ ∙ out) t)),
          record {
            degree = has.1.degree;
            is_degree = degree_stays v taken (point_at v.points place) y known out differ
                (λ n. false≢true (sym away ∙ (are.each p lp).1 n)) has.1.degree has.1.is_degree;
            answer = has.1.answer;
          },
        )

    pub keys_after : AreKeyed answers v (point_at v.points place ∷ taken) after
    keys_after p =
        elim (is_in met p) as (λ b. is_in met p ≡ b → IsKeyed answers v (point_at v.points place ∷ taken) p (after p)) [
          | true ↦ λ t. anew p t
          | false ↦ λ t. elim (cases_eq p place) [
            | inl same ↦
                let none : after p ≡ None = kept p t ∙ (let e : (p == place) ≡ true = grind (arith, nat_tests) in ap (λ b. if b then None else keys p) e) in
                let gone : is_in (point_at v.points place ∷ taken) (point_at v.points p) ≡ true =
                ap (λ q. is_in (point_at v.points place ∷ taken) (point_at v.points q)) same ∙ is_in-first (point_at v.points place) taken in
                subst (IsKeyed answers v (point_at v.points place ∷ taken) p) (sym none)
                (ap (λ b. private_at v p && not b) gone ∙ never (private_at v p))
            | inr apart ↦
                let is : after p ≡ keys p = kept p t ∙ (let e : (p == place) ≡ false = grind (arith, nat_tests) in ap (λ b. if b then None else keys p) e) in
                subst (IsKeyed answers v (point_at v.points place ∷ taken) p) (sym is) (still_keyed p t apart (keys p) (keyed p))
          ]
        ] refl where
          never : (b : Bool) → (b && false) ≡ false
          never true = refl
          never false = refl
