-- Jobs by the words of the command line: job_of, and what its numbers are.
use Rattle.std.specs.Prelude.{ℕ, ◌≤◌, ℤ, Bool, pos, List, [], ◌∷◌, ◌==◌, ◌&&◌, ◌||◌, length, nat_eq, nat_lt, int_le, slice_index}
use Rattle.std.specs.Prelude.{unsigned_abs, Option, Some, None, codes, if◌then◌else◌}
use Rattle.std.specs.Str.{bytes_eq}
use Rattle.net_text.specs.Numbers.{number_of}
use Rattle.mastn.specs.declared.words.Job.{Job}
use Rattle.mastn.specs.declared.words.Job.TheVariants.{Check, Certify, Verify, Upgrade, Repair, CheckJson, Json, Solve, Gen}
use Rattle.mastn.specs.declared.words.Pick.{Pick}
use Rattle.mastn.specs.declared.words.Pick.TheVariants.{Degree, Number}
use Rattle.mastn.specs.Limits.{greatest_number, greatest_size}

-- the number of a word of 1 to 10 digits
abbrev pub digits_of : List ℕ → Option ℤ
digits_of word = if nat_lt 10 (length word) || nat_eq (length word) 0 || (slice_index word 0 == 45) then None else number_of word

-- a generated network's number and size are within their limits
abbrev pub are_within : ℤ → ℤ → Bool
are_within number size = int_le (pos 0) number && int_le number (pos greatest_number) && int_le (pos 1) size && int_le size (pos greatest_size)

abbrev pub gen_within : ℤ → ℤ → Option Job
gen_within number size = if are_within number size then Some (Gen (unsigned_abs number) (unsigned_abs size)) else None

abbrev pub gen_of : Option ℤ → Option ℤ → Option Job
gen_of None size = None
gen_of (Some number) None = None
gen_of (Some number) (Some size) = gen_within number size

-- a pick by its name
abbrev pub pick_of : List ℕ → Option Pick
pick_of name =
    if bytes_eq name (codes "degree") then Some Degree
    else (if bytes_eq name (codes "number") then Some Number
    else None)

abbrev pub solve_of : Option Pick → Option Job
solve_of None = None
solve_of (Some pick) = Some (Solve pick)

-- the numbers of a job are in range
abbrev pub IsWithinLimits : Job → Type 0
IsWithinLimits Check = Unit {0}
IsWithinLimits Certify = Unit {0}
IsWithinLimits Verify = Unit {0}
IsWithinLimits Upgrade = Unit {0}
IsWithinLimits Repair = Unit {0}
IsWithinLimits CheckJson = Unit {0}
IsWithinLimits Json = Unit {0}
IsWithinLimits (Solve pick) = Unit {0}
IsWithinLimits (Gen number size) = (number ≤ greatest_number) × (1 ≤ size) × (size ≤ greatest_size)

-- a lone word
abbrev pub lone_job : List ℕ → Option Job
lone_job word =
    if bytes_eq word (codes "check") then Some Check
    else (if bytes_eq word (codes "certify") then Some Certify
    else (if bytes_eq word (codes "verify") then Some Verify
    else (if bytes_eq word (codes "upgrade") then Some Upgrade
    else (if bytes_eq word (codes "repair") then Some Repair
    else (if bytes_eq word (codes "json") then Some Json
    else (if bytes_eq word (codes "solve") then Some (Solve Degree)
    else None))))))

-- a word with the form of its input
abbrev pub formed_job : List ℕ → List ℕ → Option Job
formed_job word form = if bytes_eq word (codes "check") && bytes_eq form (codes "--json") then Some CheckJson else None

-- a word with two more: `gen` with a number and a size, `solve` with its option
abbrev pub valued_job : List ℕ → List ℕ → List ℕ → Option Job
valued_job word first second =
    if bytes_eq word (codes "gen") then gen_of (digits_of first) (digits_of second)
    else (if bytes_eq word (codes "solve") && bytes_eq first (codes "--pick") then solve_of (pick_of second)
    else None)

-- the table of words: none, or `check`; `certify`; `verify`; `upgrade`; `repair`; `check --json`; `json`; `solve`, by degree; `solve --pick degree`;
-- `solve --pick number`; `gen NUMBER SIZE`
abbrev pub job_of : List (List ℕ) → Option Job
job_of [] = Some Check
job_of (word ∷ []) = lone_job word
job_of (word ∷ form ∷ []) = formed_job word form
job_of (word ∷ first ∷ second ∷ []) = valued_job word first second
job_of (word ∷ first ∷ second ∷ next ∷ more) = None
