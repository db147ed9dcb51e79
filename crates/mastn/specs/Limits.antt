-- The limits of the program's jobs, each stated once: longest_input, most_certified, greatest_number, greatest_size.
use Rattle.std.specs.Prelude.{ℕ}

-- the most bytes of an input
abbrev pub longest_input : ℕ
longest_input = 16777216

-- the most points, with z, of a network that has a certificate
abbrev pub most_certified : ℕ
most_certified = 256

-- the greatest number of a generated network
abbrev pub greatest_number : ℕ
greatest_number = 2147483645

-- the greatest size of a generated network
abbrev pub greatest_size : ℕ
greatest_size = 32
