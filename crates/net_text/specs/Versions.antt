-- The versions of network texts: version_of, version_word, act_in, known_in, word_in, most_points_1, is_full_in, or_full,
-- point_refusal_in, least_version.
use Rattle.std.specs.Prelude.{ℕ, Bool, false, List, Option, Some, None, codes, length, nat_le, nat_eq, ◌&&◌, if◌then◌else◌}
use Rattle.std.specs.Str.{bytes_eq}
use Rattle.stn_model.specs.declared.error.NetError.{NetError}
use Rattle.stn_model.specs.declared.error.NetError.TheVariants.{TooManyPoints}
use Rattle.stn_model.specs.Net.{Net, point_count}
use Rattle.stn_model.specs.Refusals.{point_refusal}
use Rattle.net_text.specs.declared.version.Version.{Version}
use Rattle.net_text.specs.declared.version.Version.TheVariants.{One, Two}
use Rattle.net_text.specs.declared.words.Word.{Word}
use Rattle.net_text.specs.declared.words.Word.TheVariants as word
use Rattle.net_text.specs.Words.{word_of}

-- the version that a header's second field names
abbrev pub version_of : List ℕ → Option Version
version_of field =
    if bytes_eq field (codes "1") then Some One
    else (if bytes_eq field (codes "2") then Some Two
    else None)

-- the second field of a version's header
abbrev pub version_word : Version → List ℕ
version_word One = codes "1"
version_word Two = codes "2"

-- the words of a version: version 1 has no acts
abbrev pub act_in : Version → Option Word
act_in One = None
act_in Two = Some word.Act

abbrev pub known_in : Version → Option Word → Option Word
known_in v None = None
known_in v (Some word.Act) = act_in v
known_in v (Some w) = Some w

-- the word of a line after the header, in a text of that version
abbrev pub word_in : Version → List ℕ → Option Word
word_in v field = known_in v (word_of field)

-- the most points of a text of version 1, with z
abbrev pub most_points_1 : ℕ
most_points_1 = 4096

-- the network has as many points as a text of that version may have, where that is fewer than a network may have
abbrev pub is_full_in : Version → Net → Bool
is_full_in One net = nat_le most_points_1 (point_count net)
is_full_in Two net = false

-- a network's refusal, or the version's own, which stands last
abbrev pub or_full : Option NetError → Bool → Option NetError
or_full (Some e) full = Some e
or_full None full = if full then Some TooManyPoints else None

-- why a point is refused in a text of that version
abbrev pub point_refusal_in : Version → Net → List ℕ → Option NetError
point_refusal_in v net name = or_full (point_refusal net name) (is_full_in v net)

-- the least version that a network can be written in: version 1 exactly where it has no act and at most 4,096 points
abbrev pub least_version : Net → Version
least_version net = if nat_eq (length net.acts) 0 && nat_le (point_count net) most_points_1 then One else Two
