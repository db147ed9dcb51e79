-- Five fields tell as much of a line as all of them.
use Rattle.std.proofs.Common.{◌≡◌, ℕ, Bool, true, false, List, [], ◌∷◌, take, refl, ap, ◌∙◌, Option, Some, None}
use Rattle.stn_model.specs.Net.{Net}
use Rattle.net_text.specs.Fields.{fields}
use Rattle.net_text.specs.Lines.{is_skipped, is_text}
use Rattle.script_text.specs.declared.words.Word.{Word}
use Rattle.script_text.specs.declared.words.Word.TheVariants as word
use Rattle.script_text.specs.Words.{word_of}
use Rattle.script_text.specs.Lines.{line_outside, line_inside, line_by_word, line_of, line_in}

outside_more : (net : Net) (w : Word) (a b c d : List ℕ) (more : List (List ℕ))
    → line_outside net w (a ∷ b ∷ c ∷ d ∷ []) ≡ line_outside net w (a ∷ b ∷ c ∷ d ∷ more)
outside_more net word.Bounds a b c d more = refl
outside_more net word.Windows a b c d more = refl
outside_more net word.Prove a b c d more = refl
outside_more net word.Tighten a b c d more = refl
outside_more net word.Batch a b c d more = refl
outside_more net word.Arc a b c d more = refl
outside_more net word.Close a b c d more = refl
outside_more net word.Withdraw a b c d more = refl
outside_more net word.Decouple a b c d more = refl
outside_more net word.Choose a b c d more = refl
outside_more net word.Execute a b c d more = refl
outside_more net word.Advance a b c d more = refl
outside_more net word.Do a b c d more = refl
outside_more net word.Schedule a b c d more = refl
outside_more net word.Done a b c d more = refl

inside_more : (net : Net) (w : Word) (a b c d : List ℕ) (more : List (List ℕ))
    → line_inside net w (a ∷ b ∷ c ∷ d ∷ []) ≡ line_inside net w (a ∷ b ∷ c ∷ d ∷ more)
inside_more net word.Bounds a b c d more = refl
inside_more net word.Windows a b c d more = refl
inside_more net word.Prove a b c d more = refl
inside_more net word.Tighten a b c d more = refl
inside_more net word.Batch a b c d more = refl
inside_more net word.Arc a b c d more = refl
inside_more net word.Close a b c d more = refl
inside_more net word.Withdraw a b c d more = refl
inside_more net word.Decouple a b c d more = refl
inside_more net word.Choose a b c d more = refl
inside_more net word.Execute a b c d more = refl
inside_more net word.Advance a b c d more = refl
inside_more net word.Do a b c d more = refl
inside_more net word.Schedule a b c d more = refl
inside_more net word.Done a b c d more = refl

by_word_more : (net : Net) (inside : Bool) (w : Option Word) (a b c d : List ℕ) (more : List (List ℕ))
    → line_by_word net inside w (a ∷ b ∷ c ∷ d ∷ []) ≡ line_by_word net inside w (a ∷ b ∷ c ∷ d ∷ more)
by_word_more net false None a b c d more = refl
by_word_more net true None a b c d more = refl
by_word_more net false (Some w) a b c d more = outside_more net w a b c d more
by_word_more net true (Some w) a b c d more = inside_more net w a b c d more

pub line_of-take : (net : Net) (inside : Bool) (fs : List (List ℕ)) → line_of net inside (take 5 fs) ≡ line_of net inside fs
line_of-take net inside [] = refl
line_of-take net inside (f ∷ []) = refl
line_of-take net inside (f ∷ a ∷ []) = refl
line_of-take net inside (f ∷ a ∷ b ∷ []) = refl
line_of-take net inside (f ∷ a ∷ b ∷ c ∷ []) = refl
line_of-take net inside (f ∷ a ∷ b ∷ c ∷ d ∷ more) = by_word_more net inside (word_of f) a b c d more

pub line_in_taken : (net : Net) (inside : Bool) (text : List ℕ) (fs : List (List ℕ)) → is_skipped text ≡ false → is_text text ≡ true
    → fs ≡ take 5 (fields text) → line_of net inside fs ≡ line_in net inside text
line_in_taken net inside text fs plain printable few =
    rw (plain, printable) (ap (line_of net inside) few ∙ line_of-take net inside (fields text))
